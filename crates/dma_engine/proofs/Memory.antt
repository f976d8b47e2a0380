-- What the memory is after each kind of change.
use Rattle.std.proofs.Common.{◌≡◌, ◌≢◌, ℕ, ◌+◌, ◌<◌, List, ◌∷◌, ◌++◌, length, map, take, drop, Some, None, false, refl, ap, sym, ◌∙◌, arith, Option}
use Rattle.std.specs.{Prelude.find, Prelude.slice_index, List.All, List.zip, List.range_with_len, Option.option_to_list}
use Rattle.std.proofs.{lemmas.List.map-append, lemmas.List.Elements.All-map, lemmas.List.Elements.All-weaker}
use Rattle.dma_mem.specs.{Image.put, Image.bytes_at, Image.laid, Image.over, Rules.IsTransfer, declared.segment.Segment.Segment, Meeting.IsFree, Places.touches}
use Rattle.dma_mem.specs.{Places.writes, Places.sources, Places.destinations, Places.Descriptor}
use Rattle.dma_mem.proofs.SharedPlaces.{Touches, Writes, touches_false, writes_false}
use Rattle.dma_mem.proofs.OverTransfers.{over_started, over_ended, over_store, over_written, over_read}
use Rattle.dma_engine.specs.{Object.Object, View.RunningTransfer, View.ChannelSchedule, View.runs, View.running, View.with_stored, View.memory_shown}
use Rattle.dma_chan.specs.Traffic.{stored_after}
use Rattle.dma_engine.proofs.WhatRuns.{All_find, above, above_same, below, below_same, running_split}

pub shown_both : (o p : Object) (s t : List ChannelSchedule) → o.image ≡ p.image → running o s ≡ running p t → memory_shown o s ≡ memory_shown p t
shown_both o p s t image runs_same = ap (λ l. over o.image (map with_stored l)) runs_same ∙ ap (λ m. over m (map with_stored (running p t))) image

-- the running transfers depend on the channels, so a change of only the image keeps them
pub running_image : (o : Object) (schedule : List ChannelSchedule) (image : List ℕ) → running (record o { image = image }) schedule ≡ running o schedule
unfolding running
running_image o schedule image = refl

-- a write that no running transfer touches
pub shown_wrote : (o : Object) (schedule : List ChannelSchedule) (addr : ℕ) (bytes : List ℕ)
    → find (λ r. touches r.transfer (record { addr = addr; len = length bytes })) (running o schedule) ≡ None
    → memory_shown (record o { image = put o.image (bytes_at addr bytes) }) schedule ≡ put (memory_shown o schedule) (bytes_at addr bytes)
shown_wrote o schedule addr bytes h =
    let n = length bytes in
    let range : Segment = record { addr = addr; len = n } in
    let test = λ (r : RunningTransfer). touches r.transfer range in
    let none : All (λ r. ¬ Touches r.transfer (range_with_len addr n)) (running o schedule) =
    All-weaker (λ r. test r ≡ false) (λ r. ¬ Touches r.transfer (range_with_len addr n)) (λ r. touches_false r.transfer range) (running o schedule)
    (All_find test (running o schedule) h) in
    ap (λ l. over (put o.image (bytes_at addr bytes)) (map with_stored l)) (running_image o schedule _)
    ∙ over_written o.image (map with_stored (running o schedule)) addr bytes
    (All-map (λ p. ¬ Touches p.0 (range_with_len addr n)) with_stored (running o schedule) none)

-- a read of a range that no running transfer writes
pub shown_read : (o : Object) (schedule : List ChannelSchedule) (addr n : ℕ)
    → find (λ r. writes r.transfer (record { addr = addr; len = n })) (running o schedule) ≡ None
    → take n (drop addr (memory_shown o schedule)) ≡ take n (drop addr o.image)
shown_read o schedule addr n h =
    let range : Segment = record { addr = addr; len = n } in
    let test = λ (r : RunningTransfer). writes r.transfer range in
    let none : All (λ r. ¬ Writes r.transfer (range_with_len addr n)) (running o schedule) =
    All-weaker (λ r. test r ≡ false) (λ r. ¬ Writes r.transfer (range_with_len addr n)) (λ r. writes_false r.transfer range) (running o schedule)
    (All_find test (running o schedule) h) in
    over_read o.image (map with_stored (running o schedule)) addr n (All-map (λ p. ¬ Writes p.0 (range_with_len addr n)) with_stored (running o schedule) none)

-- ---- a change of one channel

-- two pairs of an object and a schedule differ at most in what runs on that channel
pub record DiffersAt (ch : ℕ) (o p : Object) (s t : List ChannelSchedule) : Type 0 where
  pub channels : length o.channels ≡ length p.channels
  pub there : ch < length o.channels
  pub others : (c : ℕ) → c ≢ ch → runs o s c ≡ runs p t c

-- all that runs, with this in place of what runs on one channel
abbrev around : Object → List ChannelSchedule → ℕ → Option RunningTransfer → List (Descriptor × ℕ)
around o s ch x = map with_stored (below o s ch) ++ (map with_stored (option_to_list x) ++ map with_stored (above o s ch))

parts_split : (o : Object) (s : List ChannelSchedule) (ch : ℕ) → ch < length o.channels → map with_stored (running o s) ≡ around o s ch (runs o s ch)
parts_split o s ch h =
    ap (map with_stored) (running_split o s ch h) ∙ map-append with_stored (below o s ch) (option_to_list (runs o s ch) ++ above o s ch)
    ∙ ap (λ l. map with_stored (below o s ch) ++ l) (map-append with_stored (option_to_list (runs o s ch)) (above o s ch))

module _ (ch : ℕ) (o p : Object) (s t : List ChannelSchedule) (d : DiffersAt ch o p s t) where
  abbrev b : List (Descriptor × ℕ)
  b = map with_stored (below o s ch)

  abbrev a : List (Descriptor × ℕ)
  a = map with_stored (above o s ch)

  -- the memory before, and after, by what runs on the channel
  before : (x : Option RunningTransfer) → runs o s ch ≡ x → memory_shown o s ≡ over o.image (around o s ch x)
  before x is = ap (over o.image) (parts_split o s ch d.there ∙ ap (around o s ch) is)

  after : (x : Option RunningTransfer) → runs p t ch ≡ x → memory_shown p t ≡ over p.image (around o s ch x)
  after x is =
      let there : ch < length p.channels = omega (arith, d.there, d.channels) in
      ap (over p.image) (parts_split p t ch there
      ∙ ap (λ l. map with_stored l ++ (map with_stored (option_to_list (runs p t ch)) ++ map with_stored (above p t ch))) (sym (below_same o p s t ch d.others))
      ∙ ap (λ l. b ++ (map with_stored (option_to_list (runs p t ch)) ++ map with_stored l)) (sym (above_same o p s t ch d.channels d.others))
      ∙ ap (around o s ch) is)

  -- a transfer that goes on, and has stored the same
  pub shown_beside : (r q : RunningTransfer) → p.image ≡ o.image → runs o s ch ≡ Some r → runs p t ch ≡ Some q → with_stored r ≡ with_stored q
      → memory_shown o s ≡ memory_shown p t
  shown_beside r q image was now same =
      before (Some r) was ∙ ap (λ x. over o.image (b ++ x ∷ a)) same ∙ ap (λ m. over m (around o s ch (Some q))) (sym image) ∙ sym (after (Some q) now)

  -- a transfer that starts has stored nothing
  pub shown_started : (r : RunningTransfer) → o.image ≡ p.image → runs o s ch ≡ None → runs p t ch ≡ Some r → stored_after r.transfer r.taken ≡ 0
      → memory_shown p t ≡ memory_shown o s
  shown_started r image was now nothing =
      after (Some r) now ∙ ap (λ m. over m (around o s ch (Some r))) (sym image) ∙ ap (λ k. over o.image (b ++ (r.transfer, k) ∷ a)) nothing
      ∙ over_started o.image b a r.transfer ∙ sym (before None was)

  -- a transfer that ends: its bytes are laid in the image
  pub shown_ended : (r : RunningTransfer) → runs o s ch ≡ Some r → runs p t ch ≡ None → p.image ≡ laid o.image r.transfer (stored_after r.transfer r.taken)
      → All (λ q. IsFree r.transfer q.transfer) (below o s ch ++ above o s ch) → memory_shown p t ≡ memory_shown o s
  shown_ended r was now image free =
      let free' : All (λ q. IsFree r.transfer q.0) (b ++ a) =
      rw (← map-append) (All-map (λ q. IsFree r.transfer q.0) with_stored (below o s ch ++ above o s ch) free) in
      after None now ∙ ap (λ m. over m (b ++ a)) image ∙ over_ended o.image b a r.transfer (stored_after r.transfer r.taken) free'
      ∙ sym (before (Some r) was)

  -- a transfer that stores n more bytes, those of the image at its next source places
  pub shown_stored : (r q : RunningTransfer) (n : ℕ) (bytes : List ℕ) → let u = r.transfer in let k = stored_after u r.taken in
      p.image ≡ o.image → runs o s ch ≡ Some r → runs p t ch ≡ Some q → with_stored q ≡ (u, k + n) → IsTransfer u
      → All (λ x. IsFree u x.transfer) (below o s ch) → bytes ≡ map (slice_index o.image) (take n (drop k (sources u)))
      → put (memory_shown o s) (zip (take n (drop k (destinations u))) bytes) ≡ memory_shown p t
  shown_stored r q n bytes image was now next copy free read =
      let u = r.transfer in
      let k = stored_after u r.taken in
      let free' : All (λ x. IsFree u x.0) b = All-map (λ x. IsFree u x.0) with_stored (below o s ch) free in
      ap (λ m. put m (zip (take n (drop k (destinations u))) bytes)) (before (Some r) was) ∙ over_store o.image b a u k n bytes copy free' read
      ∙ ap (λ x. over o.image (b ++ x ∷ a)) (sym next) ∙ ap (λ m. over m (around o s ch (Some q))) (sym image) ∙ sym (after (Some q) now)

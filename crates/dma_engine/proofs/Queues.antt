-- A queue and what the object knows of its channel.
use Rattle.std.proofs.Common.{◌≡◌, ℕ, ◌+◌, ◌-◌, ◌<◌, List, [], ◌∷◌, ◌++◌, length, Some, None, true, false, refl, ap, sym, ◌∙◌, arith, suc}
use Rattle.std.proofs.Common.{zero, inl, inr}
use Rattle.std.specs.{Prelude.IsSomeAnd, Prelude.is_some, Prelude.slice_get, Prelude.slice_index_or, Prelude.slice_set, Prelude.nat_lt}
use Rattle.std.proofs.{lemmas.Bool.cases_lt, lemmas.Bool.le-ltb, lemmas.Bool.lt-ltb, lemmas.Bool.ltb-true, lemmas.Option.slice_get_within}
use Rattle.std.proofs.{lemmas.Option.slice_get-get_or, lemmas.List.get_or-map, lemmas.List.length-map, lemmas.List.get_or-take, lemmas.List.set-get_or}
use Rattle.dma_chan.specs.{Channel.ChannelValue}
use Rattle.dma_mem.specs.Places.{Descriptor}
use Rattle.dma_engine.specs.Object.{ChannelState, channel, front, issued_front, no_transfer, used, finished}
use Rattle.dma_engine.specs.View.{Agrees, running_in, idle, channels, View, EngineState}
use Rattle.dma_engine.specs.inner.Holds.{IsQueue, Holds, Parts, view_of, schedule_of, taken_of, state_in, runs_in}
use Rattle.dma_engine.specs.{declared.entry.Entry.Entry, declared.queue.Queue.Queue, inner.Found.given_by, inner.Found.transfer_at, inner.Ranges.AreOfRunning}

-- the views of equal states are equal
pub seen : {s t : EngineState} → s ≡ t → s.view ≡ t.view
seen is = ap (λ (s : EngineState). s.view) is

-- ---- the front of a channel

-- an issued front, of which a fact holds
pub record Front (c : ChannelState) (P : Descriptor → Type 0) : Type 0 where
  pub transfer : Descriptor
  pub is : front c ≡ Some transfer
  pub issued : issued_front c ≡ Some transfer
  pub holds : P transfer
  pub within : finished c < used c
  pub below : finished c < c.issued

pub front_where : (c : ChannelState) (P : Descriptor → Type 0) → IsSomeAnd (issued_front c) P → Front c P
front_where c P h = grind (arith, slice_get_within, ltb-true)

-- where an issued front is known, it is the front
pub front_known : (c : ChannelState) (t : Descriptor) → issued_front c ≡ Some t → Front c (λ u. u ≡ t)
front_known c t h = front_where c (λ u. u ≡ t) (rw h refl)

pub front_issued : (c : ChannelState) (t : Descriptor) → issued_front c ≡ Some t → front c ≡ Some t
front_issued c t h = let f = front_known c t h in f.is ∙ ap (λ u. Some u) f.holds

-- what runs at a channel whose front is known
pub runs_front : (ch : ℕ) (c : ChannelState) (t : Descriptor) (taken : ℕ) → front c ≡ Some t
    → running_in ch c (Some taken) ≡ Some (record { ch = ch; cookie = finished c + 1; transfer = t; taken = taken })
runs_front ch c t taken h = rw h refl

-- ---- a queue at its channel

-- what an engine keeps, at the queue that was read at a channel
pub record HoldsAt (p : Parts) (ch : ℕ) (q : Queue) : Type 0 where
  pub holds : Holds p
  pub less : ch < length p.queues
  pub read : q ≡ slice_index_or p.queues ch q
  pub there : ch < channels (view_of p)
  pub within : ch < length (view_of p).schedule
  pub tied : IsQueue ch (channel p.base ch).submitted p.history p.memory q (state_in p ch)
  pub agrees : Agrees (state_in p ch) (schedule_of q).taken
  pub runs_is : runs_in p ch ≡ running_in ch (state_in p ch) (schedule_of q).taken
  pub schedule_is : slice_index_or (view_of p).schedule ch idle ≡ schedule_of q
  pub ranges : AreOfRunning q.ranges (runs_in p ch)

pub many_queues : (p : Parts) → Holds p → length p.queues ≡ channels (view_of p)
many_queues p h = sym (length-map p.queues schedule_of) ∙ h.sound.fits.many

-- the index of a channel that is there has a queue
pub queue_there : {p : Parts} {v : View} {ch i : ℕ} → Holds p → view_of p ≡ v → (i ≡ ch) × (ch < channels v) → i < length p.queues
queue_there {p} h is there = omega (arith, many_queues p h, ap channels is, there.0, there.1)

pub holds_at : (p : Parts) → Holds p → (ch : ℕ) (q : Queue) → ch < length p.queues → q ≡ slice_index_or p.queues ch q → HoldsAt p ch q
holds_at p h ch q less read = grind (arith, many_queues, get_or-map)

pub holds_there : {p : Parts} {v : View} {ch i : ℕ} {q : Queue} → Holds p → view_of p ≡ v → (i ≡ ch) × (ch < channels v) → q ≡ slice_index_or p.queues i q
    → HoldsAt p i q
holds_there {p} {i = i} {q = q} h is there read = holds_at p h i q (queue_there h is there) read

-- a queue that is as it was read leaves all queues as they were
pub queue_back : (queues : List Queue) (i : ℕ) {q r : Queue} → r ≡ q → q ≡ slice_index_or queues i q → slice_set queues i r ≡ queues
queue_back queues i {q} same read = ap (slice_set queues i) (same ∙ read) ∙ set-get_or queues i q

-- how many instructions its machine has executed, if a program is loaded
pub taken_some : (m : ChannelValue) → is_some m.program ≡ true → taken_of m ≡ Some m.taken
taken_some m h = grind arith

pub taken_none : (m : ChannelValue) → is_some m.program ≡ false → taken_of m ≡ None
taken_none m h = grind arith

-- what runs on its channel
pub runs_at : {p : Parts} {ch : ℕ} {q : Queue} → HoldsAt p ch q → (t : Descriptor) → is_some q.channel.program ≡ true → front (state_in p ch) ≡ Some t
    → runs_in p ch ≡ Some (record { ch = ch; cookie = finished (state_in p ch) + 1; transfer = t; taken = q.channel.taken })
runs_at {p} {ch} {q} at t loaded is = grind (arith, taken_some, runs_front)

pub runs_none : {p : Parts} {ch : ℕ} {q : Queue} → HoldsAt p ch q → is_some q.channel.program ≡ false → None ≡ runs_in p ch
runs_none {p} {ch} {q} at unloaded = sym (at.runs_is ∙ ap (running_in ch (state_in p ch)) (taken_none q.channel unloaded))

-- ---- a queue's transfers

-- the transfer of a cookie that isn't forgotten is found in the base, or by its entry
pub transfer_found : {ch : ℕ} {kept : List Descriptor} {history : List Entry} {memory : List ℕ} {q : Queue} {c : ChannelState}
    → IsQueue ch kept history memory q c → (n : ℕ) → n < length c.submitted
    → transfer_at kept history q.indices.items n ≡ Some (slice_index_or c.submitted n no_transfer)
transfer_found {kept = kept} {c = c} tied n less = elim (cases_lt n (length kept)) [
  | inl early ↦
      let e : nat_lt n (length kept) ≡ true = lt-ltb n (length kept) early in
      rw e (slice_get-get_or kept n no_transfer early ∙ ap (λ l. Some (slice_index_or l n no_transfer)) (sym tied.first)
      ∙ ap (λ t. Some t) (get_or-take (length kept) c.submitted n no_transfer early))
  | inr late ↦
      let e : nat_lt n (length kept) ≡ false = le-ltb n (length kept) late in
      let k = n - length kept in
      let s = tied.indexed k (omega (arith, tied.many, less, late)) in
      let at : length kept + k ≡ n = omega (arith, late) in
      rw e (ap given_by s.1 ∙ ap (λ i. Some (slice_index_or c.submitted i no_transfer)) at)
]

-- ---- lists with one more item

-- an entry keeps its index when more are added
pub slice_get_longer : {X : Type 0} (xs ys : List X) (k : ℕ) (x : X) → slice_get xs k ≡ Some x → slice_get (xs ++ ys) k ≡ Some x
slice_get_longer [] ys k x h = absurd cc
slice_get_longer (z ∷ xs) ys zero x h = h
slice_get_longer (z ∷ xs) ys (suc k) x h = slice_get_longer xs ys k x h

pub slice_get_push : {X : Type 0} (xs : List X) (y x : X) (k : ℕ) → slice_get xs k ≡ Some x → slice_get (xs ++ y ∷ []) k ≡ Some x
slice_get_push xs y x k h = slice_get_longer xs (y ∷ []) k x h

pub slice_get_push_last : {X : Type 0} (xs : List X) (y : X) (k : ℕ) → k ≡ length xs → slice_get (xs ++ y ∷ []) k ≡ Some y
slice_get_push_last [] y k h = rw h refl
slice_get_push_last (x ∷ xs) y zero h = absurd (omega arith)
slice_get_push_last (x ∷ xs) y (suc k) h = slice_get_push_last xs y k (omega arith)

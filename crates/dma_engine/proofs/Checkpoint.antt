-- What an engine keeps at a checkpoint.
use Rattle.std.proofs.Common.{false, true≢false, ◌+◌}
use Rattle.std.proofs.lemmas.List.{get_or-drop}
use Rattle.std.proofs.lemmas.Option.{slice_get-get_or}
use Rattle.dma_engine.specs.Object.{IsBase}
use Rattle.dma_engine.specs.View.{Agrees}
use Rattle.dma_engine.proofs.TransferRules.{IsGood, marked_object, ruled_base, ruled_object}
use Rattle.dma_engine.proofs.Queues.{front_where, runs_front}
use Rattle.dma_engine.proofs.Sizes.{flags_object, many_channels}
use Rattle.dma_engine.proofs.WhatRuns.{find_none_at}
use Rattle.std.proofs.Common.{◌≡◌, ℕ, ◌<◌, ◌≤◌, List, [], ◌∷◌, ◌++◌, zero, suc, length, map, take, drop, Option, Some, None, true, refl, ap, sym, ◌∙◌, subst}
use Rattle.std.proofs.Common.{arith, inl, inr}
use Rattle.std.specs.{Prelude.slice_index_or, Prelude.slice_set, Prelude.find, List.sum_by}
use Rattle.std.proofs.lemmas.List.{get_or-map, get_or_past, length-map, length-drop, get_or_default, take_all}
use Rattle.std.proofs.{lemmas.Bool.cases_lt, lemmas.List.Sums.sum_by-cons}
use Rattle.dma_mem.specs.Image.{over, after_moves}
use Rattle.dma_mem.proofs.PageImages.{put_none}
use Rattle.dma_engine.specs.Object.{used, Object, ChannelState, base_from, forget, channel, empty_channel, finished}
use Rattle.dma_engine.specs.Answer.{checkpointed, unless}
use Rattle.dma_engine.specs.View.{View, ChannelSchedule, RunningTransfer, Fits, runs, running_in, running, idle, object_of, memory_of, IsSound, with_stored}
use Rattle.dma_engine.specs.inner.Holds.{Holds, IsPrepared, IsQueue, Parts, view_of, schedule_of, taken_of, queue_forgotten, object_in, state_in}
use Rattle.dma_engine.specs.{declared.queue.Queue.Queue, declared.call.Reply.TheVariants.Done}
use Rattle.dma_engine.specs.{declared.fault.EngineFault.EngineFault, Laws.CheckpointsKeep, Room.no_room}
use Rattle.dma_engine.specs.{inner.Inside.queue_room, inner.Ranges.AreOfRunning, Ticks.board_of, Ticks.counts_of}
use Rattle.dma_engine.proofs.Boards.{counted_at, counted_base, counted_object}
use Rattle.dma_engine.proofs.{Changes.run_none, Memory.shown_both, Queues.HoldsAt, Queues.holds_at, Sizes.size_object, WhatRuns.running_same}

-- ---- a sound view stays sound

pub forgotten_at : (o : Object) (ch : ℕ) → channel (base_from o) ch ≡ forget (channel o ch)
forgotten_at o ch = grind (arith, cases_lt, get_or-map, get_or_past, length-map)

-- nothing runs
abbrev pub NothingRuns : Object → List ChannelSchedule → Type 0
NothingRuns o s = find (λ (r : RunningTransfer). true) (running o s) ≡ None

-- so no schedule has one
pub none_taken : (o : Object) (s : List ChannelSchedule) (ch : ℕ) → Fits o s → NothingRuns o s → ch < length o.channels
    → (slice_index_or s ch idle).taken ≡ None
none_taken o s ch h none less = by _ refl where
  by : (x : Option ℕ) → (slice_index_or s ch idle).taken ≡ x → x ≡ None
  by None e = refl
  by (Some n) e =
      let c = channel o ch in
      let agrees : Agrees c (Some n) = rw e at (h.each ch less) in
      let f = front_where c _ agrees.1 in
      let is : runs o s ch ≡ Some (record { ch = ch; cookie = finished c + 1; transfer = f.transfer; taken = n }) = ap (running_in ch c) e
      ∙ runs_front ch c f.transfer n f.is in
      absurd (true≢false (find_none_at (λ (r : RunningTransfer). true) o s ch _ less none is))

-- so no front has passed or signalled
none_passed : (o : Object) (s : List ChannelSchedule) (ch : ℕ) → Fits o s → NothingRuns o s → ((channel o ch).passed ≡ false)
    × ((channel o ch).signalled ≡ false)
none_passed o s ch h none = elim (cases_lt ch (length o.channels)) [
  | inl less ↦ let agrees : Agrees (channel o ch) None = rw (none_taken o s ch h none less) at (h.each ch less) in agrees
  | inr past ↦ rw (get_or_past o.channels ch empty_channel past) (refl, refl)
]

-- the next base is one
base_next : (v : View) → IsSound v → NothingRuns (object_of v) v.schedule → IsBase (base_from (object_of v))
base_next v h none =
    let o = object_of v in
    let ruled = ruled_object (length v.base.image) v.base v.history refl (ruled_base v.base h.opens) h.legal in
    let same : length v.base.image ≡ length o.image = sym (size_object v.base v.history) in
    record {
      flags = flags_object v.base v.history ∙ h.opens.flags;
      marks = marked_object v.base v.history h.opens.marks h.legal;
      each = λ ch.
          let c = channel o ch in
          let n = length c.outcomes in
          let counted = counted_object v.base v.history (counted_base v.base h.opens) h.legal ch in
          let rests = none_passed o v.schedule ch h.fits none in
          rw (forgotten_at o ch) (record {
            outcomes = refl;
            rests = rests;
            counts = (
              omega (arith, counted.order),
              omega (arith, counted.issue, counted.finish, length-drop n c.submitted),
              omega (arith, counted.give, counted.finish, length-drop n c.submitted),
            );
            rules = λ k d less.
                let within : n + k < length c.submitted = omega (arith, less, length-drop n c.submitted) in
                let good : IsGood (length v.base.image) (slice_index_or c.submitted (n + k) d) =
                ruled ch (n + k) _ (slice_get-get_or c.submitted (n + k) d within) in
                let here : slice_index_or (drop n c.submitted) k d ≡ slice_index_or c.submitted (n + k) d = get_or-drop n c.submitted k d in
                subst (IsGood (length o.image)) (sym here) (subst (λ m. IsGood m (slice_index_or c.submitted (n + k) d)) same good);
          });
    }

fits_next : (o : Object) (s : List ChannelSchedule) → Fits o s → NothingRuns o s → Fits (base_from o) s
fits_next o s h none = grind (arith, length-map, none_taken, forgotten_at)

pub checkpoint_sound : (v : View) → IsSound v → NothingRuns (object_of v) v.schedule → IsSound (checkpointed v)
checkpoint_sound v h none =
    let many : length (base_from (object_of v)).channels ≡ length (object_of v).channels = length-map (object_of v).channels forget in
    record {
      opens = base_next v h none;
      makes = rw (size_object v.base v.history, many, many_channels v.base v.history) h.makes;
      legal = tt;
      fits = fits_next (object_of v) v.schedule h.fits none;
    }

-- ---- the queues after it

queue_next : {p : Parts} {ch : ℕ} {q : Queue} → HoldsAt p ch q → taken_of q.channel ≡ None → let c = state_in p ch in
    IsQueue ch (forget c).submitted [] p.memory (queue_forgotten q) (forget c)
queue_next {p} {ch} {q} at none = grind (arith, counted_at, length-drop, take_all, run_none)

-- ---- the parts after it

abbrev pub parts_forgotten : Parts → Parts
parts_forgotten p = record p { base = base_from (object_in p); history = []; queues = map queue_forgotten p.queues }

same_schedule : (qs : List Queue) → map schedule_of (map queue_forgotten qs) ≡ map schedule_of qs
same_schedule [] = refl
same_schedule (q ∷ qs) = ap (λ l. schedule_of q ∷ l) (same_schedule qs)

pub view_next : (p : Parts) → view_of (parts_forgotten p) ≡ checkpointed (view_of p)
view_next p = ap (λ s. record { base = base_from (object_in p); history = []; steps = p.steps; schedule = s }) (same_schedule p.queues)

-- nothing is taken on any channel
nothing_taken : (o : Object) (s : List ChannelSchedule) (ch : ℕ) → Fits o s → NothingRuns o s → (slice_index_or s ch idle).taken ≡ None
nothing_taken o s ch h none = grind (arith, cases_lt, none_taken, get_or_past)

pub holds_next : (p : Parts) → Holds p → NothingRuns (object_in p) (view_of p).schedule → Holds (parts_forgotten p)
holds_next p h none =
    let v : View = view_of p in
    let o = object_of v in
    let s = v.schedule in
    let is = view_next p in
    let many : length (base_from o).channels ≡ length o.channels = length-map o.channels forget in
    let rest : (x : Object) (ch : ℕ) → runs x s ch ≡ None = λ x ch. ap (running_in ch (channel x ch)) (nothing_taken o s ch h.sound.fits none) in
    let later : (ch : ℕ) → runs (object_of (view_of (parts_forgotten p))) (view_of (parts_forgotten p)).schedule ch ≡ None = λ ch.
    ap (λ (w : View). runs (object_of w) w.schedule ch) is ∙ rest (base_from o) ch in
    let same : running o s ≡ running (base_from o) s = sym (running_same o (base_from o) s s (sym many) (λ c l. rest (base_from o) c ∙ sym (rest o c))) in
    record {
      sound = subst IsSound (sym is) (checkpoint_sound v h.sound none);
      size = h.size ∙ sym (size_object p.base p.history);
      shown = h.shown ∙ shown_both o (base_from o) s s refl same ∙ ap memory_of (sym is);
      events = h.events;
      marks = h.marks;
      each = λ ch d less.
          let l : ch < length p.queues = omega (arith, less, length-map p.queues queue_forgotten) in
          let q = slice_index_or p.queues ch d in
          let at = get_or-map queue_forgotten p.queues ch d d l in
          let here = holds_at p h ch q l (get_or_default p.queues ch d q l) in
          let taken : taken_of q.channel ≡ None = ap (λ (x : ChannelSchedule). x.taken) (sym here.schedule_is)
          ∙ none_taken o s ch h.sound.fits none here.there in
          rw (at, forgotten_at o ch) (queue_next here taken);
      prepared = λ ch. subst (IsPrepared p.made) (sym (later ch)) tt;
      ranges = λ ch d less.
          let l : ch < length p.queues = omega (arith, less, length-map p.queues queue_forgotten) in
          let at = get_or-map queue_forgotten p.queues ch d d l in
          rw at (subst (AreOfRunning (slice_index_or p.queues ch d).ranges) (rest o ch ∙ sym (later ch)) (h.ranges ch d l));
    }

-- ---- the image, where nothing runs

find_any : (l : List RunningTransfer) → find (λ (r : RunningTransfer). true) l ≡ None → l ≡ []
find_any [] h = refl
find_any (r ∷ rs) h = absurd cc

pub image_now : (p : Parts) → Holds p → NothingRuns (object_in p) (view_of p).schedule → p.memory ≡ (object_in p).image
unfolding after_moves
image_now p h none =
    let o = object_in p in
    h.shown ∙ ap (λ l. over o.image (map with_stored l)) (find_any (running o (view_of p).schedule) none) ∙ put_none o.image

-- ---- one queue after another

pub at_next_law : (xs : List Queue) (i : ℕ) (d : Queue) → i < length xs
    → slice_index_or (map queue_forgotten (take i xs) ++ drop i xs) i d ≡ slice_index_or xs i d
at_next_law [] i d h = absurd (omega arith)
at_next_law (x ∷ xs) zero d h = refl
at_next_law (x ∷ xs) (suc i) d h = at_next_law xs i d (omega arith)

pub set_next_law : (xs : List Queue) (i : ℕ) (q d : Queue) → i < length xs → q ≡ queue_forgotten (slice_index_or xs i d)
    → slice_set (map queue_forgotten (take i xs) ++ drop i xs) i q ≡ map queue_forgotten (take (suc i) xs) ++ drop (suc i) xs
set_next_law [] i q d h e = absurd (omega arith)
set_next_law (x ∷ xs) zero q d h e = ap (λ y. y ∷ xs) e
set_next_law (x ∷ xs) (suc i) q d h e = ap (λ l. queue_forgotten x ∷ l) (set_next_law xs i q d (omega arith) e)

-- ---- a checkpoint frees the room

pub no_room_next : (qs : List Queue) (ch : ℕ) → slice_index_or (map queue_room (map queue_forgotten qs)) ch no_room ≡ no_room
no_room_next [] ch = refl
no_room_next (q ∷ qs) zero = refl
no_room_next (q ∷ qs) (suc ch) = no_room_next qs ch

-- ---- a checkpoint keeps the board

pub counts_next : (c : ChannelState) → finished c ≤ used c → counts_of (forget c) ≡ counts_of c
counts_next c h = grind (arith, length-drop)

counts_all_law : (cs : List ChannelState) → ((k : ℕ) → finished (slice_index_or cs k empty_channel) ≤ used (slice_index_or cs k empty_channel))
    → map counts_of (map forget cs) ≡ map counts_of cs
counts_all_law [] h = refl
counts_all_law (c ∷ cs) h =
    let first : counts_of (forget c) ≡ counts_of c = counts_next c (h 0) in
    let rest = counts_all_law cs (λ k. h (suc k)) in
    rw (first, rest) refl

pub board_next : (v : View) → IsSound v → board_of (base_from (object_of v)) ≡ board_of (object_of v)
board_next v h = counts_all_law (object_of v).channels (λ k. (counted_object v.base v.history (counted_base v.base h.opens) h.legal k).finish)

-- nor do the finished cookies change
sum_forgotten : (cs : List ChannelState) → sum_by finished (map forget cs) ≡ sum_by finished cs
sum_forgotten [] = refl
sum_forgotten (c ∷ cs) =
    let one : finished (forget c) ≡ finished c = omega arith in
    let rest = sum_forgotten cs in
    omega (arith, sum_by-cons finished (forget c) (map forget cs), sum_by-cons finished c cs)

pub accepted : (f : Option EngineFault) (v w x : View) → (Done, w) ≡ unless f v (Done, x) → w ≡ x
accepted f v w x h = grind (arith)

pub checkpoints_keep : CheckpointsKeep
checkpoints_keep v w h done = grind (arith, accepted, board_next, sum_forgotten)

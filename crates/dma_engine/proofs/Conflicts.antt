-- The fronts that are found by their entries, and the first running transfer that conflicts.
use Rattle.std.proofs.Common.{◌≡◌, ℕ, ◌+◌, ◌-◌, ◌<◌, ◌≤◌, List, length, Option, Some, None, Bool, true, false, refl, ap, ◌∙◌, arith}
use Rattle.std.specs.{Prelude.find, Prelude.slice_index_or, Prelude.nat_lt, Option.option_to_list}
use Rattle.std.proofs.lemmas.Bool.{le-ltb, lt-ltb, ltb-false, ltb-true}
use Rattle.std.proofs.lemmas.Option.{get_or_from_slice_get, slice_get-get_or}
use Rattle.dma_mem.specs.Places.{Descriptor}
use Rattle.dma_engine.specs.Object.{Object, ChannelState, channel, issued_front, finished, no_transfer, used}
use Rattle.dma_engine.specs.View.{ChannelSchedule, RunningTransfer, runs, running_in, running}
use Rattle.dma_engine.specs.{declared.queue.Queue.Queue, declared.access.Ranges.Ranges, inner.Ranges.AreOfRunning, inner.Ranges.HasRangesOf}
use Rattle.dma_engine.specs.{inner.Accesses.named, inner.Found.front_in, inner.Found.transfer_at, inner.Holds.Parts, inner.Holds.state_in}
use Rattle.dma_engine.proofs.Queues.{Front, HoldsAt, transfer_found}
use Rattle.dma_engine.proofs.{Boards.counted_at, ConflictsByRanges.kept_ranges, ConflictsByRanges.no_ranges, WhatRuns.below, WhatRuns.find_here}

-- ---- the issued front

-- if fewer are finished than issued, there is an issued front
pub front_queued : {p : Parts} {ch : ℕ} {q : Queue} → HoldsAt p ch q → q.forgotten + length q.outcomes.items < q.issued → Front (state_in p ch) (λ t. Unit {0})
front_queued {p} {ch} {q} at open_one =
    let c = state_in p ch in
    let counted = counted_at p at.holds ch in
    let before : finished c < c.issued = omega (arith, ap length at.tied.outcomes, at.tied.forgotten, at.tied.issued, open_one) in
    let inside : finished c < used c = omega (arith, counted.issue, before) in
    let is = slice_get-get_or c.submitted (length c.outcomes) no_transfer (omega (arith, inside)) in
    let e : nat_lt (finished c) c.issued ≡ true = lt-ltb _ _ before in
    record { transfer = _; is = is; issued = rw e is; holds = tt; within = inside; below = before }

-- and it is found in the base or in the history
pub front_found : {p : Parts} {ch : ℕ} {q : Queue} → HoldsAt p ch q → front_in q (channel p.base ch).submitted p.history ≡ issued_front (state_in p ch)
front_found {p} {ch} {q} at = by (nat_lt (length q.outcomes.items) (q.issued - q.forgotten)) refl where
  c : ChannelState
  c = state_in p ch

  n : ℕ
  n = length q.outcomes.items

  kept : List Descriptor
  kept = (channel p.base ch).submitted

  many : n ≡ length c.outcomes
  many = ap length at.tied.outcomes

  by : (b : Bool) → nat_lt n (q.issued - q.forgotten) ≡ b → front_in q kept p.history ≡ issued_front c
  by true e =
      let below : n < q.issued - q.forgotten = ltb-true _ _ e in
      let f = front_queued at (omega (arith, below)) in
      let there : n < length c.submitted = omega (arith, f.within, many) in
      let found : transfer_at kept p.history q.indices.items n ≡ Some f.transfer =
      transfer_found at.tied n there
      ∙ ap (λ k. Some (slice_index_or c.submitted k no_transfer)) many
      ∙ ap (λ t. Some t) (get_or_from_slice_get c.submitted (length c.outcomes) f.transfer no_transfer f.is) in
      rw (e, f.issued) found
  by false e =
      let past : q.issued - q.forgotten ≤ n = ltb-false _ _ e in
      let d : nat_lt (finished c) c.issued ≡ false = le-ltb _ _ (omega (arith, past, many, at.tied.issued, at.tied.forgotten)) in
      rw (e, d) refl

-- no more are issued than are known
pub few_issued : {p : Parts} {ch : ℕ} {q : Queue} → HoldsAt p ch q → q.issued ≤ q.forgotten + length (channel p.base ch).submitted + length q.indices.items
few_issued {p} {ch} at = grind (arith, counted_at)

-- ---- the first transfer that conflicts

-- a running transfer is named by its channel and the cookie of the front
runs_named : (ch : ℕ) (c : ChannelState) (taken : Option ℕ) (r : RunningTransfer) → running_in ch c taken ≡ Some r → (r.ch ≡ ch) × (r.cookie ≡ finished c + 1)
runs_named ch c taken r h = grind (arith)

-- the first transfer that conflicts is the one with these ranges
pub way_here : (q : Descriptor → Bool) (o : Object) (s : List ChannelSchedule) (ch cookie : ℕ) (r : Ranges) → ch < length o.channels
    → find (λ x. q x.transfer) (below o s ch) ≡ None → AreOfRunning (Some r) (runs o s ch) → cookie ≡ finished (channel o ch) + 1
    → ((t : Descriptor) → HasRangesOf r t → true ≡ q t) → Some (ch, cookie) ≡ named (find (λ x. q x.transfer) (running o s))
way_here q o s ch cookie r less none kept number passes = grind (arith, kept_ranges, runs_named, find_here)

-- a transfer that doesn't conflict is passed over
pub passed_over : (q : Descriptor → Bool) (x : Option RunningTransfer) (r : Ranges) → AreOfRunning (Some r) x
    → ((t : Descriptor) → HasRangesOf r t → false ≡ q t) → find (λ y. q y.transfer) (option_to_list x) ≡ None
passed_over q x r kept fails = grind (arith, kept_ranges)

pub nothing_there : (q : Descriptor → Bool) (x : Option RunningTransfer) → AreOfRunning None x → find (λ r. q r.transfer) (option_to_list x) ≡ None
nothing_there q x kept = ap (λ y. find (λ z. q z.transfer) (option_to_list y)) (no_ranges x kept)

-- How fast a transfer moves, by its instructions and by the steps of a channel.
use Rattle.std.proofs.Common.{◌≡◌, ℕ, zero, suc, ◌+◌, ◌-◌, ◌≤◌, ◌<◌, Bool, true, false, List, [], ◌∷◌, length, take, drop, Option, Some, Ok, refl, sym, ap, ◌∙◌}
use Rattle.std.proofs.Common.{subst, arith, add-one, inl, inr}
use Rattle.std.specs.Prelude.{IfSome, Result, slice_index_or}
use Rattle.std.proofs.lemmas.Bool.{cases_lt}
use Rattle.dma_insn.specs.declared.chip.ChipInsn.{ChipInsn}
use Rattle.dma_insn.specs.declared.chip.ChipInsn.TheVariants.{Ld, St, End, Sev, Wfe}
use Rattle.dma_mem.specs.Places.{Descriptor, sources, destinations, lies_below}
use Rattle.dma_mem.specs.{declared.marks.MarkKind.MarkKind, declared.marks.MarkKind.TheVariants.Reading, declared.marks.MarkKind.TheVariants.Writing}
use Rattle.dma_mem.specs.{Marking.MarkList, Marking.meets_mark, Rules.IsTransfer}
use Rattle.dma_chan.specs.Traffic.{burst, burst_by, member, read_places, stored_after, written_places}
use Rattle.dma_chan.specs.{declared.bus.Bus.TheVariants.Ideal, declared.exec.Registers.Registers, declared.turn.ChanTurn.ChanTurn}
use Rattle.dma_chan.specs.{declared.turn.ChanTurn.TheVariants.Moved, declared.turn.ChanTurn.TheVariants.Waiting, declared.turn.ChanTurn.TheVariants.Ended}
use Rattle.dma_chan.specs.{declared.turn.ChanTurn.TheVariants.Fault, declared.turn.FaultKind.FaultKind, declared.turn.FaultKind.TheVariants.DataWriteErr}
use Rattle.dma_chan.specs.{declared.turn.FaultKind.TheVariants.DataReadErr, Bursts.touched, Channel.ChannelValue, Compiled.cost, Exec.source_of}
use Rattle.dma_chan.specs.{Exec.destination_of, Exec.exec_fetched, Exec.state, Layer.AnswerImplies, Layer.Shared, Layer.StepAgrees, NextWrites.written_by}
use Rattle.dma_chan.specs.{NextWrites.written_next, Pace.GetsToEnd, Pace.MovesFor, Pace.OrderIs, Pace.StaysInStep, Pace.just_loaded, Reads.read_by}
use Rattle.dma_chan.specs.{Reads.read_next, Stepping.Machine, Stepping.after_step, Stepping.after_steps, Stepping.answer_at, inner.At.IsAt}
use Rattle.dma_chan.proofs.MembersByNumber.{at, at_burst, at_registers, at_stored, carries_next}
use Rattle.dma_chan.proofs.{BurstsInTurn.CarriesOne, LayerLaws.ahead_is, LayerLaws.starts_at}
use Rattle.dma_chan.proofs.{LayerLaws.step_is, LayerLaws.turn_reports, MemberActs.store_touches, ShapeLaws.past_end, ShapeLaws.shape_is, SteppedOver.steps_size}

-- ---- the order of the instructions

module _ (t : Descriptor) (h : IsTransfer t) where
  end_late : (n : ℕ) → member t n ≡ End → cost t ≤ n + 1
  end_late n is = grind (arith, cases_lt, shape_is)

  pub late_ends : (n : ℕ) → cost t ≤ n + 1 → member t n ≡ End
  late_ends n late = grind (arith, cases_lt, shape_is, past_end)

  wait_there : (e : ℕ) → t.wait ≡ Some e → member t 0 ≡ Wfe e false
  wait_there e some = subst (λ (w : Option ℕ). IfSome w (λ d. member t 0 ≡ Wfe d false)) some (shape_is t h).wait_first

  wait_here : (n e : ℕ) (invalid : Bool) → member t n ≡ Wfe e invalid → (n ≡ 0) × (t.wait ≡ Some e) × (invalid ≡ false)
  wait_here n e invalid is =
      let only = (shape_is t h).wait_only n e invalid is in
      let same : Wfe e invalid ≡ Wfe e false = sym is ∙ ap (member t) only.0 ∙ wait_there e only.1 in
      (only.0, only.1, cc)

  signal_there : (n e : ℕ) → n + 2 ≡ cost t → t.signal ≡ Some e → member t n ≡ Sev e
  signal_there n e late some = grind (arith, shape_is)

pub order_is : OrderIs
order_is t h = grind (arith, shape_is, end_late, late_ends, wait_here, wait_there, signal_there)

-- ---- the steps of a channel

-- a channel that is there, over any memory
module _ (t : Descriptor) (n : ℕ) (image : List ℕ) (c : ChannelValue) (h : IsTransfer t) (a : IsAt t n image c) where
  registers_there : c.registers ≡ (at t n).registers
  registers_there = a.registers ∙ sym (at_registers t n)

  abbrev Places : ℕ → List ℕ → List ℕ
  Places k places = take k (drop (at t n).stored places)

  -- what the next instruction does, and the places of its burst
  carries_there : (i : ChipInsn) → member t n ≡ i → CarriesOne Ideal (sources t) (destinations t) i (at t n)
  carries_there i is = subst (λ (j : ChipInsn). CarriesOne Ideal (sources t) (destinations t) j (at t n)) is (carries_next t n h a.within)

  burst_there : (i : ChipInsn) (places : List ℕ) → member t n ≡ i
      → Places (burst_by i (at t n).registers.ccr) places ≡ take (burst t n) (drop (stored_after t n) places)
  burst_there i places is = grind (arith, at_burst, at_stored)

  reads_there : member t n ≡ Ld → read_next c ≡ read_places t n
  reads_there is =
      ap (λ (next : Result ChipInsn FaultKind). read_by next c.registers) (ahead_is t n image c h a ∙ ap Ok is)
      ∙ ap (λ (s : Registers). touched (source_of s)) registers_there ∙ (carries_there Ld is).touches ∙ burst_there Ld (sources t) is

  writes_there : member t n ≡ St → written_next c ≡ written_places t n
  writes_there is =
      ap (λ (next : Result ChipInsn FaultKind). written_by next c.registers) (ahead_is t n image c h a ∙ ap Ok is)
      ∙ ap (λ (s : Registers). touched (destination_of s)) registers_there ∙ store_touches (destinations t) (at t n) (carries_there St is)
      ∙ burst_there St (destinations t) is

-- the memory and the flags of a machine
abbrev pub shared : Machine → Shared
shared s = record { image = s.image; flags = s.flags }

module _ (t : Descriptor) (marks : MarkList) (image : List ℕ) (flags : List Bool) (h : IsTransfer t) (below : lies_below t (length image) ≡ true) where
  abbrev there : ℕ → Machine
  there n = after_steps marks (just_loaded t image flags) n

  pub agrees_at : (n : ℕ) → IsAt t n (there n).image (there n).channel → StepAgrees t n marks (shared (there n)) (there n).channel
  agrees_at n a = step_is t n marks (shared (there n)) (there n).channel h (ap (lies_below t) (steps_size marks (just_loaded t image flags) n) ∙ below) a

  moved_on : (n : ℕ) → IsAt t n (there n).image (there n).channel → answer_at marks (there n) ≡ Moved
      → IsAt t (suc n) (there (suc n)).image (there (suc n)).channel
  moved_on n a moves =
      let one = agrees_at n a in
      rw add-one at (subst (λ (i : List ℕ). IsAt t (n + 1) i (after_step marks (there n)).channel) (sym one.image) (one.goes_on (sym one.turn ∙ moves)))

  pub comes_to : (n : ℕ) → MovesFor marks (just_loaded t image flags) n → IsAt t n (there n).image (there n).channel
  comes_to zero moves = starts_at t image h
  comes_to (suc n) moves = moved_on n (comes_to n (λ k l. moves k (omega arith))) (moves n (omega arith))

  reported : (n : ℕ) (u : ChanTurn) → IsAt t n (there n).image (there n).channel → answer_at marks (there n) ≡ u → AnswerImplies t n marks (shared (there n)) u
  reported n u a is = subst (AnswerImplies t n marks (shared (there n))) (sym (agrees_at n a).turn ∙ is) (turn_reports t n marks (shared (there n)))

  pub last_ends : (n : ℕ) → IsAt t n (there n).image (there n).channel → n + 1 ≡ cost t → answer_at marks (there n) ≡ Ended
  last_ends n a last =
      let c = (there n).channel in
      let s = state c.registers c.buffer (there n).image (there n).flags in
      ap (λ (next : Result ChipInsn FaultKind). (exec_fetched marks next s).0)
      (ahead_is t n (there n).image c h a ∙ ap Ok (late_ends t h n (omega (arith, last))))

  ended_last : (n : ℕ) → IsAt t n (there n).image (there n).channel → answer_at marks (there n) ≡ Ended → n + 1 ≡ cost t
  ended_last n a is = (shape_is t h).end_only n a.within (reported n Ended a is)

pub stays_in_step : StaysInStep
stays_in_step t n marks image flags h below moves =
    let s = after_steps marks (just_loaded t image flags) n in
    let a : IsAt t n s.image s.channel = comes_to t marks image flags h below n moves in
    record {
      within = a.within;
      next = ahead_is t n s.image s.channel h a;
      reads = reads_there t n s.image s.channel h a;
      writes = writes_there t n s.image s.channel h a;
      stored = a.stored;
      ends = (ended_last t marks image flags h below n a, last_ends t marks image flags h below n a);
    }

-- ---- without a mark at a burst

module _ (t : Descriptor) (marks : MarkList) (image : List ℕ) (flags : List Bool) (h : IsTransfer t) (below : lies_below t (length image) ≡ true)
    (set : IfSome t.wait (λ e. slice_index_or flags e false ≡ true)) (reads : (n : ℕ) → meets_mark Reading marks (read_places t n) ≡ false)
    (writes : (n : ℕ) → meets_mark Writing marks (written_places t n) ≡ false) where
  abbrev now : ℕ → Machine
  now n = after_steps marks (just_loaded t image flags) n

  set_at : (n e : ℕ) → n ≡ 0 → t.wait ≡ Some e → slice_index_or (now n).flags e false ≡ true
  set_at n e first some = rw first (subst (λ (w : Option ℕ). IfSome w (λ d. slice_index_or flags d false ≡ true)) some set)

  -- an answer before the last instruction
  answers : (n : ℕ) (u : ChanTurn) → n + 1 < cost t → AnswerImplies t n marks (shared (now n)) u → u ≡ Moved
  answers n Moved l r = refl
  answers n (Waiting e) l r = grind (arith, shape_is)
  answers n Ended l r = absurd (omega (arith, end_late t h n r, l))
  answers n (Fault DataReadErr) l r = let both = sym (reads n) ∙ r.1 in absurd cc
  answers n (Fault DataWriteErr) l r = let both = sym (writes n) ∙ r.1 in absurd cc
  answers n (Fault kind) l r = absurd r

  pub all_move : (n : ℕ) → n < cost t → MovesFor marks (just_loaded t image flags) n
  all_move zero l = λ k f. absurd (omega (arith, f))
  all_move (suc n) l = λ k f.
      let before = all_move n (omega (arith, l)) in
      let a = comes_to t marks image flags h below n before in
      let here : answer_at marks (now n) ≡ Moved =
      answers n (answer_at marks (now n)) (omega (arith, l)) (reported t marks image flags h below n (answer_at marks (now n)) a refl) in
      elim (cases_lt k n) [
        | inl less ↦ before k less
        | inr same ↦ let at : n ≡ k = omega (arith, same, f) in subst (λ (j : ℕ). answer_at marks (now j) ≡ Moved) at here
      ]

none_marked : (kind : MarkKind) (places : List ℕ) → meets_mark kind [] places ≡ false
unfolding meets_mark
none_marked kind [] = refl
none_marked kind (a ∷ places) = none_marked kind places

pub gets_to_end : GetsToEnd
gets_to_end t image flags h below set =
    all_move t [] image flags h below set (λ n. none_marked _ (read_places t n)) (λ n. none_marked _ (written_places t n)) (cost t - 1)
    (omega (arith, (shape_is t h).some))

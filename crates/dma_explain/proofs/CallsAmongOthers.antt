-- Calls that step a channel with a program that copies, over a memory that others write between them.
use Rattle.std.proofs.Common.{◌≡◌, ◌≢◌, ℕ, zero, suc, ◌<◌, ◌⊎◌, true, true≢false, List, length, get_or, Option, Some, None, Result, Ok, refl, sym, ap, ◌∙◌}
use Rattle.std.proofs.Common.{subst, arith, inl, inr}
use Rattle.std.specs.Prelude.{IsSome}
use Rattle.dma_insn.specs.{declared.chip.ChipInsn.ChipInsn, declared.chip.ChipInsn.TheVariants.End, declared.chip.ChipInsn.TheVariants.Sev}
use Rattle.dma_mem.specs.Marking.{MarkList}
use Rattle.dma_chan.specs.declared.turn.ChanTurn.TheVariants.{Moved, Waiting, Ended, Fault}
use Rattle.dma_chan.specs.Stepping.{Machine, answer_at, after_step, after_steps, goes_on_after, signal_of, signal_after, TakesSteps}
use Rattle.dma_chan.specs.{declared.exec.Registers.Registers, declared.turn.ChanTurn.ChanTurn, declared.turn.FaultKind.FaultKind}
use Rattle.dma_chan.specs.{Exec.State, Channel.ahead_of, Programs.ProgramValue}
use Rattle.dma_explain.specs.Explains.{Explains, IsLoadedWith, IsSignal, IsWait, Work, amounts_of, next_in, traced}
use Rattle.dma_explain.specs.{declared.explain.Amounts.Amounts, Works.MissesAll, Works.Uses}
use Rattle.dma_chan.proofs.SteppedOver.{is_still, was_moved, went_before}
use Rattle.dma_chan.proofs.{StepsTaken.steps_move, StepsTaken.steps_stop, CallWrites.does_next}
use Rattle.dma_explain.proofs.AmongOthers.{After, Among, Fits, IsDone, after_next, at_start, kept}
use Rattle.dma_explain.proofs.CallStays.{Nexts, Goes, Ends, ahead_at, nexts, traced_next}

-- ---- the state after calls

-- what a machine's channel has done
abbrev pub done_at : Registers → List ℕ → Machine → Amounts
done_at start program u = amounts_of (traced start program u.channel.taken)

-- the program is not finished: k instructions were executed
abbrev pub Runs : Registers → List ℕ → Work → ℕ → List ℕ → Machine → Type 0
Runs start program work n first u = (k : ℕ) × Among start program work n first k u.image u.channel

-- the state after a step, by its answer
abbrev pub Leads : Registers → List ℕ → Work → ℕ → List ℕ → Option ChanTurn → Machine → Type 0
Leads start program work n first (Some Ended) w = IsDone start program work first w
Leads start program work n first turn w = Runs start program work n first w

pub not_none : (o : Option ProgramValue) → IsSome o → o ≡ None → ⊥
not_none o some e = let bad = e in let w = some in grind arith

-- only a DMASEV signals
pub is_signal : (next : Result ChipInsn FaultKind) (e : ℕ) → signal_of next ≡ Some e → next ≡ Ok (Sev e)
is_signal next e h = grind (arith)

module _ (start : Registers) (program : List ℕ) (work : Work) (n : ℕ) (first : List ℕ) where
  -- a channel into which the program was just loaded, over the first memory
  pub at_first : (u : Machine) → Fits work (length first) → IsLoadedWith start program u.channel → u.image ≡ first → Runs start program work n first u
  at_first u low starts images =
      (0, subst (λ (x : List ℕ). Among start program work n first 0 x u.channel) (sym images) (at_start start program work n first u.channel low starts))

  -- after a call the channel is not finished, or it has ended
  pub either_way : (last : Option ChanTurn) (v : Machine) → Leads start program work n first last v → Runs start program work n first v
      ⊎ (v.channel.program ≡ None)
  either_way last v h = grind (arith)

  -- what others do between two calls
  pub survived : (v w : Machine) → Runs start program work n first v → w.channel ≡ v.channel → ((a : ℕ) → Uses work a → get_or w.image a 0 ≡ get_or v.image a 0)
      → Fits work (length w.image) → Runs start program work n first w
  survived v w r same unchanged fits = (r.0, kept start program work n first r.0 v.image w.image v.channel w.channel r.1 same unchanged fits)

-- with the same marks in all steps
module _ (start : Registers) (program : List ℕ) (work : Work) (n : ℕ) (marks : MarkList) (first : List ℕ) (h : Explains start program work n)
    (low : Fits work (length first)) where
  after : (k : ℕ) (u : Machine) (turn : ChanTurn) → answer_at marks u ≡ turn → Among start program work n first k u.image u.channel
      → After start program work n marks first h low k u turn
  after k u turn e w = after_next start program work n marks first h low k u turn e w

  -- the next instruction is the program's
  pub next_ahead : (k : ℕ) (u : Machine) (r : Result ChipInsn FaultKind) → Among start program work n first k u.image u.channel
      → next_in program (traced start program k) ≡ r → ahead_of u.channel ≡ r
  next_ahead k u r w e = by (nexts start program work n h k w.within)
    where
      by : Nexts start program work n k → ahead_of u.channel ≡ r
      by (Goes i less next go) = ahead_at start program k i u.channel w.begins w.mirrors.registers_are next ∙ sym next ∙ e
      by (Ends last next) = ahead_at start program k End u.channel w.begins w.mirrors.registers_are next ∙ sym next ∙ e

  pub moved_on : (k : ℕ) (u : Machine) → Among start program work n first k u.image u.channel → answer_at marks u ≡ Moved
      → Among start program work n first (suc k) (after_step marks u).image (after_step marks u).channel
  moved_on k u w moved = after k u Moved moved w

  one : (k : ℕ) (u : Machine) (turn : ChanTurn) → Among start program work n first k u.image u.channel → answer_at marks u ≡ turn
      → Leads start program work n first (Some turn) (after_step marks u)
  one k u Moved w e = (suc k, moved_on k u w e)
  one k u Ended w e = after k u Ended e w
  one k u turn w e = grind (arith, is_still)

  -- after steps of which each moved
  pub many : (j : ℕ) (s : Machine) → Runs start program work n first s → ((k : ℕ) → k < suc j → goes_on_after marks s k ≡ true)
      → Runs start program work n first (after_steps marks s j)
  many zero s r moves = r
  many (suc j) s r moves =
      let u = after_steps marks s j in
      let w = many j s r (λ k l. moves k (omega arith)) in
      (suc w.0, moved_on w.0 u w.1 (was_moved (ahead_of u.channel) (answer_at marks u) (went_before marks s (suc j) (moves (suc j) (omega arith)))))

  -- what a call leads to
  pub call : (s v : Machine) (most taken : ℕ) (last : Option ChanTurn) → Runs start program work n first s → TakesSteps marks s most taken last v
      → Leads start program work n first last v
  call s v most zero last r steps = grind arith
  call s v most (suc p) last r steps =
      let u = after_steps marks s p in
      let w = many p s r (steps_move steps) in
      subst (λ (o : Option ChanTurn). Leads start program work n first o v) (sym steps.answer)
      (subst (Leads start program work n first (Some (answer_at marks u))) (sym steps.ends_at) (one w.0 u (answer_at marks u) w.1 refl))

  -- where no mark lies at what the transfer touches, the last step of a call doesn't fail
  pub call_fails : (s v : Machine) (most taken : ℕ) (last : Option ChanTurn) (kind : FaultKind) → MissesAll marks work → Runs start program work n first s
      → TakesSteps marks s most taken last v → last ≢ Some (Fault kind)
  call_fails s v most zero last kind none r steps e = let bad : None ≡ Some (Fault kind) = sym steps.answer ∙ e in cc
  call_fails s v most (suc p) last kind none r steps e =
      let u = after_steps marks s p in
      let w = many p s r (steps_move steps) in
      let answer : Some (answer_at marks u) ≡ Some (Fault kind) = sym steps.answer ∙ e in
      let turn : answer_at marks u ≡ Fault kind = cc in
      after w.0 u (Fault kind) turn w.1 none

  -- a call waits only for an event of the program
  pub call_waits : (s v : Machine) (most taken e : ℕ) (last : Option ChanTurn) → Runs start program work n first s → TakesSteps marks s most taken last v
      → last ≡ Some (Waiting e) → IsWait start program n e
  call_waits s v most zero e last r steps is = absurd (let bad = sym steps.answer ∙ is in cc)
  call_waits s v most (suc p) e last r steps is =
      let u = after_steps marks s p in
      let w = many p s r (steps_move steps) in
      let answer : Some (answer_at marks u) ≡ Some (Waiting e) = sym steps.answer ∙ is in
      let turn : answer_at marks u ≡ Waiting e = cc in
      after w.0 u (Waiting e) turn w.1

  -- a call that may take a step takes one
  pub call_answers : (s v : Machine) (most taken : ℕ) (last : Option ChanTurn) → 0 < most → Runs start program work n first s
      → TakesSteps marks s most taken last v → last ≢ None
  call_answers s v most (suc p) last some r steps is = let bad = sym steps.answer ∙ is in cc
  call_answers s v most zero last some r steps is =
      elim (steps_stop steps) [
        | inl all ↦ absurd (omega arith)
        | inr other ↦ elim other [
          | inl over ↦ absurd (true≢false over)
          | inr full ↦
              let few = h.few in
              let taken = r.1.taken in
              let within = r.1.within in
              let same : v.channel.taken ≡ s.channel.taken = ap (λ (m : Machine). m.channel.taken) steps.ends_at in
              absurd (omega arith)
        ]
      ]

  -- a signal comes after the bytes that are stored
  at_signal : (k : ℕ) (u : Machine) (e : ℕ) → ahead_of u.channel ≡ Ok (Sev e) → Among start program work n first k u.image u.channel
      → Nexts start program work n k → IsSignal start program n e (done_at start program (after_step marks u))
  at_signal k u e sev w (Ends last next) = grind (arith, ahead_at)
  at_signal k u e sev w (Goes i less next go) =
      let is : i ≡ Sev e = let same = sym (ahead_at start program k i u.channel w.begins w.mirrors.registers_are next) ∙ sev in cc in
      let moves : answer_at marks u ≡ Moved = ap (λ (x : ChanTurn × State). x.0) (does_next marks (Sev e) u sev) in
      let later = moved_on k u w moves in
      let same : amounts_of (traced start program (suc k)) ≡ amounts_of (traced start program k) = grind (arith, traced_next) in
      record {
        step = k;
        within = less;
        signals = next ∙ ap (λ (j : ChipInsn). Ok j) is;
        after = sym (ap (λ (j : ℕ). amounts_of (traced start program j)) later.taken ∙ same);
      }

  pub signalled : (s v : Machine) (most taken : ℕ) (last : Option ChanTurn) (e : ℕ) → Runs start program work n first s → TakesSteps marks s most taken last v
      → signal_after marks s taken ≡ Some e → IsSignal start program n e (done_at start program v)
  signalled s v most zero last e r steps signal = absurd (cc)
  signalled s v most (suc p) last e r steps signal =
      let u = after_steps marks s p in
      let w = many p s r (steps_move steps) in
      let at = at_signal w.0 u e (is_signal (ahead_of u.channel) e signal) w.1 (nexts start program work n h w.0 w.1.within) in
      subst (λ (x : Machine). IsSignal start program n e (done_at start program x)) (sym steps.ends_at) at

-- A call on a channel whose program a work explains writes only what the work writes.
use Rattle.std.proofs.Common.{◌≡◌, ℕ, zero, suc, ◌≤◌, ◌<◌, ◌⊎◌, true, List, ◌++◌, Option, Some, None, Result, Ok, Err, refl, sym, ap, ◌∙◌, subst, arith, inl}
use Rattle.std.proofs.Common.{inr}
use Rattle.std.specs.{Prelude.IsSomeAnd, List.Contains}
use Rattle.std.proofs.{lemmas.Bool.cases_lt, lemmas.List.Elements.Contains-append_left, lemmas.List.Elements.Contains-append_right}
use Rattle.dma_insn.specs.declared.chip.ChipInsn.{ChipInsn}
use Rattle.dma_insn.specs.declared.chip.ChipInsn.TheVariants.{St, End, StoreZeros}
use Rattle.dma_mem.specs.{Places.destinations, Marking.MarkList}
use Rattle.dma_chan.specs.Channel.{ChannelValue, ahead_of, bytes_of_program, state_of, step_of}
use Rattle.dma_chan.specs.Stepping.{Machine, answer_at, after_step, after_steps, goes_on_after}
use Rattle.dma_chan.specs.{declared.bus.Bus.Bus, declared.exec.Registers.Registers, declared.turn.ChanTurn.ChanTurn, declared.turn.ChanTurn.TheVariants.Moved}
use Rattle.dma_chan.specs.{declared.turn.ChanTurn.TheVariants.Ended, declared.turn.FaultKind.FaultKind, Bursts.touched, Exec.State, Exec.destination_of}
use Rattle.dma_chan.specs.{Exec.moved, Next.next_on, NextWrites.written_by, NextWrites.written_next, Programs.ProgramValue}
use Rattle.dma_explain.specs.Explains.{Executes, Explains, GoesOn, IsIn, StartsWith, Trace, Work, after_fetch, after_insn, cleared, next_in, traced, written}
use Rattle.dma_explain.specs.CallStays.{LoadExecutes, CallStaysIn}
use Rattle.dma_explain.proofs.{GoingOn.Can, GoingOn.can_next, GoingOn.few_at, Traced.Inside, Traced.grows_to}
use Rattle.dma_chan.proofs.{NextFits.next_longer, CallWrites.act_leads, CallWrites.does_next, CallWrites.turned, StepsTaken.steps_move, SteppedOver.was_moved}
use Rattle.dma_chan.proofs.{SteppedOver.went_before, SteppedOver.writes_each}

-- the instruction after k others: it goes on, or it is DMAEND after all n
pub data Nexts (start : Registers) (program : List ℕ) (work : Work) (n k : ℕ) : Type 0 where
  Goes : (i : ChipInsn) → k < n → next_in program (traced start program k) ≡ Ok i → Can i (traced start program k) → Nexts start program work n k
  Ends : k ≡ n → next_in program (traced start program k) ≡ Ok End → Nexts start program work n k

next_alike : (bus : Bus) (program : List ℕ) (o : Option ProgramValue) (pc : ℕ) (i : ChipInsn) → IsSomeAnd o (λ p. StartsWith p program)
    → next_on bus program pc ≡ Ok i → next_on bus (bytes_of_program o) pc ≡ Ok i
next_alike bus program None pc i b h = absurd b
next_alike bus program (Some p) pc i b h = ap (λ (xs : List ℕ). next_on bus xs pc) b.1 ∙ next_longer bus program b.0 pc i h

-- the next instruction of a channel whose program begins with these bytes
pub ahead_at : (start : Registers) (program : List ℕ) (k : ℕ) (i : ChipInsn) (c : ChannelValue) → IsSomeAnd c.program (λ p. StartsWith p program)
    → c.registers ≡ (traced start program k).registers → next_in program (traced start program k) ≡ Ok i → ahead_of c ≡ Ok i
ahead_at start program k i c begins at next =
    next_alike c.registers.bus program c.program c.registers.pc i begins (ap (λ (r : Registers). next_on r.bus program r.pc) at ∙ next)

-- DMAEND doesn't move
pub ends_then : (marks : MarkList) (u : Machine) → ahead_of u.channel ≡ Ok End → answer_at marks u ≡ Ended
ends_then marks u ahead = ap (λ (x : ChanTurn × State). x.0) (does_next marks End u ahead)

pub registers_after : (i : ChipInsn) (x : Trace) → (after_insn i x).registers ≡ moved i x.registers
registers_after i x = grind (arith)

module _ (start : Registers) (program : List ℕ) (work : Work) (n : ℕ) (h : Explains start program work n) where
  fetched : (k : ℕ) → k < n → (r : Result ChipInsn FaultKind) → next_in program (traced start program k) ≡ r → GoesOn r (traced start program k)
      → Nexts start program work n k
  fetched k l (Ok i) e go = Goes i l e (can_next i (traced start program k) (few_at start program k (λ j m. h.goes j (omega arith))) go)
  fetched k l (Err kind) e go = absurd (let bad = go.1 in cc)

  pub nexts : (k : ℕ) → k ≤ n → Nexts start program work n k
  nexts k l =
      elim (cases_lt k n) [
        | inl less ↦ fetched k less (next_in program (traced start program k)) refl (h.goes k less)
        | inr ge ↦ let e : k ≡ n = omega arith in Ends e (ap (λ (j : ℕ). next_in program (traced start program j)) e ∙ h.ends)
      ]

  -- what is read and written so far is a part of the copy
  pub inside : (k : ℕ) → k ≤ n → Inside work (traced start program k)
  inside k l =
      let g = grows_to start program k n l in
      record {
        loads_rest = g.more_loads;
        stores_rest = g.more_stores;
        zeros_rest = g.more_zeros;
        loads = sym h.loads ∙ g.loads;
        stores = sym h.stores ∙ g.stores;
        zeros = sym h.zeros ∙ g.zeros;
      }

  pub traced_next : (k : ℕ) (i : ChipInsn) → next_in program (traced start program k) ≡ Ok i
      → traced start program (suc k) ≡ after_insn i (traced start program k)
  traced_next k i e = ap (λ (r : Result ChipInsn FaultKind). after_fetch r (traced start program k)) e

  -- what its next instruction writes is stored or set to 0 by it
  insn_writes : (k a : ℕ) (i : ChipInsn) → k < n → next_in program (traced start program k) ≡ Ok i
      → Contains (written_by (Ok i) (traced start program k).registers) a → Contains (written work) a
  insn_writes k a St less next j =
      let x = traced start program k in
      let b = destination_of x.registers in
      let part = inside (suc k) (omega (arith, less)) in
      let now : Contains (x.stores ++ touched b) a = Contains-append_right x.stores (touched b) a j in
      let later = subst (λ (y : Trace). Contains y.stores a) (sym (traced_next k St next)) now in
      Contains-append_left (destinations work.copy) (cleared work) a
      (subst (λ (xs : List ℕ). Contains xs a) (sym part.stores) (Contains-append_left (traced start program (suc k)).stores part.stores_rest a later))
  insn_writes k a StoreZeros less next j =
      let x = traced start program k in
      let b = destination_of x.registers in
      let part = inside (suc k) (omega (arith, less)) in
      let now : Contains (x.zeros ++ touched b) a = Contains-append_right x.zeros (touched b) a j in
      let later = subst (λ (y : Trace). Contains y.zeros a) (sym (traced_next k StoreZeros next)) now in
      Contains-append_right (destinations work.copy) (cleared work) a
      (subst (λ (xs : List ℕ). Contains xs a) (sym part.zeros) (Contains-append_left (traced start program (suc k)).zeros part.zeros_rest a later))
  insn_writes k a i less next j = absurd (omega (arith, j.1))

  next_writes : (k : ℕ) (c : ChannelValue) (a : ℕ) (i : ChipInsn) → c.registers ≡ (traced start program k).registers → ahead_of c ≡ Ok i
      → Contains (written_next c) a → Contains (written_by (Ok i) (traced start program k).registers) a
  next_writes k c a i at ahead w = grind arith

  pub next_inside : (k : ℕ) (c : ChannelValue) (a : ℕ) → IsIn start program n k c → Nexts start program work n k → Contains (written_next c) a
      → Contains (written work) a
  next_inside k c a w (Goes i less next go) j =
      insn_writes k a i less next (next_writes k c a i w.registers (ahead_at start program k i c w.begins w.registers next) j)
  next_inside k c a w (Ends e next) j =
      let none = next_writes k c a End w.registers (ahead_at start program k End c w.begins w.registers next) j in absurd (omega (arith, none.1))

  moved_by_next : (marks : MarkList) (k : ℕ) (u : Machine) → IsIn start program n k u.channel → Nexts start program work n k → answer_at marks u ≡ Moved
      → IsIn start program n (suc k) (after_step marks u).channel
  moved_by_next marks k u w (Ends e next) moves =
      let over = ends_then marks u (ahead_at start program k End u.channel w.begins w.registers next) in
      let bad : Ended ≡ Moved = sym over ∙ moves in absurd (cc)
  moved_by_next marks k u w (Goes i less next go) moves =
      let c = u.channel in
      let x = step_of marks c u.image u.flags in
      let does = does_next marks i u (ahead_at start program k i c w.begins w.registers next) in
      let new : x.1.registers ≡ moved i c.registers = ap (λ (y : ChanTurn × State). y.1.registers) does
      ∙ act_leads marks i (state_of c u.image u.flags) (sym (ap (λ (y : ChanTurn × State). y.0) does) ∙ moves) in
      let there : moved i c.registers ≡ (traced start program (suc k)).registers = grind (arith, registers_after, traced_next) in
      subst (IsIn start program n (suc k)) (sym (turned marks u Moved moves))
      (record { begins = w.begins; within = omega (arith, less); registers = new ∙ there })

  moved_in : (marks : MarkList) (k : ℕ) (u : Machine) → IsIn start program n k u.channel → answer_at marks u ≡ Moved
      → IsIn start program n (suc k) (after_step marks u).channel
  moved_in marks k u w moves = moved_by_next marks k u w (nexts k w.within) moves

  after_one : (marks : MarkList) (k : ℕ) (u : Machine) (turn : ChanTurn) → IsIn start program n k u.channel → answer_at marks u ≡ turn
      → Executes start program n (after_step marks u).channel ⊎ ((after_step marks u).channel.program ≡ None)
  after_one marks k u Moved w e = inl (suc k, moved_in marks k u w e)
  after_one marks k u Ended w e = inr (ap (λ (c : ChannelValue). c.program) (turned marks u Ended e))
  after_one marks k u turn w e = inl (k, subst (IsIn start program n k) (sym (turned marks u turn e)) w)

  -- steps that all moved
  pub many_in : (marks : MarkList) (s : Machine) (j : ℕ) → Executes start program n s.channel → ((k : ℕ) → k < suc j → goes_on_after marks s k ≡ true)
      → Executes start program n (after_steps marks s j).channel
  many_in marks s zero w moves = w
  many_in marks s (suc j) w moves =
      let u = after_steps marks s j in
      let v = many_in marks s j w (λ k l. moves k (omega arith)) in
      (suc v.0, moved_in marks v.0 u v.1 (was_moved (ahead_of u.channel) (answer_at marks u) (went_before marks s (suc j) (moves (suc j) (omega arith)))))

  last_in : (marks : MarkList) (s : Machine) (taken : ℕ) → Executes start program n s.channel → ((k : ℕ) → k < taken → goes_on_after marks s k ≡ true)
      → Executes start program n (after_steps marks s taken).channel ⊎ ((after_steps marks s taken).channel.program ≡ None)
  last_in marks s zero w moves = inl w
  last_in marks s (suc j) w moves =
      let u = after_steps marks s j in
      let v = many_in marks s j w moves in
      after_one marks v.0 u (answer_at marks u) v.1 refl

pub load_executes : LoadExecutes
load_executes start program n c l = grind arith

pub call_stays_in : CallStaysIn
call_stays_in start program work n marks s most taken last after h w steps = record {
  writes = λ a i.
      let by = writes_each marks s taken a (steps_move steps) i in
      let v = many_in start program work n h marks s by.0 w (λ k l. steps_move steps k (omega (arith, by.1))) in
      next_inside start program work n h v.0 (after_steps marks s by.0).channel a v.1 (nexts start program work n h v.0 v.1.within) by.3;
  channel = subst (λ (u : Machine). Executes start program n u.channel ⊎ (u.channel.program ≡ None)) (sym steps.ends_at)
      (last_in start program work n h marks s taken w (steps_move steps));
}

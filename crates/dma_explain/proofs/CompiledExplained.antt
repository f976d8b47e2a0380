-- From any registers and on each bus a transfer explains its program that was compiled for that bus, which has its
-- events.
use Rattle.std.proofs.Common.{◌≡◌, ℕ, zero, suc, ◌+◌, ◌-◌, ◌≤◌, ◌<◌, List, [], append-nil, length, take, refl, sym, ap, ◌∙◌, subst, arith, Ok, ◌≢◌}
use Rattle.std.proofs.Common.{false, Option, None, inl, inr}
use Rattle.std.specs.{Prelude.IfSome, List.AllPairs}
use Rattle.std.proofs.{lemmas.Bool.cases_lt, lemmas.Bool.le-ltb, lemmas.List.length-take-le, lemmas.List.take_all, Math.Seq.take-add}
use Rattle.dma_insn.specs.declared.chip.ChipInsn.{ChipInsn}
use Rattle.dma_insn.specs.declared.chip.ChipInsn.TheVariants.{Ld, St, End, Sev, Wfe, StoreZeros}
use Rattle.dma_mem.specs.{Places.Apart, Places.Descriptor, Places.sources, Places.destinations, Places.size_of, Rules.IsTransfer}
use Rattle.dma_chan.specs.Compiled.{compiled, compiled_on, cost, cost_on, members_on, tree_on}
use Rattle.dma_chan.specs.Exec.{begun, start_on, moved}
use Rattle.dma_chan.specs.{declared.bus.Bus.Bus, declared.bus.Bus.TheVariants.Ideal, declared.exec.Registers.Registers}
use Rattle.dma_chan.specs.{Next.next_of, Tree.bytes_of, inner.At.moved_by}
use Rattle.dma_explain.specs.OnBuses.{CompiledEvents, CompiledExplained, CompiledOnBus}
use Rattle.dma_explain.specs.Explains.{GoesOn, IsWork, Trace, all_of, amounts_of, held, only, written, stop_of, stop_of_insn, after_fetch}
use Rattle.dma_explain.specs.Explains.{after_insn, next_in, traced}
use Rattle.dma_chan.proofs.MembersByNumber.{at_on, begin_on, bus_on, carries_on, fetches_on, member_on, next_on, registers_on}
use Rattle.dma_chan.proofs.ShapeLaws.{all_stored, end_last, end_only, signal_last, signal_only, wait_first, wait_only}
use Rattle.dma_chan.proofs.{NextFits.next_widens, BurstsInTurn.Progress, BurstsInTurn.advanced, BurstsInTurn.CarriesOne, ControlWords.aligned_len}
use Rattle.dma_chan.proofs.{ControlWords.touched_from, MemberActs.cannot_jump, TreeCosts.cost_below, TreeCosts.some_on, TreeWalk.CanJump}
use Rattle.dma_explain.proofs.{GoingOn.ends_low, GoingOn.mov_empty, GoingOn.passed, TraceParts.same_amounts}

-- a trace of a part of a copy, by the bytes stored and those in the buffer
pub record Traces (src dst : List ℕ) (p : Progress) (x : Trace) : Type 0 where
  pub registers : x.registers ≡ p.registers
  pub loads : x.loads ≡ take (p.stored + p.held) src
  pub stores : x.stores ≡ take p.stored dst
  pub zeros : x.zeros ≡ []
  pub in_src : p.stored + p.held ≤ length src
  pub in_dst : p.stored ≤ length dst

module _ (bus : Bus) (src dst : List ℕ) (p : Progress) (x : Trace) (w : Traces src dst p x) where
  all_loads : length x.loads ≡ p.stored + p.held
  all_loads = ap length w.loads ∙ length-take-le (p.stored + p.held) src w.in_src

  all_stores : length x.stores ≡ p.stored
  all_stores = ap length w.stores ∙ length-take-le p.stored dst w.in_dst

  -- an instruction that moves no byte
  same_insn : (i : ChipInsn) → Traces src dst (record p { registers = moved i p.registers }) (record x { registers = moved i x.registers })
  same_insn i = record { registers = ap (moved i) w.registers; loads = w.loads; stores = w.stores; zeros = w.zeros; in_src = w.in_src; in_dst = w.in_dst }

  load : CarriesOne bus src dst Ld p → Traces src dst (advanced Ld p) (after_insn Ld x)
  load c = grind (arith, take-add)

  store : CarriesOne bus src dst St p → Traces src dst (advanced St p) (after_insn St x)
  store c = grind (arith, aligned_len, touched_from, take-add)

  advances : (i : ChipInsn) → CarriesOne bus src dst i p → Traces src dst (advanced i p) (after_insn i x)
  advances Ld c = load c
  advances St c = store c
  advances StoreZeros c = absurd c
  advances i c = same_insn i

-- an instruction that is carried is part of a copy, unless it is DMAEND
module _ (bus : Bus) (src dst : List ℕ) (p : Progress) (x : Trace) (full : held x ≡ p.held) (on : p.registers.bus ≡ bus) where
  abbrev here : Trace
  here = record x { registers = p.registers }

  passes_on : (i : ChipInsn) → i ≢ End → CarriesOne bus src dst i p → CanJump i p.registers → stop_of_insn i here ≡ None
  passes_on i h h2 h3 = grind (arith, aligned_len, passed, le-ltb, ends_low, mov_empty, cannot_jump)

module _ (start : Registers) (t : Descriptor) (h : IsTransfer t) where
  abbrev pub program : List ℕ
  program = (compiled_on start.bus t).bytes

  bytes_are : program ≡ bytes_of (tree_on start.bus t)
  unfolding compiled_on
  bytes_are = refl

  -- how far the trace is
  abbrev pub TracesAt : ℕ → Type 0
  TracesAt k = Traces (sources t) (destinations t) (at_on start t k) (traced start program k)

  pub next : (k : ℕ) → k < cost_on start.bus t → TracesAt k → next_in program (traced start program k) ≡ Ok (member_on start.bus t k)
  next k l w =
      next_widens (traced start program k).registers.bus program (traced start program k).registers.pc (member_on start.bus t k)
      (ap (λ (r : Registers). next_of program r.pc) (w.registers ∙ registers_on start t k)
      ∙ ap (λ (xs : List ℕ). next_of xs (moved_by (take k (members_on start.bus t)) (begun start)).pc) bytes_are
      ∙ (fetches_on start t k h l).next)

  pub along : (k : ℕ) → k < cost_on start.bus t → TracesAt k
  along zero l = grind (arith, begin_on)
  along (suc k) l =
      let less : k < cost_on start.bus t = omega arith in
      let w = along k less in
      let i = member_on start.bus t k in
      let e : k + 1 ≡ suc k = omega arith in
      let is : at_on start t (suc k) ≡ advanced i (at_on start t k) = ap (at_on start t) (sym e) ∙ next_on start t k less in
      let to : traced start program (suc k) ≡ after_insn i (traced start program k) = ap (λ r. after_fetch r (traced start program k)) (next k less w) in
      subst (λ (p : Progress). Traces (sources t) (destinations t) p (traced start program (suc k))) (sym is)
      (subst (λ (x : Trace). Traces (sources t) (destinations t) (advanced i (at_on start t k)) x) (sym to)
      (advances start.bus (sources t) (destinations t) (at_on start t k) (traced start program k) w i (carries_on start t k h less)))

  stored_at : (k : ℕ) → k < cost_on start.bus t → length (traced start program k).stores ≡ (at_on start t k).stored
  stored_at k l = all_stores start.bus (sources t) (destinations t) (at_on start t k) (traced start program k) (along k l)

  held_at : (k : ℕ) → k < cost_on start.bus t → held (traced start program k) ≡ (at_on start t k).held
  held_at k l = omega (arith, stored_at k l, all_loads start.bus (sources t) (destinations t) (at_on start t k) (traced start program k) (along k l))

  pub fetched : (k : ℕ) → k < cost_on start.bus t → next_in program (traced start program k) ≡ Ok (member_on start.bus t k)
  fetched k l = next k l (along k l)

  -- each member but the last goes on
  goes : (k : ℕ) → k + 1 < cost_on start.bus t → GoesOn (next_in program (traced start program k)) (traced start program k)
  goes k l =
      let less : k < cost_on start.bus t = omega arith in
      let x = traced start program k in
      let w = along k less in
      let p = at_on start t k in
      let jump = subst (λ (r : Registers). CanJump (member_on start.bus t k) r) (sym (registers_on start t k)) (fetches_on start t k h less).jump in (
        λ over.
            let ended : Ok (member_on start.bus t k) ≡ Ok End = sym (fetched k less) ∙ over in
            let is : member_on start.bus t k ≡ End = cc in
            omega (arith, end_only start.bus t k less is),
        subst (λ next. stop_of next x ≡ None) (sym (fetched k less))
            (subst (λ (r : Registers). stop_of_insn (member_on start.bus t k) (record x { registers = r }) ≡ None) (sym w.registers)
            (passes_on start.bus (sources t) (destinations t) p x (held_at k less) (bus_on start t k) (member_on start.bus t k)
            (λ e. let last = end_only start.bus t k less e in omega (arith, last)) (carries_on start t k h less) jump)),
      )

  -- the first instruction waits, and the last before DMAEND signals
  pub is_member : (k : ℕ) (i : ChipInsn) → k < cost_on start.bus t → next_in program (traced start program k) ≡ Ok i → member_on start.bus t k ≡ i
  is_member k i l e = let same : Ok (member_on start.bus t k) ≡ Ok i = sym (fetched k l) ∙ e in cc

  signalled : (k e : ℕ) → k + 2 ≡ cost_on start.bus t → member_on start.bus t k ≡ Sev e → amounts_of (traced start program k) ≡ all_of (only t)
  signalled k e last is =
      let next_last : k + 1 ≡ cost_on start.bus t - 1 = omega (arith, last) in
      let less : k < cost_on start.bus t = omega (arith, last) in
      let still : (at_on start t (k + 1)).stored ≡ (at_on start t k).stored =
      ap (λ (p : Progress). p.stored) (next_on start t k less) ∙ ap (λ (i : ChipInsn). (advanced i (at_on start t k)).stored) is in
      let all : length (traced start program k).stores ≡ size_of t = stored_at k less ∙ sym still ∙ ap (λ (n : ℕ). (at_on start t n).stored) next_last
      ∙ all_stored start t h in
      same_amounts all (ap length (along k less).zeros)

-- a copy alone does nothing else
only_work : (t : Descriptor) → IsTransfer t → IsWork (only t)
only_work t h =
    let same : destinations t ≡ written (only t) = sym (append-nil (destinations t)) in
    record {
      same_length = h.same_length;
      once = subst (AllPairs (λ a b. a ≢ b)) same h.once;
      apart = subst (Apart (sources t)) same h.apart;
    }

pub compiled_on_bus : CompiledOnBus
compiled_on_bus start t h =
    let some = some_on start.bus t in
    let last = cost_on start.bus t - 1 in
    let w = along start t h last (omega arith) in
    let stored = all_stored start t h in
    record {
      goes = λ k l. goes start t h k (omega arith);
      ends = fetched start t h last (omega arith) ∙ ap (λ (i : ChipInsn). Ok i) (end_last start.bus t h);
      loads = w.loads ∙ take_all _ (sources t) (omega (arith, stored, h.same_length));
      stores = w.stores ∙ take_all _ (destinations t) (omega (arith, stored));
      zeros = w.zeros;
      few = let low = cost_below start.bus t h in omega arith;
      work = only_work t h;
    }

pub compiled_explained : CompiledExplained
unfolding compiled cost
compiled_explained t h = compiled_on_bus (start_on Ideal) t h

pub compiled_events : CompiledEvents
compiled_events start t h = record {
  waits = λ e w. wait_only start.bus t w.step e w.invalid (is_member start t h w.step (Wfe e w.invalid) (let l = w.within in omega arith) w.waits);
  signals = λ e done s.
      let is = is_member start t h s.step (Sev e) (let l = s.within in omega arith) s.signals in
      let last = signal_only start.bus t s.step e is in
      (last.1, sym s.after ∙ signalled start t h s.step e last.0 is);
  has_wait = λ e known.
      let is = subst (λ (o : Option ℕ). IfSome o (λ v. member_on start.bus t 0 ≡ Wfe v false)) known (wait_first start.bus t) in
      let some = some_on start.bus t in
      elim (cases_lt 1 (cost_on start.bus t)) [
        | inl more ↦ record { step = 0; within = omega arith; invalid = false; waits = fetched start t h 0 (omega arith) ∙ ap (λ (i : ChipInsn). Ok i) is }
        | inr one ↦
            let zero_last : cost_on start.bus t - 1 ≡ 0 = omega arith in
            let bad : End ≡ Wfe e false = sym (end_last start.bus t h) ∙ ap (member_on start.bus t) zero_last ∙ is in
            absurd (cc)
      ];
  has_signal = λ e known.
      let last = subst (λ (o : Option ℕ). IfSome o (λ v. (2 ≤ cost_on start.bus t) × (member_on start.bus t (cost_on start.bus t - 2) ≡ Sev v))) known
      (signal_last start.bus t) in
      record {
        step = cost_on start.bus t - 2;
        within = omega (arith, last.0);
        signals = fetched start t h (cost_on start.bus t - 2) (omega (arith, last.0)) ∙ ap (λ (i : ChipInsn). Ok i) last.1;
        after = signalled start t h (cost_on start.bus t - 2) e (omega (arith, last.0)) last.1;
      };
}

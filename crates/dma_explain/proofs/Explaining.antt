-- The run that explains a program, step after step.
use Rattle.std.proofs.Common.{◌≡◌, ◌≢◌, ℕ, suc, ◌+◌, ◌-◌, ◌≤◌, ◌<◌, List, ◌++◌, length, length-append, Option, Some, None, Result, Ok}
use Rattle.std.proofs.Common.{sym, ap, ◌∙◌, subst, arith, inl, inr}
use Rattle.std.specs.{Prelude.nat_lt, List.AllPairs}
use Rattle.std.proofs.lemmas.Bool.{cases_lt, le-ltb, ltb-false}
use Rattle.dma_insn.specs.declared.chip.ChipInsn.TheVariants.{End}
use Rattle.dma_insn.specs.{Chip.spelling, declared.chip.ChipInsn.ChipInsn}
use Rattle.dma_mem.specs.Places.{Apart, copying, destinations, places, share, sources}
use Rattle.dma_mem.proofs.SharedPlaces.{share_false, share_none}
use Rattle.dma_chan.specs.{declared.exec.Registers.Registers, declared.turn.FaultKind.FaultKind, Channel.last_count, Next.next_on}
use Rattle.dma_explain.specs.declared.explain.Cause.TheVariants.{BytesLeft, StoresSource, StoresTwice}
use Rattle.dma_explain.specs.declared.explain.Cause.TheVariants.{TooLong}
use Rattle.dma_explain.specs.Explains.{ExplainedOnce, Explains, Finds, FoundOnce, GoesOn, HasAddress, IsWork, RefusedUnexplained, Refuses, StopsAt, Trace, Work}
use Rattle.dma_explain.specs.Explains.{after_fetch, after_insn, all_of, amounts_of, bursts_in, cleared, counted, events_in, happening_of, has_twice, held}
use Rattle.dma_explain.specs.Explains.{items_in, items_of, next_in, stop_of, stop_of_insn, stop_of_lists, traced, unrolled, work_of, written, written_in}
use Rattle.dma_explain.specs.{Items.Items, Items.with_burst, Late.late_after, Late.late_in}
use Rattle.dma_explain.specs.inner.Tracing.{Advances, AreItems, CountsOf, Follows, IsCopied, IsNew, Leads, Reaches, lists_of, total_of, trace_of}
use Rattle.dma_explain.specs.{declared.explain.BurstCounts.BurstCounts, declared.explain.Cause.Cause}
use Rattle.dma_explain.specs.{declared.explain.Explained.Explained, declared.explain.Happening.Happening, declared.explain.tracer.Tracer.Tracer}
use Rattle.dma_explain.proofs.{GoingOn.none_first, GoingOn.passed, TraceParts.same_lists, LowestPlaces.none_twice, LowestPlaces.once_of}
use Rattle.dma_chan.proofs.NextFits.{next_fits}

-- ---- step after step

pub follows_new : (start : Registers) (program : List ℕ) (x : Tracer) → IsNew start x → Follows start program 0 x
follows_new start program x h = grind arith

pub next_here : (start : Registers) (program : List ℕ) (n : ℕ) (x : Tracer) (r : Result ChipInsn FaultKind) → Follows start program n x
    → r ≡ next_on x.registers.bus program x.registers.pc → next_in program (traced start program n) ≡ r
next_here start program n x r w e = ap (λ (y : Trace). next_on y.registers.bus program y.registers.pc) (sym w.reaches.trace) ∙ sym e

-- one more instruction
pub reaches_on : {start : Registers} {program : List ℕ} {n : ℕ} {z : Trace} {es : List Happening} {is : Items} {bs : BurstCounts} (i : ChipInsn)
    → Reaches start program n z es is bs → next_in program z ≡ Ok i → i ≢ End → stop_of_insn i z ≡ None
    → Reaches start program (n + 1) (after_insn i z) (es ++ happening_of (Ok i) (amounts_of z)) (with_burst (Ok i) z.registers is) (counted (Ok i) bs)
reaches_on {start} {program} {n} {z} i w e other stops =
    let here = traced start program n in
    let next : next_in program here ≡ Ok i = ap (next_in program) (sym w.trace) ∙ e in
    let to : traced start program (suc n) ≡ after_insn i here = ap (λ r. after_fetch r here) next in
    let number : n + 1 ≡ suc n = omega arith in
    let goes : GoesOn (next_in program here) here = (
      λ over. let same : Ok i ≡ Ok End = sym next ∙ over in let is : i ≡ End = cc in other is,
      ap (λ r. stop_of r here) next ∙ ap (stop_of_insn i) (sym w.trace) ∙ stops,
    ) in
    record {
      trace = ap (after_insn i) w.trace ∙ sym to ∙ ap (traced start program) (sym number);
      goes = λ k l. elim (cases_lt k n) [
        | inl less ↦ w.goes k less
        | inr ge ↦
            let is : n ≡ k = omega (arith, l) in
            subst (λ (j : ℕ). GoesOn (next_in program (traced start program j)) (traced start program j)) is goes
      ];
      events_are =
          ap (λ (es : List Happening). es ++ happening_of (Ok i) (amounts_of z)) w.events_are
          ∙ ap (λ (x : Trace). events_in start program n ++ happening_of (Ok i) (amounts_of x)) w.trace
          ∙ ap (λ r. events_in start program n ++ happening_of r (amounts_of here)) (sym next)
          ∙ ap (events_in start program) (sym number);
      items_are =
          ap (with_burst (Ok i) z.registers) w.items_are
          ∙ ap (λ (x : Trace). with_burst (Ok i) x.registers (items_in start program n)) w.trace
          ∙ ap (λ r. with_burst r here.registers (items_in start program n)) (sym next)
          ∙ ap (items_in start program) (sym number);
      bursts_are =
          ap (counted (Ok i)) w.bursts_are
          ∙ ap (λ r. counted r (bursts_in start program n)) (sym next)
          ∙ ap (bursts_in start program) (sym number);
    }

-- the first instruction that moves the destination too late, with one more instruction
pub late_on : (start : Registers) (program : List ℕ) (n : ℕ) (z : Trace) (i : ChipInsn) (before after : Option ℕ) → z ≡ traced start program n
    → next_in program (traced start program n) ≡ Ok i → before ≡ late_in start program n → after ≡ late_after (Ok i) z before
    → after ≡ late_in start program (n + 1)
late_on start program n z i before after trace next was is =
    let here = traced start program n in
    let number : suc n ≡ n + 1 = omega arith in
    is
    ∙ ap (λ (x : Trace). late_after (Ok i) x before) trace
    ∙ ap (late_after (Ok i) here) was
    ∙ ap (λ r. late_after r here (late_in start program n)) (sym next)
    ∙ ap (late_in start program) number

pub follows_on : (program : List ℕ) (x y : Tracer) (i : ChipInsn) → Ok i ≡ next_on x.registers.bus program x.registers.pc → i ≢ End
    → Advances i x y → y.registers.pc ≤ x.registers.pc + length (spelling i) → total_of y ≤ total_of x + 256 → Leads program 1 x y
follows_on program x y i e other a jump more start n w =
    let fits = next_fits x.registers.bus program x.registers.pc i w.pc (sym e) in
    let on = reaches_on i w.reaches (sym e) other a.goes in
    record {
      tracer = record {
        few = a.tracer.few;
        held = a.tracer.held;
        room = a.tracer.room;
        done = a.tracer.done;
        items = a.tracer.items;
      };
      reaches = record {
        trace = a.trace ∙ on.trace;
        goes = on.goes;
        events_are = a.events ∙ on.events_are;
        items_are = a.lists ∙ on.items_are;
        bursts_are = a.bursts ∙ on.bursts_are;
      };
      pc = omega (arith, fits, jump);
      stored = omega (arith, w.stored, more);
      counts = grows_one (Ok i) n x.bursts y.bursts w.counts a.bursts;
      late = late_on start program n (trace_of x) i x.late y.late w.reaches.trace (next_here start program n x (Ok i) w e) w.late a.late;
    }
  where
    grows_one : (r : Result ChipInsn FaultKind) (n : ℕ) (b c : BurstCounts) → CountsOf n b → c ≡ counted r b → CountsOf (n + 1) c
    grows_one r n b c h e = grind arith

-- ---- DMAEND

-- the lists at DMAEND are those of a copy and of zeros
record Copies (z : Trace) : Type 0 where
  same_length : length z.loads ≡ length z.stores
  once : AllPairs (λ a b. a ≢ b) (written_in z)
  apart : Apart z.loads (written_in z)

copies : (z : Trace) → length z.stores ≤ length z.loads → stop_of_insn End z ≡ None → Copies z
copies z few e =
    let none_left = none_first (nat_lt 0 (held z)) BytesLeft _ e in
    let none_again = none_first (has_twice (written_in z)) StoresTwice _ none_left.1 in
    let none_shared = none_first (share z.loads (written_in z)) StoresSource None none_again.1 in
    record {
      same_length = omega (arith, few, ltb-false 0 (held z) none_left.0);
      once = once_of (written_in z) none_again.0;
      apart = share_false z.loads (written_in z) none_shared.0;
    }

-- nothing stops a work at DMAEND
ends : (w : Work) (z : Trace) → IsWork w → z.loads ≡ sources w.copy → z.stores ≡ destinations w.copy → z.zeros ≡ cleared w → stop_of_insn End z ≡ None
ends w z work loads stores zeros =
    let from = sources w.copy in
    let to = written w in
    let empty : held z ≤ 0 = omega (arith, work.same_length, ap length loads, ap length stores) in
    let writes : written_in z ≡ to = ap (λ (xs : List ℕ). xs ++ z.zeros) stores ∙ ap (λ (xs : List ℕ). destinations w.copy ++ xs) zeros in
    let lists : stop_of_lists from to ≡ None = grind (arith, passed, none_twice, share_none) in
    passed (nat_lt 0 (held z)) BytesLeft _ (le-ltb 0 (held z) empty)
    (ap (λ (xs : List ℕ). stop_of_lists xs (written_in z)) loads ∙ ap (stop_of_lists from) writes ∙ lists)

pub finds : (start : Registers) (program : List ℕ) (n count : ℕ) (x : Tracer) (y : Explained) → Follows start program n x
    → Ok End ≡ next_on x.registers.bus program x.registers.pc → n < last_count → (most : ℕ) → n < most → count ≡ n + 1 → IsCopied x count y
    → Finds start program most y
finds start program n count x y w e few most less is c =
    let work : Work = record { copy = copying (unrolled x.src.items) x.dst.items None None; zeros = x.zeros.items } in
    let same : work ≡ work_of y = grind (arith) in
    let copy = copies (trace_of x) w.tracer.few c.ends in
    let lists : lists_of x ≡ items_of y = same_lists (ap (λ v. v.items) (sym c.src)) (ap (λ v. v.items) (sym c.dst)) (ap (λ v. v.items) (sym c.zeros)) in
    let items = subst AreItems lists w.tracer.items in
    let all : Explains start program work n = record {
      goes = w.reaches.goes;
      ends = next_here start program n x (Ok End) w e;
      loads = ap (λ (z : Trace). z.loads) (sym w.reaches.trace);
      stores = ap (λ (z : Trace). z.stores) (sym w.reaches.trace);
      zeros = ap (λ (z : Trace). z.zeros) (sym w.reaches.trace);
      few = few;
      work = record { same_length = copy.same_length; once = copy.once; apart = copy.apart };
    } in
    record {
      before = n;
      steps = c.steps ∙ is;
      few = omega (arith, c.steps, is, less);
      src = items.reads;
      dst = items.writes;
      zeros = items.zeros;
      src_joined = items.reads_joined;
      dst_joined = items.writes_joined;
      zeros_joined = items.zeros_joined;
      items = sym lists ∙ w.reaches.items_are;
      explains = subst (λ (u : Work). Explains start program u n) same all;
      size = c.size ∙ w.tracer.done ∙ ap all_of same;
      events = ap (λ v. v.items) c.events ∙ w.reaches.events_are;
    }

-- the counts of a run to DMAEND are those of the instructions before it
pub counts_bursts : (start : Registers) (program : List ℕ) (n count : ℕ) (x : Tracer) (y : Explained) → Follows start program n x → count ≡ n + 1
    → IsCopied x count y → y.bursts ≡ bursts_in start program (y.steps - 1)
counts_bursts start program n count x y w is c = grind arith

-- and so is its first instruction that moves the destination too late
pub counts_late : (start : Registers) (program : List ℕ) (n count : ℕ) (x : Tracer) (y : Explained) → Follows start program n x → count ≡ n + 1
    → IsCopied x count y → y.late ≡ late_in start program (y.steps - 1)
counts_late start program n count x y w is c =
    let all : n ≡ y.steps - 1 = omega (arith, c.steps, is) in
    c.late ∙ w.late ∙ ap (late_in start program) all

-- ---- refusals

-- why a program stops at its next instruction
pub stops_here : (start : Registers) (program : List ℕ) (most n : ℕ) (x : Tracer) (r : Result ChipInsn FaultKind) (cause : Cause) → Follows start program n x
    → r ≡ next_on x.registers.bus program x.registers.pc → n < most → stop_of r (trace_of x) ≡ Some cause → StopsAt start program most n cause
stops_here start program most n x r cause w e less stop = grind (arith, next_here)

-- a refusal has the place of its tracer
pub refuses : (start : Registers) (program : List ℕ) (most n : ℕ) (x : Tracer) (cause : Cause) (a stored : ℕ) → Follows start program n x
    → StopsAt start program most n cause → HasAddress cause (places (unrolled x.src.items)) (written_in (trace_of x)) a → stored ≡ total_of x
    → Refuses start program most (record { cause = cause; pc = x.registers.pc; steps = n; addr = a; stored = stored })
refuses start program most n x cause a stored w stops has total = grind (arith, length-append)

-- an instruction before DMAEND stops for none of these causes
never_twice : (i : ChipInsn) (z : Trace) → i ≢ End → stop_of_insn i z ≢ Some StoresTwice
never_twice i z other = grind arith

never_source : (i : ChipInsn) (z : Trace) → i ≢ End → stop_of_insn i z ≢ Some StoresSource
never_source i z other = grind arith

pub never_long : (i : ChipInsn) (z : Trace) → i ≢ End → stop_of_insn i z ≢ Some TooLong
never_long i z other = grind arith

-- so its cause has no address
pub has_none : (i : ChipInsn) (z : Trace) → i ≢ End → (cause : Cause) (loads stores : List ℕ) → stop_of_insn i z ≡ Some cause
    → HasAddress cause loads stores 0
has_none i z h cause loads stores h2 = grind (arith, never_twice, never_source)

pub refused_unexplained : RefusedUnexplained
refused_unexplained start program most u r w n l h =
    let z = traced start program n in
    let none : stop_of (next_in program z) z ≡ None = ap (λ q. stop_of q z) h.ends ∙ ends w z h.work h.loads h.stores h.zeros in
    elim (cases_lt n u.steps) [
      | inl less ↦ (r.goes n less).0 h.ends
      | inr ge ↦ elim r.stops [
        | inr over ↦ omega (arith, over.0)
        | inl stop ↦
            let at : stop_of (next_in program (traced start program u.steps)) (traced start program u.steps) ≡ Some u.cause = stop.1 in
            elim (cases_lt u.steps n) [
              | inl sooner ↦ let bad : None ≡ Some u.cause = sym (h.goes u.steps sooner).1 ∙ at in cc
              | inr le ↦
                  let same : n ≡ u.steps = omega arith in
                  let bad : None ≡ Some u.cause = sym none ∙ ap (λ (k : ℕ). stop_of (next_in program (traced start program k)) (traced start program k)) same
                  ∙ at in
                  cc
            ]
      ]
    ]

-- ---- all works that explain a program have the same places

-- DMAEND isn't among the instructions before it
not_sooner : (start : Registers) (program : List ℕ) (w u : Work) (n m : ℕ) → Explains start program w n → Explains start program u m → m ≤ n
not_sooner start program w u n m h g = grind (arith, cases_lt)

pub explained_once : ExplainedOnce
explained_once start program w u n m h g = grind (arith, not_sooner)

pub found_once : FoundOnce
found_once start program most limit x y f g = grind (arith, explained_once)

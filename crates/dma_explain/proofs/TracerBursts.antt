-- The bursts of a run without memory, as its tracer keeps them.
use Rattle.std.proofs.Common.{◌≡◌, ℕ, zero, suc, ◌+◌, ◌-◌, ◌*◌, ◌≤◌, ◌<◌, Bool, true, false, cond, List, ◌++◌, length, Some, None, Result, refl, sym}
use Rattle.std.proofs.Common.{Global, Vec, ap, ◌∙◌, subst, arith, append-nil, length-append, OnOk}
use Rattle.std.specs.{Prelude.is_err, Prelude.nat_lt, Prelude.replicate, List.flat_map}
use Rattle.std.proofs.{lemmas.List.FromFn.length-range_with_len, lemmas.Bool.cases_Bool, lemmas.Bool.le-ltb, lemmas.Bool.ltb-false, lemmas.Nat.mul-le}
use Rattle.dma_insn.specs.declared.chip.ChipInsn.TheVariants.{Ld, St, StoreZeros}
use Rattle.dma_mem.specs.{declared.segment.Segment.Segment, Places.end_of_addresses, Places.places, Places.range_of}
use Rattle.dma_chan.specs.{declared.bursts.Burst.Burst, declared.exec.Registers.Registers, declared.turn.FaultKind.TheVariants.MfifoErr}
use Rattle.dma_chan.specs.{declared.turn.FaultKind.TheVariants.StDataUnavailable, Bursts.advance, Bursts.burst_len, Bursts.span_of, Bursts.touched}
use Rattle.dma_chan.specs.{Exec.buffer_size, Exec.source_of, Exec.destination_of, Exec.moved, Exec.wrapped, inner.Spans.MovesSome, inner.Spans.rounds_of}
use Rattle.dma_explain.specs.declared.explain.Cause.TheVariants.{Fails, LoadsPast, StoresFixed, StoresPast}
use Rattle.dma_explain.specs.Explains.{IsRead, IsRun, Trace, held, passes, unrolled}
use Rattle.dma_explain.specs.Items.{join_read, join_run, read_of, run_of, with_item}
use Rattle.dma_explain.specs.inner.Tracing.{Advances, AreItems, IsTracer, lists_of, trace_of}
use Rattle.dma_explain.specs.{declared.explain.Amounts.Amounts, declared.explain.Repeated.Repeated, declared.explain.tracer.Tracer.Tracer}
use Rattle.dma_chan.proofs.{BurstReach.touched_rounds, ControlWords.advance_up}
use Rattle.dma_explain.proofs.{GoingOn.length_up, GoingOn.passed, Items.reads_with, Items.runs_with, Items.with_read, Items.with_run, Items.with_zeros}
use Rattle.dma_explain.proofs.{LowestPlaces.reads, LowestPlaces.rounds_read, TraceParts.same_amounts, TraceParts.same_parts}

-- a burst touches some address
span_some : (b : Burst) → MovesSome b → 0 < span_of b
span_some b some = grind (arith, cases_Bool, mul-le)

-- its range
pub run_is : (b : Burst) → MovesSome b → passes b ≡ false → IsRun (run_of b)
run_is b some low = (span_some b some, ltb-false end_of_addresses (b.addr + span_of b) low)

pub span_run : (b : Burst) (s : Segment) → s.addr ≡ b.addr → s.len ≡ span_of b → s ≡ run_of b
span_run b s at long = ap (λ (a : ℕ). record s { addr = a }) at ∙ ap (λ (n : ℕ). record { addr = b.addr; len = n }) long

-- what it reads
pub read_is : (b : Burst) → MovesSome b → passes b ≡ false → IsRead (read_of b)
read_is b some low = grind (arith, cases_Bool, run_is)

read_touched : (b : Burst) → reads (read_of b) ≡ touched b
read_touched b = rounds_read (rounds_of b) (run_of b) ∙ sym (touched_rounds b)

fixed_length : (k : ℕ) (xs : List ℕ) → length (flat_map (λ ys. ys) (replicate k xs)) ≡ k * length xs
fixed_length zero xs = omega arith
fixed_length (suc k) xs = omega (arith, length-append xs (flat_map (λ ys. ys) (replicate k xs)), fixed_length k xs)

-- a burst touches as many addresses as it has bytes, each beat of a fixed one the same
pub length_touched : (b : Burst) → MovesSome b → length (touched b) ≡ burst_len b
length_touched b some = grind (arith, cases_Bool, length_up, fixed_length, length-range_with_len)

-- the range of a burst that rises
pub touched_span : (b : Burst) (s : Segment) → b.increments ≡ true → s.addr ≡ b.addr → s.len ≡ span_of b → range_of s ≡ touched b
touched_span b s up at long = grind arith

module _ (x : Tracer) (b : Burst) (h : IsTracer x) (some : MovesSome b) where
  abbrev z : Trace
  z = trace_of x

  pub load_advances : (after : Registers) (n : ℕ) (src : Vec Repeated Global) → b ≡ source_of x.registers → after ≡ moved Ld x.registers
      → n ≡ x.held + burst_len b → n ≤ 256 → passes b ≡ false → src.items ≡ with_item join_read x.src.items (read_of b)
      → Advances Ld x (record x { registers = after; held = n; src = src; bursts = record x.bursts { loads = x.bursts.loads + 1 } })
  load_advances after n src is registers more room low pushed =
      let all = reads_with x.src.items (read_of b) h.items.reads (read_is b some low) in
      let read : places (unrolled src.items) ≡ z.loads ++ touched b = ap (λ rs. places (unrolled rs)) pushed ∙ all.1
      ∙ ap (λ (xs : List ℕ). z.loads ++ xs) (read_touched b) in
      let lists = ap (λ (rs : List Repeated). record (lists_of x) { reads = rs }) pushed in
      let grown : length z.loads + burst_len b ≡ length (places (unrolled src.items)) = grind (arith, length-append, length_touched) in
      record {
        tracer = record {
          few = omega (arith, h.few, grown);
          held = omega (arith, h.few, h.held, more, grown);
          room = room;
          done = h.done;
          items = subst AreItems (sym lists) (with_read (lists_of x) (read_of b) h.items (read_is b some low));
        };
        goes = rw (← is) (passed (nat_lt buffer_size (held z + burst_len b)) (Fails MfifoErr) _
            (le-ltb buffer_size (held z + burst_len b) (omega (arith, more, room, h.held))) (passed (passes b) LoadsPast None low refl));
        trace = same_parts registers (read ∙ ap (λ (c : Burst). z.loads ++ touched c) is) refl refl;
        events = sym (append-nil x.events.items);
        lists = lists ∙ ap (λ (c : Burst). record (lists_of x) { reads = with_item join_read x.src.items (read_of c) }) is;
        bursts = refl;
        late = refl;
      }

  -- a store that continues
  module _ (is : b ≡ destination_of x.registers) (up : b.increments ≡ true) (low : passes b ≡ false) where
    pub store_advances : (after : Registers) (n : ℕ) (done : Amounts) (dst : Vec Segment Global) → burst_len b ≤ x.held → after ≡ moved St x.registers
        → n ≡ x.held - burst_len b → done ≡ record x.done { copied = x.done.copied + burst_len b } → dst.items ≡ with_item join_run x.dst.items (run_of b)
        → Advances St x (record x { registers = after; held = n; done = done; dst = dst; bursts = record x.bursts { stores = x.bursts.stores + 1 } })
    store_advances after n done dst has registers less more pushed =
        let all = runs_with x.dst.items (run_of b) h.items.writes (run_is b some low) in
        let put : places dst.items ≡ z.stores ++ touched b = ap places pushed ∙ all.1
        ∙ ap (λ (xs : List ℕ). z.stores ++ xs) (touched_span b (run_of b) up refl refl) in
        let lists = ap (λ (ws : List Segment). record (lists_of x) { writes = ws }) pushed in
        let copied = ap (λ (a : Amounts). a.copied) h.done in
        let grown : x.done.copied + burst_len b ≡ length (places dst.items) = grind (arith, length-append, length_up) in
        record {
          tracer = record {
            few = omega (arith, h.few, h.held, has, grown, copied);
            held = omega (arith, h.few, h.held, less, has, grown, copied);
            room = omega (arith, h.room, less);
            done = more ∙ same_amounts grown (ap (λ (a : Amounts). a.cleared) h.done);
            items = subst AreItems (sym lists) (with_run (lists_of x) (run_of b) h.items (run_is b some low));
          };
          goes = rw (← is) (passed (nat_lt (held z) (burst_len b)) (Fails StDataUnavailable) _ (le-ltb (held z) (burst_len b) (omega (arith, has, h.held)))
              (passed (passes b) StoresPast _ low (ap (λ (i : Bool). cond i None (Some StoresFixed)) up)));
          trace = same_parts registers refl (put ∙ ap (λ (c : Burst). z.stores ++ touched c) is) refl;
          events = sym (append-nil x.events.items);
          lists = lists ∙ ap (λ (c : Burst). record (lists_of x) { writes = with_item join_run x.dst.items (run_of c) }) is;
          bursts = refl;
          late = refl;
        }

    pub clear_advances : (after : Registers) (done : Amounts) (zeros : Vec Segment Global) → after ≡ moved StoreZeros x.registers
        → done ≡ record x.done { cleared = x.done.cleared + burst_len b } → zeros.items ≡ with_item join_run x.zeros.items (run_of b)
        → Advances StoreZeros x (record x { registers = after; done = done; zeros = zeros })
    clear_advances after done zeros registers more pushed =
        let all = runs_with x.zeros.items (run_of b) h.items.zeros (run_is b some low) in
        let put : places zeros.items ≡ z.zeros ++ touched b = ap places pushed ∙ all.1
        ∙ ap (λ (xs : List ℕ). z.zeros ++ xs) (touched_span b (run_of b) up refl refl) in
        let lists = ap (λ (ws : List Segment). record (lists_of x) { zeros = ws }) pushed in
        let grown : x.done.cleared + burst_len b ≡ length (places zeros.items) = grind (arith, length-append, length_up) in
        record {
          tracer = record {
            few = h.few;
            held = h.held;
            room = h.room;
            done = more ∙ same_amounts (ap (λ (a : Amounts). a.copied) h.done) grown;
            items = subst AreItems (sym lists) (with_zeros (lists_of x) (run_of b) h.items (run_is b some low));
          };
          goes = rw (← is) (passed (passes b) StoresPast _ low (ap (λ (i : Bool). cond i None (Some StoresFixed)) up));
          trace = same_parts registers refl refl (put ∙ ap (λ (c : Burst). z.zeros ++ touched c) is);
          events = sym (append-nil x.events.items);
          lists = lists ∙ ap (λ (c : Burst). record (lists_of x) { zeros = with_item join_run x.zeros.items (run_of c) }) is;
          bursts = refl;
          late = refl;
        }

-- ---- what a tracer's instructions know

pub at_ok : {X E : Type 0} (r : Result X E) (P : Type 0) → false ≡ is_err r → OnOk r P → P
at_ok r P h h2 = grind (arith)

-- whether a burst ends above the last address, by its range
pub passes_span : (b : Burst) (s : Segment) → s.addr ≡ b.addr → s.len ≡ span_of b → nat_lt end_of_addresses (s.addr + s.len) ≡ passes b
passes_span b s at long = ap (λ (a : ℕ). nat_lt end_of_addresses (a + s.len)) at ∙ ap (λ (n : ℕ). nat_lt end_of_addresses (b.addr + n)) long

pub loaded_registers : (r : Registers) (b : Burst) (n : ℕ) → b ≡ source_of r → n ≡ advance b
    → record r { pc = r.pc + 1; sar = wrapped (r.sar + n) } ≡ moved Ld r
loaded_registers r b n is e = ap (λ (k : ℕ). record r { pc = r.pc + 1; sar = wrapped (r.sar + k) }) (e ∙ ap advance is)

pub stored_registers : (r : Registers) (b : Burst) (n : ℕ) → b ≡ destination_of r → b.increments ≡ true → n ≡ burst_len b
    → record r { pc = r.pc + 1; dar = wrapped (r.dar + n) } ≡ moved St r
stored_registers r b n is up e = grind (arith, advance_up)

pub cleared_registers : (r : Registers) (b : Burst) (n : ℕ) → b ≡ destination_of r → b.increments ≡ true → n ≡ burst_len b
    → record r { pc = r.pc + 1; dar = wrapped (r.dar + n) } ≡ moved StoreZeros r
cleared_registers r b n is up e = stored_registers r b n is up e

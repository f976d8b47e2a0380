-- A call on a channel whose program a work explains reads only the sources of its copy.
use Rattle.std.proofs.Common.{◌≡◌, ◌⊎◌, ℕ, zero, suc, ◌<◌, true, List, ◌++◌, length, get_or, Option, Result, Ok, refl, sym, ap, ◌∙◌, subst}
use Rattle.std.proofs.Common.{arith, inr}
use Rattle.std.specs.{Prelude.unwrap_or, List.Contains}
use Rattle.std.proofs.{lemmas.Bool.cases_lt, lemmas.List.get_or_past, lemmas.List.Elements.Contains-append_left, lemmas.List.Elements.Contains-append_right}
use Rattle.dma_insn.specs.{declared.chip.ChipInsn.ChipInsn, declared.chip.ChipInsn.TheVariants.Ld, declared.chip.ChipInsn.TheVariants.End}
use Rattle.dma_mem.specs.{Image.put, Places.sources, Marking.MarkList}
use Rattle.dma_mem.proofs.ImagePut.{get_or_put, length_put}
use Rattle.dma_chan.specs.Reads.{AgreeAt, read_by, read_next}
use Rattle.dma_chan.specs.Stepping.{Machine, after_step, after_steps, goes_on_after, machine}
use Rattle.dma_chan.specs.{declared.exec.Registers.Registers, declared.turn.FaultKind.FaultKind, Bursts.touched, Exec.source_of, Channel.ChannelValue}
use Rattle.dma_explain.specs.Explains.{Executes, Explains, IsIn, Work, next_in, traced}
use Rattle.dma_explain.specs.CallReads.{AlikeAt, CallReadsIn, CallReadsNoOther, SameOrKept}
use Rattle.dma_explain.proofs.Traced.{put_agrees}
use Rattle.dma_explain.proofs.CallStays.{Nexts, Goes, Ends, ahead_at, inside, many_in, nexts, traced_next}
use Rattle.dma_chan.proofs.{StepsTaken.steps_move, ReadsOnly.reads_no_other}

module _ (start : Registers) (program : List ℕ) (work : Work) (n : ℕ) (h : Explains start program work n) where
  -- what a channel reads by an instruction of the program
  reads_at : (k : ℕ) (c : ChannelValue) (a : ℕ) (i : ChipInsn) → IsIn start program n k c → next_in program (traced start program k) ≡ Ok i
      → Contains (read_next c) a → Contains (read_by (Ok i) (traced start program k).registers) a
  reads_at k c a i w next j =
      let here : read_next c ≡ read_by (Ok i) (traced start program k).registers =
      ap (λ (r : Result ChipInsn FaultKind). read_by r c.registers) (ahead_at start program k i c w.begins w.registers next)
      ∙ ap (read_by (Ok i)) w.registers in
      subst (λ (xs : List ℕ). Contains xs a) here j

  load_in : (k : ℕ) (a : ℕ) → k < n → next_in program (traced start program k) ≡ Ok Ld → Contains (touched (source_of (traced start program k).registers)) a
      → Contains (sources work.copy) a
  load_in k a less next i =
      let x = traced start program k in
      let part = inside start program work n h (suc k) (omega (arith, less)) in
      let is_next : (traced start program (suc k)).loads ≡ x.loads ++ touched (source_of x.registers) = grind (arith, traced_next) in
      subst (λ (xs : List ℕ). Contains xs a) (sym part.loads)
      (Contains-append_left (traced start program (suc k)).loads part.loads_rest a
      (subst (λ (xs : List ℕ). Contains xs a) (sym is_next) (Contains-append_right x.loads (touched (source_of x.registers)) a i)))

  insn_reads : (k a : ℕ) (i : ChipInsn) → k < n → next_in program (traced start program k) ≡ Ok i
      → Contains (read_by (Ok i) (traced start program k).registers) a → Contains (sources work.copy) a
  insn_reads k a Ld less next j = load_in k a less next j
  insn_reads k a i less next j = absurd (omega (arith, j.1))

  next_reads : (k : ℕ) (c : ChannelValue) (a : ℕ) → IsIn start program n k c → Nexts start program work n k → Contains (read_next c) a
      → Contains (sources work.copy) a
  next_reads k c a w (Ends e next) j = let none : Contains (read_by (Ok End) (traced start program k).registers) a = reads_at k c a End w next j in
      absurd (omega (arith, none.1))
  next_reads k c a w (Goes i less next go) j = insn_reads k a i less next (reads_at k c a i w next j)

  -- the instruction of a channel that executes the program reads only sources
  pub reads_inside : (k : ℕ) (c : ChannelValue) (a : ℕ) → IsIn start program n k c → Contains (read_next c) a → Contains (sources work.copy) a
  reads_inside k c a w j = next_reads k c a w (nexts start program work n h k w.within) j

pub call_reads_in : CallReadsIn
call_reads_in start program work n marks s most taken last after a h w steps reads =
    let v = many_in start program work n h marks s reads.0 w (λ k l. steps_move steps k (omega (arith, reads.1))) in
    reads_inside start program work n h v.0 (after_steps marks s reads.0).channel a v.1 reads.2

-- ---- two memories that agree at the sources

-- after the same bytes are put into both, an address still has the same byte in both
agree_put : (x y : List ℕ) (ws : List (ℕ × ℕ)) (a : ℕ) → length x ≡ length y → get_or x a 0 ≡ get_or y a 0 → get_or (put x ws) a 0 ≡ get_or (put y ws) a 0
agree_put x y ws a size same = grind (arith, cases_lt, put_agrees, get_or_past, length_put)

by_lookup : (o : Option ℕ) (x y v w : ℕ) → v ≡ unwrap_or o x → w ≡ unwrap_or o y → (v ≡ w) ⊎ ((v ≡ x) × (w ≡ y))
by_lookup o x y v w h h2 = grind (arith)

-- each byte is put, or stays
put_or_kept : (x y : List ℕ) (ws : List (ℕ × ℕ)) → length x ≡ length y → SameOrKept x y (put x ws) (put y ws)
put_or_kept x y ws size a = grind (arith, cases_lt, by_lookup, get_or_put, get_or_past, length_put)

kept_on : (x y p q v w : List ℕ) → SameOrKept x y p q → ((a : ℕ) → get_or p a 0 ≡ get_or q a 0 → get_or v a 0 ≡ get_or w a 0) → SameOrKept p q v w
    → SameOrKept x y v w
kept_on x y p q v w first on then a = grind arith

machine_alike : (s u : Machine) → u.channel ≡ s.channel → u.flags ≡ s.flags → machine s.channel u.image s.flags ≡ u
machine_alike s u channel flags = rw (← channel, ← flags) refl

module _ (start : Registers) (program : List ℕ) (work : Work) (n : ℕ) (h : Explains start program work n) (marks : MarkList) where
  -- the machine with another memory
  abbrev over : Machine → List ℕ → Machine
  over s y = machine s.channel y s.flags

  -- after a step over both memories
  record After (s : Machine) (y : List ℕ) : Type 0 where
    alike : AlikeAt (sources work.copy) (after_step marks s) (after_step marks (over s y))
    kept : SameOrKept s.image y (after_step marks s).image (after_step marks (over s y)).image
    on : (a : ℕ) → get_or s.image a 0 ≡ get_or y a 0 → get_or (after_step marks s).image a 0 ≡ get_or (after_step marks (over s y)).image a 0

  after : (s : Machine) (y : List ℕ) → Executes start program n s.channel → AgreeAt (sources work.copy) s.image y → After s y
  after s y w agree =
      let x = s.image in
      let same = reads_no_other marks s.channel x y s.flags
      (record { size = agree.size; bytes = λ a i. agree.bytes a (reads_inside start program work n h w.0 s.channel a w.1 i) }) in
      let ws = same.writes in
      let on = λ (a : ℕ) (e : get_or x a 0 ≡ get_or y a 0).
      ap (λ (i : List ℕ). get_or i a 0) same.first ∙ agree_put x y ws a agree.size e ∙ sym (ap (λ (i : List ℕ). get_or i a 0) same.second) in
      record {
        alike = record {
          channel = sym same.channel;
          flags = sym same.events;
          image = record {
            size = ap length same.first ∙ length_put x ws ∙ agree.size ∙ sym (ap length same.second ∙ length_put y ws);
            bytes = λ a i. on a (agree.bytes a i);
          };
        };
        kept = subst (λ (v : List ℕ). SameOrKept x y v (after_step marks (over s y)).image) (sym same.first)
            (subst (λ (v : List ℕ). SameOrKept x y (put x ws) v) (sym same.second) (put_or_kept x y ws agree.size));
        on = on;
      }

  both : (s u : Machine) (k : ℕ) → Executes start program n s.channel → ((j : ℕ) → j < k → goes_on_after marks s j ≡ true) → AlikeAt (sources work.copy) s u
      → AlikeAt (sources work.copy) (after_steps marks s k) (after_steps marks u k)
      × SameOrKept s.image u.image (after_steps marks s k).image (after_steps marks u k).image
  both s u zero w moves alike = (alike, λ a. inr (refl, refl))
  both s u (suc k) w moves alike =
      let p = after_steps marks s k in
      let q = after_steps marks u k in
      let r = both s u k w (λ j l. moves j (omega arith)) alike in
      let x = after p q.image (many_in start program work n h marks s k w (λ j l. moves j l)) r.0.image in
      let is : over p q.image ≡ q = machine_alike p q r.0.channel r.0.flags in
      subst (λ (v : Machine). AlikeAt (sources work.copy) (after_step marks p) (after_step marks v)
      × SameOrKept s.image u.image (after_step marks p).image (after_step marks v).image) is
      (x.alike, kept_on s.image u.image p.image q.image _ _ r.1 x.on x.kept)

pub call_reads_no_other : CallReadsNoOther
call_reads_no_other start program work n marks s u most taken last after k h w steps alike few =
    both start program work n h marks s u k w (λ j l. steps_move steps j (omega (arith, few))) alike

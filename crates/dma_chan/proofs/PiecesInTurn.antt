-- Each piece of a compiled program is in turn, and so is all of it.
use Rattle.std.proofs.Common.{◌≡◌, ℕ, ◌+◌, ◌≤◌, ◌<◌, Bool, false, List, [], ◌∷◌, ◌++◌, map, length, drop, Option}
use Rattle.std.proofs.Common.{refl, sym, ap, ◌∙◌, arith, append_assoc, length-append, ◌^◌}
use Rattle.std.specs.{List.range_with_len, List.AllByRecursion}
use Rattle.std.proofs.lemmas.List.{drop-drop, drop_at, length-drop}
use Rattle.std.proofs.{lemmas.List.FromFn.length-range_with_len, Math.Nat.zero-mod, Math.Nat.mod-eq_of_lt}
use Rattle.dma_insn.specs.declared.insn.Reg.TheVariants.{Sar, Dar}
use Rattle.dma_insn.specs.declared.chip.ChipInsn.TheVariants.{Mov, End}
use Rattle.dma_insn.specs.{declared.chip.ChipInsn.ChipInsn, ControlWord.beat_bytes}
use Rattle.dma_mem.specs.{Places.Descriptor, Places.sources, Places.destinations, Rules.IsTransfer}
use Rattle.dma_chan.specs.Tree.{in_order, unrolled}
use Rattle.dma_chan.specs.Exec.{wrapped}
use Rattle.dma_chan.specs.Compiled.{pieces_of, piece_tree, beat_of, wait_tree, signal_tree, members_on}
use Rattle.dma_chan.specs.{declared.bus.Bus.Bus, declared.exec.Registers.Registers, declared.pieces.Piece.Piece}
use Rattle.dma_chan.proofs.CutPlaces.{IsPiece, read_by, written_by, run_of, way, way_zero, length_run}
use Rattle.dma_chan.proofs.PieceCode.{cut_well}
use Rattle.dma_chan.proofs.ControlWords.{beat_divides, beat_right}
use Rattle.dma_chan.proofs.BurstsInTurn.{At, Progress, begin, advanced, progress, Carries, progress_append, carries_on, parts_lead}

-- between two pieces
pub record Between (base : ℕ) (p : Progress) : Type 0 where
  pub held : p.held ≡ 0
  pub stored : p.stored ≡ base

-- an address from which nothing has moved yet
begins : (a n : ℕ) → a < 2 ^ 32 → n ≡ 0 → a ≡ wrapped (a + n)
begins a n low none = grind (arith, mod-eq_of_lt)

-- a list of places that begins so is so long
long_enough : (xs ys zs : List ℕ) (base n : ℕ) → 0 < n → drop base xs ≡ ys ++ zs → length ys ≡ n → base + n ≤ length xs
long_enough xs ys zs base n some e long = omega (arith, length-drop base xs, ap length e, length-append ys zs)

module _ (bus : Bus) (src dst : List ℕ) where
  piece_carries : (piece : Piece) (base : ℕ) (a b : List ℕ) → IsPiece piece → drop base src ≡ run_of piece.fill piece.src piece.len ++ a
      → drop base dst ≡ range_with_len piece.dst piece.len ++ b → (p : Progress) → Between base p → Carries bus src dst (unrolled (piece_tree bus piece)) p
      × Between (base + piece.len) (progress (unrolled (piece_tree bus piece)) p)
  piece_carries piece base a b fit reads writes p h =
      let some = fit.some in
      let q = advanced (Mov Dar piece.dst) (advanced (Mov Sar piece.src) p) in
      let beat = beat_right bus piece in
      let fits = beat_divides bus piece in
      let at : At piece.fill piece.src piece.dst base (beat_bytes (beat_of bus piece)) p.registers.ccr 0 q =
      record {
        sar = begins piece.src (way piece.fill 0) fit.src (way_zero piece.fill);
        dar = begins piece.dst 0 (omega (arith, some, fit.dst)) refl;
        ccr =
            refl;
        held = h.held;
        stored = omega (arith, h.stored);
        fits = zero-mod (beat_bytes (beat_of bus piece));
      } in
      let in_src = long_enough src (run_of piece.fill piece.src piece.len) a base piece.len some reads (length_run piece.fill piece.src piece.len) in
      let in_dst = long_enough dst (range_with_len piece.dst piece.len) b base piece.len some writes (length-range_with_len piece.dst piece.len) in
      let all = parts_lead bus src dst piece.fill piece.src piece.dst piece.len base a b reads writes in_src in_dst fit.src fit.reads fit.dst
      (beat_of bus piece) piece beat fits.narrow fits.src fits.dst refl 0 q (omega arith) (p.registers.ccr, at) in
      ((tt, (h.held, all.0)), record { held = all.1.1.held; stored = omega (arith, all.1.1.stored) })

  past_piece : (fill : Bool) (xs ys : List ℕ) (base s n : ℕ) → drop base xs ≡ run_of fill s n ++ ys → drop (base + n) xs ≡ ys
  past_piece fill xs ys base s n e = sym (drop-drop n base xs) ∙ ap (drop n) e ∙ drop_at (run_of fill s n) ys n (length_run fill s n)

  pieces_carry : (ps : List Piece) (base : ℕ) (p : Progress) → AllByRecursion IsPiece ps → drop base src ≡ read_by ps → drop base dst ≡ written_by ps
      → Between base p → Carries bus src dst (unrolled (in_order (map (piece_tree bus) ps))) p
      × Between (base + length (read_by ps)) (progress (unrolled (in_order (map (piece_tree bus) ps))) p)
  pieces_carry [] base p fit reads writes h = (tt, record { held = h.held; stored = omega (arith, h.stored) })
  pieces_carry (piece ∷ ps) base p fit reads writes h =
      let one = piece_carries piece base (read_by ps) (written_by ps) fit.0 reads writes p h in
      let is = unrolled (piece_tree bus piece) in
      let more = pieces_carry ps (base + piece.len) (progress is p) fit.1 (past_piece piece.fill src (read_by ps) base piece.src piece.len reads)
      (past_piece false dst (written_by ps) base piece.dst piece.len writes) one.1 in (
        carries_on bus src dst is (unrolled (in_order (map (piece_tree bus) ps))) p one.0 more.0,
        rw (progress_append is (unrolled (in_order (map (piece_tree bus) ps))) p) (record {
          held = more.1.held;
          stored = omega (arith, more.1.stored, length-append (run_of piece.fill piece.src piece.len) (read_by ps), length_run piece.fill piece.src piece.len);
        }),
      )

  wait_carries : (o : Option ℕ) (p : Progress) → Between 0 p → Carries bus src dst (unrolled (wait_tree o)) p × Between 0 (progress (unrolled (wait_tree o)) p)
  wait_carries o p h = grind (arith)

  signal_carries : (o : Option ℕ) (p : Progress) (base : ℕ) → Between base p → Carries bus src dst (unrolled (signal_tree o)) p
      × Between base (progress (unrolled (signal_tree o)) p)
  signal_carries o p base h = grind (arith)

-- what the members do up to the end, and where they come
abbrev pub before_end : Bus → Descriptor → List ChipInsn
before_end bus t = unrolled (wait_tree t.wait) ++ (unrolled (in_order (map (piece_tree bus) (pieces_of t))) ++ unrolled (signal_tree t.signal))

pub record Carried (start : Registers) (t : Descriptor) : Type 0 where
  pub carries : Carries start.bus (sources t) (destinations t) (members_on start.bus t) (begin start)
  pub finishes : Between (length (sources t)) (progress (before_end start.bus t) (begin start))
  pub split : members_on start.bus t ≡ before_end start.bus t ++ (End ∷ [])

pub all_carried : (start : Registers) (t : Descriptor) → IsTransfer t → Carried start t
unfolding members_on
all_carried start t h =
    let src = sources t in
    let dst = destinations t in
    let ps = pieces_of t in
    let cut = cut_well t h in
    let wait = wait_carries start.bus src dst t.wait (begin start) (record { held = refl; stored = refl }) in
    let a = unrolled (wait_tree t.wait) in
    let b = unrolled (in_order (map (piece_tree start.bus) ps)) in
    let s = unrolled (signal_tree t.signal) in
    let p = progress a (begin start) in
    let middle = pieces_carry start.bus src dst ps 0 p cut.fit (sym cut.sources) (sym cut.destinations) wait.1 in
    let last = signal_carries start.bus src dst t.signal (progress b p) _ middle.1 in
    let there : progress (a ++ (b ++ s)) (begin start) ≡ progress s (progress b p) = progress_append a (b ++ s) (begin start) ∙ progress_append b s p in
    record {
      carries =
          carries_on start.bus src dst a (b ++ (s ++ (End ∷ []))) (begin start) wait.0 (
          carries_on start.bus src dst b (s ++ (End ∷ [])) p middle.0 (
          carries_on start.bus src dst s (End ∷ []) (progress b p) last.0 (tt, tt)));
      finishes = rw there (record { held = last.1.held; stored = omega (arith, last.1.stored, ap length cut.sources) });
      split = sym (append_assoc a (b ++ s) (End ∷ []) ∙ ap (λ (xs : List ChipInsn). a ++ xs) (append_assoc b s (End ∷ [])));
    }

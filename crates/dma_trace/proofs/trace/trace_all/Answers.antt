use Rattle.std.proofs.Common.{arith}
use Rattle.dma_text.proofs.Begun.{begun}
use Rattle.std.proofs.Common.{◌≡◌, ◌++◌, ℕ, List, ap, append_assoc, inr, map, refl, subst, ◌∙◌}
use Rattle.std.specs.Prelude.{flat_map}
use Rattle.dma_mem.specs.{declared.segment.Segment.Segment, Lent.marks_at, Marking.MarkList, Regions.Piece, Regions.image_of, Regions.pieces_of}
use Rattle.dma_chan.specs.LentRegions.{segment_of, with_gaps_of}
use Rattle.dma_explain.proofs.InOrder.{in_order_kept}
use Rattle.dma_trace.specs.Traced.{dump_text, end_after, if_wave, last_answer, lines, marks_over, opening, pieces_in, waveform}
use Rattle.dma_trace.specs.inner.Running.{RunsOver}
use Rattle.dma_trace.proofs.Steps.{pieces_are}
use Rattle.dma_trace.proofs.trace.trace_all.Goals as goal

joined : (a b c d x z : List ℕ) → x ≡ (a ++ b) ++ c → z ≡ x ++ d → z ≡ a ++ ((b ++ c) ++ d)
joined a b c d x z e f = f ∙ ap (λ (l : List ℕ). l ++ d) e ∙ simp append_assoc

pub returns-clause-ok : goal.returns-clause-ok
returns-clause-ok g c =
    let o = c.args.options.now in
    let first = c.args.regions.now in
    let left = c.run.new.regions in
    let places = c.in_ok-good.ensures.places in
    let dumped = c.in_ok-push_dumps.ensures.ok
    ∙ ap (λ (xs : List Segment). c.run.new.out.items ++ flat_map (dump_text (pieces_of left)) xs) c.deref-2.ensures.value in
    let w = subst (λ (m : MarkList). RunsOver o (with_gaps_of first m) c.args.program.now first left c.in_ok-good.good c.args.out.now.items c.args.err.now.items
    c.args.wave.now.items c.run.new.out.items c.run.new.err.items c.run.new.wave.items)
    (c.in-Ok.ensures ∙ ap marks_at c.deref.ensures.value) c.in_ok-good.ensures.ok in
    let marks = marks_over o first in
    let s = opening o c.args.program.now (image_of (pieces_of first)) in
    let end = end_after o marks s w.count in
    let all = lines o marks (map segment_of first) s w.count in
    let pieces = pieces_are left (in_order_kept first left places c.requires.order)
    ∙ ap (λ (ss : List Segment). pieces_in ss (image_of (pieces_of left))) places in
    let dump : List Piece → List ℕ = λ ps. flat_map (dump_text ps) o.dumps.items in
    record {
      printed = (all ++ end.says) ++ dump (pieces_of left);
      wrong = end.wrong;
      waved = if_wave o (waveform marks s w.count (last_answer marks s o.limit w.count));
      to_out = joined c.args.out.now.items all end.says (dump (pieces_of left)) c.run.new.out.items c.push_dumps.new.out.items w.to_out dumped;
      to_err = w.to_err;
      to_wave = w.to_wave;
      places = places;
      traces = inr (
        c.if-program-gt-MAX_PROGRAM_BYTES.false,
        record {
          steps = w.count;
          run = w.run;
          succeeds = w.succeeds;
          memory = w.memory;
          to_out = ap (λ (ps : List Piece). (all ++ end.says) ++ dump ps) pieces;
          to_err = refl;
          to_wave = refl;
        },
      );
    }

pub returns-clause-begins : goal.returns-clause-begins
returns-clause-begins g c = grind (arith, begun)

pub returns-clause-begins_err : goal.returns-clause-begins_err
returns-clause-begins_err g c = grind (arith, begun)

pub returns-clause-begins_wave : goal.returns-clause-begins_wave
returns-clause-begins_wave g c = grind (arith, begun)

pub returns-in_err-good-clause-begins : goal.returns-in_err-good-clause-begins
returns-in_err-good-clause-begins g c = grind (arith, begun)

pub returns-in_err-good-clause-begins_err : goal.returns-in_err-good-clause-begins_err
returns-in_err-good-clause-begins_err g c = grind (arith, begun)

pub returns-in_err-good-clause-begins_wave : goal.returns-in_err-good-clause-begins_wave
returns-in_err-good-clause-begins_wave g c = grind (arith, begun)

pub returns-in_err-push-clause-begins : goal.returns-in_err-push-clause-begins
returns-in_err-push-clause-begins g c = grind (arith, begun)

pub returns-in_err-push-clause-begins_err : goal.returns-in_err-push-clause-begins_err
returns-in_err-push-clause-begins_err g c = grind (arith, begun)

pub returns-in_err-push-clause-begins_wave : goal.returns-in_err-push-clause-begins_wave
returns-in_err-push-clause-begins_wave g c = grind (arith, begun)

pub returns-in_err-push_dumps-clause-begins : goal.returns-in_err-push_dumps-clause-begins
returns-in_err-push_dumps-clause-begins g c = grind (arith, begun)

pub returns-in_err-push_dumps-clause-begins_err : goal.returns-in_err-push_dumps-clause-begins_err
returns-in_err-push_dumps-clause-begins_err g c = grind (arith, begun)

pub returns-in_err-push_dumps-clause-begins_wave : goal.returns-in_err-push_dumps-clause-begins_wave
returns-in_err-push_dumps-clause-begins_wave g c = grind (arith, begun)

pub returns-then-program-gt-MAX_PROGRAM_BYTES-clause-begins : goal.returns-then-program-gt-MAX_PROGRAM_BYTES-clause-begins
returns-then-program-gt-MAX_PROGRAM_BYTES-clause-begins g c = grind (arith, begun)

pub returns-then-program-gt-MAX_PROGRAM_BYTES-clause-begins_err : goal.returns-then-program-gt-MAX_PROGRAM_BYTES-clause-begins_err
returns-then-program-gt-MAX_PROGRAM_BYTES-clause-begins_err g c = grind (arith, begun)

pub returns-then-program-gt-MAX_PROGRAM_BYTES-clause-begins_wave : goal.returns-then-program-gt-MAX_PROGRAM_BYTES-clause-begins_wave
returns-then-program-gt-MAX_PROGRAM_BYTES-clause-begins_wave g c = grind (arith, begun)

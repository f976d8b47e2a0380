use Rattle.std.proofs.Common.{◌≡◌, ◌∷◌, [], ◌+◌, ◌*◌, ◌/◌, ◌++◌, ◌∙◌, min, length, drop, sym, ap, refl, append_assoc, append-nil, length-drop, arith, rules}
use Rattle.std.specs.Slice.Iter.{chunks_rest, chunks_size}
use Rattle.dma_text.proofs.Begun.{begins_appended, begins_more}
use Rattle.dma_io.specs.{Command.text_of, Printing.row_line}
use Rattle.dma_io.proofs.RowLemmas.{first_row, rest_after, front_text, front_text_more}
use Rattle.dma_io.proofs.printing.ProgramLinesText.push.Goals as goal

pub loop-row-preserved : goal.loop-row-preserved
loop-row-preserved c =
    let bytes = c.args.self.now.0.now in
    let old = c.args.out.now.items in
    let row = c.in-Some.row.now in
    let steps = c.in-Some.ensures.steps in
    let size = c.loop-row.invariant.2 in
    let (count, high, left, text) = c.loop-row.invariant.3 in
    let parts = sym left ∙ steps.1.0 in
    let long : length row ≡ min 16 (length (drop (16 * count) bytes)) = rw (← left, ← size) steps.1.1 in
    let more = front_text_more bytes row count _ (first_row (drop (16 * count) bytes) row _ parts long) refl in (
      search rules,
      tt,
      steps.0 ∙ size,
      (
        count + 1,
        omega (arith, steps.1.2, ap length left, length-drop (16 * count) bytes),
        rest_after bytes row _ count parts long,
        c.in_ok-push_row.ensures.ok ∙ ap (λ l. l ++ text_of (row_line row ∷ [])) text ∙ append_assoc old (front_text bytes count) _ ∙ ap (λ l. old ++ l) more,
      ),
    )

pub returns-in_err-push_row-clause-begins : goal.returns-in_err-push_row-clause-begins
returns-in_err-push_row-clause-begins c =
    let (count, high, left, text) = c.loop-row.invariant.3 in
    begins_more _ _ _ (begins_appended _ _ _ text) c.push_row.ensures.begins

pub loop-row-init : goal.loop-row-init
loop-row-init c =
    let same = c.into_iter-row-iterator.ensures.into_iter_gives in
    let size = ap chunks_size same ∙ c.chunks-row-items.ensures.size in
    (omega arith, tt, size, (0, omega arith, ap chunks_rest same ∙ c.chunks-row-items.ensures.rest, sym (append-nil c.args.out.now.items)))

pub returns-clause-ok : goal.returns-clause-ok
returns-clause-ok c =
    let bytes = c.args.self.now.0.now in
    let (count, high, left, text) = c.loop-row.invariant.3 in
    let none = c.in-None.ensures.steps.1.0 in
    let all : count ≡ (length bytes + 15) / 16 = omega (arith, ap length left, length-drop (16 * count) bytes) in
    text ∙ ap (λ n. c.args.out.now.items ++ front_text bytes n) all

pub returns-clause-begins : goal.returns-clause-begins
returns-clause-begins c =
    let (count, high, left, text) = c.loop-row.invariant.3 in
    begins_appended _ _ _ text

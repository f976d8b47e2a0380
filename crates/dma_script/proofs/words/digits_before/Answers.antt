use Rattle.std.proofs.Common.{◌<◌, length, sym, ◌∙◌, rules, arith}
use Rattle.std.proofs.lemmas.List.{take_rest}
use Rattle.dma_script.proofs.SegmentLemmas.{end_at, more_at, other_at, over_at, stop_at, stop_first}
use Rattle.dma_script.proofs.words.digits_before.Goals.{else-b-stop-via-then-b-stop+else-place-gt0, else-b-stop-via-else-b-stop}
use Rattle.dma_script.proofs.words.digits_before.Goals as goal

pub returns-then-place-gt0 : goal.returns-then-place-gt0
returns-then-place-gt0 c = grind (arith, take_rest, stop_at)

pub returns-then-digit-radix : goal.returns-then-digit-radix
returns-then-digit-radix c = grind (arith, stop_first, else-b-stop-via-else-b-stop, other_at)

pub returns-in_err-checked_mul : goal.returns-in_err-checked_mul
returns-in_err-checked_mul c = grind (arith, over_at)

pub returns-in_err-value : goal.returns-in_err-value
returns-in_err-value c = grind (arith, over_at)

pub loop-place-preserved : goal.loop-place-preserved
loop-place-preserved c = grind (arith, more_at)

pub returns : goal.returns
returns c =
    let at = c.loop-place in
    let some : 0 < length c.args.digits.now = search rules in
    sym (end_at c.args.radix c.args.stop c.args.digits.now at.place at.value (omega arith) (omega arith) at.invariant.small) ∙ at.invariant.reads

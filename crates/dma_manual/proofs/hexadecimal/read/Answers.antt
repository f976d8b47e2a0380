use Rattle.std.proofs.Common.{sym, ◌∙◌}
use Rattle.dma_manual.proofs.HexadecimalLemmas.{read_step}
use Rattle.dma_manual.proofs.hexadecimal.read.Goals as goal

pub loop-at-preserved : goal.loop-at-preserved
loop-at-preserved c =
    let now = c.loop-at in
    rw c.in_ok-push_number.ensures
    (read_step c.args.notation now.reading c.in-Some.next c.in-Some.number now.at c.args.text.now now.bytes.items c.loop-at-test.true
    (sym c.next.ensures ∙ c.in-Some.is) ∙ now.invariant)

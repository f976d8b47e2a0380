use Rattle.std.proofs.Common.{arith}
use Rattle.std.proofs.Common.{◌∙◌, sym}
use Rattle.dma_seeds.proofs.OutputLemmas.{counted_None, counted_Some}
use Rattle.dma_seeds.proofs.outputs.count_output.Goals as goal

pub returns-in-Some : goal.returns-in-Some
returns-in-Some c = grind (arith, counted_Some)

pub returns-in_ok-push-in-None : goal.returns-in_ok-push-in-None
returns-in_ok-push-in-None c =
    let is = rw (c.deref.ensures.value, c.as_slice.ensures) at c.in-None.ensures in
    c.in_ok-push-in-None.ensures.items ∙ sym (counted_None _ c.args.new c.args.new is)

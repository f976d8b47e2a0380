use Rattle.dma_insn.specs.declared.chip.ChipInsn.TheVariants.{LpEnd}
use Rattle.dma_chan.proofs.ActCases.{faulted}
use Rattle.dma_chan.proofs.exec.end_loop.Goals as goal

pub returns-in-Some-clause-exact : goal.returns-in-Some-clause-exact
returns-in-Some-clause-exact c = λ marks buffer image flags.
    faulted marks (LpEnd c.args.counter c.args.back) _ _ (c.in-Some.ensures.fault marks buffer image flags)

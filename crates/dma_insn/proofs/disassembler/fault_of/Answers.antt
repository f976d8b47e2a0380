use Rattle.std.proofs.Common.{arith}
use Rattle.dma_insn.proofs.Fronts.{front_step, stops}
use Rattle.dma_insn.proofs.disassembler.fault_of.Goals as goal

pub loop-offset-preserved : goal.loop-offset-preserved
loop-offset-preserved c = record {
  within = omega (arith, c.in-Ok.ensures.within);
  front = front_step c.args.bytes.now c.loop-offset.offset _ c.in-Ok.count c.loop-offset.invariant.front c.in-Ok.ensures.found;
}

pub returns-in-Err : goal.returns-in-Err
returns-in-Err c = grind (arith, stops)

use Rattle.std.proofs.Common.{arith, [], refl, rules}
use Rattle.dma_insn.proofs.Fronts.{written_step, written_all, stops}
use Rattle.dma_insn.proofs.disassembler.write_all.Goals as goal

pub loop-offset-init : goal.loop-offset-init
loop-offset-init c = record
    { within = omega arith; front = record { front = record { insns = []; in_range = tt; bytes_are = refl; offset_is = refl }; text_is = search rules } }

pub loop-offset-preserved : goal.loop-offset-preserved
loop-offset-preserved c = record {
  within = omega (arith, c.in-Ok.ensures.within);
  front = written_step c.args.bytes.now _ _ c.loop-offset.offset c.in-Ok.insn c.in-Ok.count c.loop-offset.invariant.front c.in-Ok.ensures.found
      c.in-Ok-push.ensures.ok;
}

pub returns-clause-text : goal.returns-clause-text
returns-clause-text c = written_all c.args.bytes.now _ c.loop-offset.offset (omega (arith, c.loop-offset-test.false)) c.loop-offset.invariant.front

pub returns-in-Err-clause-stops : goal.returns-in-Err-clause-stops
returns-in-Err-clause-stops c = grind (arith, stops)

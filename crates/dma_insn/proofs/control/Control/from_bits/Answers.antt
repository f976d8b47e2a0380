use Rattle.std.proofs.Common.{Ok, arith, rules}
use Rattle.dma_insn.specs.ControlWord.{control_of}
use Rattle.dma_insn.proofs.ControlLaws.{if_fields, if_back}
use Rattle.dma_insn.proofs.control.Control.from_bits.Goals as goal

pub returns-clause-fields : goal.returns-clause-fields
unfolding control_of
returns-clause-fields c =
    if_fields c.args.bits (Ok (record { src = c.in-Some-Some.src; dst = c.in-Some-Some.dst })) (search rules)

pub returns-clause-back : goal.returns-clause-back
unfolding control_of
returns-clause-back c =
    if_back c.args.bits (Ok (record { src = c.in-Some-Some.src; dst = c.in-Some-Some.dst })) (omega arith) (search rules)

use Rattle.dma_insn.proofs.Fronts.{stops_none, same_text_of}
use Rattle.dma_insn.proofs.disassembler.disassemble.Goals as goal

pub returns-in-Ok-clause-only : goal.returns-in-Ok-clause-only
returns-in-Ok-clause-only c text h = same_text_of c.args.bytes.now _ text c.in-Ok.ensures.text h

pub returns-in-Err-Some-clause-only : goal.returns-in-Err-Some-clause-only
returns-in-Err-Some-clause-only c text h =
    absurd (stops_none c.args.bytes.now text c.in-Err-Some.offset c.in-Err-Some.fault (rw c.in-Err-Some.field-0-is at c.in-Err-Some.ensures.stops) h)

pub returns-in-Some-clause-only : goal.returns-in-Some-clause-only
returns-in-Some-clause-only c text h = absurd (stops_none c.args.bytes.now text c.in-Some.offset c.in-Some.fault c.in-Some.ensures h)

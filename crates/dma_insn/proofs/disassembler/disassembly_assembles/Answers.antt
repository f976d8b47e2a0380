use Rattle.dma_insn.proofs.{Texts.text_assembles, ProgramLaws.assembles_once}
use Rattle.dma_insn.proofs.disassembler.disassembly_assembles.Goals as goal

pub returns : goal.returns
returns c bytes text small d =
    let same = text_assembles bytes text small d in (same, λ others a. assembles_once text others bytes a same)

use Rattle.dma_manual.proofs.Canonical.{canonical_is_read_back}
use Rattle.dma_manual.proofs.PlainDumps.{hexdump_words}
use Rattle.dma_manual.proofs.printed.hexdump_is_read_back.Goals as goal

pub returns : goal.returns
returns c = λ bytes dumped. (canonical_is_read_back bytes dumped, hexdump_words bytes dumped)

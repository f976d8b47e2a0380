-- Whether the bytes so far are plain.
use Rattle.std.proofs.Common.{◌≡◌, take}
use Rattle.std.specs.List.{list_all}
use Rattle.dma_script.specs.Words.{is_plain}
use Rattle.dma_script.proofs.words.is_plain_line.Given as goal

abbrev pub invariant-loop-b : goal.invariant-loop-b
invariant-loop-b l = l.plain ≡ list_all is_plain (take l.b-index l.line)

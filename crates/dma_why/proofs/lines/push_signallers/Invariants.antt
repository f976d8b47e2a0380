use Rattle.std.proofs.Common.{◌≡◌, ◌++◌, map, take}
use Rattle.dma_io.specs.Command.{text_of}
use Rattle.dma_why.specs.Why.{signaller_line}
use Rattle.dma_why.proofs.lines.push_signallers.Given as goal

abbrev pub invariant-loop-cookie : goal.invariant-loop-cookie
invariant-loop-cookie l = l.out.items ≡ l.initial.out.items ++ text_of (map signaller_line (take l.cookie-index l.found))

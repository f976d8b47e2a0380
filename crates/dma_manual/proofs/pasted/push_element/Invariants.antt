use Rattle.std.proofs.Common.{◌≡◌, ◌++◌, replicate}
use Rattle.dma_manual.proofs.pasted.push_element.Given as goal

abbrev pub invariant-loop : goal.invariant-loop
invariant-loop l = l.bytes.items ≡ l.fn.bytes.items ++ replicate l.counter l.value

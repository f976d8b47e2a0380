-- The ranges of the first items.
use Rattle.std.proofs.Common.{◌≡◌, map, take}
use Rattle.dma_explain.specs.declared.explain.Repeated.{Repeated}
use Rattle.dma_trace.proofs.ram.sorted_ranges.Given as goal

abbrev pub invariant-loop-item : goal.invariant-loop-item
invariant-loop-item l = l.ranges.items ≡ map (λ (r : Repeated). record { addr = r.addr; len = r.len }) (take l.item-index l.found.src.items)

use Rattle.std.proofs.Common.{◌≡◌, ◌++◌, None, map, take}
use Rattle.dma_why.proofs.waits.push_waits.Given as goal

abbrev pub invariant-loop-by : goal.invariant-loop-by
invariant-loop-by l =
    l.waits.items ≡ l.initial.waits.items ++ map (λ by. record { ch = l.ch; event = None; by = by }) (take l.by-index l.by-items)

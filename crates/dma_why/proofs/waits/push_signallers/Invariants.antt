use Rattle.std.proofs.Common.{◌≡◌, ℕ, ◌+◌, ◌-◌, ◌≤◌, ◌++◌, map}
use Rattle.std.specs.List.{filter, range_with_len}
use Rattle.dma_engine.specs.{Object.channel, Object.finished, Object.unfinished, View.object_of}
use Rattle.dma_why.specs.{declared.waits.Cookie.Cookie, Waits.signals_later}
use Rattle.dma_why.proofs.waits.push_signallers.Given as goal

abbrev pub invariant-loop-before : goal.invariant-loop-before
invariant-loop-before l =
    let o = object_of l.engine.view in
    let first = finished (channel o l.ch) in
    let mk : ℕ → Cookie = λ number. record { ch = l.ch; number = number } in
    (l.found.items ≡ l.initial.found.items ++ map mk (filter (signals_later o l.event l.ch) (range_with_len (first + 1) (l.before - first))))
    × (l.before - first ≤ unfinished (channel o l.ch))

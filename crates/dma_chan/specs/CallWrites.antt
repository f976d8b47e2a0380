-- The addresses that a call of several steps writes.
use Rattle.std.specs.Prelude.{ℕ, Option}
use Rattle.dma_mem.specs.Marking.{MarkList}
use Rattle.dma_chan.specs.{declared.turn.ChanTurn.ChanTurn, Stepping.Machine, Stepping.TakesSteps, Stepping.written_after, Written.KeepsOutside}

-- A call keeps all bytes outside the range that it reports as written. This applies to every program, including one
-- that was not compiled.
abbrev pub CallWritesNoOther : Type 0
CallWritesNoOther =
    (marks : MarkList) (s : Machine) (most taken : ℕ) (last : Option ChanTurn) (after : Machine) →
    TakesSteps marks s most taken last after → KeepsOutside (written_after marks s taken) s.image after.image

-- Ticks as the code stores them.
use Rattle.std.specs.Prelude.{ℕ, Option, Some, None, List, [], ◌∷◌}
use Rattle.dma_work.specs.{declared.tick.Change.Change, declared.tick.Change.TheVariants.Given, declared.tick.Change.TheVariants.Finished}
use Rattle.dma_engine.specs.Ticks.{Tick, Submitted, Finished as TickFinished}

-- the tick of a change on a channel
abbrev pub tick_of : ℕ → Change → Tick
tick_of ch Given = Submitted ch
tick_of ch (Finished count) = TickFinished ch count

-- the channel of a tick
abbrev pub channel_of : Tick → ℕ
channel_of (Submitted ch) = ch
channel_of (TickFinished ch count) = ch

-- the change of a tick
abbrev pub change_of : Tick → Change
change_of (Submitted ch) = Given
change_of (TickFinished ch count) = Finished count

-- a list of one tick, or of none
abbrev pub ticks_of_option : Option Tick → List Tick
ticks_of_option (Some t) = t ∷ []
ticks_of_option None = []

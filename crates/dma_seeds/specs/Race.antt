-- What a race prints whose turns are taken in a given order (profile).
use Rattle.std.specs.Prelude.{ℕ, List, Result, Ok, Err}
use Rattle.dma_engine.specs.Interleaved.{JobTurn}
use Rattle.dma_io.specs.Command.{Printed, refusal}
use Rattle.dma_script.specs.{Printing.fault_line, Race.race_script_of, declared.fault.Fault.Fault, declared.race.RaceScript.RaceScript}
use Rattle.dma_commands.specs.{Left.view_after, Raced.first_view, Raced.race_may_print, Raced.raced_whole, Run.lines_answered}
use Rattle.dma_seeds.specs.Turns.{turns_of_seed}

-- what `run` prints for the lines before `go`, the same for all orders of the turns
abbrev pub early_lines : RaceScript → List (List (List ℕ))
early_lines script = lines_answered (first_view script) script.before.statements

-- What a race script prints if its jobs take these turns in this order.
abbrev pub raced : RaceScript → List JobTurn → Printed
raced script turns = raced_whole (early_lines script) (view_after script.before) turns script.after

-- what is printed for a parsed script and a seed; a script with a fault prints its first fault
abbrev pub race_printed_of : Result RaceScript Fault → ℕ → Printed
race_printed_of (Ok script) seed = raced script (turns_of_seed script.jobs seed)
race_printed_of (Err fault) seed = refusal (fault_line fault)

-- What is printed for an input and a seed.
abbrev pub race_printed : List ℕ → ℕ → Printed
race_printed input seed = race_printed_of (race_script_of input) seed

-- It is what `dmasim race` may print for the input, if that isn't too long for it (`may_print_within`).
abbrev pub SeedsAreRaces : Type 0
SeedsAreRaces = (input : List ℕ) (seed : ℕ) → race_may_print input (race_printed input seed)

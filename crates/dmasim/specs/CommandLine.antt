-- Which command a word of the command line names, and how a run of the program ends.
use Rattle.std.specs.Prelude.{ℕ, ◌∷◌, [], if◌then◌else◌, List, Option, Some, None, IfSome, codes}
use Rattle.std.specs.Str.{bytes_eq}
use Rattle.dma_io.specs.Command.{Ends, Failures, Printed, Wrote, may_print_within, printed_within, text_of}
use Rattle.dmasim.specs.declared.command_line.Subcommand.{Subcommand}
use Rattle.dmasim.specs.declared.command_line.Subcommand.TheVariants.{Asm, Dis, Plan, Run, Race}
use Rattle.dma_commands.specs.{Assembled.asm_printed, Disassembled.dis_printed, Planned.plan_printed, Raced.race_may_print, Run.printed}

-- The command that a word names, if any.
abbrev pub subcommand_of : List ℕ → Option Subcommand
subcommand_of word =
    if bytes_eq word (codes "asm") then Some Asm else (
    if bytes_eq word (codes "dis") then Some Dis else (
    if bytes_eq word (codes "plan") then Some Plan else (
    if bytes_eq word (codes "run") then Some Run else (
    if bytes_eq word (codes "race") then Some Race else None))))

-- What a command may print for an input: `race` one of several texts, each other command exactly one.
abbrev pub subcommand_may_print : Subcommand → List ℕ → Printed → Type 0
subcommand_may_print Asm = printed_within asm_printed
subcommand_may_print Dis = printed_within dis_printed
subcommand_may_print Plan = printed_within plan_printed
subcommand_may_print Run = printed_within printed
subcommand_may_print Race = may_print_within race_may_print

-- The line that is printed if no command is named.
abbrev pub usage : List ℕ
usage = codes "usage: dmasim asm|dis|plan|run|race"

-- How a run of the program ends. A named command ends as it may for the input. If none is named, the usage is printed
-- with status 2, or a write fails with status 1.
abbrev pub WordEnds :
    Option Subcommand → Option (List ℕ) → Failures → Failures → Option (List ℕ) → Option (List ℕ) → ℕ → Type 0
WordEnds (Some command) input reader writer old new status =
    IfSome input (λ all. Ends reader writer (subcommand_may_print command all) old new status)
WordEnds None input reader writer old new status = Wrote writer old new (text_of (usage ∷ [])) 2 status

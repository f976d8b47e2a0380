-- What `dmasim plan` prints for an input.
use Rattle.std.specs.Prelude.{ℕ, ◌∷◌, [], ◌++◌, List, length, Option, Some, None, Result, Ok, Err, codes, decimal}
use Rattle.dma_mem.specs.{declared.transfer.TransferFault.TransferFault, Refusals.refusal_of}
use Rattle.dma_chan.specs.{Programs.ProgramValue, Compiled.compiled}
use Rattle.dma_io.specs.{Command.Printed, Command.refusal, Printing.program_lines}
use Rattle.dma_script.specs.{Printing.fault_line, Plan.plan_of, declared.fault.Fault.Fault, declared.transfer_line.PlanLine.PlanLine}
use Rattle.dma_commands.specs.{Printed.transfer_fault_name, Transfers.transfer_of}

-- `line N: NAME`
abbrev pub invalid_line : ℕ → TransferFault → List ℕ
invalid_line line fault = codes "line " ++ decimal line ++ codes ": " ++ transfer_fault_name fault

-- `cost N` for a program with a cost, else no line
abbrev pub cost_lines : Option ℕ → List (List ℕ)
cost_lines None = []
cost_lines (Some cost) = (codes "cost " ++ decimal cost) ∷ []

-- the lines of a program: its bytes, their number, and its cost
abbrev pub program_printed : ProgramValue → List (List ℕ)
program_printed program =
    program_lines program.bytes ++ (codes "bytes " ++ decimal (length program.bytes)) ∷ cost_lines program.cost

-- What is printed for a transfer: its program, with status 0, or the first rule that it breaks, as a refusal.
abbrev pub transfer_printed : PlanLine → Option TransferFault → Printed
transfer_printed line None = record { groups = program_printed (compiled (transfer_of line.transfer)) ∷ []; status = 0 }
transfer_printed line (Some fault) = refusal (invalid_line line.line fault)

-- What is printed for a parsed line, or for an input with a fault.
abbrev pub plan_printed_of : Result PlanLine Fault → Printed
plan_printed_of (Ok line) = transfer_printed line (refusal_of (transfer_of line.transfer))
plan_printed_of (Err fault) = refusal (fault_line fault)

-- What is printed for an input.
abbrev pub plan_printed : List ℕ → Printed
plan_printed input = plan_printed_of (plan_of input)

-- What a planned transfer prints.
use Rattle.std.proofs.Common.{◌≡◌, ◌≢◌, ◌<◌, ℕ, List, [], ◌∷◌, length, Option, Result, Err, append-nil, arith}
use Rattle.std.specs.Prelude.{OnOk}
use Rattle.std.proofs.Math.Nat.{zero-lt-suc}
use Rattle.dma_mem.specs.{declared.transfer.TransferFault.TransferFault}
use Rattle.dma_io.specs.Command.{Answers, AppendsGroups, refusal}
use Rattle.dma_script.specs.declared.fault.ReadError.TheVariants.{NoMemory}
use Rattle.dma_script.specs.{Lines.Gives, Plan.plan_of, Printing.error_line, declared.fault.ReadError.ReadError, declared.transfer_line.PlanLine.PlanLine}
use Rattle.dma_commands.specs.{Planned.transfer_printed, Planned.plan_printed, Planned.plan_printed_of}
use Rattle.dma_script.specs.declared.fault.Fault.{Fault as ScriptFault}

-- one group is printed, for the program or the fault
pub transfer_printed_some : (line : PlanLine) (unfit : Option TransferFault) → 0 < length (transfer_printed line unfit).groups
transfer_printed_some line unfit = grind (arith, zero-lt-suc)

plan_printed_of_some : (read : Result PlanLine ScriptFault) → 0 < length (plan_printed_of read).groups
plan_printed_of_some read = grind (arith, transfer_printed_some, zero-lt-suc)

-- the first groups of one group are none
pub nothing : (group : List (List ℕ)) (old new : List ℕ) → AppendsGroups (group ∷ []) old new → new ≡ old
nothing group old new a = grind (arith, append-nil)

-- an input that was not read
pub plan_refused : {E : Type 0} (input : List ℕ) (error : ReadError ScriptFault) (result : Result ℕ E) (old new : List ℕ)
    → Gives (λ (line : PlanLine). line) (Err error) (plan_of input) → Answers (refusal (error_line error)) result old new → OnOk result (error ≢ NoMemory)
    → Answers (plan_printed input) result old new
plan_refused input error result old new h h2 h3 = grind (arith, plan_printed_of_some, append-nil)

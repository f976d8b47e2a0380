-- The lines of a script by their numbers, and the message for its fault.
use Rattle.std.proofs.Common.{◌≡◌, ℕ, ◌-◌, ◌<◌, List, [], ◌∷◌, Option, Result, get_or, arith}
use Rattle.std.specs.{Option.option_map_or, Result.result_err}
use Rattle.dma_script.specs.declared.fault.Fault.{Fault}
use Rattle.dma_seeds.specs.Faults.{fault_text, message_of}

-- a line behind the first is that of the rest with one less
pub later_line : (line : List ℕ) (rest : List (List ℕ)) (n : ℕ) → 0 < n → get_or (line ∷ rest) n [] ≡ get_or rest (n - 1) []
later_line line rest n h = grind (arith)

-- the message is that of the fault, if there is one
pub message_by : {A : Type 0} (input : List ℕ) (read : Result A Fault) (fault : Option Fault) → fault ≡ result_err read
    → message_of input read ≡ option_map_or (fault_text input) fault []
message_by input read fault is = grind arith

-- The engine of a parsed script's memory line can be made.
use Rattle.std.proofs.Common.{◌≡◌, ℕ, Bool, true, false, ◌||◌, if◌then◌else◌, not, nat_lt, nat_le, List, Some, None, Result, Ok, refl, subst}
use Rattle.std.proofs.Common.{arith}
use Rattle.std.specs.Prelude.{IfOk}
use Rattle.std.proofs.lemmas.Bool.{le-leb, le-ltb, ne_eqb}
use Rattle.dma_engine.specs.{declared.fault.NewFault.NewFault, View.new_fault}
use Rattle.dma_script.specs.{Statements.IsWithin, Statements.run_script_of, declared.fault.Fault.Fault, declared.statements.RunScript.RunScript}
use Rattle.dma_script.proofs.Within.{IsBefore, IsNoSubmit, run_script_within}

pub script_within : (input : List ℕ) (script : RunScript) → run_script_of input ≡ Ok script → IsBefore IsNoSubmit script
script_within input script is = subst (λ (r : Result RunScript Fault). IfOk r (IsBefore IsNoSubmit)) is (run_script_within input)

-- ---- the engine

no_fault : (a b c : Bool) (x y : NewFault) → a ≡ false → b ≡ false → c ≡ true → (if a || b then Some x else (if not c then Some y else None)) ≡ None
no_fault a b c x y none few sized = rw (none, few, sized) refl

pub can_be_made : (script : RunScript) → IsWithin script → new_fault script.size script.channels ≡ None
can_be_made script within = grind (arith, ne_eqb, nat_lt, le-ltb, nat_le, le-leb, no_fault)

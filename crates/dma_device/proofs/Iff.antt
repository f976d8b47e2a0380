-- Facts that hold exactly if one of others does.
use Rattle.std.proofs.Common.{◌⊎◌, arith}
use Rattle.std.specs.Prelude.{◌↔◌}

-- a fact holds exactly if it or a false one does
pub same_or : (A P : Type 0) → ¬ P → A ↔ (A ⊎ P)
same_or A P none = grind arith

-- one of the two may be replaced by a fact that holds exactly if it does
pub iff_or : (A B P Q : Type 0) → (P → Q) → (Q → P) → B ↔ (A ⊎ P) → B ↔ (A ⊎ Q)
iff_or A B P Q to back x = grind arith

-- two such facts in a row: C holds exactly if A, P or Q does
pub then_or : (A B C P Q : Type 0) → B ↔ (A ⊎ P) → C ↔ (B ⊎ Q) → C ↔ (A ⊎ (P ⊎ Q))
then_or A B C P Q x y = grind arith

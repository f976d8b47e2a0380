-- Texts that are appended to bytes.
use Rattle.std.specs.Prelude.{◌≡◌, ℕ, List, length, take}

-- The list `whole` begins with all of `front`.
pub record Begins (whole front : List ℕ) : Type 0 where
  pub front_is : take (length front) whole ≡ front

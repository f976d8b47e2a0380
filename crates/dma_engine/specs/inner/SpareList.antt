-- Lists with the room for more items.
use Rattle.std.specs.Prelude.{ℕ, List}

-- items, and the room for more
pub record SpareList (T : Type 0) : Type 0 where
  pub items : List T
  pub spare : ℕ

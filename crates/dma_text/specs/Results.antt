-- Steps that may fail, one after another.
use Rattle.std.specs.Prelude.{Result, Ok, Err}

-- the next step, given the value of a result; a fault of the result is kept
infixl 10 ◌>>=◌
abbrev pub ◌>>=◌ : {A B E : Type 0} → Result A E → (A → Result B E) → Result B E
(Ok x) >>= f = f x
(Err e) >>= f = Err e

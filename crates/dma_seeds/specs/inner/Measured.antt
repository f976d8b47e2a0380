-- A text in pieces, with the length of each.
use Rattle.std.specs.Prelude.{◌≡◌, ℕ, List, [], ◌∷◌, ◌++◌, drop, length, map, take}
use Rattle.dma_io.specs.Command.{printed_text, text_of}

-- the lengths of the texts of groups
abbrev pub lengths_of : List (List (List ℕ)) → List ℕ
lengths_of groups = map (λ group. length (text_of group)) groups

-- the pieces of a text that have these lengths, one after another
abbrev pub pieces : List ℕ → List ℕ → List (List ℕ)
pieces [] text = []
pieces (n ∷ rest) text = take n text ∷ pieces rest (drop n text)

-- The texts of groups were appended, and their lengths.
pub record Prints (groups : List (List (List ℕ))) (text text' lengths lengths' : List ℕ) : Type 0 where
  pub appended : text' ≡ text ++ printed_text groups
  pub measured : lengths' ≡ lengths ++ lengths_of groups

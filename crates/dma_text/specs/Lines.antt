-- Lines of text.
use Rattle.std.specs.Prelude.{ℕ, Bool, ◌==◌, ◌||◌, if◌then◌else◌, List, [], ◌∷◌}
use Rattle.std.specs.List.{list_all, onto_first}

-- the lines of a text: a line feed ends each, and the last may lack it
abbrev pub text_lines : List ℕ → List (List ℕ)
text_lines [] = []
text_lines (b ∷ rest) = if b == 10 then [] ∷ text_lines rest else onto_first b (text_lines rest)

-- whether a byte is a space or a tab
abbrev pub is_blank : ℕ → Bool
is_blank b = b == 32 || b == 9

-- whether bytes are all spaces
abbrev pub is_all_spaces : List ℕ → Bool
is_all_spaces bytes = list_all (λ b. b == 32) bytes

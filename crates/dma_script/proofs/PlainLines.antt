-- Where each byte of a text is plain or a line feed, each of its lines is plain.
use Rattle.std.proofs.Common.{◌≡◌, ℕ, ◌≤◌, ◌+◌, Bool, true, false, ◌||◌, eqb, List, [], ◌∷◌, length, take, get_or, zero, suc, subst, arith, length-drop, inl, inr}
use Rattle.std.specs.List.{All, AllPass, list_all, position_or_len, before_first, after_first}
use Rattle.std.specs.Str.Lines.{lines, strip_carriage_return}
use Rattle.std.proofs.lemmas.Bool.{cases_lt}
use Rattle.std.proofs.lemmas.List.{get_or-drop, get_or-take, length-take-le, nil_from_length}
use Rattle.std.proofs.lemmas.List.Sums.{AllPass-from_list_all, fails_before_first, list_all-from_AllPass}
use Rattle.dma_script.specs.Words.{is_plain}
use Rattle.dma_script.proofs.LineLemmas.{lines_first, lines_last}

-- whether a byte is plain or a line feed
abbrev is_plain_or_feed : ℕ → Bool
is_plain_or_feed b = is_plain b || eqb b 10

-- a line of plain bytes
abbrev pub IsPlainLine : List ℕ → Type 0
IsPlainLine line = list_all is_plain line ≡ true

-- one of two holds, and not the second
first_of_two : (p q : Bool) → (p || q) ≡ true → q ≡ false → p ≡ true
first_of_two p q h h2 = grind (arith)

-- what holds of each of a list's items, and of one more in front
all_none : {X : Type 0} (P : X → Type 0) → All P []
all_none P k d h = absurd (omega arith)

all_more : {X : Type 0} (P : X → Type 0) (x : X) (xs : List X) → P x → All P xs → All P (x ∷ xs)
all_more P x xs h h2 = grind (arith)

-- the front of plain bytes
plain_front : (line : List ℕ) (n : ℕ) → n ≤ length line → AllPass is_plain line → AllPass is_plain (take n line)
plain_front line n within plain = λ k d h. let size = length-take-le n line within in rw (get_or-take n line k d (omega arith)) (plain k d (omega arith))

-- and without a carriage return
plain_stripped : (line : List ℕ) → AllPass is_plain line → IsPlainLine (strip_carriage_return line)
plain_stripped line plain = grind (arith, list_all-from_AllPass, plain_front)

lines_plain_within : (n : ℕ) (bytes : List ℕ) → length bytes ≤ n → AllPass is_plain_or_feed bytes → All IsPlainLine (lines bytes)
lines_plain_within zero bytes short plain = let none : bytes ≡ [] = nil_from_length bytes (omega arith) in rw none (all_none IsPlainLine)
lines_plain_within (suc n) bytes short plain =
    let p = λ (b : ℕ). eqb b 10 in
    let at = position_or_len p bytes in
    elim (cases_lt at (length bytes)) [
      | inl less ↦
          let size = length-take-le at bytes (omega arith) in
          let front : AllPass is_plain (before_first p bytes) =
          λ k d h. rw (get_or-take at bytes k d (omega arith))
          (first_of_two (is_plain (get_or bytes k d)) (eqb (get_or bytes k d) 10) (plain k d (omega arith))
          (fails_before_first p bytes k d (omega arith))) in
          let rest : AllPass is_plain_or_feed (after_first p bytes) =
          λ k d h. rw (get_or-drop (at + 1) bytes k d) (plain (at + 1 + k) d (omega (arith, length-drop (at + 1) bytes))) in
          rw (lines_first bytes less)
          (all_more IsPlainLine (strip_carriage_return (before_first p bytes)) (lines (after_first p bytes)) (plain_stripped (before_first p bytes) front)
          (lines_plain_within n (after_first p bytes) (omega (arith, length-drop (at + 1) bytes)) rest))
      | inr more ↦ elim (cases_lt 0 (length bytes)) [
        | inl some ↦
            let line : AllPass is_plain bytes =
            λ k d h. first_of_two (is_plain (get_or bytes k d)) (eqb (get_or bytes k d) 10) (plain k d h) (fails_before_first p bytes k d (omega arith)) in
            rw (lines_last bytes some more) (all_more IsPlainLine bytes [] (list_all-from_AllPass is_plain bytes line) (all_none IsPlainLine))
        | inr empty ↦ let none : bytes ≡ [] = nil_from_length bytes (omega arith) in rw none (all_none IsPlainLine)
      ]
    ]

pub lines_plain : (bytes : List ℕ) → list_all is_plain_or_feed bytes ≡ true → All IsPlainLine (lines bytes)
lines_plain bytes plain = lines_plain_within (length bytes) bytes (omega arith) (AllPass-from_list_all is_plain_or_feed bytes plain)

-- the first line, and those after it
pub first_plain : (text line rest : List ℕ) → lines text ≡ line ∷ lines rest → All IsPlainLine (lines text) → list_all is_plain line ≡ true
first_plain text line rest is all = subst (All IsPlainLine) is all 0 [] (omega arith)

pub rest_plain : (text line rest : List ℕ) → lines text ≡ line ∷ lines rest → All IsPlainLine (lines text) → All IsPlainLine (lines rest)
rest_plain text line rest is all = λ k d h. subst (All IsPlainLine) is all (suc k) d (omega arith)

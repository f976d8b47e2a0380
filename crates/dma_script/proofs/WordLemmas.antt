-- The words of a line, cut off one after another.
use Rattle.std.proofs.Common.{◌≡◌, ◌==◌, ◌∙◌, ℕ, ◌+◌, ◌-◌, ◌<◌, ◌≤◌, true, false, not, List, [], ◌∷◌, ◌++◌, length, take, drop, filter, get_or, sym, ap}
use Rattle.std.proofs.Common.{arith, length-drop, inl, inr, Some, None}
use Rattle.std.proofs.lemmas.List.{take_rest, length-take-le, take-append-drop, get_or-drop, get_or-take, at_drop_more}
use Rattle.std.proofs.lemmas.Bool.{cases_lt, false≢true, false_from_ne_true, ne_eqb}
use Rattle.std.proofs.{lemmas.Grind.get_or_default_zero, lemmas.List.Splits.slice_split_at, lemmas.List.Splits.slice_split_none}
use Rattle.std.specs.List.{slice_split}
use Rattle.dma_text.specs.Lines.{is_blank}
use Rattle.dma_script.specs.{Words.words_of, inner.Reading.NoBlank}
use Rattle.memchr.specs.Find.{IsFirstByte, is_byte2}

-- A part with a byte is a word.
word_first : (part : List ℕ) (parts : List (List ℕ)) → 0 < length part
    → filter (λ word. not (length word == 0)) (part ∷ parts) ≡ part ∷ filter (λ word. not (length word == 0)) parts
word_first part parts h = grind (arith, ne_eqb)

-- One more byte that is no blank.
pub no_blank_more : (line : List ℕ) (start end : ℕ) → NoBlank line start end → is_blank (get_or line end 0) ≡ false → NoBlank line start (end + 1)
no_blank_more line start end none other k after below = grind (arith, cases_lt)

-- A blank at the start changes nothing.
pub words_past_blank : (line : List ℕ) → 0 < length line → is_blank (get_or line 0 0) ≡ true → words_of (drop 1 line) ≡ words_of line
words_past_blank line h h2 = grind (arith)

-- A byte can't be a blank and not be one.
not_both : (b : ℕ) → is_blank b ≡ true → is_blank b ≡ false → ⊥
not_both b blank other = false≢true (sym other ∙ blank)

-- A word that a line begins with ends at the first blank.
pub word_at : (line : List ℕ) (end : ℕ) → is_blank (get_or line 0 0) ≡ false → end < length line → NoBlank line 0 end → is_blank (get_or line end 0) ≡ true
    → words_of line ≡ take end line ∷ words_of (take (length line - (end + 1)) (drop (end + 1) line))
word_at line end first within none blank =
    let some : 0 < end = elim (cases_lt 0 end) [
      | inl less ↦ less
      | inr more ↦ let zero_end : end ≡ 0 = omega arith in
          absurd (not_both (get_or line end 0) blank (ap (λ (k : ℕ). is_blank (get_or line k 0)) zero_end ∙ first))
    ] in
    let size : length (take end line) ≡ end = length-take-le end line (omega arith) in
    let split = slice_split_at is_blank (take end line) (get_or line end 0) (drop (end + 1) line)
    (λ k d h. ap is_blank (get_or-take end line k d (omega arith) ∙ get_or_default_zero line k d (omega arith)) ∙ none k (omega arith) (omega arith)) blank in
    ap words_of (sym (take-append-drop end line) ∙ at_drop_more (λ rest. take end line ++ rest) line end 0 within)
    ∙ ap (filter (λ word. not (length word == 0))) split ∙ word_first (take end line) (slice_split is_blank (drop (end + 1) line)) (omega arith)
    ∙ ap (λ (rest : List ℕ). take end line ∷ words_of rest) (sym (take_rest line (end + 1)))

-- A line without a blank is a word.
pub word_alone : (line : List ℕ) → 0 < length line → NoBlank line 0 (length line) → words_of line ≡ line ∷ []
word_alone line some none = grind (arith, slice_split_none, get_or_default_zero, word_first)

-- No blank up to a place, and none from there on.
pub no_blank_joined : (line : List ℕ) (mid end : ℕ) → NoBlank line 0 mid → NoBlank line mid end → NoBlank line 0 end
no_blank_joined line mid end before behind k after below = grind (arith, cases_lt)

-- What a search for a blank finds in the rest of a line.
pub rest_at : (line : List ℕ) (start k : ℕ) → get_or (take (length line - start) (drop start line)) k 0 ≡ get_or line (start + k) 0
rest_at line start k = ap (λ (rest : List ℕ). get_or rest k 0) (take_rest line start) ∙ get_or-drop start line k 0

found_before : (line : List ℕ) (start more : ℕ) → start ≤ length line
    → ((j : ℕ) → 0 ≤ j → j < more → is_blank (get_or (take (length line - start) (drop start line)) j 0) ≡ true → ⊥) → NoBlank line start (start + more)
found_before line start more within before k after below =
    let place : start + (k - start) ≡ k = omega arith in
    ap (λ (j : ℕ). is_blank (get_or line j 0)) (sym place) ∙ ap is_blank (sym (rest_at line start (k - start)))
    ∙ false_from_ne_true (is_blank (get_or (take (length line - start) (drop start line)) (k - start) 0))
    (λ blank. before (k - start) (omega arith) (omega arith) blank)

pub found_blank : (line : List ℕ) (start more : ℕ) → start ≤ length line
    → IsFirstByte (is_byte2 32 9) (take (length line - start) (drop start line)) (Some more) → (start + more < length line) × NoBlank line start (start + more)
    × (is_blank (get_or line (start + more) 0) ≡ true)
found_blank line start more within h =
    let some : start + more < length line = omega (arith, h.0.high, ap length (take_rest line start) ∙ length-drop start line) in
    let none : NoBlank line start (start + more) = found_before line start more within h.0.before in
    (some, none, ap is_blank (sym (rest_at line start more)) ∙ h.1)

pub found_none : (line : List ℕ) (start : ℕ) → start ≤ length line → IsFirstByte (is_byte2 32 9) (take (length line - start) (drop start line)) None
    → NoBlank line start (length line)
found_none line start within h k after below =
    let place : start + (k - start) ≡ k = omega arith in
    ap (λ (j : ℕ). is_blank (get_or line j 0)) (sym place) ∙ ap is_blank (sym (rest_at line start (k - start)))
    ∙ false_from_ne_true (is_blank (get_or (take (length line - start) (drop start line)) (k - start) 0))
    (λ blank. h (k - start) (omega arith) (omega (arith, ap length (take_rest line start) ∙ length-drop start line)) blank)

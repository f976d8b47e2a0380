-- Where a text is cut: its lines, their comments and their words.
use Rattle.std.proofs.Common.{◌≡◌, ℕ, Bool, true, false, not, ◌&&◌, ◌==◌, List, [], ◌∷◌, ◌++◌, length, take, drop, min, refl, sym, ap, ◌∙◌, Some, None, Option, position, eqb, arith, one-add}
use Rattle.std.specs.List.{list_all, position_or_len}
use Rattle.std.proofs.lemmas.Bool.{and_parts, and_from, cases_lt, lt-ltb, le-ltb, eqb-true, ne_eqb}
use Rattle.std.proofs.lemmas.List.{take_min, drop_min}
use Rattle.std.proofs.lemmas.List.Folds.{list_all-append}
use Rattle.std.specs.List.{onto_first}
use Rattle.dma_text.specs.Lines.{text_lines}
use Rattle.dma_manual.specs.Words.{begins_comment, code_of, cut_at_gap, is_word_byte, next_of, place_or_len}

pub all_append : (p : ℕ → Bool) (xs ys : List ℕ) → list_all p xs ≡ true → list_all p ys ≡ true → list_all p (xs ++ ys) ≡ true
all_append p xs ys h k = rw (list_all-append p xs ys, h, k) refl

-- the place of a test's first byte, or the length of the bytes
place_is : (p : ℕ → Bool) (xs : List ℕ) → place_or_len (position p xs) xs ≡ min (position_or_len p xs) (length xs)
place_is p xs = grind (arith, cases_lt, lt-ltb, le-ltb)

-- whether a byte is within a line, and before its comment
abbrev pub is_inline : ℕ → Bool
is_inline b = not (b == 10) && not (begins_comment b)

abbrev pub no_feed : ℕ → Bool
no_feed b = not (b == 10)

pub inline_no_feed : (xs : List ℕ) → list_all is_inline xs ≡ true → list_all no_feed xs ≡ true
inline_no_feed [] h = refl
inline_no_feed (b ∷ xs) h =
    let parts = and_parts (is_inline b) (list_all is_inline xs) h in
    and_from (no_feed b) (list_all no_feed xs) (and_parts (no_feed b) (not (begins_comment b)) parts.0).0 (inline_no_feed xs parts.1)

not_true : (t : Bool) → not t ≡ true → t ≡ false
not_true t h = grind (arith)

-- lines
pub lines_feed : (line rest : List ℕ) → list_all no_feed line ≡ true → text_lines (line ++ 10 ∷ rest) ≡ line ∷ text_lines rest
lines_feed [] rest h = refl
lines_feed (b ∷ line) rest h =
    let parts = and_parts (no_feed b) (list_all no_feed line) h in
    rw (not_true (eqb b 10) parts.0) (ap (onto_first b) (lines_feed line rest parts.1))

pub line_alone : (b : ℕ) (line : List ℕ) → list_all no_feed (b ∷ line) ≡ true → text_lines (b ∷ line) ≡ (b ∷ line) ∷ []
line_alone b [] h = rw (not_true (eqb b 10) (and_parts (no_feed b) true h).0) refl
line_alone b (c ∷ line) h =
    let parts = and_parts (no_feed b) (list_all no_feed (c ∷ line)) h in
    rw (not_true (eqb b 10) parts.0) (ap (onto_first b) (line_alone c line parts.1))

-- comments
code_is : (line : List ℕ) → code_of line ≡ take (position_or_len begins_comment line) line
code_is line = ap (λ n. take n line) (place_is begins_comment line) ∙ take_min (position_or_len begins_comment line) line

cut_comment : (front rest : List ℕ) → list_all is_inline front ≡ true → take (position_or_len begins_comment (front ++ 59 ∷ rest)) (front ++ 59 ∷ rest) ≡ front
cut_comment [] rest h = refl
cut_comment (b ∷ front) rest h =
    let parts = and_parts (is_inline b) (list_all is_inline front) h in
    rw ((and_parts (no_feed b) (not (begins_comment b)) parts.0).1, one-add) (ap (λ l. b ∷ l) (cut_comment front rest parts.1))

no_comment : (line : List ℕ) → list_all is_inline line ≡ true → take (position_or_len begins_comment line) line ≡ line
no_comment [] h = refl
no_comment (b ∷ line) h =
    let parts = and_parts (is_inline b) (list_all is_inline line) h in
    rw ((and_parts (no_feed b) (not (begins_comment b)) parts.0).1, one-add) (ap (λ l. b ∷ l) (no_comment line parts.1))

pub code_before : (front rest : List ℕ) → list_all is_inline front ≡ true → code_of (front ++ 59 ∷ rest) ≡ front
code_before front rest h = code_is (front ++ 59 ∷ rest) ∙ cut_comment front rest h

pub code_all : (line : List ℕ) → list_all is_inline line ≡ true → code_of line ≡ line
code_all line h = code_is line ∙ no_comment line h

-- words
abbrev pub is_space : ℕ → Bool
is_space b = b == 32

abbrev pub has_bytes : List ℕ → Bool
has_bytes [] = false
has_bytes (b ∷ bytes) = true

-- nothing, or bytes that begin with a space
abbrev pub is_gap : List ℕ → Bool
is_gap [] = true
is_gap (b ∷ bytes) = is_space b

pub gap_spaces : (tail : List ℕ) → list_all is_space tail ≡ true → is_gap tail ≡ true
gap_spaces tail h = grind (arith, and_parts)

skip_is : (rest : List ℕ) → next_of rest ≡ cut_at_gap (drop (position_or_len is_word_byte rest) rest)
skip_is rest = ap (λ n. cut_at_gap (drop n rest)) (place_is is_word_byte rest) ∙ ap cut_at_gap (drop_min (position_or_len is_word_byte rest) rest)

pub next_space : (rest : List ℕ) → next_of (32 ∷ rest) ≡ next_of rest
next_space rest = skip_is (32 ∷ rest) ∙ rw one-add refl ∙ sym (skip_is rest)

-- a word, and what follows it
cut_word : (w rest : List ℕ) → list_all is_word_byte w ≡ true → is_gap rest ≡ true
    → (take (position_or_len is_space (w ++ rest)) (w ++ rest) ≡ w) × (drop (position_or_len is_space (w ++ rest)) (w ++ rest) ≡ rest)
cut_word [] [] h g = (refl, refl)
cut_word [] (b ∷ rest) h g = (rw g refl, rw g refl)
cut_word (b ∷ w) rest h g =
    let parts = and_parts (is_word_byte b) (list_all is_word_byte w) h in
    let more = cut_word w rest parts.1 g in
    (rw (parts.0, one-add) (ap (λ l. b ∷ l) more.0), rw (parts.0, one-add) more.1)

split_is : (n m : ℕ) (bytes : List ℕ) → n ≡ min m (length bytes)
    → ◌≡◌ {A = Option (List ℕ × List ℕ)} (Some (take n bytes, drop n bytes)) (Some (take m bytes, drop m bytes))
split_is n m bytes e = rw (e, take_min m bytes, drop_min m bytes) refl

cut_some : (b : ℕ) (bytes : List ℕ)
    → cut_at_gap (b ∷ bytes) ≡ Some (take (position_or_len is_space (b ∷ bytes)) (b ∷ bytes), drop (position_or_len is_space (b ∷ bytes)) (b ∷ bytes))
cut_some b bytes = grind (arith, ne_eqb, split_is, place_is)

at_once : (b : ℕ) (bytes : List ℕ) → is_word_byte b ≡ true → position_or_len is_word_byte (b ∷ bytes) ≡ 0
at_once b bytes h = rw h refl

pub next_word : (w rest : List ℕ) → has_bytes w ≡ true → list_all is_word_byte w ≡ true → is_gap rest ≡ true → next_of (w ++ rest) ≡ Some (w, rest)
next_word w rest h h2 h3 = grind (arith, and_parts, cut_word, skip_is, at_once, cut_some)

pub next_none : (tail : List ℕ) → list_all is_space tail ≡ true → next_of tail ≡ None
next_none [] h = refl
next_none (b ∷ tail) h =
    let parts = and_parts (is_space b) (list_all is_space tail) h in
    ap (λ (c : ℕ). next_of (c ∷ tail)) (eqb-true b 32 parts.0) ∙ next_space tail ∙ next_none tail parts.1

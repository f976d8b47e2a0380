-- Numbers in decimal and hexadecimal digits, which the assembler reads back.
use Rattle.std.proofs.Common.{◌≡◌, ℕ, ◌+◌, ◌*◌, ◌/◌, ◌%◌, ◌^◌, ◌<◌, ◌≤◌, Bool, true, false, ◌&&◌, List, [], ◌∷◌, ◌++◌, map, nat_lt, zero, suc, refl, sym}
use Rattle.std.proofs.Common.{ap, ◌∙◌, Some, eqb, cond, arith, decimal, append_assoc, inl, inr}
use Rattle.std.proofs.lemmas.List.{map-append}
use Rattle.std.proofs.lemmas.Bool.{and_parts, and_from, cases_lt, cond_both, lt-leb, ne_eqb}
use Rattle.std.specs.{List.list_all, Fmt.digits, Fmt.digits_onto, Fmt.digit_glyph, Char.digit_value}
use Rattle.dma_text.specs.Digits.{hex_digits, hex_pair, spaced_bytes}
use Rattle.dma_manual.specs.{Words.is_word_byte, Words.plain_byte, Operands.digits_from, Operands.digits_in, Operands.number_of}
use Rattle.dma_manual.proofs.Cuts.{all_append, is_inline, no_feed, has_bytes}

-- a printed text as the assembler takes it: in lower case, with spaces in place of commas
abbrev pub plain : List ℕ → List ℕ
plain bytes = map plain_byte bytes

pub plain_append_law : (xs ys tail : List ℕ) → plain (xs ++ ys) ++ tail ≡ plain xs ++ (plain ys ++ tail)
plain_append_law xs ys tail = ap (λ (l : List ℕ). l ++ tail) (map-append plain_byte xs ys) ∙ append_assoc (plain xs) (plain ys) tail

pub plain_four : (a b c d tail : List ℕ) → plain (a ++ b ++ c ++ d) ++ tail ≡ plain a ++ (plain b ++ (plain c ++ (plain d ++ tail)))
plain_four a b c d tail = simp (map-append, append_assoc)

-- what a function gives at each number below n
abbrev pub each : {A : Type 0} → ℕ → (ℕ → A) → List A
each zero f = []
each (suc n) f = f n ∷ each n f

pub each_at : {A : Type 0} (f g : ℕ → A) (m n : ℕ) → each m f ≡ each m g → n < m → f n ≡ g n
each_at f g zero n e less = absurd (omega arith)
each_at f g (suc m) n e less =
    let last : f m ≡ g m = cc in
    let others : each m f ≡ each m g = cc in
    elim (cases_lt n m) [
      | inl before ↦ each_at f g m n others before
      | inr most ↦ let same : n ≡ m = omega arith in ap f same ∙ last ∙ sym (ap g same)
    ]

-- whether the digits of a number are a word, before any comment
abbrev decimal_passes : ℕ → Bool
decimal_passes n = has_bytes (plain (decimal n)) && (list_all is_word_byte (plain (decimal n)) && list_all is_inline (decimal n))

decimal_values : each 257 (λ n. number_of (plain (decimal n))) ≡ each 257 (λ n. Some n)
unfolding digits
decimal_values = refl

decimal_words : each 257 decimal_passes ≡ each 257 (λ n. true)
unfolding digits
decimal_words = refl

-- The digits of a number of at most 256 are a word that is read as the number.
pub record IsRead (n : ℕ) : Type 0 where
  pub value : number_of (plain (decimal n)) ≡ Some n
  pub some : has_bytes (plain (decimal n)) ≡ true
  pub word : list_all is_word_byte (plain (decimal n)) ≡ true
  pub inline : list_all is_inline (decimal n) ≡ true

pub decimal_read : (n : ℕ) → n ≤ 256 → IsRead n
decimal_read n small =
    let passes = each_at decimal_passes (λ n. true) 257 n decimal_words (omega arith) in
    let parts = and_parts (has_bytes (plain (decimal n))) (list_all is_word_byte (plain (decimal n)) && list_all is_inline (decimal n)) passes in
    let more = and_parts (list_all is_word_byte (plain (decimal n))) (list_all is_inline (decimal n)) parts.1 in
    record {
      value = each_at (λ n. number_of (plain (decimal n))) (λ n. Some n) 257 n decimal_values (omega arith);
      some = parts.0;
      word = more.0;
      inline = more.1;
    }

-- one hexadecimal digit
abbrev glyph : ℕ → ℕ
glyph d = plain_byte (digit_glyph true d)

abbrev glyph_passes : ℕ → Bool
glyph_passes d = is_word_byte (glyph d) && is_inline (digit_glyph true d)

glyph_values : each 16 (λ d. digit_value (glyph d)) ≡ each 16 (λ d. d)
glyph_values = refl

glyph_words : each 16 glyph_passes ≡ each 16 (λ d. true)
glyph_words = refl

glyph_value : (d : ℕ) → d < 16 → digit_value (glyph d) ≡ d
glyph_value d small = each_at (λ d. digit_value (glyph d)) (λ d. d) 16 d glyph_values small

glyph_word : (d : ℕ) → d < 16 → (is_word_byte (glyph d) ≡ true) × (is_inline (digit_glyph true d) ≡ true)
glyph_word d small = and_parts (is_word_byte (glyph d)) (is_inline (digit_glyph true d)) (each_at glyph_passes (λ d. true) 16 d glyph_words small)

-- one more digit
hex_more : (value d next : ℕ) (rest : List ℕ) → d < 16 → value * 16 + d ≡ next → next ≤ 2 ^ 32
    → digits_from 16 value (glyph d ∷ rest) ≡ digits_from 16 next rest
hex_more value d next rest small e most = grind (arith, glyph_value, lt-leb)

pub hex_read : (v : ℕ) → v < 2 ^ 32 → number_of (48 ∷ 120 ∷ plain (hex_digits v)) ≡ Some v
hex_read v small =
    let g = λ (w : ℕ). glyph (v / w % 16) in
    hex_more 0 (v / 0x10000000 % 16) (v / 0x10000000) (g 0x1000000 ∷ g 0x100000 ∷ g 0x10000 ∷ g 0x1000 ∷ g 0x100 ∷ g 0x10 ∷ g 0x1 ∷ []) (omega arith)
    (omega arith) (omega arith)
    ∙ hex_more (v / 0x10000000) (v / 0x1000000 % 16) (v / 0x1000000) (g 0x100000 ∷ g 0x10000 ∷ g 0x1000 ∷ g 0x100 ∷ g 0x10 ∷ g 0x1 ∷ []) (omega arith)
    (omega arith) (omega arith)
    ∙ hex_more (v / 0x1000000) (v / 0x100000 % 16) (v / 0x100000) (g 0x10000 ∷ g 0x1000 ∷ g 0x100 ∷ g 0x10 ∷ g 0x1 ∷ []) (omega arith) (omega arith)
    (omega arith)
    ∙ hex_more (v / 0x100000) (v / 0x10000 % 16) (v / 0x10000) (g 0x1000 ∷ g 0x100 ∷ g 0x10 ∷ g 0x1 ∷ []) (omega arith) (omega arith) (omega arith)
    ∙ hex_more (v / 0x10000) (v / 0x1000 % 16) (v / 0x1000) (g 0x100 ∷ g 0x10 ∷ g 0x1 ∷ []) (omega arith) (omega arith) (omega arith)
    ∙ hex_more (v / 0x1000) (v / 0x100 % 16) (v / 0x100) (g 0x10 ∷ g 0x1 ∷ []) (omega arith) (omega arith) (omega arith)
    ∙ hex_more (v / 0x100) (v / 0x10 % 16) (v / 0x10) (g 0x1 ∷ []) (omega arith) (omega arith) (omega arith)
    ∙ hex_more (v / 0x10) (v / 0x1 % 16) v [] (omega arith) (omega arith) (omega arith)

places_words : (v : ℕ) (weights : List ℕ) → (list_all is_word_byte (plain (map (λ w. digit_glyph true (v / w % 16)) weights)) ≡ true)
    × (list_all is_inline (map (λ w. digit_glyph true (v / w % 16)) weights) ≡ true)
places_words v [] = (refl, refl)
places_words v (w ∷ weights) =
    let one = glyph_word (v / w % 16) (omega arith) in
    let more = places_words v weights in
    (and_from _ _ one.0 more.0, and_from _ _ one.1 more.1)

pub hex_words : (v : ℕ) → (list_all is_word_byte (plain (hex_digits v)) ≡ true) × (list_all is_inline (hex_digits v) ≡ true)
hex_words v = places_words v (0x10000000 ∷ 0x1000000 ∷ 0x100000 ∷ 0x10000 ∷ 0x1000 ∷ 0x100 ∷ 0x10 ∷ 0x1 ∷ [])

pair_words : (b : ℕ) → b < 256 → (list_all is_word_byte (plain (hex_pair b)) ≡ true) × (list_all is_inline (hex_pair b) ≡ true)
pair_words b small =
    let high = glyph_word (b / 16) (omega arith) in
    let low = glyph_word (b % 16) (omega arith) in
    (and_from _ _ high.0 (and_from _ _ low.0 refl), and_from _ _ high.1 (and_from _ _ low.1 refl))

-- The hexadecimal digits of two bytes, one behind the other, can stand in a word and in a line.
pub four_words : (o : ℕ) → (list_all is_word_byte (plain (hex_pair (o / 256 % 256) ++ hex_pair (o % 256))) ≡ true)
    × (list_all is_inline (hex_pair (o / 256 % 256) ++ hex_pair (o % 256)) ≡ true)
four_words o =
    let high = pair_words (o / 256 % 256) (omega arith) in
    let low = pair_words (o % 256) (omega arith) in (
      all_append is_word_byte (plain (hex_pair (o / 256 % 256))) (plain (hex_pair (o % 256))) high.0 low.0,
      all_append is_inline (hex_pair (o / 256 % 256)) (hex_pair (o % 256)) high.1 low.1,
    )

-- two bytes, each in two digits
pub pairs_read : (o : ℕ) → o < 65536 → digits_in 16 (plain (hex_pair (o / 256 % 256) ++ hex_pair (o % 256))) ≡ Some o
pairs_read o small =
    let a = o / 256 % 256 in let b = o % 256 in
    hex_more 0 (a / 16) (a / 16) (glyph (a % 16) ∷ glyph (b / 16) ∷ glyph (b % 16) ∷ []) (omega arith) (omega arith) (omega arith)
    ∙ hex_more (a / 16) (a % 16) a (glyph (b / 16) ∷ glyph (b % 16) ∷ []) (omega arith) (omega arith) (omega arith)
    ∙ hex_more a (b / 16) (a * 16 + b / 16) (glyph (b % 16) ∷ []) (omega arith) refl (omega arith)
    ∙ hex_more (a * 16 + b / 16) (b % 16) o [] (omega arith) (omega arith) (omega arith)

-- no digit is a line feed
later_feed : (b : ℕ) → 10 < b → no_feed b ≡ true
later_feed b more = rw (ne_eqb b 10 (λ z. omega arith)) refl

glyph_feed : (upper : Bool) (d : ℕ) → no_feed (digit_glyph upper d) ≡ true
glyph_feed upper d = grind (arith, cond_both, nat_lt, later_feed)

digits_feed : (k n : ℕ) (bytes : List ℕ) → list_all no_feed bytes ≡ true → list_all no_feed (digits_onto k 10 false n bytes) ≡ true
digits_feed zero n bytes h = h
digits_feed (suc k) n bytes h =
    let one = and_from (no_feed (digit_glyph false (n % 10))) (list_all no_feed bytes) (glyph_feed false (n % 10)) h in
    elim (eqb (n / 10) 0) as (λ (t : Bool). list_all no_feed
    (cond t (digit_glyph false (n % 10) ∷ bytes) (digits_onto k 10 false (n / 10) (digit_glyph false (n % 10) ∷ bytes))) ≡ true) [
      | true ↦ one
      | false ↦ digits_feed k (n / 10) (digit_glyph false (n % 10) ∷ bytes) one
    ]

pub decimal_feed : (n : ℕ) → list_all no_feed (decimal n) ≡ true
unfolding digits
decimal_feed n = digits_feed 64 n [] refl

places_feed : (v : ℕ) (weights : List ℕ) → list_all no_feed (map (λ w. digit_glyph true (v / w % 16)) weights) ≡ true
places_feed v [] = refl
places_feed v (w ∷ weights) = and_from _ _ (glyph_feed true (v / w % 16)) (places_feed v weights)

pub hex_feed : (v : ℕ) → list_all no_feed (hex_digits v) ≡ true
hex_feed v = places_feed v (0x10000000 ∷ 0x1000000 ∷ 0x100000 ∷ 0x10000 ∷ 0x1000 ∷ 0x100 ∷ 0x10 ∷ 0x1 ∷ [])

pub spaced_feed : (bytes : List ℕ) → list_all no_feed (spaced_bytes bytes) ≡ true
spaced_feed [] = refl
spaced_feed (b ∷ bytes) = and_from _ _ (glyph_feed true (b / 16)) (and_from _ _ (glyph_feed true (b % 16)) (spaced_feed bytes))

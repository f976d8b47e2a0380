-- The bytes of hexadecimal words, pair by pair.
use Rattle.std.proofs.Common.{◌≡◌, ℕ, ◌≤◌, ◌+◌, ◌*◌, true, false, not, ◌==◌, List, [], ◌∷◌, ◌++◌, length, drop, filter}
use Rattle.std.proofs.Common.{get_or, refl, ap, ◌∙◌, sym, arith, append_assoc, append-nil, Option, Some, None, Result, Ok}
use Rattle.std.proofs.{lemmas.Bool.eqb-true, lemmas.Bool.false_from_ne_true, lemmas.Bool.or_cases, lemmas.Bool.Decides.nat_tests}
use Rattle.std.specs.{List.onto_first, List.slice_split, Option.ok_or, Option.option_map, Option.option_and_then}
use Rattle.dma_text.specs.{Lines.is_blank, Results.◌>>=◌}
use Rattle.dma_script.specs.Words.{bytes_in, hex_digit_of, hex_pair_of, words_of}
use Rattle.dma_script.specs.{inner.Digits.bytes_after, declared.fault.Cause.Cause, declared.fault.Cause.TheVariants.Hex}

-- bytes read before, and then those of a hexadecimal word; `Hex` for any other word
abbrev hex_after : List ℕ → List ℕ → Result (List ℕ) Cause
hex_after before word = do
  more ← ok_or (bytes_in word) Hex
  Ok (before ++ more)

-- the words among the parts between blanks
abbrev full : List (List ℕ) → List (List ℕ)
full parts = filter (λ word. not (length word == 0)) parts

pub some_word : (a : ℕ) (word : List ℕ) → (length (a ∷ word) == 0) ≡ false
some_word a word = grind (arith, nat_tests)

-- One more word.
bytes_after_word : (before word : List ℕ) (words : List (List ℕ))
    → bytes_after before (word ∷ words) ≡ (hex_after before word >>= (λ bytes. bytes_after bytes words))
bytes_after_word before word words = grind (arith, append_assoc)

-- ---- a pair of digits

joined : (before : List ℕ) (b : ℕ) (rest : Option (List ℕ))
    → (ok_or (option_map (λ more. b ∷ more) rest) Hex >>= (λ more. Ok (before ++ more))) ≡ (ok_or rest Hex >>= (λ more. Ok ((before ++ b ∷ []) ++ more)))
joined before b rest = grind (arith, append_assoc)

pair_in : (a b byte : ℕ) (before word : List ℕ) (high low : Option ℕ) → hex_digit_of a ≡ high → hex_digit_of b ≡ low
    → option_and_then (λ h. option_map (λ l. 16 * h + l) low) high ≡ Some byte → hex_after before (a ∷ b ∷ word) ≡ hex_after (before ++ byte ∷ []) word
pair_in a b byte before word None low x y is = absurd cc
pair_in a b byte before word (Some h) None x y is = absurd cc
pair_in a b byte before word (Some h) (Some l) x y is = let same : 16 * h + l ≡ byte = cc in rw (x, y, same) (joined before byte (bytes_in word))

-- The first part after a pair, which may be empty.
part_after : (before part : List ℕ) (parts : List (List ℕ))
    → (hex_after before part >>= (λ bytes. bytes_after bytes (full parts))) ≡ bytes_after before (full (part ∷ parts))
part_after before part parts = grind (arith, append-nil, some_word, bytes_after_word)

pair_parts : (a b byte : ℕ) (before part : List ℕ) (parts : List (List ℕ)) → hex_pair_of a b ≡ Some byte
    → bytes_after before (full ((a ∷ b ∷ part) ∷ parts)) ≡ bytes_after (before ++ byte ∷ []) (full (part ∷ parts))
pair_parts a b byte before part parts is =
    rw (some_word a (b ∷ part))
    (bytes_after_word before (a ∷ b ∷ part) (full parts)
    ∙ ap (λ r. r >>= (λ bytes. bytes_after bytes (full parts))) (pair_in a b byte before part _ _ refl refl is)
    ∙ part_after (before ++ byte ∷ []) part parts)

parts_after : (a b byte : ℕ) (before : List ℕ) (parts : List (List ℕ)) → hex_pair_of a b ≡ Some byte
    → bytes_after before (full (onto_first a (onto_first b parts))) ≡ bytes_after (before ++ byte ∷ []) (full parts)
parts_after a b byte before [] is = pair_parts a b byte before [] [] is
parts_after a b byte before (part ∷ parts) is = pair_parts a b byte before part parts is

-- A blank is no digit.
blank_is_no_digit : (b : ℕ) → is_blank b ≡ true → hex_digit_of b ≡ None
blank_is_no_digit b blank = grind (arith, or_cases, eqb-true)

digit_is_no_blank : (b digit : ℕ) → hex_digit_of b ≡ Some digit → is_blank b ≡ false
digit_is_no_blank b digit is = false_from_ne_true (is_blank b) (λ blank. absurd (let bad : None ≡ Some digit = sym (blank_is_no_digit b blank) ∙ is in cc))

no_blanks : (a b byte : ℕ) (high low : Option ℕ) → hex_digit_of a ≡ high → hex_digit_of b ≡ low
    → option_and_then (λ h. option_map (λ l. 16 * h + l) low) high ≡ Some byte → (is_blank a ≡ false) × (is_blank b ≡ false)
no_blanks a b byte None low x y is = absurd cc
no_blanks a b byte (Some h) None x y is = absurd cc
no_blanks a b byte (Some h) (Some l) x y is = (digit_is_no_blank a h x, digit_is_no_blank b l y)

-- One more pair.
pub bytes_after_pair : (before rest : List ℕ) (byte : ℕ) → 2 ≤ length rest → hex_pair_of (get_or rest 0 0) (get_or rest 1 0) ≡ Some byte
    → bytes_after (before ++ byte ∷ []) (words_of (drop 2 rest)) ≡ bytes_after before (words_of rest)
bytes_after_pair before [] byte two is = absurd (omega arith)
bytes_after_pair before (a ∷ []) byte two is = absurd (omega arith)
bytes_after_pair before (a ∷ b ∷ rest) byte two is =
    let plain = no_blanks a b byte _ _ refl refl is in
    rw (plain.0, plain.1) (sym (parts_after a b byte before (slice_split is_blank rest) is))

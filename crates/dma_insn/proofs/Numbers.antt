-- The numbers that words write.
use Rattle.std.proofs.Common.{◌≡◌, ℕ, ◌+◌, ◌-◌, ◌*◌, ◌/◌, ◌%◌, ◌^◌, ◌<◌, Bool, true, false, ◌&&◌, List, [], ◌∷◌, length, get_or, refl, sym, ◌∙◌}
use Rattle.std.proofs.Common.{Option, Some, None, cond, eqb, leb, arith}
use Rattle.std.proofs.lemmas.Bool.{eqb-true, eqb-false, ne_eqb, leb-true, le-leb, lt-leb, le-ltb, lt-ltb, cases_lt, and_parts}
use Rattle.std.specs.{Option.option_and_then, Str.all_ascii_digits, Char.is_ascii_digit, Char.digit_value, Str.Parse.digits_value, Str.Parse.digits_value_after}
use Rattle.std.specs.{Fmt.digit_glyph}
use Rattle.dma_insn.specs.AssemblyText.{IsDecimal, value_word}
use Rattle.dma_insn.specs.LineReading.{capped, digits_from, number_of, hex_digit_of, hex_from, value_of}

-- a digit's value
digit_value_is : (c : ℕ) → is_ascii_digit c ≡ true → digit_value c ≡ c - 48
digit_value_is c h = grind (arith, and_parts, leb-true, le-ltb, lt-ltb)

-- decimal digits are read, capped
digits_read : (v : ℕ) (cs : List ℕ) → all_ascii_digits cs ≡ true → digits_from (capped v) cs ≡ Some (capped (digits_value_after 10 v cs))
digits_read v [] h = refl
digits_read v (c ∷ cs) h =
    let t = and_parts (is_ascii_digit c) (all_ascii_digits cs) h in
    let value = digit_value_is c t.0 in
    let same : capped (capped v * 10 + (c - 48)) ≡ capped (v * 10 + digit_value c) = rw value (omega arith) in
    rw (t.0, same) (digits_read (v * 10 + digit_value c) cs t.1)

-- what is read is digits
digits_only_by : (b : Bool) (v k c : ℕ) (cs : List ℕ) → ((w : ℕ) → digits_from w cs ≡ Some k → all_ascii_digits cs ≡ true)
    → option_and_then (λ d. digits_from (capped (v * 10 + d)) cs) (cond b (Some (c - 48)) None) ≡ Some k → (b && all_ascii_digits cs) ≡ true
digits_only_by b v k c cs h h2 = grind (arith)

digits_only : (v k : ℕ) (cs : List ℕ) → digits_from v cs ≡ Some k → all_ascii_digits cs ≡ true
digits_only v k [] e = refl
digits_only v k (c ∷ cs) e = digits_only_by (is_ascii_digit c) v k c cs (λ w h. digits_only w k cs h) e

some_same : (k l : ℕ) → Some k ≡ Some l → k ≡ l
some_same k l e = cc

-- A word that is read is a number, capped.
pub record ReadsNumber (word : List ℕ) (k : ℕ) : Type 0 where
  pub number : ℕ
  pub is_decimal : IsDecimal word number
  pub value : k ≡ capped number

reads : (word : List ℕ) (k : ℕ) → 0 < length word → (get_or word 0 0 ≡ 48 → length word ≡ 1) → digits_from 0 word ≡ Some k → ReadsNumber word k
reads word k some no_zeros e =
    let digits = digits_only 0 k word e in
    record {
      number = digits_value 10 word;
      is_decimal = record { some = some; digits = digits; no_zeros = no_zeros; value_is = refl };
      value = some_same k (capped (digits_value 10 word)) (sym e ∙ digits_read 0 word digits);
    }

reads_long : (c d : ℕ) (rest : List ℕ) (k : ℕ) (b : Bool) → eqb c 48 ≡ b → cond b None (digits_from 0 (c ∷ d ∷ rest)) ≡ Some k → ReadsNumber (c ∷ d ∷ rest) k
reads_long c d rest k true is e = absurd (cc)
reads_long c d rest k false is e = reads (c ∷ d ∷ rest) k (omega arith) (λ z. absurd (eqb-false c 48 is z)) e

pub number_of_reads : (word : List ℕ) (k : ℕ) → number_of word ≡ Some k → ReadsNumber word k
number_of_reads [] k e = absurd (cc)
number_of_reads (c ∷ []) k e = reads (c ∷ []) k (omega arith) (λ z. refl) e
number_of_reads (c ∷ d ∷ rest) k e = reads_long c d rest k (eqb c 48) refl e

-- A number is read, capped.
pub number_of_decimal : (word : List ℕ) (n : ℕ) → IsDecimal word n → number_of word ≡ Some (capped n)
number_of_decimal [] n h = absurd (let some : 0 < length {A = ℕ} [] = h.some in omega arith)
number_of_decimal (c ∷ []) n h = rw h.value_is (digits_read 0 (c ∷ []) h.digits)
number_of_decimal (c ∷ d ∷ rest) n h =
    let long : eqb c 48 ≡ false = ne_eqb c 48 (λ z. let one : length (c ∷ d ∷ rest) ≡ 1 = h.no_zeros z in omega arith) in
    rw (h.value_is, long) (digits_read 0 (c ∷ d ∷ rest) h.digits)

-- A hexadecimal digit.
hex_digit_glyph : (d : ℕ) → d < 16 → hex_digit_of (digit_glyph true d) ≡ Some d
hex_digit_glyph d small = grind (arith, cases_lt, lt-ltb, le-leb, le-ltb, lt-leb)

-- A character that is a hexadecimal digit is the glyph of its value.
pub record IsHexDigit (c d : ℕ) : Type 0 where
  pub small : d < 16
  pub glyph : c ≡ digit_glyph true d

hex_by : (c d : ℕ) (s t : Bool) → (leb 48 c && leb c 57) ≡ s → (leb 65 c && leb c 70) ≡ t → cond s (Some (c - 48)) (cond t (Some (c - 55)) None) ≡ Some d
    → IsHexDigit c d
hex_by c d s t h h2 h3 = grind (arith, some_same, and_parts, leb-true, lt-ltb, le-ltb)

hex_digit_is : (c d : ℕ) → hex_digit_of c ≡ Some d → IsHexDigit c d
hex_digit_is c d e = hex_by c d (leb 48 c && leb c 57) (leb 65 c && leb c 70) refl refl e

-- one digit of several
pub record HexStep (value c : ℕ) (rest : List ℕ) (v : ℕ) : Type 0 where
  pub digit : ℕ
  pub is : IsHexDigit c digit
  pub more : hex_from (value * 16 + digit) rest ≡ Some v

hex_step_by : (value c : ℕ) (rest : List ℕ) (v : ℕ) (o : Option ℕ) → hex_digit_of c ≡ o → option_and_then (λ d. hex_from (value * 16 + d) rest) o ≡ Some v
    → HexStep value c rest v
hex_step_by value c rest v o h h2 = grind (arith, hex_digit_is)

hex_step : (value c : ℕ) (rest : List ℕ) (v : ℕ) → hex_from value (c ∷ rest) ≡ Some v → HexStep value c rest v
hex_step value c rest v e = hex_step_by value c rest v (hex_digit_of c) refl e

-- A word of a value.
pub record IsValueWord (word : List ℕ) (v : ℕ) : Type 0 where
  pub word_is : word ≡ value_word v
  pub small : v < 2 ^ 32

value_word_from : (p q r s t u w x v a b c d e f g h : ℕ)
    → IsHexDigit a p → IsHexDigit b q → IsHexDigit c r → IsHexDigit d s → IsHexDigit e t → IsHexDigit f u → IsHexDigit g w → IsHexDigit h x
    → (((((((0 * 16 + p) * 16 + q) * 16 + r) * 16 + s) * 16 + t) * 16 + u) * 16 + w) * 16 + x ≡ v
    → IsValueWord (48 ∷ 120 ∷ a ∷ b ∷ c ∷ d ∷ e ∷ f ∷ g ∷ h ∷ []) v
value_word_from p q r s t u w x v a b c d e f g h i0 i1 i2 i3 i4 i5 i6 i7 value =
    let b0 : p < 16 = i0.small in let b1 : q < 16 = i1.small in let b2 : r < 16 = i2.small in let b3 : s < 16 = i3.small in
    let b4 : t < 16 = i4.small in let b5 : u < 16 = i5.small in let b6 : w < 16 = i6.small in let b7 : x < 16 = i7.small in
    let e0 : v / 0x10000000 % 16 ≡ p = omega arith in
    let e1 : v / 0x1000000 % 16 ≡ q = omega arith in
    let e2 : v / 0x100000 % 16 ≡ r = omega arith in
    let e3 : v / 0x10000 % 16 ≡ s = omega arith in
    let e4 : v / 0x1000 % 16 ≡ t = omega arith in
    let e5 : v / 0x100 % 16 ≡ u = omega arith in
    let e6 : v / 0x10 % 16 ≡ w = omega arith in
    let e7 : v / 0x1 % 16 ≡ x = omega arith in
    record {
      word_is = rw (i0.glyph, i1.glyph, i2.glyph, i3.glyph, i4.glyph, i5.glyph, i6.glyph, i7.glyph, e0, e1, e2, e3, e4, e5, e6, e7) refl;
      small = omega arith;
    }

eight_digits : (a b c d e f g h v : ℕ) → hex_from 0 (a ∷ b ∷ c ∷ d ∷ e ∷ f ∷ g ∷ h ∷ []) ≡ Some v
    → IsValueWord (48 ∷ 120 ∷ a ∷ b ∷ c ∷ d ∷ e ∷ f ∷ g ∷ h ∷ []) v
eight_digits a b c d e f g h v read =
    let s0 = hex_step 0 a (b ∷ c ∷ d ∷ e ∷ f ∷ g ∷ h ∷ []) v read in
    let s1 = hex_step (0 * 16 + s0.digit) b (c ∷ d ∷ e ∷ f ∷ g ∷ h ∷ []) v s0.more in
    let s2 = hex_step ((0 * 16 + s0.digit) * 16 + s1.digit) c (d ∷ e ∷ f ∷ g ∷ h ∷ []) v s1.more in
    let s3 = hex_step (((0 * 16 + s0.digit) * 16 + s1.digit) * 16 + s2.digit) d (e ∷ f ∷ g ∷ h ∷ []) v s2.more in
    let s4 = hex_step ((((0 * 16 + s0.digit) * 16 + s1.digit) * 16 + s2.digit) * 16 + s3.digit) e (f ∷ g ∷ h ∷ []) v s3.more in
    let s5 = hex_step (((((0 * 16 + s0.digit) * 16 + s1.digit) * 16 + s2.digit) * 16 + s3.digit) * 16 + s4.digit) f (g ∷ h ∷ []) v s4.more in
    let s6 = hex_step ((((((0 * 16 + s0.digit) * 16 + s1.digit) * 16 + s2.digit) * 16 + s3.digit) * 16 + s4.digit) * 16 + s5.digit) g (h ∷ []) v s5.more in
    let s7 = hex_step (((((((0 * 16 + s0.digit) * 16 + s1.digit) * 16 + s2.digit) * 16 + s3.digit) * 16 + s4.digit) * 16 + s5.digit) * 16 + s6.digit) h [] v
    s6.more in
    value_word_from s0.digit s1.digit s2.digit s3.digit s4.digit s5.digit s6.digit s7.digit v a b c d e f g h s0.is s1.is s2.is s3.is s4.is s5.is s6.is s7.is
    (some_same ((((((((0 * 16 + s0.digit) * 16 + s1.digit) * 16 + s2.digit) * 16 + s3.digit) * 16 + s4.digit) * 16 + s5.digit) * 16 + s6.digit) * 16 + s7.digit)
    v s7.more)

-- If eight hexadecimal digits spell a value, then 0x and these digits are the value's word.
eight_of : (digits : List ℕ) (v : ℕ) → length digits ≡ 8 → hex_from 0 digits ≡ Some v → IsValueWord (48 ∷ 120 ∷ digits) v
eight_of (a ∷ b ∷ c ∷ d ∷ g ∷ h ∷ i ∷ j ∷ []) v n e = eight_digits a b c d g h i j v e
eight_of _ v n e = absurd (omega arith)

-- A word that is read as a value is the value's.
value_of_by : (x y z : Bool) (a b : ℕ) (digits : List ℕ) (v : ℕ) → eqb a 48 ≡ x → eqb b 120 ≡ y → eqb (length digits) 8 ≡ z
    → cond (x && (y && z)) (hex_from 0 digits) None ≡ Some v → IsValueWord (a ∷ b ∷ digits) v
value_of_by true true true a b digits v x y z e =
    rw (eqb-true a 48 x, eqb-true b 120 y) (eight_of digits v (eqb-true (length digits) 8 z) e)
value_of_by _ _ _ a b digits v x y z e = absurd (cc)

pub value_of_reads : (word : List ℕ) (v : ℕ) → value_of word ≡ Some v → IsValueWord word v
value_of_reads (a ∷ b ∷ digits) v e = value_of_by (eqb a 48) (eqb b 120) (eqb (length digits) 8) a b digits v refl refl refl e
value_of_reads _ v e = absurd (cc)

-- The word of a value is read as it.
pub value_of_word : (v : ℕ) → v < 2 ^ 32 → value_of (value_word v) ≡ Some v
value_of_word v small = grind (arith, hex_digit_glyph)

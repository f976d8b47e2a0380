-- Groups of bytes in a dump, which are read as the bytes that were printed.
use Rattle.std.proofs.Common.{◌≡◌, ap, sym, subst, refl, ℕ, zero, suc, ◌+◌, ◌*◌, ◌/◌, ◌%◌, ◌^◌, ◌<◌, ◌≤◌, Bool, true, false, inl, inr}
use Rattle.std.proofs.Common.{List, [], ◌∷◌, ◌++◌, take, length, length-append, append_assoc, append-nil, Ok, arith}
use Rattle.std.proofs.lemmas.Bool.{le-leb, cases_lt}
use Rattle.std.proofs.Math.Nat.{mod-eq_of_lt}
use Rattle.std.specs.{Int.w64, Int.to_le_bytes}
use Rattle.dma_manual.specs.Forms.{digits_of, form, is_octal, size_of}
use Rattle.dma_manual.specs.{Dump.next_of, declared.dump.Place.Place, declared.dump.Scan.Scan, declared.forms.Column.Column, declared.forms.Form.Form}
use Rattle.dma_manual.specs.declared.dump.Effect.TheVariants.{Nothing}
use Rattle.dma_manual.specs.declared.dump.Place.TheVariants.{Group, Behind}
use Rattle.dma_manual.specs.declared.forms.Group.{Group as Size}
use Rattle.dma_manual.specs.declared.forms.Group.TheVariants.{Byte, Half, Word, Long, Octal as Octals}
use Rattle.dma_manual.specs.Printed.{group_digits, number_of, spaced_groups}
use Rattle.dma_manual.proofs.Runs.{Goes, at, goes_none, goes_step, goes_then}
use Rattle.dma_manual.proofs.DumpDigits.{FirstOfGroup, HasPlaces, group_places}
use Rattle.dma_manual.proofs.DumpLines.{AllParts, ArePartsOf, AreBytes, IsPart, joined}
use Rattle.dma_manual.proofs.DumpTexts.{behind_digit}

-- how many digits a number has
abbrev pub sixteens : ℕ → ℕ
sixteens zero = 16
sixteens (suc k) = 16 * sixteens k

pub hex_places : (k n : ℕ) → n < sixteens k → n < 2 ^ 64 → HasPlaces 16 k n
hex_places zero n small fits = small
hex_places (suc k) n small fits = (omega arith, hex_places k (n / 16) (omega arith) (omega arith))

abbrev eights : ℕ → ℕ
eights zero = 8
eights (suc k) = 8 * eights k

pub octal_places : (k n : ℕ) → n < eights k → n < 2 ^ 63 → HasPlaces 8 k n
octal_places zero n small fits = small
octal_places (suc k) n small fits = (omega arith, octal_places k (n / 8) (omega arith) (omega arith))

abbrev tens : ℕ → ℕ
tens zero = 10
tens (suc k) = 10 * tens k

pub decimal_places : (k n : ℕ) → n < tens k → n < 2 ^ 63 → HasPlaces 10 k n
decimal_places zero n small fits = small
decimal_places (suc k) n small fits = (omega arith, decimal_places k (n / 10) (omega arith) (omega arith))

-- the bytes of a number
next_is : {x a : ℕ} {xs ys : List ℕ} → x ≡ a → xs ≡ ys → x ∷ xs ≡ a ∷ ys
next_is e f = cc

two_bytes : (a b : ℕ) → a < 256 → b < 256 → take 2 (to_le_bytes w64 (number_of (a ∷ b ∷ []))) ≡ a ∷ b ∷ []
two_bytes a b s t = next_is (omega arith) (next_is (omega arith) refl)

four_bytes : (a b c d : ℕ) → a < 256 → b < 256 → c < 256 → d < 256
    → take 4 (to_le_bytes w64 (number_of (a ∷ b ∷ c ∷ d ∷ []))) ≡ a ∷ b ∷ c ∷ d ∷ []
four_bytes a b c d s t u v = next_is (omega arith) (next_is (omega arith) (next_is (omega arith) (next_is (omega arith) refl)))

eight_bytes : (a b c d e f g h : ℕ) → a < 256 → b < 256 → c < 256 → d < 256 → e < 256 → f < 256 → g < 256 → h < 256
    → take 8 (to_le_bytes w64 (number_of (a ∷ b ∷ c ∷ d ∷ e ∷ f ∷ g ∷ h ∷ []))) ≡ a ∷ b ∷ c ∷ d ∷ e ∷ f ∷ g ∷ h ∷ []
eight_bytes a b c d e f g h s t u v w x y z =
    next_is (omega arith) (next_is (omega arith) (next_is (omega arith) (next_is (omega arith) (next_is (omega arith) (next_is (omega arith)
    (next_is (omega arith) (next_is (omega arith) refl)))))))

-- a group
abbrev GroupRead : Size → List ℕ → Type 0
GroupRead group part =
    (column : Column) (from s : Scan) (bytes : List ℕ) (m : Bool) → FirstOfGroup (form column group) from s bytes m (is_octal group)
    → length bytes + length part ≤ 1048576
    → Goes (form column group) from bytes (group_digits group part) (at s (Group m (digits_of group) (number_of part))) (bytes ++ part)

byte_read : (a : ℕ) → a < 256 → GroupRead Byte (a ∷ [])
byte_read a s column from scan bytes m first fits =
    let n = number_of (a ∷ []) in
    let part = a ∷ [] in
    let long = length-append bytes part in
    group_places (form column Byte) from scan bytes m false first refl 16 2 refl (omega arith) (omega arith) refl (omega arith) 0 n (bytes ++ part) refl
    (hex_places 1 n (omega arith) (omega arith)) (ap (λ (l : List ℕ). bytes ++ l) (next_is (omega arith) refl)) (omega arith)

half_read : (a b : ℕ) → a < 256 → b < 256 → GroupRead Half (a ∷ b ∷ [])
half_read a b s t column from scan bytes m first fits =
    let part = a ∷ b ∷ [] in
    let n = number_of part in
    let long = length-append bytes part in
    group_places (form column Half) from scan bytes m false first refl 16 4 refl (omega arith) (omega arith) refl (omega arith) 2 n (bytes ++ part) refl
    (hex_places 3 n (omega arith) (omega arith)) (ap (λ (l : List ℕ). bytes ++ l) (two_bytes a b s t)) (omega arith)

octal_read : (a b : ℕ) → a < 256 → b < 256 → GroupRead Octals (a ∷ b ∷ [])
octal_read a b s t column from scan bytes m first fits =
    let part = a ∷ b ∷ [] in
    let n = number_of part in
    let long = length-append bytes part in
    group_places (form column Octals) from scan bytes m true first refl 8 6 refl (omega arith) (omega arith) refl (omega arith) 4 n (bytes ++ part) refl
    (octal_places 5 n (omega arith) (omega arith)) (ap (λ (l : List ℕ). bytes ++ l) (two_bytes a b s t)) (omega arith)

word_read : (a b c d : ℕ) → a < 256 → b < 256 → c < 256 → d < 256 → GroupRead Word (a ∷ b ∷ c ∷ d ∷ [])
word_read a b c d s t u v column from scan bytes m first fits =
    let part = a ∷ b ∷ c ∷ d ∷ [] in
    let n = number_of part in
    let long = length-append bytes part in
    group_places (form column Word) from scan bytes m false first refl 16 8 refl (omega arith) (omega arith) refl (omega arith) 6 n (bytes ++ part) refl
    (hex_places 7 n (omega arith) (omega arith)) (ap (λ (l : List ℕ). bytes ++ l) (four_bytes a b c d s t u v)) (omega arith)

long_read : (a b c d e f g h : ℕ) → a < 256 → b < 256 → c < 256 → d < 256 → e < 256 → f < 256 → g < 256 → h < 256
    → GroupRead Long (a ∷ b ∷ c ∷ d ∷ e ∷ f ∷ g ∷ h ∷ [])
long_read a b c d e f g h s t u v w x y z column from scan bytes m first fits =
    let part = a ∷ b ∷ c ∷ d ∷ e ∷ f ∷ g ∷ h ∷ [] in
    let n = number_of part in
    let long = length-append bytes part in
    group_places (form column Long) from scan bytes m false first refl 16 16 refl (omega arith) (omega arith) refl (omega arith) 14 n (bytes ++ part) refl
    (hex_places 15 n (omega arith) (omega arith)) (ap (λ (l : List ℕ). bytes ++ l) (eight_bytes a b c d e f g h s t u v w x y z)) (omega arith)

pub group_read : (group : Size) (part : List ℕ) → length part ≡ size_of group → AreBytes part → GroupRead group part
group_read Byte (a ∷ []) long are = byte_read a (are 0)
group_read Half (a ∷ b ∷ []) long are = half_read a b (are 0) (are 1)
group_read Octals (a ∷ b ∷ []) long are = octal_read a b (are 0) (are 1)
group_read Word (a ∷ b ∷ c ∷ d ∷ []) long are = word_read a b c d (are 0) (are 1) (are 2) (are 3)
group_read Long (a ∷ b ∷ c ∷ d ∷ e ∷ f ∷ g ∷ h ∷ []) long are =
    long_read a b c d e f g h (are 0) (are 1) (are 2) (are 3) (are 4) (are 5) (are 6) (are 7)
group_read group part long are = absurd (omega arith)

pub size_some : (g : Size) → 0 < size_of g
size_some Byte = omega arith
size_some Half = omega arith
size_some Word = omega arith
size_some Long = omega arith
size_some Octals = omega arith

exact : (n l : ℕ) → 0 < l → l ≤ n → l % n ≡ 0 → l ≡ n
exact n l some most whole =
    elim (cases_lt l n) [
      | inl less ↦ let same : l % n ≡ l = mod-eq_of_lt less in absurd (omega arith)
      | inr more ↦ omega arith
    ]

pub whole_group : (group : Size) (part : List ℕ) → IsPart (size_of group) (size_of group) part → GroupRead group part
whole_group group part is = group_read group part (exact (size_of group) (length part) is.some is.most is.whole) is.bytes

-- after a group
pub group_space : (kind : Column) (group : Size) (s : Scan) (bytes : List ℕ) (v : ℕ)
    → next_of (form kind group) (at s (Group false (digits_of group) v)) bytes 32 ≡ Ok (at s (Behind false), Nothing)
group_space kind group s bytes v = rw (le-leb (digits_of group) (digits_of group) (omega arith)) refl

-- Groups of a line end in one.
pub record ToGroup (form : Form) (from s : Scan) (bytes text : List ℕ) (size : ℕ) (found : List ℕ) : Type 0 where
  pub v : ℕ
  pub goes : Goes form from bytes text (at s (Group false size v)) found

module _ (column : Column) (group : Size) (s : Scan) where
  abbrev here : Form
  here = form column group

  chain : (rest : List (List ℕ)) (part bytes : List ℕ) (from : Scan) → FirstOfGroup here from s bytes false (is_octal group)
      → IsPart (size_of group) (size_of group) part → AllParts (IsPart (size_of group) (size_of group)) rest
      → length bytes + length (part ++ joined rest) ≤ 1048576
      → ToGroup here from s bytes (group_digits group part ++ spaced_groups group rest) (digits_of group) (bytes ++ (part ++ joined rest))
  chain [] part bytes from first is others fits =
      let all : part ++ [] ≡ part = append-nil part in
      let long = ap (λ (l : List ℕ). length l) all in
      let one = whole_group group part is column from s bytes false first (omega arith) in
      let v = number_of part in
      record {
        v = v;
        goes = subst (λ (l : List ℕ). Goes here from bytes (group_digits group part ++ []) (at s (Group false (digits_of group) v)) (bytes ++ l)) (sym all)
            (goes_then one (goes_none here (at s (Group false (digits_of group) v)) (bytes ++ part)));
      }
  chain (more ∷ rest) part bytes from first is others fits =
      let long = length-append part (joined (more ∷ rest)) in
      let longer = length-append bytes part in
      let found = bytes ++ part in
      let one = whole_group group part is column from s bytes false first (omega arith) in
      let space = goes_step here (at s (Group false (digits_of group) (number_of part))) (at s (Behind false)) found 32 (omega arith)
      (group_space column group s found (number_of part)) in
      let two = chain rest more found (at s (Behind false)) (behind_digit here s found (is_octal group) refl) others.0 others.1 (omega arith) in
      record {
        v = two.v;
        goes = subst (λ (l : List ℕ). Goes here from bytes (group_digits group part ++ spaced_groups group (more ∷ rest)) (at s (Group false (digits_of group) two.v)) l)
            (append_assoc bytes part (joined (more ∷ rest))) (goes_then one (goes_then space two.goes));
      }

  -- the groups of a line, of which the first follows a space too
  pub groups_read : (list : List (List ℕ)) (line bytes : List ℕ) (t : Scan) (p : Place) → next_of here t bytes 32 ≡ Ok (at s p, Nothing)
      → FirstOfGroup here (at s p) s bytes false (is_octal group) → ArePartsOf (size_of group) (size_of group) line list → 0 < length line
      → length bytes + length line ≤ 1048576
      → ToGroup here t s bytes (spaced_groups group list) (digits_of group) (bytes ++ line)
  groups_read [] line bytes t p space first are some fits = let long = ap (λ (l : List ℕ). length l) are.is in absurd (omega arith)
  groups_read (part ∷ rest) line bytes t p space first are some fits =
      let long = ap (λ (l : List ℕ). length l) are.is in
      let all = chain rest part bytes (at s p) first are.all.0 are.all.1 (omega arith) in
      record {
        v = all.v;
        goes = subst (λ (l : List ℕ). Goes here t bytes (spaced_groups group (part ∷ rest)) (at s (Group false (digits_of group) all.v)) (bytes ++ l)) are.is
            (goes_then (goes_step here t (at s p) bytes 32 (omega arith) space) all.goes);
      }

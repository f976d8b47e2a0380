-- The digits of addresses and groups in a dump, which are read as the numbers that were printed.
use Rattle.std.proofs.Common.{◌≡◌, ◌∙◌, ap, subst, refl, ℕ, zero, suc, ◌+◌, ◌*◌, ◌/◌, ◌%◌, ◌^◌, ◌<◌, ◌≤◌, Bool, true, false, eqb, nat_lt, if◌then◌else◌}
use Rattle.std.proofs.Common.{List, ◌++◌, length, take, Ok, arith}
use Rattle.std.proofs.lemmas.Bool.{lt-ltb, lt-leb, ne_eqb, eq-eqb}
use Rattle.std.proofs.Math.Nat.{div-add-mod', mod-eq_of_lt, mod-lt}
use Rattle.std.specs.{Char.digit_value, Fmt.digit_glyph, Int.w64, Int.to_le_bytes}
use Rattle.dma_manual.specs.Forms.{digits_of, is_octal, least_digits, radix_of, size_of}
use Rattle.dma_manual.specs.{Dump.next_of, declared.dump.Effect.TheVariants.Nothing}
use Rattle.dma_manual.specs.{declared.dump.Effect.TheVariants.Number, declared.dump.Scan.Scan, declared.forms.Form.Form}
use Rattle.dma_manual.specs.declared.dump.Place.TheVariants.{Start, Address, Group}
use Rattle.dma_manual.specs.{Printed.places}
use Rattle.dma_manual.proofs.Numerals.{each_at}
use Rattle.dma_manual.proofs.Runs.{Goes, at, goes_effect, goes_step, goes_then}

-- A byte is the digit d.
pub record IsDigit (b d : ℕ) : Type 0 where
  pub value : digit_value b ≡ d
  pub no_return : eqb b 13 ≡ false
  pub no_feed : eqb b 10 ≡ false
  pub no_space : eqb b 32 ≡ false
  pub no_tab : eqb b 9 ≡ false

pub is_digit : (d : ℕ) → d < 16 → IsDigit (digit_glyph false d) d
is_digit d small = record {
  value = each_at (λ n. digit_value (digit_glyph false n)) (λ n. n) 16 d refl small;
  no_return = each_at (λ n. eqb (digit_glyph false n) 13) (λ n. false) 16 d refl small;
  no_feed = each_at (λ n. eqb (digit_glyph false n) 10) (λ n. false) 16 d refl small;
  no_space = each_at (λ n. eqb (digit_glyph false n) 32) (λ n. false) 16 d refl small;
  no_tab = each_at (λ n. eqb (digit_glyph false n) 9) (λ n. false) 16 d refl small;
}

-- A number has at most k + 1 digits in a radix.
abbrev pub HasPlaces : ℕ → ℕ → ℕ → Type 0
HasPlaces r zero n = n < r
HasPlaces r (suc k) n = (n / r < 2 ^ 60) × HasPlaces r k (n / r)

last_digit : (r n : ℕ) → 0 < r → r ≤ 16 → IsDigit (digit_glyph false (n % r)) (n % r)
last_digit r n some most =
    let small : n % r < r = mod-lt n some in
    is_digit (n % r) (omega arith)

only_digit : (r n : ℕ) → 0 < r → r ≤ 16 → n < r → IsDigit (digit_glyph false (n % r)) n
only_digit r n some most small = subst (λ (d : ℕ). IsDigit (digit_glyph false (n % r)) d) (mod-eq_of_lt small) (last_digit r n some most)

pub one_more : (r n : ℕ) → n / r < 2 ^ 60 → n / r % 2 ^ 60 * r + n % r ≡ n
one_more r n small =
    let same : n / r % 2 ^ 60 ≡ n / r = mod-eq_of_lt small in
    ap (λ (q : ℕ). q * r + n % r) same ∙ div-add-mod' n r

-- addresses
pub address_first : (form : Form) (s : Scan) (bytes : List ℕ) (b d r : ℕ) → IsDigit b d → radix_of form.column ≡ r → d < r
    → next_of form (at s Start) bytes b ≡ Ok (at s (Address false 1 d), Nothing)
address_first form s bytes b d r digit radix small =
    rw (digit.no_return, digit.no_feed, digit.no_space, digit.no_tab, digit.value, radix, lt-ltb d r small) refl

-- the number of digits that are counted, after one more
abbrev pub one_counted : ℕ → ℕ → ℕ
one_counted least k = if nat_lt k least then k + 1 else k

pub address_more : (form : Form) (s : Scan) (bytes : List ℕ) (b d r k v : ℕ) → IsDigit b d → radix_of form.column ≡ r → d < r
    → next_of form (at s (Address false k v)) bytes b ≡ Ok (at s (Address false (one_counted (least_digits form.column) k) (v % 2 ^ 60 * r + d)), Nothing)
address_more form s bytes b d r k v digit radix small = rw (digit.no_return, digit.value, radix, lt-ltb d r small) refl

abbrev pub counted : ℕ → ℕ → ℕ → ℕ
counted least c zero = c
counted least c (suc k) = one_counted least (counted least c k)

-- What the first digit of an address does.
abbrev pub FirstOfAddress : Form → Scan → Scan → List ℕ → ℕ → ℕ → Type 0
FirstOfAddress form from s bytes r c =
    (b d : ℕ) → IsDigit b d → d < r → next_of form from bytes b ≡ Ok (at s (Address false c d), Nothing)

module _ (form : Form) (from s : Scan) (bytes : List ℕ) (r c : ℕ) (first : FirstOfAddress form from s bytes r c) (radix : radix_of form.column ≡ r)
    (some : 0 < r) (most : r ≤ 16) (fits : length bytes ≤ 1048576) where
  pub address_places : (k n : ℕ) → HasPlaces r k n
      → Goes form from bytes (places r (suc k) n) (at s (Address false (counted (least_digits form.column) c k) n)) bytes
  unfolding places
  address_places zero n small =
      goes_step form from (at s (Address false c n)) bytes (digit_glyph false (n % r)) fits
      (first (digit_glyph false (n % r)) n (only_digit r n some most small) small)
  address_places (suc k) n small =
      let done = counted (least_digits form.column) c k in
      let next = one_counted (least_digits form.column) done in
      goes_then (address_places k (n / r) small.1)
      (goes_step form (at s (Address false done (n / r))) (at s (Address false next n)) bytes (digit_glyph false (n % r)) fits
      (subst (λ (v : ℕ). next_of form (at s (Address false done (n / r))) bytes (digit_glyph false (n % r)) ≡ Ok (at s (Address false next v), Nothing))
      (one_more r n small.0)
      (address_more form s bytes (digit_glyph false (n % r)) (n % r) r done (n / r) (last_digit r n some most) radix (mod-lt n some))))

-- groups
abbrev pub group_radix : Bool → ℕ
group_radix octal = if octal then 8 else 16

pub group_effect : (form : Form) (s : Scan) (bytes : List ℕ) (m : Bool) (b d k v size : ℕ) (octal : Bool) → IsDigit b d → is_octal form.group ≡ octal
    → digits_of form.group ≡ size → k < size → d < group_radix octal
    → next_of form (at s (Group m k v)) bytes b
    ≡ Ok (at s (Group m (k + 1) (v % 2 ^ 60 * group_radix octal + d)), if eqb (k + 1) size then Number (v % 2 ^ 60 * group_radix octal + d) else Nothing)
group_effect form s bytes m b d k v size true digit radix digits below small =
    rw (digit.no_return, radix, digits, lt-leb size k below, digit.value, lt-ltb d 8 small) refl
group_effect form s bytes m b d k v size false digit radix digits below small =
    rw (digit.no_return, radix, digits, lt-leb size k below, digit.value, lt-ltb d 16 small) refl

-- What the first digit of a group does.
abbrev pub FirstOfGroup : Form → Scan → Scan → List ℕ → Bool → Bool → Type 0
FirstOfGroup form from s bytes m octal =
    (b d : ℕ) → IsDigit b d → d < group_radix octal → next_of form from bytes b ≡ Ok (at s (Group m 1 d), Nothing)

abbrev grown : ℕ → ℕ
grown zero = 1
grown (suc k) = grown k + 1

module _ (form : Form) (from s : Scan) (bytes : List ℕ) (m octal : Bool) (first : FirstOfGroup form from s bytes m octal) (radix : is_octal form.group ≡ octal)
    (r size : ℕ) (is_r : group_radix octal ≡ r) (some : 0 < r) (most : r ≤ 16) (digits : digits_of form.group ≡ size) (fits : length bytes ≤ 1048576) where
  small_digit : (n : ℕ) → n < r → n < group_radix octal
  small_digit n small = omega arith

  -- one digit more
  more_is : (k v n : ℕ) → v ≡ n / r → n / r < 2 ^ 60 → k < size → next_of form (at s (Group m k v)) bytes (digit_glyph false (n % r))
      ≡ Ok (at s (Group m (k + 1) n), if eqb (k + 1) size then Number n else Nothing)
  more_is k v n is small below =
      let value : v % 2 ^ 60 * group_radix octal + n % r ≡ n = rw (is, is_r) (one_more r n small) in
      subst (λ (w : ℕ). next_of form (at s (Group m k v)) bytes (digit_glyph false (n % r))
      ≡ Ok (at s (Group m (k + 1) w), if eqb (k + 1) size then Number w else Nothing)) value
      (group_effect form s bytes m (digit_glyph false (n % r)) (n % r) k v size octal (last_digit r n some most) radix digits below
      (small_digit (n % r) (mod-lt n some)))

  front_places : (k n : ℕ) → grown k < size → HasPlaces r k n → Goes form from bytes (places r (suc k) n) (at s (Group m (grown k) n)) bytes
  unfolding places
  front_places zero n below small =
      goes_step form from (at s (Group m 1 n)) bytes (digit_glyph false (n % r)) fits
      (first (digit_glyph false (n % r)) n (only_digit r n some most small) (small_digit n small))
  front_places (suc k) n below small =
      goes_then (front_places k (n / r) (omega arith) small.1)
      (goes_step form (at s (Group m (grown k) (n / r))) (at s (Group m (grown k + 1) n)) bytes (digit_glyph false (n % r)) fits
      (subst (λ (t : Bool). next_of form (at s (Group m (grown k) (n / r))) bytes (digit_glyph false (n % r))
      ≡ Ok (at s (Group m (grown k + 1) n), if t then Number n else Nothing)) (ne_eqb (grown k + 1) size (λ e. omega arith))
      (more_is (grown k) (n / r) n refl small.0 (omega arith))))

  pub group_places : (k n : ℕ) (found : List ℕ) → grown k + 1 ≡ size → HasPlaces r (suc k) n → bytes ++ take (size_of form.group) (to_le_bytes w64 n) ≡ found
      → length found ≤ 1048576 → Goes form from bytes (places r (suc (suc k)) n) (at s (Group m (grown k + 1) n)) found
  unfolding places
  group_places k n found all small made fit =
      goes_then (front_places k (n / r) (omega arith) small.1)
      (goes_effect form (at s (Group m (grown k) (n / r))) (at s (Group m (grown k + 1) n)) bytes found (digit_glyph false (n % r)) (Number n)
      (subst (λ (t : Bool). next_of form (at s (Group m (grown k) (n / r))) bytes (digit_glyph false (n % r))
      ≡ Ok (at s (Group m (grown k + 1) n), if t then Number n else Nothing)) (eq-eqb (grown k + 1) size all)
      (more_is (grown k) (n / r) n refl small.0 (omega arith))) made fit)

-- Addresses without a colon, at the front of a line and alone.
use Rattle.std.proofs.Common.{◌≡◌, refl, ℕ, ◌-◌, ◌<◌, ◌≤◌, true, false, ◌||◌, nat_le, nat_lt, List, [], ◌∷◌, length, take, drop, Some, Ok, arith}
use Rattle.std.specs.Option.{unwrap_or}
use Rattle.std.proofs.lemmas.Bool.{lt-ltb, le-ltb, le-leb}
use Rattle.dma_manual.specs.Forms.{least_digits, radix_of, size_of}
use Rattle.dma_manual.specs.Dump.{goes_on, has_colon, has_headings, is_all_zeros, next_of}
use Rattle.dma_manual.specs.{declared.dump.Place.Place, declared.dump.Scan.Scan, declared.forms.Form.Form}
use Rattle.dma_manual.specs.declared.dump.Effect.TheVariants.{Nothing, Cut}
use Rattle.dma_manual.specs.declared.dump.Place.TheVariants.{Start, Address, Gap}
use Rattle.dma_manual.proofs.Runs.{Goes, at, goes_effect}

-- in the line with the address a, before which there are n bytes
abbrev pub in_line : Scan → ℕ → ℕ → Place → Scan
in_line s n a p = record { place = p; first = Some (unwrap_or s.first a); before = n; is_sure = s.is_sure || nat_lt 0 n }

module _ (form : Form) (r : ℕ) (radix : radix_of form.column ≡ r) (small : r ≤ 16) (plain : has_colon form.column ≡ false) where
  pub address_space : (s : Scan) (bytes : List ℕ) (d a : ℕ) → nat_le (least_digits form.column) d ≡ true → goes_on s.first (length bytes) a ≡ true
      → next_of form (at s (Address false d a)) bytes 32 ≡ Ok (in_line s (length bytes) a Gap, Nothing)
  address_space s bytes d a enough on = rw (radix, le-ltb 36 r (omega arith), plain, enough, on) refl

  address_feed : (s : Scan) (bytes : List ℕ) (d a from k : ℕ) → nat_le (least_digits form.column) d ≡ true → has_headings form.column ≡ false
      → s.first ≡ Some from → from ≤ a → a - from ≡ k → k ≤ length bytes → length bytes - k < size_of form.group → is_all_zeros (drop k bytes) ≡ true
      → next_of form (at s (Address false d a)) bytes 10 ≡ Ok (record s { place = Start; is_sure = true }, Cut k)
  address_feed s bytes d a from k enough headed first above cut within left zeros =
      rw (
        radix,
        le-ltb 36 r (omega arith),
        plain,
        enough,
        headed,
        first,
        cut,
        le-leb from a above,
        le-leb k (length bytes) within,
        lt-ltb (length bytes - k) (size_of form.group) left,
        zeros,
      ) refl

  -- the address of the end, alone in a line, leaves out what the last group is filled up with
  pub end_read : (s : Scan) (bytes found : List ℕ) (d a : ℕ) → nat_le (least_digits form.column) d ≡ true → has_headings form.column ≡ false
      → s.first ≡ Some 0 → a ≤ length bytes → length bytes - a < size_of form.group → is_all_zeros (drop a bytes) ≡ true → take a bytes ≡ found
      → length found ≤ 1048576 → Goes form (at s (Address false d a)) bytes (10 ∷ []) (record s { place = Start; is_sure = true }) found
  end_read s bytes found d a enough headed first within left zeros made fits =
      goes_effect form (at s (Address false d a)) (record s { place = Start; is_sure = true }) bytes found 10 (Cut a)
      (address_feed s bytes d a 0 a enough headed first (omega arith) (omega arith) within left zeros) made fits

-- What `od` and `hexdump` print is read back.
use Rattle.std.proofs.Common.{◌≡◌, ◌∙◌, ap, subst, refl, ℕ, zero, suc, ◌+◌, ◌-◌, ◌%◌, ◌<◌, ◌≤◌, Bool, true, false, nat_le, List, [], ◌∷◌, ◌++◌, length}
use Rattle.dma_manual.specs.Pasted.{read_as}
use Rattle.std.proofs.Math.Nat.{mod_self}
use Rattle.std.proofs.Common.{length-append, replicate, drop, slice_index_or, Option, Some, None, Ok, arith}
use Rattle.std.proofs.lemmas.List.{drop_at, take_at, length-replicate}
use Rattle.dma_manual.specs.Forms.{digits_of, form, has_spaced_text, is_octal, least_digits, radix_of, size_of, words_first}
use Rattle.dma_manual.specs.Dump.{has_colon, has_headings, is_all_zeros, next_of}
use Rattle.dma_manual.specs.{PrintedLaws.IsDumped, PrintedLaws.IsOrUnsure, PrintedLaws.OdIsReadBack}
use Rattle.dma_manual.specs.{declared.dump.Scan.Scan, declared.forms.Column.Column, declared.forms.Form.Form, Pasted.begun, Pasted.pasted, Pasted.start_of}
use Rattle.dma_manual.specs.declared.pasted.Spelling.TheVariants.{Dump}
use Rattle.dma_manual.specs.declared.dump.Effect.TheVariants.{Nothing}
use Rattle.dma_manual.specs.declared.dump.Place.TheVariants.{Start, Address, Behind, Gap, Group}
use Rattle.dma_manual.specs.declared.forms.Column.TheVariants.{Hex, Octal, Decimal}
use Rattle.dma_manual.specs.declared.forms.Group.{Group as Size}
use Rattle.dma_manual.specs.declared.forms.Group.TheVariants.{Byte, Half, Word, Long, Octal as Octals}
use Rattle.dma_manual.specs.Printed.{filled, hexdump, parts, places, plain_dump, plain_line, spaced_groups}
use Rattle.dma_manual.proofs.Runs.{Goes, at, at_same, goes_step, goes_then, read_whole}
use Rattle.dma_manual.proofs.DumpDigits.{HasPlaces, address_first, address_places, counted}
use Rattle.dma_manual.proofs.DumpLines.{ArePartsOf, AreBytes, IsPart, ReadsLines, bytes_append, dump_read, parts_are}
use Rattle.dma_manual.proofs.DumpTexts.{gap, gap_digit, spaces_read}
use Rattle.dma_manual.proofs.DumpGroups.{decimal_places, group_space, groups_read, hex_places, octal_places, size_some}
use Rattle.dma_manual.proofs.PlainAddresses.{address_space, end_read, in_line}
use Rattle.dma_manual.proofs.ReadBack.{read_back}

-- what fills the last group up
zeros_are : (k : ℕ) → is_all_zeros (replicate k 0) ≡ true
zeros_are zero = refl
zeros_are (suc k) = zeros_are k

zero_bytes : (k : ℕ) → AreBytes (replicate k 0)
zero_bytes zero j = omega arith
zero_bytes (suc k) zero = omega arith
zero_bytes (suc k) (suc j) = zero_bytes k j

abbrev fill : Size → ℕ → ℕ
fill group n = (size_of group - n % size_of group) % size_of group

-- whole groups, of which 1 MiB has a number
record IsFilled (group : Size) (n : ℕ) : Type 0 where
  whole : (n + fill group n) % size_of group ≡ 0
  less : fill group n < size_of group
  most : n ≤ 1048576 → n + fill group n ≤ 1048576
  units : 16 % size_of group ≡ 0

is_filled : (group : Size) (n : ℕ) → IsFilled group n
is_filled Byte n = record { whole = omega arith; less = omega arith; most = λ fits. omega arith; units = refl }
is_filled Half n = record { whole = omega arith; less = omega arith; most = λ fits. omega arith; units = refl }
is_filled Word n = record { whole = omega arith; less = omega arith; most = λ fits. omega arith; units = refl }
is_filled Long n = record { whole = omega arith; less = omega arith; most = λ fits. omega arith; units = refl }
is_filled Octals n = record { whole = omega arith; less = omega arith; most = λ fits. omega arith; units = refl }

-- the end of a line
gap_feed : (form : Form) (s : Scan) (bytes : List ℕ) (o : Option Bool) → has_spaced_text form.column ≡ false → has_headings form.column ≡ false
    → next_of form (at s (gap o)) bytes 10 ≡ Ok (at s Start, Nothing)
gap_feed form s bytes None bare headless = rw headless refl
gap_feed form s bytes (Some false) bare headless = rw headless refl
gap_feed form s bytes (Some true) bare headless = rw (bare, headless) refl

group_feed : (kind : Column) (group : Size) (s : Scan) (bytes : List ℕ) (v : ℕ) → has_spaced_text kind ≡ false → has_headings kind ≡ false
    → next_of (form kind group) (at s (Group false (digits_of group) v)) bytes 10 ≡ Ok (at s Start, Nothing)
group_feed kind Byte s bytes v bare headless = rw (bare, headless) refl
group_feed kind Half s bytes v bare headless = rw (bare, headless) refl
group_feed kind Word s bytes v bare headless = rw (bare, headless) refl
group_feed kind Long s bytes v bare headless = rw (bare, headless) refl
group_feed kind Octals s bytes v bare headless = rw (bare, headless) refl

-- A column of offsets without colons.
record IsPlain (column : Column) (r k : ℕ) : Type 0 where
  radix : radix_of column ≡ r
  some : 0 < r
  small : r ≤ 16
  plain : has_colon column ≡ false
  headless : has_headings column ≡ false
  bare : has_spaced_text column ≡ false
  enough : nat_le (least_digits column) (counted (least_digits column) 1 k) ≡ true
  start : start_of column ≡ Start
  fit : (a : ℕ) → a ≤ 1048576 → HasPlaces r k a

module _ (column : Column) (group : Size) (r k : ℕ) (is : IsPlain column r k) (pad : List ℕ → ℕ) where
  abbrev here : Form
  here = form column group

  abbrev count : ℕ
  count = counted (least_digits column) 1 k

  offset_read : (s : Scan) (bytes : List ℕ) (a : ℕ) → length bytes ≤ 1048576 → a ≤ 1048576
      → Goes here (at s Start) bytes (places r (suc k) a) (at s (Address false count a)) bytes
  offset_read s bytes a fits small =
      address_places here (at s Start) s bytes r 1 (λ b d digit below. address_first here s bytes b d r digit is.radix below) is.radix is.some is.small fits k a
      (is.fit a small)

  -- the spaces behind the groups
  tail_read : (s : Scan) (bytes : List ℕ) (v n : ℕ) → length bytes ≤ 1048576
      → Goes here (at s (Group false (digits_of group) v)) bytes (replicate n 32 ++ 10 ∷ []) (at s Start) bytes
  tail_read s bytes v zero fits =
      goes_step here (at s (Group false (digits_of group) v)) (at s Start) bytes 10 fits (group_feed column group s bytes v is.bare is.headless)
  tail_read s bytes v (suc n) fits =
      let spaces = spaces_read here s bytes n (Some false) fits in
      goes_then (goes_step here (at s (Group false (digits_of group) v)) (at s (Behind false)) bytes 32 fits (group_space column group s bytes v))
      (goes_then spaces.goes (goes_step here (at s (gap spaces.o)) (at s Start) bytes 10 fits (gap_feed here s bytes spaces.o is.bare is.headless)))

  line_read : ReadsLines here (plain_line r (suc k) group pad) (IsPart 16 (size_of group)) 1048577
  line_read s bytes a f part start on first is_part fits below =
      let u = in_line s (length bytes) a Gap in
      let found = bytes ++ part in
      let long = length-append bytes part in
      let zero_add : 0 + length part ≡ length part = omega arith in
      let whole : (0 + length part) % size_of group ≡ 0 = ap (λ (m : ℕ). m % size_of group) zero_add ∙ is_part.whole in
      let some : 0 < size_of group = size_some group in
      let list = parts (size_of group) part in
      let are : ArePartsOf (size_of group) (size_of group) part list =
      parts_are (size_of group) (size_of group) [] part some (mod_self (size_of group)) whole (λ j. omega arith) is_part.bytes in
      let address = offset_read s bytes a (omega arith) (omega arith) in
      let space = address_space here r is.radix is.small is.plain s bytes count a is.enough on in
      let groups = groups_read column group u list part bytes (at s (Address false count a)) Gap space
      (gap_digit here u bytes None (is_octal group) is.bare refl) are is_part.some fits in
      let tail = tail_read u found groups.v (pad part) (omega arith) in
      record {
        next = at u Start;
        goes = subst (λ (v : Scan). Goes here v bytes (plain_line r (suc k) group pad a part) (at u Start) found) (at_same s Start start)
            (goes_then address (goes_then groups.goes tail));
        start = refl;
        first = ap (λ (n : ℕ). Some n) first;
      }

  dump_is : (bytes : List ℕ) → IsDumped bytes → (i : ℕ) → i < length words_first → slice_index_or words_first i here ≡ here
      → IsOrUnsure bytes (pasted Dump (plain_dump r (suc k) group pad bytes))
  dump_is bytes dumped i below at_i =
      let n = length bytes in
      let fits = is_filled group n in
      let zeros : List ℕ = replicate (fill group n) 0 in
      let full = filled group bytes in
      let some = dumped.some in
      let most = dumped.most in
      let zeros_long : length zeros ≡ fill group n = length-replicate (fill group n) 0 in
      let long : length full ≡ n + length zeros = length-append bytes zeros in
      let less = fits.less in
      let full_long : length full ≡ n + fill group n = omega arith in
      let full_most : length full ≤ 1048576 = let bound = fits.most most in omega arith in
      let zero_add : 0 + length full ≡ n + fill group n = omega arith in
      let whole : (0 + length full) % size_of group ≡ 0 = ap (λ (m : ℕ). m % size_of group) zero_add ∙ fits.whole in
      let are = parts_are 16 (size_of group) [] full (omega arith) fits.units whole (λ j. omega arith)
      (bytes_append bytes zeros dumped.each (zero_bytes (fill group n))) in
      let all = dump_read here (plain_line r (suc k) group pad) (IsPart 16 (size_of group)) 1048577 (λ part it. it.some) line_read 0 (begun here) (parts 16 full) full is.start refl are.all are.is
      (omega arith) full_most (omega arith) in
      let s = all.next in
      let last = offset_read s full n full_most most in
      let rest : drop n full ≡ zeros = drop_at bytes zeros n refl in
      let end = end_read here r is.radix is.small is.plain s full bytes count n is.enough is.headless all.first (omega arith) (omega arith)
      (ap (λ (l : List ℕ). is_all_zeros l) rest ∙ zeros_are (fill group n)) (take_at bytes zeros n refl) most in
      let done = record s { place = Start; is_sure = true } in
      let text = plain_dump r (suc k) group pad bytes in
      let reads = goes_then all.goes (subst (λ (v : Scan). Goes here v full (places r (suc k) n ++ 10 ∷ []) done bytes) (at_same s Start all.start)
      (goes_then last end)) in
      read_back i here text bytes true below (ap (λ (x : Form). read_as x text) at_i ∙ read_whole here text bytes done reads refl some most)

hex_offsets : IsPlain Hex 16 5
hex_offsets = record {
  radix = refl;
  some = omega arith;
  small = omega arith;
  plain = refl;
  headless = refl;
  bare = refl;
  enough = refl;
  start = refl;
  fit = λ a small. hex_places 5 a (omega arith) (omega arith);
}

hexdump_offsets : IsPlain Hex 16 6
hexdump_offsets = record {
  radix = refl;
  some = omega arith;
  small = omega arith;
  plain = refl;
  headless = refl;
  bare = refl;
  enough = refl;
  start = refl;
  fit = λ a small. hex_places 6 a (omega arith) (omega arith);
}

octal_offsets : IsPlain Octal 8 6
octal_offsets = record {
  radix = refl;
  some = omega arith;
  small = omega arith;
  plain = refl;
  headless = refl;
  bare = refl;
  enough = refl;
  start = refl;
  fit = λ a small. octal_places 6 a (omega arith) (omega arith);
}

decimal_offsets : IsPlain Decimal 10 6
decimal_offsets = record {
  radix = refl;
  some = omega arith;
  small = omega arith;
  plain = refl;
  headless = refl;
  bare = refl;
  enough = refl;
  start = refl;
  fit = λ a small. decimal_places 6 a (omega arith) (omega arith);
}

-- the place of a form among those that are tried
record IsTried (it : Form) : Type 0 where
  i : ℕ
  below : i < length words_first
  is : slice_index_or words_first i it ≡ it

hex_tried : (group : Size) → IsTried (form Hex group)
hex_tried Byte = record { i = 4; below = omega arith; is = refl }
hex_tried Half = record { i = 5; below = omega arith; is = refl }
hex_tried Word = record { i = 6; below = omega arith; is = refl }
hex_tried Long = record { i = 7; below = omega arith; is = refl }
hex_tried Octals = record { i = 8; below = omega arith; is = refl }

octal_tried : (group : Size) → IsTried (form Octal group)
octal_tried Byte = record { i = 9; below = omega arith; is = refl }
octal_tried Half = record { i = 10; below = omega arith; is = refl }
octal_tried Word = record { i = 11; below = omega arith; is = refl }
octal_tried Long = record { i = 12; below = omega arith; is = refl }
octal_tried Octals = record { i = 13; below = omega arith; is = refl }

decimal_tried : (group : Size) → IsTried (form Decimal group)
decimal_tried Byte = record { i = 14; below = omega arith; is = refl }
decimal_tried Half = record { i = 15; below = omega arith; is = refl }
decimal_tried Word = record { i = 16; below = omega arith; is = refl }
decimal_tried Long = record { i = 17; below = omega arith; is = refl }
decimal_tried Octals = record { i = 18; below = omega arith; is = refl }

pub od_is_read_back : OdIsReadBack
od_is_read_back group bytes dumped =
    let octal = octal_tried group in
    let decimal = decimal_tried group in
    let hex = hex_tried group in (
      dump_is Octal group 8 6 octal_offsets (λ line. 0) bytes dumped octal.i octal.below octal.is,
      dump_is Decimal group 10 6 decimal_offsets (λ line. 0) bytes dumped decimal.i decimal.below decimal.is,
      dump_is Hex group 16 5 hex_offsets (λ line. 0) bytes dumped hex.i hex.below hex.is,
    )

pub hexdump_words : (bytes : List ℕ) → IsDumped bytes → IsOrUnsure bytes (pasted Dump (hexdump bytes))
hexdump_words bytes dumped =
    dump_is Hex Half 16 6 hexdump_offsets (λ line. 40 - length (spaced_groups Half (parts 2 line))) bytes dumped 5 (omega arith) refl

-- What gdb's `x` prints is read back.
use Rattle.std.proofs.Common.{◌≡◌, ◌∙◌, ap, sym, subst, refl, ℕ, zero, suc, ◌+◌, ◌*◌, ◌/◌, ◌%◌, ◌^◌, ◌<◌, ◌≤◌, Bool, true, false, eqb, nat_lt, List, [], ◌∷◌, ◌++◌, length}
use Rattle.std.proofs.Common.{length-append, slice_index_or, Option, Some, None, Ok, arith, append_assoc, append-nil, ◌||◌, inl, inr}
use Rattle.std.specs.{Fmt.digit_glyph}
use Rattle.std.proofs.Math.Nat.{mod_self}
use Rattle.std.proofs.lemmas.Bool.{cases_Bool, cond_both, le-leb, or_parts, ltb-true}
use Rattle.dma_manual.specs.Forms.{digits_of, form, is_octal, size_of, words_first}
use Rattle.dma_manual.specs.{Dump.goes_on, Dump.next_of, PrintedLaws.GdbIsReadBack, PrintedLaws.IsDumped, PrintedLaws.IsOrUnsure, PrintedLaws.IsSymbol}
use Rattle.dma_manual.specs.{declared.dump.Scan.Scan, declared.forms.Form.Form, Pasted.begun, Pasted.pasted, Pasted.read_as}
use Rattle.dma_manual.specs.declared.pasted.Spelling.TheVariants.{Dump}
use Rattle.dma_manual.specs.declared.dump.Effect.TheVariants.{Nothing}
use Rattle.dma_manual.specs.declared.dump.Place.TheVariants.{Start, Address, Open, Symbol, Closed, Gap, Lead, Group}
use Rattle.dma_manual.specs.{declared.dump.Place.Place}
use Rattle.std.specs.List.{list_any}
use Rattle.dma_manual.specs.declared.forms.Column.TheVariants.{Colon}
use Rattle.dma_manual.specs.declared.forms.Group.{Group as Size}
use Rattle.dma_manual.specs.declared.forms.Group.TheVariants.{Byte, Half, Word, Long, Octal as Octals}
use Rattle.dma_manual.specs.Printed.{group_digits, lines_from, marked_groups, number_of, parts, short_places, symbol_text, x_line}
use Rattle.dma_manual.proofs.Runs.{Goes, at, at_same, goes_step, goes_then, read_whole}
use Rattle.dma_manual.proofs.DumpDigits.{FirstOfGroup, address_more, group_effect, group_radix, is_digit, one_more}
use Rattle.dma_manual.proofs.DumpLines.{AllParts, ArePartsOf, IsPart, ReadsLines, dump_read, joined, parts_are}
use Rattle.dma_manual.proofs.DumpGroups.{sixteens, size_some, whole_group}
use Rattle.dma_manual.proofs.ColonDumps.{colon_address}
use Rattle.dma_manual.proofs.PlainAddresses.{in_line}
use Rattle.dma_manual.proofs.ReadBack.{read_back}

-- `0x` and a digit
zero_value : (octal : Bool) (d : ℕ) → 0 % 2 ^ 60 * group_radix octal + d ≡ d
zero_value true d = omega arith
zero_value false d = omega arith

mark_by : (form : Form) (s : Scan) (bytes : List ℕ) (b d : ℕ) (octal : Bool)
    → next_of form (at s (Group true 0 0)) bytes b ≡ Ok (at s (Group true 1 (0 % 2 ^ 60 * group_radix octal + d)), Nothing)
    → next_of form (at s (Group true 0 0)) bytes b ≡ Ok (at s (Group true 1 d), Nothing)
mark_by form s bytes b d octal is =
    subst (λ (v : ℕ). next_of form (at s (Group true 0 0)) bytes b ≡ Ok (at s (Group true 1 v), Nothing)) (zero_value octal d) is

mark_digit : (group : Size) (s : Scan) (bytes : List ℕ) → FirstOfGroup (form Colon group) (at s (Group true 0 0)) s bytes true (is_octal group)
mark_digit Byte s bytes b d digit small =
    mark_by (form Colon Byte) s bytes b d false (group_effect (form Colon Byte) s bytes true b d 0 0 2 false digit refl refl (omega arith) small)
mark_digit Half s bytes b d digit small =
    mark_by (form Colon Half) s bytes b d false (group_effect (form Colon Half) s bytes true b d 0 0 4 false digit refl refl (omega arith) small)
mark_digit Word s bytes b d digit small =
    mark_by (form Colon Word) s bytes b d false (group_effect (form Colon Word) s bytes true b d 0 0 8 false digit refl refl (omega arith) small)
mark_digit Long s bytes b d digit small =
    mark_by (form Colon Long) s bytes b d false (group_effect (form Colon Long) s bytes true b d 0 0 16 false digit refl refl (omega arith) small)
mark_digit Octals s bytes b d digit small =
    mark_by (form Colon Octals) s bytes b d true (group_effect (form Colon Octals) s bytes true b d 0 0 6 true digit refl refl (omega arith) small)

lead_zero : (group : Size) (s : Scan) (bytes : List ℕ) → next_of (form Colon group) (at s (Lead 1)) bytes 48 ≡ Ok (at s (Group false 1 0), Nothing)
lead_zero Byte s bytes = refl
lead_zero Half s bytes = refl
lead_zero Word s bytes = refl
lead_zero Long s bytes = refl
lead_zero Octals s bytes = refl

gap_zero : (group : Size) (s : Scan) (bytes : List ℕ) → next_of (form Colon group) (at s Gap) bytes 48 ≡ Ok (at s (Group false 1 0), Nothing)
gap_zero Byte s bytes = refl
gap_zero Half s bytes = refl
gap_zero Word s bytes = refl
gap_zero Long s bytes = refl
gap_zero Octals s bytes = refl

zero_mark : (group : Size) (s : Scan) (bytes : List ℕ)
    → next_of (form Colon group) (at s (Group false 1 0)) bytes 120 ≡ Ok (at s (Group true 0 0), Nothing)
zero_mark Byte s bytes = refl
zero_mark Half s bytes = refl
zero_mark Word s bytes = refl
zero_mark Long s bytes = refl
zero_mark Octals s bytes = refl

marked_feed : (group : Size) (s : Scan) (bytes : List ℕ) (v : ℕ)
    → next_of (form Colon group) (at s (Group true (digits_of group) v)) bytes 10 ≡ Ok (at s Start, Nothing)
marked_feed Byte s bytes v = refl
marked_feed Half s bytes v = refl
marked_feed Word s bytes v = refl
marked_feed Long s bytes v = refl
marked_feed Octals s bytes v = refl

marked_tab : (group : Size) (s : Scan) (bytes : List ℕ) (v : ℕ)
    → next_of (form Colon group) (at s (Group true (digits_of group) v)) bytes 9 ≡ Ok (at s Gap, Nothing)
marked_tab group s bytes v = rw (le-leb (digits_of group) (digits_of group) (omega arith)) refl

-- in a symbol's name
record InName (form : Form) (s : Scan) (bytes : List ℕ) (c b : ℕ) : Type 0 where
  last : ℕ
  is : next_of form (at s (Symbol c)) bytes b ≡ Ok (at s (Symbol last), Nothing)

-- The colon after an address is read, and a tab may follow.
record ToColon (form : Form) (from u : Scan) (bytes text : List ℕ) : Type 0 where
  p : Place
  goes : Goes form from bytes text (at u p) bytes
  tab : (more : List ℕ) → next_of form (at u p) more 9 ≡ Ok (at u (Lead 1), Nothing)

module _ (group : Size) where
  abbrev here : Form
  here = form Colon group

  -- the address
  address_digit : (s : Scan) (bytes : List ℕ) (d : ℕ) → d < 16
      → next_of here (at s (Address false 3 0)) bytes (digit_glyph false d) ≡ Ok (at s (Address false 4 d), Nothing)
  address_digit s bytes d small =
      subst (λ (v : ℕ). next_of here (at s (Address false 3 0)) bytes (digit_glyph false d) ≡ Ok (at s (Address false 4 v), Nothing)) (zero_value false d)
      (address_more here s bytes (digit_glyph false d) d 16 3 0 (is_digit d small) refl small)

  next_digit : (s : Scan) (bytes : List ℕ) (n : ℕ) → n < 2 ^ 64
      → next_of here (at s (Address false 4 (n / 16))) bytes (digit_glyph false (n % 16)) ≡ Ok (at s (Address false 4 n), Nothing)
  next_digit s bytes n small =
      subst (λ (v : ℕ). next_of here (at s (Address false 4 (n / 16))) bytes (digit_glyph false (n % 16)) ≡ Ok (at s (Address false 4 v), Nothing))
      (one_more 16 n (omega arith))
      (address_more here s bytes (digit_glyph false (n % 16)) (n % 16) 16 4 (n / 16) (is_digit (n % 16) (omega arith)) refl (omega arith))

  module _ (s : Scan) (bytes : List ℕ) (fits : length bytes ≤ 1048576) where
    short_read : (k n : ℕ) → n < sixteens k → n < 2 ^ 64
        → Goes here (at s (Address false 3 0)) bytes (short_places k n) (at s (Address false 4 n)) bytes
    unfolding short_places
    short_read zero n small most =
        goes_step here (at s (Address false 3 0)) (at s (Address false 4 n)) bytes (digit_glyph false n) fits (address_digit s bytes n small)
    short_read (suc k) n small most =
        cond_both (nat_lt n 16) (digit_glyph false n ∷ []) (short_places k (n / 16) ++ digit_glyph false (n % 16) ∷ [])
        (λ (l : List ℕ). Goes here (at s (Address false 3 0)) bytes l (at s (Address false 4 n)) bytes)
        (λ less. goes_step here (at s (Address false 3 0)) (at s (Address false 4 n)) bytes (digit_glyph false n) fits
        (address_digit s bytes n (ltb-true n 16 less)))
        (λ more. goes_then (short_read k (n / 16) (omega arith) (omega arith))
        (goes_step here (at s (Address false 4 (n / 16))) (at s (Address false 4 n)) bytes (digit_glyph false (n % 16)) fits (next_digit s bytes n most)))

    address_read : (a : ℕ) → a < 2 ^ 64 → Goes here (at s Start) bytes (48 ∷ 120 ∷ short_places 15 a) (at s (Address false 4 a)) bytes
    address_read a small =
        goes_then (goes_step here (at s Start) (at s (Address false 1 0)) bytes 48 fits refl)
        (goes_then (goes_step here (at s (Address false 1 0)) (at s (Address false 3 0)) bytes 120 fits refl) (short_read 15 a small small))

  -- the groups
  module _ (s : Scan) where
    marked_read : (part bytes : List ℕ) → IsPart (size_of group) (size_of group) part → length bytes + length part ≤ 1048576
        → Goes here (at s (Group false 1 0)) bytes (120 ∷ group_digits group part) (at s (Group true (digits_of group) (number_of part))) (bytes ++ part)
    marked_read part bytes is fits =
        goes_then (goes_step here (at s (Group false 1 0)) (at s (Group true 0 0)) bytes 120 (omega arith) (zero_mark group s bytes))
        (whole_group group part is Colon (at s (Group true 0 0)) s bytes true (mark_digit group s bytes) fits)

    chain : (rest : List (List ℕ)) (part bytes : List ℕ) → IsPart (size_of group) (size_of group) part → AllParts (IsPart (size_of group) (size_of group)) rest
        → length bytes + length (part ++ joined rest) ≤ 1048576
        → Goes here (at s (Group false 1 0)) bytes ((120 ∷ group_digits group part) ++ (marked_groups group rest ++ 10 ∷ [])) (at s Start)
        (bytes ++ (part ++ joined rest))
    chain [] part bytes is others fits =
        let all : part ++ [] ≡ part = append-nil part in
        let long = ap (λ (l : List ℕ). length l) all in
        let longer = length-append bytes part in
        let found = bytes ++ part in
        let v = number_of part in
        subst (λ (l : List ℕ). Goes here (at s (Group false 1 0)) bytes ((120 ∷ group_digits group part) ++ 10 ∷ []) (at s Start) (bytes ++ l)) (sym all)
        (goes_then (marked_read part bytes is (omega arith))
        (goes_step here (at s (Group true (digits_of group) v)) (at s Start) found 10 (omega arith) (marked_feed group s found v)))
    chain (more ∷ rest) part bytes is others fits =
        let long = length-append part (joined (more ∷ rest)) in
        let longer = length-append bytes part in
        let found = bytes ++ part in
        let v = number_of part in
        let tab = goes_step here (at s (Group true (digits_of group) v)) (at s Gap) found 9 (omega arith) (marked_tab group s found v) in
        let mark = goes_step here (at s Gap) (at s (Group false 1 0)) found 48 (omega arith) (gap_zero group s found) in
        let two = chain rest more found others.0 others.1 (omega arith) in
        let after = subst (λ (l : List ℕ). Goes here (at s (Group true (digits_of group) v)) found (9 ∷ 48 ∷ l) (at s Start) (found ++ (more ++ joined rest)))
        (sym (append_assoc (120 ∷ group_digits group more) (marked_groups group rest) (10 ∷ []))) (goes_then tab (goes_then mark two)) in
        subst (λ (l : List ℕ). Goes here (at s (Group false 1 0)) bytes
        ((120 ∷ group_digits group part) ++ (marked_groups group (more ∷ rest) ++ 10 ∷ [])) (at s Start) l) (append_assoc bytes part (joined (more ∷ rest)))
        (goes_then (marked_read part bytes is (omega arith)) after)

    groups_read : (p : Place) → ((bytes : List ℕ) → next_of here (at s p) bytes 9 ≡ Ok (at s (Lead 1), Nothing)) → (list : List (List ℕ)) (line bytes : List ℕ)
        → ArePartsOf (size_of group) (size_of group) line list → 0 < length line
        → length bytes + length line ≤ 1048576
        → Goes here (at s p) bytes (marked_groups group list ++ 10 ∷ []) (at s Start) (bytes ++ line)
    groups_read p first [] line bytes are some fits = let long = ap (λ (l : List ℕ). length l) are.is in absurd (omega arith)
    groups_read p first (part ∷ rest) line bytes are some fits =
        let long = ap (λ (l : List ℕ). length l) are.is in
        let tab = goes_step here (at s p) (at s (Lead 1)) bytes 9 (omega arith) (first bytes) in
        let mark = goes_step here (at s (Lead 1)) (at s (Group false 1 0)) bytes 48 (omega arith) (lead_zero group s bytes) in
        let all = chain rest part bytes are.all.0 are.all.1 (omega arith) in
        let whole = subst (λ (l : List ℕ). Goes here (at s p) bytes (9 ∷ 48 ∷ l) (at s Start) (bytes ++ (part ++ joined rest)))
        (sym (append_assoc (120 ∷ group_digits group part) (marked_groups group rest) (10 ∷ []))) (goes_then tab (goes_then mark all)) in
        subst (λ (l : List ℕ). Goes here (at s p) bytes (marked_groups group (part ∷ rest) ++ 10 ∷ []) (at s Start) (bytes ++ l)) are.is whole

  -- a symbol
  name_byte : (s : Scan) (bytes : List ℕ) (c b : ℕ) → eqb b 10 ≡ false → eqb b 58 ≡ false → InName here s bytes c b
  name_byte s bytes c b no_feed no_colon =
      elim (cases_Bool (eqb b 13)) [
        | inl left ↦ record { last = c; is = rw left refl }
        | inr kept ↦ record { last = b; is = rw (kept, no_feed, no_colon) refl }
      ]

  name_read : (s : Scan) (bytes : List ℕ) → length bytes ≤ 1048576 → (name : List ℕ) (c : ℕ) → list_any (λ b. eqb b 10 || eqb b 58) name ≡ false
      → Goes here (at s (Symbol c)) bytes (name ++ 62 ∷ 58 ∷ []) (at s Closed) bytes
  name_read s bytes fits [] c inline =
      goes_then (goes_step here (at s (Symbol c)) (at s (Symbol 62)) bytes 62 fits refl) (goes_step here (at s (Symbol 62)) (at s Closed) bytes 58 fits refl)
  name_read s bytes fits (b ∷ name) c inline =
      let parts = or_parts (eqb b 10 || eqb b 58) (list_any (λ x. eqb x 10 || eqb x 58) name) inline in
      let here_is = or_parts (eqb b 10) (eqb b 58) parts.0 in
      let one = name_byte s bytes c b here_is.0 here_is.1 in
      goes_then (goes_step here (at s (Symbol c)) (at s (Symbol one.last)) bytes b fits one.is) (name_read s bytes fits name one.last parts.1)

  symbol_read : (s : Scan) (bytes : List ℕ) (a : ℕ) (o : Option (List ℕ)) → length bytes ≤ 1048576 → goes_on s.first (length bytes) a ≡ true → IsSymbol o
      → ToColon here (at s (Address false 4 a)) (in_line s (length bytes) a (Lead 0)) bytes (symbol_text o ++ 58 ∷ [])
  symbol_read s bytes a None fits on is =
      let u = in_line s (length bytes) a (Lead 0) in
      record {
        p = Lead 0;
        goes = goes_step here (at s (Address false 4 a)) u bytes 58 fits (colon_address group s bytes a on);
        tab = λ more. refl;
      }
  symbol_read s bytes a (Some name) fits on is =
      let u = in_line s (length bytes) a (Lead 0) in
      let open_it : next_of here (at s (Open a)) bytes 60 ≡ Ok (at u (Symbol 60), Nothing) = rw on refl in
      let front = goes_then (goes_step here (at s (Address false 4 a)) (at s (Open a)) bytes 32 fits refl)
      (goes_step here (at s (Open a)) (at u (Symbol 60)) bytes 60 fits open_it) in
      let name_goes = subst (λ (l : List ℕ). Goes here (at u (Symbol 60)) bytes l (at u Closed) bytes) (sym (append_assoc name (62 ∷ []) (58 ∷ [])))
      (name_read u bytes fits name 60 is) in
      record { p = Closed; goes = goes_then front name_goes; tab = λ more. refl }

  module _ (n : ℕ) (some_n : 0 < n) (units : n % size_of group ≡ 0) (symbol : ℕ → Option (List ℕ)) (symbols : (a : ℕ) → IsSymbol (symbol a)) where
    line_read : ReadsLines here (x_line group symbol) (IsPart n (size_of group)) (2 ^ 64)
    line_read s bytes a f part start on first is_part fits below =
        let u = in_line s (length bytes) a (Lead 0) in
        let size = size_of group in
        let found = bytes ++ part in
        let zero_add : 0 + length part ≡ length part = omega arith in
        let list = parts size part in
        let are : ArePartsOf size size part list =
        parts_are size size [] part (size_some group) (mod_self size) (ap (λ (m : ℕ). m % size) zero_add ∙ is_part.whole) (λ k. omega arith) is_part.bytes in
        let address = address_read s bytes (omega arith) a below in
        let colon = symbol_read s bytes a (symbol a) (omega arith) on (symbols a) in
        let groups = groups_read u colon.p colon.tab list part bytes are is_part.some fits in
        let rest = subst (λ (l : List ℕ). Goes here (at s (Address false 4 a)) bytes l (at u Start) found)
        (append_assoc (symbol_text (symbol a)) (58 ∷ []) (marked_groups group list ++ 10 ∷ [])) (goes_then colon.goes groups) in
        record {
          next = at u Start;
          goes = subst (λ (v : Scan). Goes here v bytes (x_line group symbol a part) (at u Start) found) (at_same s Start start)
              (goes_then address rest);
          start = refl;
          first = ap (λ (k : ℕ). Some k) first;
        }

    whole_read : (from : ℕ) (bytes : List ℕ) → IsDumped bytes → length bytes % size_of group ≡ 0 → from + length bytes ≤ 2 ^ 64 → (i : ℕ)
        → i < length words_first → slice_index_or words_first i here ≡ here → IsOrUnsure bytes (pasted Dump (lines_from (x_line group symbol) from (parts n bytes)))
    whole_read from bytes dumped whole below i tried at_i =
        let zero_add : 0 + length bytes ≡ length bytes = omega arith in
        let some = dumped.some in
        let most = dumped.most in
        let are = parts_are n (size_of group) [] bytes some_n units (ap (λ (m : ℕ). m % size_of group) zero_add ∙ whole) (λ k. omega arith) dumped.each in
        let all = dump_read here (x_line group symbol) (IsPart n (size_of group)) (2 ^ 64) (λ part is. is.some) line_read from (begun here) (parts n bytes) bytes refl refl are.all are.is some most below in
        let text = lines_from (x_line group symbol) from (parts n bytes) in
        read_back i here text bytes all.next.is_sure tried
        (ap (λ (x : Form). read_as x text) at_i ∙ read_whole here text bytes all.next all.goes all.start some most)

pub gdb_is_read_back : GdbIsReadBack
gdb_is_read_back Byte symbol from bytes symbols dumped whole below =
    whole_read Byte 8 (omega arith) refl symbol symbols from bytes dumped whole below 3 (omega arith) refl
gdb_is_read_back Half symbol from bytes symbols dumped whole below =
    whole_read Half 16 (omega arith) refl symbol symbols from bytes dumped whole below 2 (omega arith) refl
gdb_is_read_back Word symbol from bytes symbols dumped whole below =
    whole_read Word 16 (omega arith) refl symbol symbols from bytes dumped whole below 0 (omega arith) refl
gdb_is_read_back Long symbol from bytes symbols dumped whole below =
    whole_read Long 16 (omega arith) refl symbol symbols from bytes dumped whole below 1 (omega arith) refl
gdb_is_read_back _ symbol from bytes symbols dumped whole below = tt

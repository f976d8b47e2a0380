-- What `xxd` and U-Boot's `md` print is read back.
use Rattle.std.proofs.Common.{◌≡◌, ◌∙◌, ap, subst, refl, ℕ, zero, suc, ◌+◌, ◌-◌, ◌*◌, ◌/◌, ◌%◌, ◌^◌, ◌<◌, ◌≤◌, true, false, List, [], ◌∷◌, ◌++◌, length, codes}
use Rattle.std.proofs.Common.{length-append, replicate, drop, slice_index_or, Some, Ok, arith, append_assoc, inl}
use Rattle.std.proofs.Math.Nat.{mod_self}
use Rattle.std.proofs.lemmas.Bool.{lt-ltb}
use Rattle.std.proofs.lemmas.List.{drop_at}
use Rattle.dma_manual.specs.Forms.{digits_of, form, is_octal, size_of, words_first}
use Rattle.dma_manual.specs.{Dump.goes_on, Dump.next_of, PrintedLaws.IsDumped, PrintedLaws.IsOrUnsure, PrintedLaws.MdIsReadBack, PrintedLaws.XxdIsReadBack}
use Rattle.dma_manual.specs.{declared.dump.Scan.Scan, declared.forms.Form.Form, Pasted.begun, Pasted.pasted, Pasted.read_as}
use Rattle.dma_manual.specs.declared.pasted.Spelling.TheVariants.{Dump}
use Rattle.dma_manual.specs.declared.dump.Effect.TheVariants.{Nothing}
use Rattle.dma_manual.specs.declared.dump.Place.TheVariants.{Start, Address, Behind, Lead, Group}
use Rattle.dma_manual.specs.declared.forms.Column.TheVariants.{Colon}
use Rattle.dma_manual.specs.declared.forms.Group.{Group as Size}
use Rattle.dma_manual.specs.declared.forms.Group.TheVariants.{Byte, Half, Word, Long}
use Rattle.dma_manual.specs.Printed.{characters, md, md_line, paired_groups, parts, places, spaced_groups, xxd, xxd_line}
use Rattle.dma_manual.proofs.Runs.{Goes, at, at_same, goes_step, goes_then, read_whole}
use Rattle.dma_manual.proofs.DumpDigits.{FirstOfGroup, address_first, address_places, group_radix}
use Rattle.dma_manual.proofs.DumpLines.{ArePartsOf, AreBytes, IsPart, ReadsLines, dump_read, parts_are}
use Rattle.dma_manual.proofs.DumpGroups.{group_space, groups_read, hex_places, size_some}
use Rattle.dma_manual.proofs.SpacedTexts.{ToEnd, behind_spaces, characters_end, paired_read, then_end}
use Rattle.dma_manual.proofs.PlainAddresses.{in_line}
use Rattle.dma_manual.proofs.ReadBack.{read_back}

pub lead_digit : (group : Size) (s : Scan) (bytes : List ℕ) → FirstOfGroup (form Colon group) (at s (Lead 1)) s bytes false (is_octal group)
lead_digit group s bytes b d digit small =
    rw (digit.no_return, digit.no_space, digit.no_tab, digit.no_feed, digit.value, lt-ltb d (group_radix (is_octal group)) small) refl

module _ (group : Size) where
  abbrev here : Form
  here = form Colon group

  pub colon_address : (s : Scan) (bytes : List ℕ) (a : ℕ) → goes_on s.first (length bytes) a ≡ true
      → next_of here (at s (Address false 4 a)) bytes 58 ≡ Ok (in_line s (length bytes) a (Lead 0), Nothing)
  colon_address s bytes a on = rw on refl

  -- eight digits and a colon
  address_read : (s : Scan) (bytes : List ℕ) (a : ℕ) → length bytes ≤ 1048576 → a < 2 ^ 32 → goes_on s.first (length bytes) a ≡ true
      → Goes here (at s Start) bytes (places 16 8 a ++ 58 ∷ []) (in_line s (length bytes) a (Lead 0)) bytes
  address_read s bytes a fits small on =
      let digits = address_places here (at s Start) s bytes 16 1 (λ b d digit below. address_first here s bytes b d 16 digit refl below) refl (omega arith)
      (omega arith) fits 7 a (hex_places 7 a (omega arith) (omega arith)) in
      goes_then digits (goes_step here (at s (Address false 4 a)) (in_line s (length bytes) a (Lead 0)) bytes 58 fits (colon_address s bytes a on))

-- what follows the groups of xxd
xxd_rest : (s : Scan) (bytes line : List ℕ) (n : ℕ) → drop s.before bytes ≡ line → AreBytes line → length bytes ≤ 1048576
    → ToEnd (form Colon Byte) (at s (Behind false)) s bytes (replicate n 32 ++ (32 ∷ (characters line ++ 10 ∷ [])))
xxd_rest s bytes line n is are fits =
    let spaces = behind_spaces (form Colon Byte) s bytes n false fits in
    let space = goes_step (form Colon Byte) (at s (Behind spaces.wide)) (at s (Behind true)) bytes 32 fits refl in
    then_end spaces.goes (then_end space (characters_end (form Colon Byte) refl s bytes line (inl refl) 0 is fits line [] refl refl are))

xxd_groups : (size : ℕ) (list : List (List ℕ)) (s : Scan) (bytes line : List ℕ) → ArePartsOf size 1 line list → 0 < length line
    → length bytes + length line ≤ 1048576
    → Goes (form Colon Byte) (at s (Lead 1)) bytes (paired_groups list) (at s (Behind false)) (bytes ++ line)
xxd_groups size [] s bytes line are some fits = let long = ap (λ (l : List ℕ). length l) are.is in absurd (omega arith)
xxd_groups size (part ∷ rest) s bytes line are some fits =
    let long = ap (λ (l : List ℕ). length l) are.is in
    subst (λ (l : List ℕ). Goes (form Colon Byte) (at s (Lead 1)) bytes (paired_groups (part ∷ rest)) (at s (Behind false)) (bytes ++ l)) are.is
    (paired_read Colon refl s size rest part (at s (Lead 1)) bytes (lead_digit Byte s bytes) are.all.0 are.all.1 (omega arith))

xxd_line_read : (size : ℕ) → 0 < size → ReadsLines (form Colon Byte) (xxd_line size) (IsPart 16 1) (2 ^ 32)
xxd_line_read size sized s bytes a f part start on first is_part fits below =
    let u = in_line s (length bytes) a (Lead 0) in
    let found = bytes ++ part in
    let long = length-append bytes part in
    let list = parts size part in
    let are : ArePartsOf size 1 part list = parts_are size 1 [] part sized (mod_one size) (mod_one (0 + length part)) (λ k. omega arith) is_part.bytes in
    let address = address_read Byte s bytes a (omega arith) below on in
    let space = goes_step (form Colon Byte) (at u (Lead 0)) (at u (Lead 1)) bytes 32 (omega arith) refl in
    let groups = xxd_groups size list u bytes part are is_part.some fits in
    let rest = xxd_rest u found part (32 + (15 + size) / size - length (paired_groups list)) (drop_at bytes part (length bytes) refl) is_part.bytes (omega arith) in
    let front = subst (λ (l : List ℕ). Goes (form Colon Byte) (at s Start) bytes l (at u (Lead 1)) bytes) (append_assoc (places 16 8 a) (58 ∷ []) (32 ∷ []))
    (goes_then address space) in
    let whole = goes_then groups rest.goes in
    record {
      next = rest.next;
      goes = subst (λ (v : Scan). Goes (form Colon Byte) v bytes (xxd_line size a part) rest.next found) (at_same s Start start) (goes_then front whole);
      start = rest.start;
      first = rest.first ∙ ap (λ (n : ℕ). Some n) first;
    }
  where
    mod_one : (n : ℕ) → n % 1 ≡ 0
    mod_one n = omega arith

pub xxd_is_read_back : XxdIsReadBack
xxd_is_read_back size bytes sized dumped =
    let are = parts_are 16 1 [] bytes (omega arith) refl (omega arith) (λ k. omega arith) dumped.each in
    let some = dumped.some in
    let most = dumped.most in
    let all = dump_read (form Colon Byte) (xxd_line size) (IsPart 16 1) (2 ^ 32) (λ part is. is.some) (xxd_line_read size sized) 0 (begun (form Colon Byte)) (parts 16 bytes) bytes refl refl are.all
    are.is some most (omega arith) in
    read_back 3 (form Colon Byte) (xxd size bytes) bytes all.next.is_sure (omega arith)
    (read_whole (form Colon Byte) (xxd size bytes) bytes all.next all.goes all.start some most)

-- the spaces behind the groups of md
md_spaces : (group : Size) (s : Scan) (bytes : List ℕ) (v n : ℕ) → length bytes ≤ 1048576
    → Goes (form Colon group) (at s (Group false (digits_of group) v)) bytes (replicate n 32 ++ (32 ∷ 32 ∷ [])) (at s (Behind true)) bytes
md_spaces group s bytes v zero fits =
    goes_then (goes_step (form Colon group) (at s (Group false (digits_of group) v)) (at s (Behind false)) bytes 32 fits (group_space Colon group s bytes v))
    (goes_step (form Colon group) (at s (Behind false)) (at s (Behind true)) bytes 32 fits refl)
md_spaces group s bytes v (suc n) fits =
    let spaces = behind_spaces (form Colon group) s bytes n false fits in
    let wide = goes_step (form Colon group) (at s (Behind true)) (at s (Behind true)) bytes 32 fits refl in
    goes_then (goes_step (form Colon group) (at s (Group false (digits_of group) v)) (at s (Behind false)) bytes 32 fits (group_space Colon group s bytes v))
    (goes_then spaces.goes (goes_then (goes_step (form Colon group) (at s (Behind spaces.wide)) (at s (Behind true)) bytes 32 fits refl) wide))

md_rest : (group : Size) (s : Scan) (bytes line : List ℕ) (v n : ℕ) → drop s.before bytes ≡ line → AreBytes line → length bytes ≤ 1048576
    → ToEnd (form Colon group) (at s (Group false (digits_of group) v)) s bytes (replicate n 32 ++ (codes "  " ++ (characters line ++ 10 ∷ [])))
md_rest group s bytes line v n is are fits =
    let end = characters_end (form Colon group) refl s bytes line (inl refl) 0 is fits line [] refl refl are in
    subst (λ (l : List ℕ). ToEnd (form Colon group) (at s (Group false (digits_of group) v)) s bytes l)
    (append_assoc (replicate n 32) (32 ∷ 32 ∷ []) (characters line ++ 10 ∷ []))
    (then_end (md_spaces group s bytes v n fits) end)

module _ (gap : ℕ) (group : Size) (units : 16 % size_of group ≡ 0) where
  md_line_read : ReadsLines (form Colon group) (md_line gap group) (IsPart 16 (size_of group)) (2 ^ 32)
  md_line_read s bytes a f part start on first is_part fits below =
      let u = in_line s (length bytes) a (Lead 0) in
      let found = bytes ++ part in
      let size = size_of group in
      let long = length-append bytes part in
      let zero_add : 0 + length part ≡ length part = omega arith in
      let list = parts size part in
      let are : ArePartsOf size size part list =
      parts_are size size [] part (size_some group) (mod_self size) (ap (λ (m : ℕ). m % size) zero_add ∙ is_part.whole) (λ k. omega arith) is_part.bytes in
      let address = address_read group s bytes a (omega arith) below on in
      let groups = groups_read Colon group u list part bytes u (Lead 1) refl (lead_digit group u bytes) are is_part.some fits in
      let rest = md_rest group u found part groups.v (16 / size * (digits_of group + 1) + gap - length (spaced_groups group list))
      (drop_at bytes part (length bytes) refl) is_part.bytes (omega arith) in
      record {
        next = rest.next;
        goes = subst (λ (v : Scan). Goes (form Colon group) v bytes (md_line gap group a part) rest.next found) (at_same s Start start)
            (goes_then address (goes_then groups.goes rest.goes));
        start = rest.start;
        first = rest.first ∙ ap (λ (n : ℕ). Some n) first;
      }

  md_read : (from : ℕ) (bytes : List ℕ) → IsDumped bytes → length bytes % size_of group ≡ 0 → from + length bytes ≤ 2 ^ 32 → (i : ℕ) → i < length words_first
      → slice_index_or words_first i (form Colon group) ≡ form Colon group → IsOrUnsure bytes (pasted Dump (md gap group from bytes))
  md_read from bytes dumped whole below i tried at_i =
      let zero_add : 0 + length bytes ≡ length bytes = omega arith in
      let some = dumped.some in
      let most = dumped.most in
      let are = parts_are 16 (size_of group) [] bytes (omega arith) units (ap (λ (m : ℕ). m % size_of group) zero_add ∙ whole) (λ k. omega arith) dumped.each in
      let all = dump_read (form Colon group) (md_line gap group) (IsPart 16 (size_of group)) (2 ^ 32) (λ part is. is.some) md_line_read from (begun (form Colon group)) (parts 16 bytes) bytes
      refl refl are.all are.is some most below in
      let text = md gap group from bytes in
      read_back i (form Colon group) text bytes all.next.is_sure tried
      (ap (λ (x : Form). read_as x text) at_i ∙ read_whole (form Colon group) text bytes all.next all.goes all.start some most)

pub md_is_read_back : MdIsReadBack
md_is_read_back gap Byte from bytes dumped whole below = md_read gap Byte refl from bytes dumped whole below 3 (omega arith) refl
md_is_read_back gap Half from bytes dumped whole below = md_read gap Half refl from bytes dumped whole below 2 (omega arith) refl
md_is_read_back gap Word from bytes dumped whole below = md_read gap Word refl from bytes dumped whole below 0 (omega arith) refl
md_is_read_back gap Long from bytes dumped whole below = md_read gap Long refl from bytes dumped whole below 1 (omega arith) refl
md_is_read_back gap _ from bytes dumped whole below = tt

-- What `objdump -s` prints is read back.
use Rattle.std.proofs.Common.{◌≡◌, ◌∙◌, ap, subst, refl, ℕ, suc, ◌+◌, ◌-◌, ◌%◌, ◌^◌, ◌<◌, ◌≤◌, true, false, eqb, List, [], ◌∷◌, ◌++◌, length, codes}
use Rattle.std.proofs.Common.{length-append, replicate, drop, Some, Ok, arith, append_assoc, inr}
use Rattle.std.specs.List.{list_any}
use Rattle.std.proofs.lemmas.Bool.{cond_both, lt-ltb, or_parts}
use Rattle.std.proofs.lemmas.List.{drop_at}
use Rattle.dma_text.specs.Lines.{is_all_spaces}
use Rattle.dma_manual.specs.Forms.{form}
use Rattle.dma_manual.specs.{Dump.next_of, PrintedLaws.IsDumped, PrintedLaws.IsOrUnsure, PrintedLaws.ObjdumpIsReadBack}
use Rattle.dma_manual.specs.{declared.dump.Scan.Scan, declared.forms.Form.Form, Pasted.begun, Pasted.pasted}
use Rattle.dma_manual.specs.declared.pasted.Spelling.TheVariants.{Dump}
use Rattle.dma_manual.specs.declared.dump.Effect.TheVariants.{Nothing}
use Rattle.dma_manual.specs.declared.dump.Place.TheVariants.{Start, Indent, Titled, Address, Behind, Gap}
use Rattle.dma_manual.specs.declared.forms.Column.TheVariants.{Headed}
use Rattle.dma_manual.specs.declared.forms.Group.TheVariants.{Byte}
use Rattle.dma_manual.specs.Printed.{characters, lines_from, objdump, objdump_line, paired_groups, parts, places}
use Rattle.dma_manual.proofs.Runs.{Goes, at, at_same, goes_step, goes_then, read_whole, run}
use Rattle.dma_manual.proofs.DumpDigits.{FirstOfAddress, HasPlaces, address_places, counted}
use Rattle.dma_manual.proofs.DumpLines.{AllParts, ArePartsOf, AreBytes, IsPart, ReadsLines, dump_read, parts_are}
use Rattle.dma_manual.proofs.DumpTexts.{blank_digit}
use Rattle.dma_manual.proofs.DumpGroups.{hex_places}
use Rattle.dma_manual.proofs.SpacedTexts.{ToEnd, behind_spaces, characters_end, paired_read, then_end}
use Rattle.dma_manual.proofs.PlainAddresses.{address_space, in_line}
use Rattle.dma_manual.proofs.ReadBack.{read_back}

abbrev section : Form
section = form Headed Byte

-- the title
title_read : Goes section (begun section) [] (codes "Contents of section ") (at (begun section) Titled) []
unfolding run
title_read = record { is = refl }

name_byte : (s : Scan) (bytes : List ℕ) (b : ℕ) → eqb b 10 ≡ false → next_of section (at s Titled) bytes b ≡ Ok (at s Titled, Nothing)
name_byte s bytes b inline =
    rw inline (cond_both (eqb b 13) (Ok (at s Titled, Nothing)) (Ok (at s Titled, Nothing)) (λ r. r ≡ Ok (at s Titled, Nothing)) (λ h. refl) (λ h. refl))

name_read : (s : Scan) (name : List ℕ) → list_any (λ b. eqb b 10) name ≡ false → Goes section (at s Titled) [] (name ++ 58 ∷ 10 ∷ []) (at s Start) []
name_read s [] inline =
    goes_then (goes_step section (at s Titled) (at s Titled) [] 58 (omega arith) refl) (goes_step section (at s Titled) (at s Start) [] 10 (omega arith) refl)
name_read s (b ∷ name) inline =
    let parts = or_parts (eqb b 10) (list_any (λ c. eqb c 10) name) inline in
    goes_then (goes_step section (at s Titled) (at s Titled) [] b (omega arith) (name_byte s [] b parts.0)) (name_read s name parts.1)

-- an address after a space
address_first : (s : Scan) (bytes : List ℕ) → FirstOfAddress section (at s Indent) s bytes 16 1
address_first s bytes b d digit small = rw (digit.no_return, digit.no_feed, digit.no_space, digit.no_tab, digit.value, lt-ltb d 16 small) refl

mod_one : (n : ℕ) → n % 1 ≡ 0
mod_one n = omega arith

-- a line whose characters aren't all spaces
abbrev Shown : List ℕ → Type 0
Shown part = IsPart 16 1 part × (is_all_spaces part ≡ false)

all_shown : (list : List (List ℕ)) → AllParts (IsPart 16 1) list → list_any is_all_spaces list ≡ false → AllParts Shown list
all_shown [] are others = tt
all_shown (part ∷ rest) are others =
    let cases = or_parts (is_all_spaces part) (list_any is_all_spaces rest) others in
    ((are.0, cases.0), all_shown rest are.1 cases.1)

module _ (k top : ℕ) (enough : counted 4 1 k ≡ 4) (has : (a : ℕ) → a < top → HasPlaces 16 k a) where
  address_read : (s : Scan) (bytes : List ℕ) (a : ℕ) → length bytes ≤ 1048576 → a < top
      → Goes section (at s Start) bytes (32 ∷ places 16 (suc k) a) (at s (Address false 4 a)) bytes
  address_read s bytes a fits small =
      let space = goes_step section (at s Start) (at s Indent) bytes 32 fits refl in
      let digits = address_places section (at s Indent) s bytes 16 1 (address_first s bytes) refl (omega arith) (omega arith) fits k a (has a small) in
      goes_then space (subst (λ (c : ℕ). Goes section (at s Indent) bytes (places 16 (suc k) a) (at s (Address false c a)) bytes) enough digits)

  groups_read : (list : List (List ℕ)) (s : Scan) (bytes line : List ℕ) → ArePartsOf 4 1 line list → 0 < length line → length bytes + length line ≤ 1048576
      → Goes section (at s Gap) bytes (paired_groups list) (at s (Behind false)) (bytes ++ line)
  groups_read [] s bytes line are some fits = let long = ap (λ (l : List ℕ). length l) are.is in absurd (omega arith)
  groups_read (part ∷ rest) s bytes line are some fits =
      let long = ap (λ (l : List ℕ). length l) are.is in
      subst (λ (l : List ℕ). Goes section (at s Gap) bytes (paired_groups (part ∷ rest)) (at s (Behind false)) (bytes ++ l)) are.is
      (paired_read Headed refl s 4 rest part (at s Gap) bytes (blank_digit section s bytes false refl) are.all.0 are.all.1 (omega arith))

  text_read : (s : Scan) (bytes line : List ℕ) (m n : ℕ) → drop s.before bytes ≡ line → is_all_spaces line ≡ false → AreBytes line → length bytes ≤ 1048576
      → ToEnd section (at s (Behind false)) s bytes (replicate m 32 ++ (32 ∷ (characters line ++ (replicate n 32 ++ 10 ∷ []))))
  text_read s bytes line m n is other are fits =
      let spaces = behind_spaces section s bytes m false fits in
      let space = goes_step section (at s (Behind spaces.wide)) (at s (Behind true)) bytes 32 fits refl in
      then_end spaces.goes (then_end space (characters_end section refl s bytes line (inr other) n is fits line [] refl refl are))

  line_read : ReadsLines section (objdump_line (suc k)) Shown top
  line_read s bytes a f part start on first is_part fits below =
      let u = in_line s (length bytes) a Gap in
      let found = bytes ++ part in
      let it = is_part.0 in
      let long = length-append bytes part in
      let list = parts 4 part in
      let are : ArePartsOf 4 1 part list = parts_are 4 1 [] part (omega arith) refl (mod_one (0 + length part)) (λ j. omega arith) it.bytes in
      let address = address_read s bytes a (omega arith) below in
      let space = goes_step section (at s (Address false 4 a)) (at u Gap) bytes 32 (omega arith)
      (address_space section 16 refl (omega arith) refl s bytes 4 a refl on) in
      let groups = groups_read list u bytes part are it.some fits in
      let rest = text_read u found part (36 - length (paired_groups list)) (16 - length (characters part)) (drop_at bytes part (length bytes) refl)
      is_part.1 it.bytes (omega arith) in
      record {
        next = rest.next;
        goes = subst (λ (v : Scan). Goes section v bytes (objdump_line (suc k) a part) rest.next found) (at_same s Start start)
            (goes_then address (goes_then space (goes_then groups rest.goes)));
        start = rest.start;
        first = rest.first ∙ ap (λ (n : ℕ). Some n) first;
      }

  whole_read : (name bytes : List ℕ) (from : ℕ) → IsDumped bytes → list_any (λ b. eqb b 10) name ≡ false
      → list_any is_all_spaces (parts 16 bytes) ≡ false → from + length bytes ≤ top → IsOrUnsure bytes (pasted Dump (objdump (suc k) name from bytes))
  whole_read name bytes from dumped inline others below =
      let some = dumped.some in
      let most = dumped.most in
      let s = begun section in
      let are = parts_are 16 1 [] bytes (omega arith) refl (mod_one (0 + length bytes)) (λ j. omega arith) dumped.each in
      let all = dump_read section (objdump_line (suc k)) Shown top (λ part is. is.0.some) line_read from (at s Start) (parts 16 bytes) bytes refl refl
      (all_shown (parts 16 bytes) are.all others) are.is some most below in
      let lines = lines_from (objdump_line (suc k)) from (parts 16 bytes) in
      let text = objdump (suc k) name from bytes in
      let titled = goes_then (name_read s name inline) all.goes in
      let reads = goes_then title_read (subst (λ (l : List ℕ). Goes section (at s Titled) [] l all.next bytes)
      (append_assoc name (58 ∷ 10 ∷ []) lines) titled) in
      read_back 19 section text bytes all.next.is_sure (omega arith) (read_whole section text bytes all.next reads all.start some most)

pub objdump_is_read_back : ObjdumpIsReadBack
objdump_is_read_back name bytes from dumped inline others = (
  λ below. whole_read 3 (2 ^ 16) refl (λ a small. hex_places 3 a (omega arith) (omega arith)) name bytes from dumped inline others below,
  λ below. whole_read 4 (2 ^ 20) refl (λ a small. hex_places 4 a (omega arith) (omega arith)) name bytes from dumped inline others below,
  λ below. whole_read 5 (2 ^ 24) refl (λ a small. hex_places 5 a (omega arith) (omega arith)) name bytes from dumped inline others below,
  λ below. whole_read 6 (2 ^ 28) refl (λ a small. hex_places 6 a (omega arith) (omega arith)) name bytes from dumped inline others below,
  λ below. whole_read 7 (2 ^ 32) refl (λ a small. hex_places 7 a (omega arith) (omega arith)) name bytes from dumped inline others below,
)

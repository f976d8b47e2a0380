-- What `hexdump -C` prints is read back.
use Rattle.std.proofs.Common.{◌≡◌, ◌∙◌, ap, subst, refl, ℕ, ◌+◌, ◌-◌, ◌^◌, ◌<◌, ◌≤◌, Bool, true, false, List, [], ◌∷◌, ◌++◌, length, length-append, take, drop, Option, Some, None}
use Rattle.std.proofs.Common.{Ok, arith, append_assoc}
use Rattle.std.proofs.lemmas.List.{take-append-drop, drop_at, drop_all, take_all}
use Rattle.dma_manual.specs.Forms.{form}
use Rattle.dma_manual.specs.{Dump.next_of, PrintedLaws.IsDumped, PrintedLaws.IsOrUnsure}
use Rattle.dma_manual.specs.{declared.dump.Scan.Scan, declared.forms.Form.Form, Pasted.begun, Pasted.pasted, declared.pasted.Spelling.TheVariants.Dump}
use Rattle.dma_manual.specs.declared.dump.Effect.TheVariants.{Nothing}
use Rattle.dma_manual.specs.declared.dump.Place.TheVariants.{Start, Address, Gap, Text}
use Rattle.dma_manual.specs.declared.forms.Column.TheVariants.{Hex}
use Rattle.dma_manual.specs.declared.forms.Group.TheVariants.{Byte}
use Rattle.dma_manual.specs.Printed.{canonical_line, hexdump_canonical, padding, parts, places, spaced_pairs}
use Rattle.dma_manual.proofs.Runs.{Goes, at, at_same, goes_step, goes_then, read_whole}
use Rattle.dma_manual.proofs.DumpDigits.{HasPlaces, address_first, address_places}
use Rattle.dma_manual.proofs.DumpLines.{ArePartsOf, AreBytes, IsPart, ReadsLines, bytes_drop, bytes_take, dump_read, parts_are}
use Rattle.dma_manual.proofs.DumpTexts.{ToGap, characters_read, gap, gap_space, spaced, spaced_read, spaces_read, text_ends, then_gap}
use Rattle.dma_manual.proofs.PlainAddresses.{address_space, end_read, in_line}
use Rattle.dma_manual.proofs.ReadBack.{read_back}

abbrev bytes_form : Form
bytes_form = form Hex Byte

eight_places : (a : ℕ) → a < 2 ^ 32 → HasPlaces 16 7 a
eight_places a small = (omega arith, (omega arith, (omega arith, (omega arith, (omega arith, (omega arith, (omega arith, omega arith)))))))

address_read : (s : Scan) (bytes : List ℕ) (a : ℕ) → length bytes ≤ 1048576 → a < 2 ^ 32
    → Goes bytes_form (at s Start) bytes (places 16 8 a) (at s (Address false 6 a)) bytes
address_read s bytes a fits small =
    address_places bytes_form (at s Start) s bytes 16 1 (λ b d digit below. address_first bytes_form s bytes b d 16 digit refl below) refl (omega arith)
    (omega arith) fits 7 a (eight_places a small)

gap_bar : (s : Scan) (bytes : List ℕ) (o : Option Bool) → next_of bytes_form (at s (gap o)) bytes 124 ≡ Ok (at s (Text 0), Nothing)
gap_bar s bytes None = refl
gap_bar s bytes (Some true) = refl
gap_bar s bytes (Some false) = refl

-- the bytes of a line
abbrev gapped : List ℕ → List ℕ
gapped line = let groups = spaced_pairs (take 8 line) ++ (32 ∷ spaced_pairs (drop 8 line)) in groups ++ padding 49 groups

groups_read : (s : Scan) (bytes line : List ℕ) → AreBytes line → length bytes + length line ≤ 1048576
    → ToGap bytes_form (at s Gap) s bytes (gapped line) (bytes ++ line)
groups_read s bytes line are fits =
    let low = take 8 line in
    let high = drop 8 line in
    let all : low ++ high ≡ line = take-append-drop 8 line in
    let long = ap (λ (l : List ℕ). length l) all in
    let longer = length-append low high in
    let front = length-append bytes low in
    let whole = length-append (bytes ++ low) high in
    let text = spaced_pairs low ++ (32 ∷ spaced_pairs high) in
    let one = spaced_read Hex s low bytes None refl (bytes_take 8 line are) (omega arith) in
    let found = bytes ++ low in
    let space = goes_step bytes_form (at s (gap one.o)) (at s (gap (spaced one.o))) found 32 (omega arith) (gap_space bytes_form s found one.o) in
    let two = spaced_read Hex s high found (spaced one.o) refl (bytes_drop 8 line are) (omega arith) in
    let groups = then_gap one.goes (then_gap space two) in
    let rest = spaces_read bytes_form s (found ++ high) (49 - length text) groups.o (omega arith) in
    subst (λ (l : List ℕ). ToGap bytes_form (at s Gap) s bytes (gapped line) l) (append_assoc bytes low high ∙ ap (λ (l : List ℕ). bytes ++ l) all)
    (then_gap groups.goes rest)

line_read : ReadsLines bytes_form canonical_line (IsPart 16 1) (2 ^ 32)
line_read s bytes a f part start on first is_part fits below =
    let u = in_line s (length bytes) a Gap in
    let found = bytes ++ part in
    let long = length-append bytes part in
    let same : drop (length bytes) found ≡ part = drop_at bytes part (length bytes) refl in
    let address = address_read s bytes a (omega arith) below in
    let blank = goes_step bytes_form (at s (Address false 6 a)) (at u Gap) bytes 32 (omega arith) (address_space bytes_form 16 refl (omega arith) refl s bytes 6 a refl on) in
    let blanks = goes_then blank (goes_step bytes_form (at u Gap) (at u Gap) bytes 32 (omega arith) refl) in
    let groups = groups_read u bytes part is_part.bytes (omega arith) in
    let space = goes_step bytes_form (at u (gap groups.o)) (at u (gap (spaced groups.o))) found 32 (omega arith) (gap_space bytes_form u found groups.o) in
    let bar = goes_step bytes_form (at u (gap (spaced groups.o))) (at u (Text 0)) found 124 (omega arith) (gap_bar u found (spaced groups.o)) in
    let text = characters_read bytes_form u found part part [] same refl is_part.bytes (omega arith) in
    let end = text_ends bytes_form u found part same refl (omega arith) in
    record {
      next = record u { place = Start; is_sure = true };
      goes = subst (λ (v : Scan). Goes bytes_form v bytes (canonical_line a part) (record u { place = Start; is_sure = true }) found) (at_same s Start start)
          (goes_then (goes_then address blanks) (goes_then groups.goes (goes_then (goes_then space bar) (goes_then text end))));
      start = refl;
      first = ap (λ (n : ℕ). Some n) first;
    }

pub canonical_is_read_back : (bytes : List ℕ) → IsDumped bytes → IsOrUnsure bytes (pasted Dump (hexdump_canonical bytes))
canonical_is_read_back bytes dumped =
    let are : ArePartsOf 16 1 bytes (parts 16 bytes) =
    parts_are 16 1 [] bytes (omega arith) refl (omega arith) (λ k. omega arith) dumped.each in
    let some = dumped.some in
    let most = dumped.most in
    let n = length bytes in
    let all = dump_read bytes_form canonical_line (IsPart 16 1) (2 ^ 32) (λ part is. is.some) line_read 0 (begun bytes_form) (parts 16 bytes) bytes refl refl are.all are.is some most (omega arith) in
    let s = all.next in
    let last = address_read s bytes n most (omega arith) in
    let none = drop_all n bytes (omega arith) in
    let end = end_read bytes_form 16 refl (omega arith) refl s bytes bytes 6 n refl refl all.first (omega arith) (omega arith) (rw none refl)
    (take_all n bytes (omega arith)) most in
    let whole = goes_then all.goes (subst (λ (v : Scan). Goes bytes_form v bytes (places 16 8 n ++ 10 ∷ []) (record s { place = Start; is_sure = true }) bytes)
    (at_same s Start all.start) (goes_then last end)) in
    read_back 4 bytes_form (hexdump_canonical bytes) bytes true (omega arith)
    (read_whole bytes_form (hexdump_canonical bytes) bytes (record s { place = Start; is_sure = true }) whole refl some most)

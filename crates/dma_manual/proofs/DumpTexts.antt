-- What a dump's line has after its address: gaps, groups, and its bytes as characters.
use Rattle.std.proofs.Common.{◌≡◌, ◌∙◌, ap, sym, subst, refl, ℕ, zero, suc, ◌+◌, ◌%◌, ◌<◌, ◌≤◌, Bool, true, false, eqb, append_assoc, append-nil}
use Rattle.std.proofs.Common.{List, [], ◌∷◌, ◌++◌, drop, length, length-append, replicate, slice_get, Option, Some, None, Ok, arith}
use Rattle.std.proofs.lemmas.Bool.{eq-eqb, lt-ltb, le-ltb}
use Rattle.std.proofs.lemmas.List.{drop_all}
use Rattle.std.proofs.Math.Nat.{mod-eq_of_lt}
use Rattle.std.proofs.lemmas.Option.{slice_get_past}
use Rattle.dma_manual.specs.Forms.{form, has_spaced_text, is_octal}
use Rattle.dma_manual.specs.{Dump.next_of, Dump.shown_as, declared.dump.Place.Place, declared.dump.Scan.Scan, declared.forms.Column.Column, declared.forms.Form.Form}
use Rattle.dma_manual.specs.declared.dump.Effect.TheVariants.{Nothing}
use Rattle.dma_manual.specs.declared.dump.Place.TheVariants.{Start, Group, Gap, Behind, Text}
use Rattle.dma_manual.specs.declared.forms.Group.TheVariants.{Byte}
use Rattle.dma_manual.specs.Printed.{characters, spaced_pairs}
use Rattle.dma_manual.proofs.Numerals.{each_at}
use Rattle.dma_manual.proofs.Runs.{Goes, at, goes_none, goes_step, goes_then}
use Rattle.dma_manual.proofs.DumpDigits.{FirstOfGroup, group_places, group_radix}
use Rattle.dma_manual.proofs.DumpLines.{AreBytes}

-- before a group, in a form where no text begins after spaces
abbrev pub gap : Option Bool → Place
gap None = Gap
gap (Some wide) = Behind wide

-- after blanks behind an address, in any form
pub blank_digit : (form : Form) (s : Scan) (bytes : List ℕ) (octal : Bool) → is_octal form.group ≡ octal → FirstOfGroup form (at s Gap) s bytes false octal
blank_digit form s bytes octal radix b d digit small =
    rw (digit.no_return, digit.no_space, digit.no_tab, digit.no_feed, radix, digit.value, lt-ltb d (group_radix octal) small) refl

pub gap_digit : (form : Form) (s : Scan) (bytes : List ℕ) (o : Option Bool) (octal : Bool) → has_spaced_text form.column ≡ false → is_octal form.group ≡ octal
    → FirstOfGroup form (at s (gap o)) s bytes false octal
gap_digit form s bytes None octal plain radix b d digit small = blank_digit form s bytes octal radix b d digit small
gap_digit form s bytes (Some false) octal plain radix b d digit small =
    rw (digit.no_return, digit.no_space, digit.no_tab, digit.no_feed, radix, digit.value, lt-ltb d (group_radix octal) small) refl
gap_digit form s bytes (Some true) octal plain radix b d digit small =
    rw (digit.no_return, digit.no_space, digit.no_tab, plain, digit.no_feed, radix, digit.value, lt-ltb d (group_radix octal) small) refl

-- after a group and a space, in any form
pub behind_digit : (form : Form) (s : Scan) (bytes : List ℕ) (octal : Bool) → is_octal form.group ≡ octal
    → FirstOfGroup form (at s (Behind false)) s bytes false octal
behind_digit form s bytes octal radix b d digit small =
    rw (digit.no_return, digit.no_space, digit.no_tab, digit.no_feed, radix, digit.value, lt-ltb d (group_radix octal) small) refl

abbrev pub spaced : Option Bool → Option Bool
spaced None = None
spaced (Some wide) = Some true

pub gap_space : (form : Form) (s : Scan) (bytes : List ℕ) (o : Option Bool) → next_of form (at s (gap o)) bytes 32 ≡ Ok (at s (gap (spaced o)), Nothing)
gap_space form s bytes None = refl
gap_space form s bytes (Some wide) = refl

-- A text ends before a group.
pub record ToGap (form : Form) (from s : Scan) (bytes text found : List ℕ) : Type 0 where
  pub o : Option Bool
  pub goes : Goes form from bytes text (at s (gap o)) found

pub then_gap : {form : Form} {from s t : Scan} {bytes found more xs ys : List ℕ} → Goes form from bytes xs t found → ToGap form t s found ys more
    → ToGap form from s bytes (xs ++ ys) more
then_gap one two = record { o = two.o; goes = goes_then one two.goes }

pub spaces_read : (form : Form) (s : Scan) (bytes : List ℕ) (n : ℕ) (o : Option Bool) → length bytes ≤ 1048576
    → ToGap form (at s (gap o)) s bytes (replicate n 32) bytes
spaces_read form s bytes zero o fits = record { o = o; goes = goes_none form (at s (gap o)) bytes }
spaces_read form s bytes (suc n) o fits =
    then_gap (goes_step form (at s (gap o)) (at s (gap (spaced o))) bytes 32 fits (gap_space form s bytes o)) (spaces_read form s bytes n (spaced o) fits)

-- pairs of digits, each with a space after it
pub pair_made : (bytes : List ℕ) (x : ℕ) → x < 256 → bytes ++ (x % 256 ∷ []) ≡ bytes ++ x ∷ []
pair_made bytes x small = ap (λ (b : ℕ). bytes ++ b ∷ []) (mod-eq_of_lt small)

pub spaced_read : (column : Column) (s : Scan) (xs bytes : List ℕ) (o : Option Bool) → has_spaced_text column ≡ false → AreBytes xs
    → length bytes + length xs ≤ 1048576 → ToGap (form column Byte) (at s (gap o)) s bytes (spaced_pairs xs) (bytes ++ xs)
spaced_read column s [] bytes o plain are fits =
    record {
      o = o;
      goes = subst (λ (l : List ℕ). Goes (form column Byte) (at s (gap o)) bytes [] (at s (gap o)) l) (sym (append-nil bytes))
          (goes_none (form column Byte) (at s (gap o)) bytes);
    }
spaced_read column s (x ∷ xs) bytes o plain are fits =
    let small : x < 256 = are 0 in
    let found = bytes ++ x ∷ [] in
    let long : length found ≡ length bytes + 1 = length-append bytes (x ∷ []) in
    let pair = group_places (form column Byte) (at s (gap o)) s bytes false false (gap_digit (form column Byte) s bytes o false plain refl) refl 16 2 refl
    (omega arith) (omega arith) refl (omega arith) 0 x found refl (omega arith, omega arith) (pair_made bytes x small) (omega arith) in
    let space = goes_step (form column Byte) (at s (Group false 2 x)) (at s (Behind false)) found 32 (omega arith) refl in
    let rest = spaced_read column s xs found (Some false) plain (λ k. are (suc k)) (omega arith) in
    subst (λ (l : List ℕ). ToGap (form column Byte) (at s (gap o)) s bytes (spaced_pairs (x ∷ xs)) l) (append_assoc bytes (x ∷ []) xs)
    (then_gap (goes_then pair space) rest)

-- bytes as characters
pub shown_inline : (c : ℕ) → c < 256 → (eqb (shown_as c) 13 ≡ false) × (eqb (shown_as c) 10 ≡ false)
shown_inline c small = (
  each_at (λ n. eqb (shown_as n) 13) (λ n. false) 256 c refl small,
  each_at (λ n. eqb (shown_as n) 10) (λ n. false) 256 c refl small,
)

character_read : (form : Form) (s : Scan) (bytes line : List ℕ) (k c b : ℕ) → eqb b 13 ≡ false → eqb b 10 ≡ false → b ≡ shown_as c
    → drop s.before bytes ≡ line → slice_get line k ≡ Some c → k < length line
    → next_of form (at s (Text k)) bytes b ≡ Ok (at s (Text (k + 1)), Nothing)
character_read form s bytes line k c b no_return no_feed shown is here within =
    rw (no_return, no_feed, is, here, eq-eqb b (shown_as c) shown, lt-ltb k (length line) within) refl

pub at_front : (xs ys : List ℕ) (y : ℕ) → slice_get (xs ++ y ∷ ys) (length xs) ≡ Some y
at_front [] ys y = refl
at_front (x ∷ xs) ys y = at_front xs ys y

pub characters_read : (form : Form) (s : Scan) (bytes line rest front : List ℕ) → drop s.before bytes ≡ line → front ++ rest ≡ line → AreBytes rest
    → length bytes ≤ 1048576 → Goes form (at s (Text (length front))) bytes (characters rest) (at s (Text (length line))) bytes
characters_read form s bytes line [] front is all are fits =
    subst (λ (l : List ℕ). Goes form (at s (Text (length front))) bytes [] (at s (Text (length l))) bytes) (sym (append-nil front) ∙ all)
    (goes_none form (at s (Text (length front))) bytes)
characters_read form s bytes line (c ∷ rest) front is all are fits =
    let inline = shown_inline c (are 0) in
    let k = length front in
    let long : length (front ++ c ∷ rest) ≡ k + suc (length rest) = length-append front (c ∷ rest) in
    let same = ap (λ (l : List ℕ). length l) all in
    let here = subst (λ (l : List ℕ). slice_get l k ≡ Some c) all (at_front front rest c) in
    let one = character_read form s bytes line k c (shown_as c) inline.0 inline.1 refl is here (omega arith) in
    let next = characters_read form s bytes line rest (front ++ c ∷ []) is (append_assoc front (c ∷ []) rest ∙ all) (λ j. are (suc j)) fits in
    goes_then (goes_step form (at s (Text k)) (at s (Text (k + 1))) bytes (shown_as c) fits one)
    (subst (λ (n : ℕ). Goes form (at s (Text n)) bytes (characters rest) (at s (Text (length line))) bytes) (length-append front (c ∷ [])) next)

-- the bar after the characters, and the line's end
pub text_ends : (form : Form) (s : Scan) (bytes line : List ℕ) → drop s.before bytes ≡ line → has_spaced_text form.column ≡ false → length bytes ≤ 1048576
    → Goes form (at s (Text (length line))) bytes (124 ∷ 10 ∷ []) (record s { place = Start; is_sure = true }) bytes
text_ends form s bytes line is plain fits =
    let n = length line in
    let past = slice_get_past line n (omega arith) in
    let none = drop_all n line (omega arith) in
    let bar : next_of form (at s (Text n)) bytes 124 ≡ Ok (at s (Text n), Nothing) = rw (is, past, plain, le-ltb n n (omega arith)) refl in
    let feed : next_of form (at s (Text n)) bytes 10 ≡ Ok (record s { place = Start; is_sure = true }, Nothing) = rw (is, none) refl in
    goes_then (goes_step form (at s (Text n)) (at s (Text n)) bytes 124 fits bar)
    (goes_step form (at s (Text n)) (record s { place = Start; is_sure = true }) bytes 10 fits feed)

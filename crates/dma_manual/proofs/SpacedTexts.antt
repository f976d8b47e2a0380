-- A line's bytes as characters, which follow two spaces or more, and pairs of digits without spaces.
use Rattle.std.proofs.Common.{◌≡◌, ◌∙◌, ap, sym, subst, refl, ℕ, zero, suc, ◌+◌, ◌<◌, ◌≤◌, Bool, true, false, eqb, append_assoc, append-nil, one-add, ◌⊎◌, inl, inr}
use Rattle.std.proofs.Common.{List, [], ◌∷◌, ◌++◌, drop, length, length-append, replicate, slice_get, Some, Ok, arith}
use Rattle.std.proofs.lemmas.Bool.{and_from, and_parts, cases_Bool, eq-eqb, eqb-true, le-ltb, lt-ltb}
use Rattle.std.proofs.lemmas.Option.{slice_get_past}
use Rattle.std.proofs.lemmas.List.{drop_all}
use Rattle.dma_text.specs.Lines.{is_all_spaces}
use Rattle.dma_manual.specs.Forms.{form, has_spaced_text}
use Rattle.dma_manual.specs.{Dump.has_headings, Dump.leading_spaces, Dump.next_of, Dump.shown_as, declared.dump.Scan.Scan, declared.forms.Form.Form}
use Rattle.dma_manual.specs.{declared.forms.Column.Column}
use Rattle.dma_manual.specs.declared.dump.Effect.TheVariants.{Nothing}
use Rattle.dma_manual.specs.declared.dump.Place.TheVariants.{Start, Behind, Group, Text}
use Rattle.dma_manual.specs.declared.forms.Group.TheVariants.{Byte}
use Rattle.dma_manual.specs.Printed.{characters, paired_groups, pairs, places}
use Rattle.dma_manual.proofs.Numerals.{each_at}
use Rattle.dma_manual.proofs.Runs.{Goes, at, goes_none, goes_step, goes_then}
use Rattle.dma_manual.proofs.DumpDigits.{FirstOfGroup, group_places}
use Rattle.dma_manual.proofs.DumpLines.{AllParts, AreBytes, IsPart, joined}
use Rattle.dma_manual.proofs.DumpTexts.{at_front, behind_digit, characters_read, pair_made, shown_inline}
use Rattle.dma_manual.proofs.DumpGroups.{ToGroup, hex_places}

-- the spaces that a line's bytes begin with
spaces_before : (front rest : List ℕ) (c : ℕ) → is_all_spaces front ≡ true → eqb c 32 ≡ false → leading_spaces (front ++ c ∷ rest) ≡ length front
spaces_before [] rest c all other = rw other refl
spaces_before (x ∷ front) rest c all other =
    let parts = and_parts (eqb x 32) (is_all_spaces front) all in
    rw (parts.0, spaces_before front rest c parts.1 other, one-add) refl

spaces_more : (front : List ℕ) → is_all_spaces front ≡ true → is_all_spaces (front ++ 32 ∷ []) ≡ true
spaces_more [] all = refl
spaces_more (x ∷ front) all =
    let parts = and_parts (eqb x 32) (is_all_spaces front) all in
    and_from (eqb x 32) (is_all_spaces (front ++ 32 ∷ [])) parts.0 (spaces_more front parts.1)

first_character : (form : Form) (s : Scan) (bytes line : List ℕ) (k c b : ℕ) → eqb b 13 ≡ false → eqb b 10 ≡ false → eqb b 32 ≡ false → eqb b 9 ≡ false
    → b ≡ shown_as c → has_spaced_text form.column ≡ true → drop s.before bytes ≡ line → leading_spaces line ≡ k → slice_get line k ≡ Some c → k < length line
    → next_of form (at s (Behind true)) bytes b ≡ Ok (at s (Text (k + 1)), Nothing)
first_character form s bytes line k c b no_return no_feed no_space no_tab shown spaced is leading here within =
    rw (no_return, no_space, no_tab, spaced, no_feed, is, leading, here, eq-eqb b (shown_as c) shown, lt-ltb k (length line) within) refl

-- A line has been read to its end.
pub record ToEnd (form : Form) (from s : Scan) (bytes text : List ℕ) : Type 0 where
  pub next : Scan
  pub goes : Goes form from bytes text next bytes
  pub start : next.place ≡ Start
  pub first : next.first ≡ s.first

pub then_end : {form : Form} {from s t : Scan} {bytes xs ys : List ℕ} → Goes form from bytes xs t bytes → ToEnd form t s bytes ys
    → ToEnd form from s bytes (xs ++ ys)
then_end one two = record { next = two.next; goes = goes_then one two.goes; start = two.start; first = two.first }

-- spaces behind the characters, and the line's end
pub text_spaces : (form : Form) (s : Scan) (bytes line : List ℕ) (n : ℕ) → drop s.before bytes ≡ line → length bytes ≤ 1048576
    → Goes form (at s (Text (length line))) bytes (replicate n 32 ++ 10 ∷ []) (record s { place = Start; is_sure = true }) bytes
text_spaces form s bytes line zero is fits =
    let none = drop_all (length line) line (omega arith) in
    goes_step form (at s (Text (length line))) (record s { place = Start; is_sure = true }) bytes 10 fits (rw (is, none) refl)
text_spaces form s bytes line (suc n) is fits =
    let k = length line in
    let past = slice_get_past line k (omega arith) in
    let space : next_of form (at s (Text k)) bytes 32 ≡ Ok (at s (Text k), Nothing) = rw (is, past, le-ltb k k (omega arith)) refl in
    goes_then (goes_step form (at s (Text k)) (at s (Text k)) bytes 32 fits space) (text_spaces form s bytes line n is fits)

wide_spaces : (form : Form) (s : Scan) (bytes : List ℕ) (n : ℕ) → length bytes ≤ 1048576
    → Goes form (at s (Behind true)) bytes (replicate n 32) (at s (Behind true)) bytes
wide_spaces form s bytes zero fits = goes_none form (at s (Behind true)) bytes
wide_spaces form s bytes (suc n) fits =
    goes_then (goes_step form (at s (Behind true)) (at s (Behind true)) bytes 32 fits refl) (wide_spaces form s bytes n fits)

-- A line may be all spaces, unless only headings show where addresses begin.
abbrev pub MayBeSpaces : Form → List ℕ → Type 0
MayBeSpaces form line = (has_headings form.column ≡ false) ⊎ (is_all_spaces line ≡ false)

module _ (form : Form) (spaced : has_spaced_text form.column ≡ true) (s : Scan) (bytes line : List ℕ) (may : MayBeSpaces form line) (n : ℕ)
    (is : drop s.before bytes ≡ line) (fits : length bytes ≤ 1048576) where
  only_spaces : has_headings form.column ≡ false → next_of form (at s (Behind true)) bytes 10 ≡ Ok (at s Start, Nothing)
  only_spaces headless = rw (spaced, headless) refl

  no_characters : is_all_spaces line ≡ true → ToEnd form (at s (Behind true)) s bytes (replicate n 32 ++ 10 ∷ [])
  no_characters all =
      elim may [
        | inl headless ↦ record {
          next = at s Start;
          goes = goes_then (wide_spaces form s bytes n fits) (goes_step form (at s (Behind true)) (at s Start) bytes 10 fits (only_spaces headless));
          start = refl;
          first = refl;
        }
        | inr some ↦ absurd (cc)
      ]

  pub characters_end : (rest front : List ℕ) → is_all_spaces front ≡ true → front ++ rest ≡ line → AreBytes rest
      → ToEnd form (at s (Behind true)) s bytes (characters rest ++ (replicate n 32 ++ 10 ∷ []))
  characters_end [] front all whole are =
      no_characters (ap (λ (l : List ℕ). is_all_spaces l) (sym whole ∙ append-nil front) ∙ all)
  characters_end (c ∷ rest) front all whole are =
      let small : c < 256 = are 0 in
      let k = length front in
      let joins : (front ++ c ∷ []) ++ rest ≡ line = append_assoc front (c ∷ []) rest ∙ whole in
      elim (cases_Bool (eqb c 32)) [
        | inl space ↦
            let same : c ≡ 32 = eqb-true c 32 space in
            let all_more : is_all_spaces (front ++ c ∷ []) ≡ true =
            subst (λ (x : ℕ). is_all_spaces (front ++ x ∷ []) ≡ true) (sym same) (spaces_more front all) in
            let one : next_of form (at s (Behind true)) bytes (shown_as c) ≡ Ok (at s (Behind true), Nothing) =
            subst (λ (x : ℕ). next_of form (at s (Behind true)) bytes (shown_as x) ≡ Ok (at s (Behind true), Nothing)) (sym same) refl in
            then_end (goes_step form (at s (Behind true)) (at s (Behind true)) bytes (shown_as c) fits one)
            (characters_end rest (front ++ c ∷ []) all_more joins (λ j. are (suc j)))
        | inr other ↦
            let inline = shown_inline c small in
            let no_space : eqb (shown_as c) 32 ≡ false = each_at (λ m. eqb (shown_as m) 32) (λ m. eqb m 32) 256 c refl small ∙ other in
            let no_tab : eqb (shown_as c) 9 ≡ false = each_at (λ m. eqb (shown_as m) 9) (λ m. false) 256 c refl small in
            let long : length (front ++ c ∷ rest) ≡ k + suc (length rest) = length-append front (c ∷ rest) in
            let length_is = ap (λ (l : List ℕ). length l) whole in
            let here = subst (λ (l : List ℕ). slice_get l k ≡ Some c) whole (at_front front rest c) in
            let leading = subst (λ (l : List ℕ). leading_spaces l ≡ k) whole (spaces_before front rest c all other) in
            let one = first_character form s bytes line k c (shown_as c) inline.0 inline.1 no_space no_tab refl spaced is leading here (omega arith) in
            let next = characters_read form s bytes line rest (front ++ c ∷ []) is joins (λ j. are (suc j)) fits in
            let goes = subst (λ (m : ℕ). Goes form (at s (Text m)) bytes (characters rest) (at s (Text (length line))) bytes)
            (length-append front (c ∷ [])) next in
            record {
              next = record s { place = Start; is_sure = true };
              goes = goes_then (goes_step form (at s (Behind true)) (at s (Text (k + 1))) bytes (shown_as c) fits one)
                  (goes_then goes (text_spaces form s bytes line n is fits));
              start = refl;
              first = refl;
            }
      ]

-- Spaces behind a group, of which there may be two or more.
pub record ToBehind (form : Form) (from s : Scan) (bytes text : List ℕ) : Type 0 where
  pub wide : Bool
  pub goes : Goes form from bytes text (at s (Behind wide)) bytes

pub behind_spaces : (form : Form) (s : Scan) (bytes : List ℕ) (n : ℕ) (wide : Bool) → length bytes ≤ 1048576
    → ToBehind form (at s (Behind wide)) s bytes (replicate n 32)
behind_spaces form s bytes zero wide fits = record { wide = wide; goes = goes_none form (at s (Behind wide)) bytes }
behind_spaces form s bytes (suc n) wide fits =
    let rest = behind_spaces form s bytes n true fits in
    record { wide = rest.wide; goes = goes_then (goes_step form (at s (Behind wide)) (at s (Behind true)) bytes 32 fits refl) rest.goes }

-- pairs of digits without spaces between them
module _ (column : Column) (spaced : has_spaced_text column ≡ true) (s : Scan) where
  abbrev here : Form
  here = form column Byte

  pair_read : (from : Scan) (bytes : List ℕ) (x : ℕ) → FirstOfGroup here from s bytes false false → x < 256 → length bytes < 1048576
      → Goes here from bytes (places 16 2 x) (at s (Group false 2 x)) (bytes ++ x ∷ [])
  pair_read from bytes x first small fits =
      let long = length-append bytes (x ∷ []) in
      group_places here from s bytes false false first refl 16 2 refl (omega arith) (omega arith) refl (omega arith) 0 x (bytes ++ x ∷ []) refl
      (hex_places 1 x (omega arith) (omega arith)) (pair_made bytes x small) (omega arith)

  next_digit : (bytes : List ℕ) (v : ℕ) → FirstOfGroup here (at s (Group false 2 v)) s bytes false false
  next_digit bytes v b d digit small =
      rw (digit.no_return, digit.no_space, digit.no_tab, spaced, digit.no_feed, digit.value, lt-ltb d 16 small) refl

  pairs_read : (xs : List ℕ) (x : ℕ) (from : Scan) (bytes : List ℕ) → FirstOfGroup here from s bytes false false → AreBytes (x ∷ xs)
      → length bytes + length (x ∷ xs) ≤ 1048576 → ToGroup here from s bytes (pairs (x ∷ xs)) 2 (bytes ++ x ∷ xs)
  pairs_read [] x from bytes first are fits =
      let one = pair_read from bytes x first (are 0) (omega arith) in
      record { v = x; goes = goes_then one (goes_none here (at s (Group false 2 x)) (bytes ++ x ∷ [])) }
  pairs_read (y ∷ xs) x from bytes first are fits =
      let found = bytes ++ x ∷ [] in
      let long = length-append bytes (x ∷ []) in
      let one = pair_read from bytes x first (are 0) (omega arith) in
      let two = pairs_read xs y (at s (Group false 2 x)) found (next_digit found x) (λ k. are (suc k)) (omega arith) in
      record {
        v = two.v;
        goes = subst (λ (l : List ℕ). Goes here from bytes (pairs (x ∷ y ∷ xs)) (at s (Group false 2 two.v)) l) (append_assoc bytes (x ∷ []) (y ∷ xs))
            (goes_then one two.goes);
      }

  pair_space : (bytes : List ℕ) (v : ℕ) → next_of here (at s (Group false 2 v)) bytes 32 ≡ Ok (at s (Behind false), Nothing)
  pair_space bytes v = refl

  part_read : (n : ℕ) (part : List ℕ) (from : Scan) (bytes : List ℕ) → FirstOfGroup here from s bytes false false → IsPart n 1 part
      → length bytes + length part ≤ 1048576 → Goes here from bytes (pairs part ++ 32 ∷ []) (at s (Behind false)) (bytes ++ part)
  part_read n [] from bytes first is fits = let some = is.some in absurd (omega arith)
  part_read n (x ∷ xs) from bytes first is fits =
      let long = length-append bytes (x ∷ xs) in
      let one = pairs_read xs x from bytes first is.bytes fits in
      goes_then one.goes (goes_step here (at s (Group false 2 one.v)) (at s (Behind false)) (bytes ++ x ∷ xs) 32 (omega arith)
      (pair_space (bytes ++ x ∷ xs) one.v))

  pub paired_read : (n : ℕ) (rest : List (List ℕ)) (part : List ℕ) (from : Scan) (bytes : List ℕ) → FirstOfGroup here from s bytes false false
      → IsPart n 1 part → AllParts (IsPart n 1) rest → length bytes + length (part ++ joined rest) ≤ 1048576
      → Goes here from bytes (paired_groups (part ∷ rest)) (at s (Behind false)) (bytes ++ (part ++ joined rest))
  paired_read n [] part from bytes first is others fits =
      let all : part ++ [] ≡ part = append-nil part in
      let long = ap (λ (l : List ℕ). length l) all in
      subst (λ (l : List ℕ). Goes here from bytes (paired_groups (part ∷ [])) (at s (Behind false)) (bytes ++ l)) (sym all)
      (goes_then (part_read n part from bytes first is (omega arith)) (goes_none here (at s (Behind false)) (bytes ++ part)))
  paired_read n (more ∷ rest) part from bytes first is others fits =
      let long = length-append part (joined (more ∷ rest)) in
      let longer = length-append bytes part in
      let found = bytes ++ part in
      let one = part_read n part from bytes first is (omega arith) in
      let two = paired_read n rest more (at s (Behind false)) found (behind_digit here s found false refl) others.0 others.1 (omega arith) in
      subst (λ (l : List ℕ). Goes here from bytes (paired_groups (part ∷ more ∷ rest)) (at s (Behind false)) l) (append_assoc bytes part (joined (more ∷ rest)))
      (goes_then one two)

-- The labels of a listing, which the assembler finds again.
use Rattle.std.proofs.Common.{◌≡◌, ℕ, ◌<◌, ◌≤◌, Bool, true, false, ◌&&◌, ◌||◌, ◌==◌, List, [], ◌∷◌, ◌++◌, length, map, drop, refl, sym, ap, ◌∙◌, Some, None, Ok}
use Rattle.std.proofs.Common.{eqb, nat_le, nat_lt, arith, codes, inl, inr}
use Rattle.std.specs.{List.list_all, List.list_any, Str.bytes_eq}
use Rattle.std.proofs.lemmas.Bool.{and_parts, and_from, or_cases, leb-true, le-leb, ltb-true, eqb-true, false≢true}
use Rattle.std.proofs.lemmas.Slice.Eq.{bytes_eq-Decides}
use Rattle.dma_manual.specs.Assembled.{Read, label_by, label_in, take_line, with_statement}
use Rattle.dma_manual.specs.{Words.code_of, Words.is_word_byte, Operands.digits_in, Statements.Label, Statements.label_of, Listing.label_name}
use Rattle.dma_manual.proofs.{Cuts.all_append, Cuts.code_all, Cuts.is_inline, Cuts.next_word, Numerals.four_words, Numerals.pairs_read, Numerals.plain}

abbrev pub label_word : ℕ → List ℕ
label_word o = plain (label_name o)

abbrev pub named_at : ℕ → Label
named_at o = (label_word o, o)

-- whether the labels are at offsets of at most o, of four digits
abbrev pub are_labels : ℕ → List ℕ → Bool
are_labels o ls = list_all (λ l. nat_le l o && nat_lt l 65536) ls

pub labels_later : (o p : ℕ) (ls : List ℕ) → o ≤ p → are_labels o ls ≡ true → are_labels p ls ≡ true
labels_later o p [] later h = refl
labels_later o p (l ∷ ls) later h =
    let parts = and_parts (nat_le l o && nat_lt l 65536) (are_labels o ls) h in
    let one = and_parts (nat_le l o) (nat_lt l 65536) parts.0 in
    let before : l ≤ o = leb-true l o one.0 in
    and_from _ _ (and_from (nat_le l p) (nat_lt l 65536) (le-leb l p (omega arith)) one.1) (labels_later o p ls later parts.1)

label_back : (o : ℕ) → o < 65536 → digits_in 16 (drop 5 (label_word o)) ≡ Some o
label_back o small = pairs_read o small

same_label : (a b : ℕ) → a < 65536 → b < 65536 → label_word a ≡ label_word b → a ≡ b
same_label a b p q e =
    let same : Some a ≡ Some b = sym (label_back a p) ∙ ap (λ (w : List ℕ). digits_in 16 (drop 5 w)) e ∙ label_back b q in cc

-- one of the labels
found_by : (l o : ℕ) (ls : List ℕ) (t : Bool) → bytes_eq (label_word l) (label_word o) ≡ t → l < 65536 → o < 65536
    → (eqb l o || list_any (λ m. m == o) ls) ≡ true
    → (list_any (λ m. m == o) ls ≡ true → label_of (map named_at ls) (label_word o) ≡ Some o) → label_of (map named_at (l ∷ ls)) (label_word o) ≡ Some o
found_by l o ls true is p q any more =
    let same : l ≡ o = same_label l o p q ((bytes_eq-Decides (label_word l) (label_word o)).0 is) in
    rw is (ap Some same)
found_by l o ls false is p q any more =
    rw is (elim (or_cases (eqb l o) (list_any (λ m. m == o) ls) any) [
      | inl here ↦ let same : l ≡ o = eqb-true l o here in
          absurd (false≢true (sym is ∙ (bytes_eq-Decides (label_word l) (label_word o)).1 (ap label_word same)))
      | inr later ↦ more later
    ])

pub label_found : (o p : ℕ) (ls : List ℕ) → o < 65536 → are_labels p ls ≡ true → list_any (λ m. m == o) ls ≡ true
    → label_of (map named_at ls) (label_word o) ≡ Some o
label_found o p [] small h any = absurd (false≢true any)
label_found o p (l ∷ ls) small h any =
    let parts = and_parts (nat_le l p && nat_lt l 65536) (are_labels p ls) h in
    let one = and_parts (nat_le l p) (nat_lt l 65536) parts.0 in
    found_by l o ls (bytes_eq (label_word l) (label_word o)) refl (ltb-true l 65536 one.1) small any (λ later. label_found o p ls small parts.1 later)

-- none of the labels
none_by : (l o : ℕ) (ls : List ℕ) (t : Bool) → bytes_eq (label_word l) (label_word o) ≡ t → l < o → o < 65536
    → label_of (map named_at ls) (label_word o) ≡ None → label_of (map named_at (l ∷ ls)) (label_word o) ≡ None
none_by l o ls true is before small none =
    let same : l ≡ o = same_label l o (omega arith) small ((bytes_eq-Decides (label_word l) (label_word o)).0 is) in
    absurd (omega arith)
none_by l o ls false is before small none = rw is none

label_none : (o p : ℕ) (ls : List ℕ) → p < o → o < 65536 → are_labels p ls ≡ true → label_of (map named_at ls) (label_word o) ≡ None
label_none o p [] later small h = refl
label_none o p (l ∷ ls) later small h =
    let parts = and_parts (nat_le l p && nat_lt l 65536) (are_labels p ls) h in
    let before : l ≤ p = leb-true l p (and_parts (nat_le l p) (nat_lt l 65536) parts.0).0 in
    none_by l o ls (bytes_eq (label_word l) (label_word o)) refl (omega arith) small (label_none o p ls later small parts.1)

-- the label of a line
label_shape : (a b c d : ℕ) → list_all is_word_byte (a ∷ b ∷ c ∷ d ∷ []) ≡ true
    → label_in (108 ∷ 111 ∷ 111 ∷ 112 ∷ 95 ∷ a ∷ b ∷ c ∷ d ∷ 58 ∷ []) ≡ Some (108 ∷ 111 ∷ 111 ∷ 112 ∷ 95 ∷ a ∷ b ∷ c ∷ d ∷ [], [])
label_shape a b c d h = ap label_by (next_word (108 ∷ 111 ∷ 111 ∷ 112 ∷ 95 ∷ a ∷ b ∷ c ∷ d ∷ 58 ∷ []) [] refl h refl)

pub label_words : (o : ℕ) → list_all is_word_byte (label_word o) ≡ true
label_words o = (four_words o).0

pub label_inline : (o : ℕ) → list_all is_inline (label_name o) ≡ true
label_inline o = (four_words o).1

label_line : (o : ℕ) → label_in (plain (code_of (label_name o ++ codes ":"))) ≡ Some (label_word o, [])
label_line o =
    let inline = all_append is_inline (label_name o) (codes ":") (label_inline o) refl in
    ap (λ (l : List ℕ). label_in (plain l)) (code_all (label_name o ++ codes ":") inline) ∙ label_shape _ _ _ _ (four_words o).0

-- The line of a label adds it.
taken_label : (r : Read) (n : ℕ) (line name : List ℕ) → label_in line ≡ Some (name, []) → label_of r.labels name ≡ None
    → take_line r n line ≡ Ok (record r { labels = r.labels ++ (name, length r.code) ∷ [] })
unfolding with_statement
taken_label r n line name is none = rw (is, none) refl

pub label_taken : (r : Read) (n o p : ℕ) (ls : List ℕ) → r.labels ≡ map named_at ls → length r.code ≡ o → are_labels p ls ≡ true → p < o → o < 65536
    → take_line r n (plain (code_of (label_name o ++ codes ":"))) ≡ Ok (record r { labels = r.labels ++ named_at o ∷ [] })
label_taken r n o p ls labels here are later small =
    let none : label_of r.labels (label_word o) ≡ None = ap (λ (l : List Label). label_of l (label_word o)) labels ∙ label_none o p ls later small are in
    taken_label r n (plain (code_of (label_name o ++ codes ":"))) (label_word o) (label_line o) none
    ∙ ap (λ (m : ℕ). Ok (record r { labels = r.labels ++ (label_word o, m) ∷ [] })) here

-- A burst fails at a memory's gaps as it does at marks.
use Rattle.std.proofs.Common.{◌≡◌, ℕ, List, [], ◌∷◌, ◌++◌, Bool, true, false, ◌||◌, refl, ap, sym, ◌∙◌}
use Rattle.std.specs.List.{list_any, range_with_len}
use Rattle.std.proofs.lemmas.Bool.{false_from_ne_true, false≢true, or_parts, or_from}
use Rattle.std.proofs.{lemmas.List.Folds.Any-from_list_any, lemmas.List.Folds.list_any-append, Math.Bool.or_assoc}
use Rattle.dma_mem.specs.Lent.{Loan, Avoids, barred_of, lies_in_any, marks_at, stores_at, with_gaps}
use Rattle.dma_mem.specs.{declared.segment.Segment.Segment, declared.marks.MarkKind.MarkKind, declared.marks.MarkKind.TheVariants.Reading}
use Rattle.dma_mem.specs.{declared.marks.MarkKind.TheVariants.Writing, Marking.MarkList, Marking.is_marked, Marking.lies_in, Marking.NoneMarked}
use Rattle.dma_mem.proofs.SharedPlaces.{range_in}

or_exchange : (a b c d : Bool) → ((a || b) || (c || d)) ≡ ((a || c) || (b || d))
or_exchange true b c d = refl
or_exchange false true c d = elim c as (λ c. true ≡ (c || true)) [ true ↦ refl | false ↦ refl ]
or_exchange false false c d = refl

-- ---- one address

-- an address is marked at gaps and marks where it lies in a gap or in a mark
pub is_marked_at : (kind : MarkKind) (gaps : List Segment) (marks : MarkList) (a : ℕ)
    → is_marked kind (marks_at gaps ++ marks) a ≡ (lies_in_any gaps a || is_marked kind marks a)
is_marked_at kind [] marks a = refl
is_marked_at Reading (s ∷ gaps) marks a = ap (λ b. lies_in a s || b) (is_marked_at Reading gaps marks a) ∙ sym (or_assoc (lies_in a s) _ _)
is_marked_at Writing (s ∷ gaps) marks a = ap (λ b. lies_in a s || b) (is_marked_at Writing gaps marks a) ∙ sym (or_assoc (lies_in a s) _ _)

pub loads_in : (segments : List Segment) (marks : MarkList) (a : ℕ) → is_marked Reading (stores_at segments ++ marks) a ≡ is_marked Reading marks a
loads_in [] marks a = refl
loads_in (s ∷ segments) marks a = loads_in segments marks a

pub stores_in : (segments : List Segment) (marks : MarkList) (a : ℕ)
    → is_marked Writing (stores_at segments ++ marks) a ≡ (lies_in_any segments a || is_marked Writing marks a)
stores_in [] marks a = refl
stores_in (s ∷ segments) marks a = ap (λ b. lies_in a s || b) (stores_in segments marks a) ∙ sym (or_assoc (lies_in a s) _ _)

-- an address is marked where it lies in a gap, for stores in what is read-only, or in a mark
pub is_marked_gaps : (kind : MarkKind) (loan : Loan) (marks : MarkList) (a : ℕ)
    → is_marked kind (with_gaps loan marks) a ≡ (lies_in_any (barred_of kind loan) a || is_marked kind marks a)
is_marked_gaps Reading loan marks a =
    is_marked_at Reading loan.gaps (stores_at loan.read_only ++ marks) a ∙ ap (λ b. lies_in_any loan.gaps a || b) (loads_in loan.read_only marks a)
is_marked_gaps Writing loan marks a =
    is_marked_at Writing loan.gaps (stores_at loan.read_only ++ marks) a
    ∙ ap (λ b. lies_in_any loan.gaps a || b) (stores_in loan.read_only marks a)
    ∙ sym (or_assoc (lies_in_any loan.gaps a) (lies_in_any loan.read_only a) (is_marked Writing marks a))
    ∙ ap (λ b. b || is_marked Writing marks a) (sym (list_any-append (lies_in a) loan.gaps loan.read_only))

-- a range that avoids the segments at which bursts of a kind fail avoids the gaps
pub barred_gaps : (kind : MarkKind) (loan : Loan) (addr len : ℕ) → Avoids (barred_of kind loan) addr len → Avoids loan.gaps addr len
barred_gaps Reading loan addr len clear = clear
barred_gaps Writing loan addr len clear = λ a low high.
    (or_parts (lies_in_any loan.gaps a) (lies_in_any loan.read_only a) (sym (list_any-append (lies_in a) loan.gaps loan.read_only) ∙ clear a low high)).0

-- ---- ranges

-- one of some addresses is marked where one lies in a gap or one in a mark
pub any_marked_gaps : (kind : MarkKind) (loan : Loan) (marks : MarkList) (xs : List ℕ)
    → list_any (is_marked kind (with_gaps loan marks)) xs ≡ (list_any (lies_in_any (barred_of kind loan)) xs || list_any (is_marked kind marks) xs)
any_marked_gaps kind loan marks [] = refl
any_marked_gaps kind loan marks (x ∷ xs) =
    ap (λ b. b || list_any (is_marked kind (with_gaps loan marks)) xs) (is_marked_gaps kind loan marks x)
    ∙ ap (λ b. (lies_in_any (barred_of kind loan) x || is_marked kind marks x) || b) (any_marked_gaps kind loan marks xs)
    ∙ or_exchange (lies_in_any (barred_of kind loan) x) (is_marked kind marks x) _ _

-- an unmarked range avoids the gaps
pub unmarked_avoids : (kind : MarkKind) (loan : Loan) (marks : MarkList) (addr len : ℕ) → NoneMarked kind (with_gaps loan marks) addr len
    → Avoids loan.gaps addr len
unmarked_avoids kind loan marks addr len none = barred_gaps kind loan addr len (λ a low high.
    (or_parts (lies_in_any (barred_of kind loan) a) (is_marked kind marks a) (sym (is_marked_gaps kind loan marks a) ∙ none a low high)).0)

-- a range that avoids the segments at which bursts of a kind fail and has no mark is unmarked
pub avoids_unmarked : (kind : MarkKind) (loan : Loan) (marks : MarkList) (addr len : ℕ) → Avoids (barred_of kind loan) addr len → NoneMarked kind marks addr len
    → NoneMarked kind (with_gaps loan marks) addr len
avoids_unmarked kind loan marks addr len clear none = λ a low high.
    is_marked_gaps kind loan marks a ∙ or_from (lies_in_any (barred_of kind loan) a) (is_marked kind marks a) (clear a low high) (none a low high)

-- a range that avoids the gaps meets none
pub avoids_none : (gaps : List Segment) (addr len : ℕ) → Avoids gaps addr len → list_any (lies_in_any gaps) (range_with_len addr len) ≡ false
avoids_none gaps addr len clear =
    false_from_ne_true _ (λ e.
    let w = Any-from_list_any (lies_in_any gaps) (range_with_len addr len) e in
    let at = range_in addr len w.1 (w.0, w.2, w.3) in
    false≢true (sym (clear w.1 at.0 at.1) ∙ w.4))

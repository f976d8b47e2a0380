-- Lines that run one after another.
use Rattle.std.proofs.Common.{◌≡◌, ℕ, List, [], ◌∷◌, ◌++◌, refl, ap, sym, ◌∙◌, subst, suc, append_assoc, arith}
use Rattle.std.proofs.{lemmas.List.append-nil, lemmas.List.Concat.flat_map-append}
use Rattle.std.specs.List.{All}
use Rattle.dma_io.specs.Command.{text_of, printed_text}
use Rattle.dma_script.specs.Interpreted.{ActsInTurn, PrintsLine, PrintsLines}

pub printed_text_append : (xs ys : List (List (List ℕ))) → printed_text (xs ++ ys) ≡ printed_text xs ++ printed_text ys
printed_text_append xs ys = flat_map-append text_of xs ys

-- the text of one group more
pub text_after : (old mid new : List ℕ) (groups : List (List (List ℕ))) (lines : List (List ℕ)) → mid ≡ old ++ printed_text groups → new ≡ mid ++ text_of lines
    → new ≡ old ++ printed_text (groups ++ lines ∷ [])
text_after old mid new groups lines before more = grind (arith, append_assoc, append-nil, printed_text_append)

-- one more line runs
acts_more : {S L : Type 0} (acts : S → L → List (List ℕ) → S → Type 0) (lines : List L) (line : L) (found between left : S) (groups : List (List (List ℕ)))
    (group : List (List ℕ)) → ActsInTurn acts lines found groups between → acts between line group left
    → ActsInTurn acts (lines ++ line ∷ []) found (groups ++ group ∷ []) left
acts_more acts [] line found between left [] group done act = (left, subst (λ s. acts s line group left) done act, refl)
acts_more acts [] line found between left (g ∷ groups) group done act = absurd done
acts_more acts (l ∷ lines) line found between left [] group done act = absurd done
acts_more acts (l ∷ lines) line found between left (g ∷ groups) group done act =
    grind (arith, acts_more acts lines line done.0 between left groups group done.2 act)

-- no line has run yet
pub prints_none : {S L : Type 0} (acts : S → L → List (List ℕ) → S → Type 0) (found : S) (old : List ℕ) → PrintsLines {L = L} acts found [] found old old
prints_none acts found old = record { groups = []; acted = refl; text = sym (append-nil old) }

-- one line more
pub prints_more : {S L : Type 0} (acts : S → L → List (List ℕ) → S → Type 0) (lines : List L) (line : L) (found between left : S) (old mid new : List ℕ)
    → PrintsLines acts found lines between old mid → PrintsLine (acts between line) left mid new → PrintsLines acts found (lines ++ line ∷ []) left old new
prints_more acts lines line found between left old mid new before one = grind (arith, acts_more, text_after)

-- Of the lines `all` those before `left` ran.
pub record RanSoFar {S L : Type 0} (acts : S → L → List (List ℕ) → S → Type 0) (found : S) (all left : List L) (now : S) (old new : List ℕ) : Type 0 where
  pub done : List L
  pub split : all ≡ done ++ left
  pub printed : PrintsLines acts found done now old new

-- None has run yet.
pub ran_none : {S L : Type 0} (acts : S → L → List (List ℕ) → S → Type 0) (found : S) (all : List L) (old : List ℕ) → RanSoFar acts found all all found old old
ran_none acts found all old = record { done = []; split = refl; printed = prints_none acts found old }

-- One line more.
pub ran_more : {S L : Type 0} (acts : S → L → List (List ℕ) → S → Type 0) (found : S) (all before : List L) (line : L) (left : List L) (between now : S)
    (old mid new : List ℕ) → RanSoFar acts found all before between old mid → before ≡ line ∷ left → PrintsLine (acts between line) now mid new
    → RanSoFar acts found all left now old new
ran_more acts found all before line left between now old mid new ran is one = record {
  done = ran.done ++ line ∷ [];
  split = ran.split ∙ ap (λ l. ran.done ++ l) is ∙ sym (append_assoc ran.done (line ∷ []) left);
  printed = prints_more acts ran.done line found between now old mid new ran.printed one;
}

-- What holds of all lines holds of those after the first.
pub taken_rest : {L : Type 0} (takes : L → Type 0) (lines : List L) (line : L) (after : List L) → lines ≡ line ∷ after → All takes lines → All takes after
taken_rest takes lines line after is every =
    let all : All takes (line ∷ after) = subst (All takes) is every in
    λ k d below. all (suc k) d (omega (arith, below))

-- What lines print that run one after another, with any interpreter.
use Rattle.std.specs.Prelude.{◌≡◌, ℕ, List, [], ◌∷◌, ◌++◌}
use Rattle.dma_io.specs.Command.{text_of, printed_text}

-- A line ran: `acts` holds of the lines that it printed and the state `left` after it, and the text of these lines was
-- appended.
pub record PrintsLine {S : Type 0} (acts : List (List ℕ) → S → Type 0) (left : S) (old new : List ℕ) : Type 0 where
  pub group : List (List ℕ)
  pub acted : acts group left
  pub text : new ≡ old ++ text_of group

-- The lines run one after another, from the state `found` to the state `left`, and each prints its group.
abbrev pub ActsInTurn
    : {S L : Type 0} → (S → L → List (List ℕ) → S → Type 0) → List L → S → List (List (List ℕ)) → S → Type 0
ActsInTurn acts [] found [] left = left ≡ found
ActsInTurn {S = S} acts (line ∷ lines) found (group ∷ groups) left =
    (next : S) × acts found line group next × ActsInTurn acts lines next groups left
ActsInTurn acts _ found _ left = ⊥

-- All lines ran one after another, and the text that they printed was appended.
pub record PrintsLines
    {S L : Type 0} (acts : S → L → List (List ℕ) → S → Type 0) (found : S) (lines : List L) (left : S) (old new : List ℕ)
    : Type 0 where
  pub groups : List (List (List ℕ))
  pub acted : ActsInTurn acts lines found groups left
  pub text : new ≡ old ++ printed_text groups

-- A line was out of memory. The lines before it ran one after another, the text that they printed was appended, and
-- nothing else was.
pub record StopsAtALine
    {S L : Type 0} (acts : S → L → List (List ℕ) → S → Type 0) (is_refused : S → L → S → Type 0) (found : S) (lines : List L)
    (left : S) (old new : List ℕ)
    : Type 0 where
  pub before : List L
  pub line : L
  pub behind : List L
  pub split : lines ≡ before ++ line ∷ behind
  pub between : S
  pub printed : PrintsLines acts found before between old new
  pub refused : is_refused between line left

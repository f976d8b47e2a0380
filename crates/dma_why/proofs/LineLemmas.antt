-- Texts that are appended piece by piece.
use Rattle.std.proofs.Common.{arith}
use Rattle.std.proofs.Common.{◌≡◌, ℕ, List, [], ◌∷◌, ◌++◌, ◌∙◌, Ok, OnOk, Result, ap, append_assoc, append-nil}
use Rattle.std.proofs.lemmas.Result.{on_ok_weaker}
use Rattle.dma_engine.specs.View.{View}
use Rattle.dma_io.specs.Command.{printed_text, text_of}

-- a result that is `Ok` of a value which is known
pub ok_is : {T E : Type 0} (r : Result T E) (x y : T) → r ≡ Ok x → x ≡ y → r ≡ Ok y
ok_is r x y is same = is ∙ ap (λ z. Ok z) same

-- a text, and what the last call appends behind it
pub push_more : {T E : Type 0} (r : Result T E) (old middle new x y : List ℕ) → middle ≡ old ++ x → OnOk r (new ≡ middle ++ y)
    → OnOk r (new ≡ old ++ (x ++ y))
push_more r old middle new x y first last = on_ok_weaker r (λ is. is ∙ ap (λ l. l ++ y) first ∙ append_assoc old x y) last

-- a line of three texts and a line feed, and what follows it
pub line_text : (o x f s nl ev a b c d e : List ℕ) → a ≡ o ++ x → b ≡ a ++ f → c ≡ b ++ s → d ≡ c ++ nl → e ≡ d ++ ev → e ≡ o ++ ((((x ++ f) ++ s) ++ nl) ++ ev)
line_text o x f s nl ev a b c d e ha hb hc hd he = grind (arith, append_assoc)

-- the text of an explanation as the only group that is printed
pub explained : (lines : View → List (List ℕ)) (o n : List ℕ) (v w : View) → v ≡ w → n ≡ o ++ text_of (lines v) → n ≡ o ++ printed_text (lines w ∷ [])
explained lines o n v w same h = grind (arith, append-nil)

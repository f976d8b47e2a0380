use Rattle.std.proofs.Common.{◌≡◌, ◌++◌, ◌∷◌, [], ◌∙◌, ℕ, List, ap, append_assoc, append-nil, arith, sym}
use Rattle.std.specs.Prelude.{codes, decimal}
use Rattle.std.proofs.lemmas.Fmt.{decimal_digit}
use Rattle.std.proofs.lemmas.Result.{on_ok_weaker}
use Rattle.dma_io.specs.Command.{text_of}
use Rattle.dma_commands.proofs.run.steps.print_transfer.Goals as goal

-- three lines, and the same texts in other groups
grouped : (step ch space start move finish x one error residue zero feed s m f : List ℕ)
    → (step ++ ch ++ space ++ (start ++ s) ++ x ++ one ++ feed)
    ++ ((step ++ ch ++ space ++ move ++ x ++ m ++ feed)
    ++ ((step ++ ch ++ space ++ (finish ++ f ++ space ++ (error ++ residue ++ zero)) ++ x ++ one ++ feed) ++ []))
    ≡ (step ++ ch ++ (space ++ start) ++ s) ++ ((x ++ one ++ feed ++ step) ++ ch ++ (space ++ move ++ x) ++ m)
    ++ ((feed ++ step) ++ ch ++ (space ++ finish) ++ f) ++ (space ++ (error ++ residue ++ zero) ++ x ++ one ++ feed)
grouped step ch space start move finish x one error residue zero feed s m f = simp (append_assoc, append-nil)

-- the lines, with the digits of 0 and 1
lines : (c s m f zero one : List ℕ) → zero ≡ 48 ∷ [] → one ≡ 49 ∷ []
    → text_of (
    (codes "step " ++ c ++ codes " " ++ (codes "started " ++ s) ++ codes " x" ++ one)
    ∷ (codes "step " ++ c ++ codes " " ++ codes "moved" ++ codes " x" ++ m)
    ∷ (codes "step " ++ c ++ codes " " ++ (codes "finished " ++ f ++ codes " " ++ (codes "NoError" ++ codes " residue " ++ zero)) ++ codes " x" ++ one)
    ∷ []
    )
    ≡ (codes "step " ++ c ++ codes " started " ++ s) ++ (codes " x1\nstep " ++ c ++ codes " moved x" ++ m)
    ++ (codes "\nstep " ++ c ++ codes " finished " ++ f) ++ codes " NoError residue 0 x1\n"
lines c s m f zero one is_zero is_one =
    grouped (codes "step ") c (codes " ") (codes "started ") (codes "moved") (codes "finished ") (codes " x") one (codes "NoError") (codes " residue ") zero (10 ∷ []) s m f
    ∙ ap (λ (n : List ℕ). (codes "step " ++ c ++ codes " started " ++ s) ++ ((codes " x" ++ n ++ 10 ∷ [] ++ codes "step ") ++ c ++ codes " moved x" ++ m)
    ++ (codes "\nstep " ++ c ++ codes " finished " ++ f) ++ (codes " " ++ (codes "NoError" ++ codes " residue " ++ zero) ++ codes " x" ++ n ++ 10 ∷ [])) is_one
    ∙ ap (λ (n : List ℕ). (codes "step " ++ c ++ codes " started " ++ s) ++ (codes " x1\nstep " ++ c ++ codes " moved x" ++ m)
    ++ (codes "\nstep " ++ c ++ codes " finished " ++ f) ++ (codes " " ++ (codes "NoError" ++ codes " residue " ++ n) ++ codes " x" ++ 49 ∷ [] ++ 10 ∷ [])) is_zero

pub returns-clause-ok : goal.returns-clause-ok
returns-clause-ok c =
    let whole = c.args.whole in
    let is = lines (decimal c.args.ch) (decimal whole.started) (decimal whole.moved) (decimal whole.finished) (decimal 0) (decimal 1)
    (decimal_digit 0 (omega arith)) (decimal_digit 1 (omega arith)) in
    on_ok_weaker c.print.result (λ p. p ∙ ap (λ l. c.args.out.now.items ++ l) (sym is)) c.print.ensures.ok

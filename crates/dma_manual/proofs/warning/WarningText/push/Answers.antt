use Rattle.std.proofs.Common.{◌≡◌, ◌++◌, ℕ, List, OnOk, subst}
use Rattle.std.specs.Prelude.{codes, decimal}
use Rattle.dma_manual.specs.Errors.{start_name}
use Rattle.dma_manual.proofs.warning.WarningText.push.Goals as goal

pub returns-in-Some-clause-ok : goal.returns-in-Some-clause-ok
returns-in-Some-clause-ok c =
    let stray = c.in-Some.stray in
    let at = stray.place in
    let P : List ℕ → List ℕ → Type 0 =
    λ end start. OnOk c.push.result (c.push.new.out.items ≡ c.args.out.now.items ++ (decimal at.line ++ codes ":" ++ decimal at.column
    ++ (codes ": warning: '" ++ end ++ (codes "' does not jump to the instruction after its " ++ start ++ codes "\n")))) in
    rw c.in-Some.is (subst (λ (end : List ℕ). P end (start_name stray.kind)) c.end_name.ensures
    (subst (P c.end_name.result.now) c.start_name.ensures c.push.ensures.ok))

use Rattle.std.proofs.Common.{arith}
use Rattle.dma_text.proofs.Begun.{begun}
use Rattle.std.proofs.Common.{◌≡◌, ◌∙◌, ◌++◌, [], ℕ, List, true, ap, refl, sym, append-nil, append_assoc}
use Rattle.dma_trace.specs.{declared.warnings.Warning.Warning, Explained.explained_text, Warnings.late_text, Warnings.warnings_of, Warnings.warnings_text}
use Rattle.dma_trace.proofs.explain.explain_all.Goals as goal

pub returns-in-Some-clause-ok : goal.returns-in-Some-clause-ok
returns-in-Some-clause-ok g c =
    let x = c.in-Some.explained in
    let found = rw c.in-Some.is at c.in_ok-explained.ensures.ok in
    let warned : c.deref.result.now ≡ warnings_of c.args.program.now = c.deref.ensures.value ∙ c.in_ok-warnings.ensures in
    let again : c.deref-in-Some.result.now ≡ warnings_of c.args.program.now = c.deref-in-Some.ensures.value ∙ c.in_ok-warnings.ensures in
    record {
      printed = explained_text c.args.given x;
      prints = record { explained = x; finds = found.0; bursts = found.1; text = refl };
      late = x.late;
      is_late = (x, found.0, found.3);
      to_out = c.in_ok-push-in-Some.ensures.ok;
      to_err =
          c.in_ok-push_late-in-Some.ensures.ok
          ∙ ap (λ (xs : List ℕ). xs ++ late_text c.deref-in-Some.result.now x.late)
          (c.in_ok-push_warnings-in-Some.ensures.ok
          ∙ ap (λ (xs : List ℕ). xs ++ warnings_text true c.deref.result.now) (found.2 ∙ sym (append-nil c.args.err.now.items)))
          ∙ append_assoc (c.args.err.now.items ++ []) (warnings_text true c.deref.result.now) (late_text c.deref-in-Some.result.now x.late)
          ∙ ap (λ (ws : List Warning). (c.args.err.now.items ++ []) ++ (warnings_text true ws ++ late_text c.deref-in-Some.result.now x.late)) warned
          ∙ ap (λ (ws : List Warning). (c.args.err.now.items ++ []) ++ (warnings_text true (warnings_of c.args.program.now) ++ late_text ws x.late)) again;
    }

pub returns-clause-begins : goal.returns-clause-begins
returns-clause-begins g c = grind (arith, begun)

pub returns-clause-begins_err : goal.returns-clause-begins_err
returns-clause-begins_err g c = grind (arith, begun)

pub returns-in-Some-clause-begins : goal.returns-in-Some-clause-begins
returns-in-Some-clause-begins g c = grind (arith, begun)

pub returns-in-Some-clause-begins_err : goal.returns-in-Some-clause-begins_err
returns-in-Some-clause-begins_err g c = grind (arith, begun)

pub returns-in_err-explained-clause-begins : goal.returns-in_err-explained-clause-begins
returns-in_err-explained-clause-begins g c = grind (arith, begun)

pub returns-in_err-explained-clause-begins_err : goal.returns-in_err-explained-clause-begins_err
returns-in_err-explained-clause-begins_err g c = grind (arith, begun)

pub returns-in_err-push-in-Some-clause-begins : goal.returns-in_err-push-in-Some-clause-begins
returns-in_err-push-in-Some-clause-begins g c = grind (arith, begun)

pub returns-in_err-push-in-Some-clause-begins_err : goal.returns-in_err-push-in-Some-clause-begins_err
returns-in_err-push-in-Some-clause-begins_err g c = grind (arith, begun)

pub returns-in_err-push_warnings-in-None-clause-begins : goal.returns-in_err-push_warnings-in-None-clause-begins
returns-in_err-push_warnings-in-None-clause-begins g c = grind (arith, begun)

pub returns-in_err-push_warnings-in-None-clause-begins_err : goal.returns-in_err-push_warnings-in-None-clause-begins_err
returns-in_err-push_warnings-in-None-clause-begins_err g c = grind (arith, begun)

pub returns-in_err-push_warnings-in-Some-clause-begins : goal.returns-in_err-push_warnings-in-Some-clause-begins
returns-in_err-push_warnings-in-Some-clause-begins g c = grind (arith, begun)

pub returns-in_err-push_warnings-in-Some-clause-begins_err : goal.returns-in_err-push_warnings-in-Some-clause-begins_err
returns-in_err-push_warnings-in-Some-clause-begins_err g c = grind (arith, begun)

pub returns-in_err-warnings-clause-begins : goal.returns-in_err-warnings-clause-begins
returns-in_err-warnings-clause-begins g c = grind (arith, begun)

pub returns-in_err-warnings-clause-begins_err : goal.returns-in_err-warnings-clause-begins_err
returns-in_err-warnings-clause-begins_err g c = grind (arith, begun)

pub returns-in_err-push_late-in-Some-clause-begins : goal.returns-in_err-push_late-in-Some-clause-begins
returns-in_err-push_late-in-Some-clause-begins g c = grind (arith, begun)

pub returns-in_err-push_late-in-Some-clause-begins_err : goal.returns-in_err-push_late-in-Some-clause-begins_err
returns-in_err-push_late-in-Some-clause-begins_err g c = grind (arith, begun)

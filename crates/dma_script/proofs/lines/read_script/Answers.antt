use Rattle.std.proofs.Common.{◌≡◌, ℕ, ◌+◌, ◌∙◌, List, [], ◌∷◌, Result, Ok, Err, ap, arith, sym}
use Rattle.std.specs.Str.Lines.{lines}
use Rattle.std.proofs.lemmas.{Bool.eqb-true, List.nil_from_length}
use Rattle.dma_script.specs.Lines.{after_line, after_lines, at_line}
use Rattle.dma_script.specs.declared.fault.Cause.{Cause}
use Rattle.dma_text.specs.Results.{◌>>=◌}
use Rattle.dma_script.proofs.PlainLines.{rest_plain}
use Rattle.dma_script.proofs.lines.read_script.Goals as goal

-- the next line is read
next_read : {S : Type 0} (step : S → List (List ℕ) → Result S Cause) (n : ℕ) (old : S) (r : Result S Cause) (line : List ℕ) (rest all : List (List ℕ))
    → all ≡ line ∷ rest → after_line step old line ≡ r
    → after_lines step n old all ≡ (at_line (n + 1) r >>= (λ next. after_lines step (n + 1) next rest))
next_read step n old r line rest all first is =
    ap (after_lines step n old) first ∙ ap (λ r. at_line (n + 1) r >>= (λ next. after_lines step (n + 1) next rest)) is

pub loop-rest-preserved : goal.loop-rest-preserved
loop-rest-preserved g c = record {
  counted = omega (arith, c.split_script_line.ensures.shorter);
  plain = λ p. rest_plain c.loop-rest.rest.now c.split_script_line.result.0.now c.split_script_line.result.1.now c.split_script_line.ensures.first
      (c.loop-rest.invariant.plain p);
  reads =
      sym (next_read g.S.Script.step c.loop-rest.number _ (Ok (g.S.Script.view c.read_line.new.script)) _ _ _ c.split_script_line.ensures.first c.in-Ok.ensures)
      ∙ c.loop-rest.invariant.reads;
}

pub returns-in-Err-Fault : goal.returns-in-Err-Fault
returns-in-Err-Fault g c =
    let is = rw c.in-Err-Fault.field-0-is at c.in-Err-Fault.ensures in
    rw c.in-Err-Fault.cause-is (sym c.loop-rest.invariant.reads
    ∙ next_read g.S.Script.step c.loop-rest.number _ (Err c.in-Err-Fault.cause) _ _ _ c.split_script_line.ensures.first is)

pub returns : goal.returns
returns g c =
    let none : c.loop-rest.rest.now ≡ [] = nil_from_length _ (eqb-true _ _ (sym c.loop-rest-test.ensures)) in
    sym c.loop-rest.invariant.reads ∙ ap (λ text. after_lines g.S.Script.step c.loop-rest.number (g.S.Script.view c.loop-rest.script) (lines text)) none

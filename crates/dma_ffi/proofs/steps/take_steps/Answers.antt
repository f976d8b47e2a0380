use Rattle.std.proofs.Common.{◌≡◌, ◌∙◌, Some, Result, Ok, Err, Bool, true, false, ap, sym, if◌then◌else◌}
use Rattle.std.specs.Prelude.{◌==◌}
use Rattle.std.proofs.lemmas.Bool.{eq-eqb, ne_eqb}
use Rattle.dma_engine.specs.{Advance.steps_before, declared.fault.EngineFault.EngineFault, declared.call.Reply.TheVariants.Refused}
use Rattle.dma_engine.specs.{declared.turn.Advanced.Advanced, declared.turn.Turn.Turn}
use Rattle.dma_ffi.specs.Requests.{advance_answer, replied, stepped, turn_before}
use Rattle.dma_ffi.proofs.steps.take_steps.Goals as goal

pub returns-in-None : goal.returns-in-None
returns-in-None c =
    let a = c.advance-steps.result in
    rw (c.steps_before-count.ensures, c.turn_before-last.ensures) (a, c.advance-steps.ensures.answers, sym (ap (advance_answer a) c.in-None.is))

pub returns-in-Some-Ok : goal.returns-in-Some-Ok
returns-in-Some-Ok c =
    let a = c.advance-steps.result in
    let turn = c.in-Some-Ok.turn in
    let what : c.in-Some-Ok.field-0 ≡ Ok turn = rw c.in-Some-Ok.is at c.in-Some-Ok.field-0-is in
    let is : a.last ≡ Some (Ok turn) = c.in-Some-Ok.is ∙ ap (λ (x : Result Turn EngineFault). Some x) what in
    rw c.steps_before-count.ensures (a, c.advance-steps.ensures.answers, sym (ap (advance_answer a) is))

-- a refusal, of the first step or of a later one
refused : (a : Advanced) (fault : EngineFault) (first : Bool) → a.last ≡ Some (Err fault) → (steps_before a == 0) ≡ first
    → advance_answer a a.last ≡ (if first then replied (Refused fault) else stepped (steps_before a) (turn_before a.started a.moved))
refused a fault first is none =
    ap (advance_answer a) is ∙ ap (λ (b : Bool). if b then replied (Refused fault) else stepped (steps_before a) (turn_before a.started a.moved)) none

pub returns-in-Some-Err : goal.returns-in-Some-Err
returns-in-Some-Err c =
    let a = c.advance-steps.result in
    let fault = c.in-Some-Err.fault in
    let what : c.in-Some-Err.field-0 ≡ Err fault = rw c.in-Some-Err.is at c.in-Some-Err.field-0-is in
    let is : a.last ≡ Some (Err fault) = c.in-Some-Err.is ∙ ap (λ (x : Result Turn EngineFault). Some x) what in
    (a, c.advance-steps.ensures.answers, sym (refused a fault true is (eq-eqb (steps_before a) 0 (sym c.steps_before-count.ensures ∙ c.if-count-eq0.true))))

pub returns-in-Some-Err-2 : goal.returns-in-Some-Err-2
returns-in-Some-Err-2 c =
    let a = c.advance-steps.result in
    let fault = c.in-Some-Err.fault in
    let what : c.in-Some-Err.field-0 ≡ Err fault = rw c.in-Some-Err.is at c.in-Some-Err.field-0-is in
    let is : a.last ≡ Some (Err fault) = c.in-Some-Err.is ∙ ap (λ (x : Result Turn EngineFault). Some x) what in
    let count = c.steps_before-count.ensures in
    rw (count, c.turn_before-last.ensures)
    (a, c.advance-steps.ensures.answers, sym (refused a fault false is (ne_eqb (steps_before a) 0 (λ zero. c.if-count-eq0.false (count ∙ zero)))))

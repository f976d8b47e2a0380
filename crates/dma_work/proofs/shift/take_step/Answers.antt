use Rattle.std.proofs.Common.{◌≡◌, ◌≢◌, ◌∙◌, ℕ, ap, arith, inl, inr, rules, subst, sym}
use Rattle.std.specs.Prelude.{Err, Ok, Result}
use Rattle.dma_engine.specs.declared.{fault.EngineFault.EngineFault, fault.EngineFault.TheVariants.NoMemory, turn.Turn.Turn}
use Rattle.dma_engine.specs.{Answer.StepAnswers, Turn.Stepped}
use Rattle.dma_engine.proofs.Turns.{step_is_law}
use Rattle.dma_work.specs.{declared.worker.Totals.Totals, Desk.DeskState, Desk.stepped_book, Shift.LacksMemory, Shift.TakesStep}
use Rattle.dma_work.proofs.shift.take_step.Goals as goal

same_book : (b : Totals) → stepped_book b (Err NoMemory) ≡ b
same_book b = grind arith

lacks : (ch : ℕ) (old new : DeskState) (r : Result Turn EngineFault) (e : EngineFault) → r ≡ Err e → e ≡ NoMemory
    → StepAnswers old.engine.view ch r new.engine.view → new.book ≡ stepped_book old.book r → new.before ≡ old.before → LacksMemory ch old new
lacks ch old new r e is starved answer book before =
    let same : r ≡ Err NoMemory = cc in
    let at : StepAnswers old.engine.view ch (Err NoMemory) new.engine.view =
    subst (λ (x : Result Turn EngineFault). StepAnswers old.engine.view ch x new.engine.view) same answer in
    record { memory = at.0; still = (at.1, (book ∙ ap (stepped_book old.book) same ∙ same_book old.book, before)) }

takes : (ch : ℕ) (old new : DeskState) (r : Result Turn EngineFault) → r ≢ Err NoMemory
    → StepAnswers old.engine.view ch r new.engine.view → new.book ≡ stepped_book old.book r → new.before ≡ old.before → TakesStep ch old new
takes ch old new r other answer book before = elim (step_is_law old.engine.view new.engine.view ch r answer) [
  | inl none ↦ absurd (other none.0)
  | inr is ↦ record {
    view = sym (ap (λ (s : Stepped). s.1) is);
    book = book ∙ ap (λ (s : Stepped). stepped_book old.book s.0) (sym is);
    before_history = before;
  }
]

ok_is_other : (r : Result Turn EngineFault) (t : Turn) → r ≡ Ok t → r ≢ Err NoMemory
ok_is_other r t is same = cc

err_is_other : (r : Result Turn EngineFault) (e : EngineFault) → r ≡ Err e → e ≢ NoMemory → r ≢ Err NoMemory
err_is_other r e is other same = other (cc)

pub returns-in-Err-NoMemory-clause-err : goal.returns-in-Err-NoMemory-clause-err
returns-in-Err-NoMemory-clause-err g c =
    let e = c.step.ensures in
    lacks c.args.ch c.args.desk.now c.step.new.self c.step.result c.in-Err-NoMemory.field-0 c.in-Err-NoMemory.is c.in-Err-NoMemory.field-0-is
    e.answer e.book e.before

pub returns-in_default-clause-ok : goal.returns-in_default-clause-ok
returns-in_default-clause-ok g c =
    let e = c.step.ensures in
    let other : c.in_default.field-0 ≢ NoMemory = search rules in
    takes c.args.ch c.args.desk.now c.step.new.self c.step.result (err_is_other c.step.result c.in_default.field-0 c.in_default.is other)
    e.answer e.book e.before

pub returns-in_default-2-clause-ok : goal.returns-in_default-2-clause-ok
returns-in_default-2-clause-ok g c =
    let e = c.step.ensures in
    takes c.args.ch c.args.desk.now c.step.new.self c.step.result (ok_is_other c.step.result _ c.in_default.is) e.answer e.book e.before

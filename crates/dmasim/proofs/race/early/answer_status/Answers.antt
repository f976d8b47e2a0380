use Rattle.std.proofs.Common.{[], ◌∷◌, ap, codes, inl, inr, refl, sym}
use Rattle.std.proofs.lemmas.Result.{on_ok_weaker}
use Rattle.dma_engine.specs.declared.call.Reply.TheVariants.{State}
use Rattle.dma_commands.specs.{Printed.call_line, Run.Answered}
use Rattle.dma_mem.specs.declared.call.Call.TheVariants as calls
use Rattle.dmasim.proofs.race.early.answer_status.Goals as goal

pub returns-in-Some-clause-line : goal.returns-in-Some-clause-line
returns-in-Some-clause-line g c =
    let v = c.args.desk.now.engine.view in
    let call = calls.Status c.args.ch c.args.cookie in
    on_ok_weaker c.print_line-in-Some.result
    (λ text. record { group = _; acted = inl (ap {B = Answered} (λ s. (call_line call (State s) ∷ [], v)) (sym c.in-Some.ensures.status)); text = text })
    c.print_line-in-Some.ensures.ok

pub returns-in-None-clause-line : goal.returns-in-None-clause-line
returns-in-None-clause-line g c =
    on_ok_weaker c.print_line.result (λ text. record { group = codes "status none" ∷ []; acted = inr (refl, refl); text = text }) c.print_line.ensures.ok

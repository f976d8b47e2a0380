use Rattle.std.proofs.Common.{ℤ, subst, sym, w32, to_z, of_z}
use Rattle.std.proofs.lemmas.Int.{to_z-of_z}
use Rattle.dma_ffi.specs.{Explaining.any_bus, Explaining.given_on, Explaining.outputs, inner.Found.AnswersProgram}
use Rattle.dma_ffi.proofs.ProgramCalls.{explains_program}
use Rattle.dma_ffi.proofs.explaining.dma330_explain.Goals as goal

pub returns : goal.returns
returns c =
    let code = c.answer.result in
    let before = outputs c.args.src.now c.args.dst.now c.args.zeros.now c.args.events.now c.args.explanation.now in
    let new = c.answer.new in
    let after = outputs new.src new.dst new.zeros new.events new.explanation in
    explains_program (to_z w32 (of_z w32 code)) before after c.in-Some.given c.args.program.now c.args.most c.explain_from-found.result
    c.explain_from-found.ensures.ok c.explain_from-found.ensures.err c.explain_from-found.ensures.long
    (subst (λ (z : ℤ). AnswersProgram c.explain_from-found.result z before after)
    (sym (to_z-of_z w32 code (record { sfits = c.answer.type_inv }))) c.answer.ensures)
    (given_on c.args.start.now (any_bus c.args.bus)) (rw c.in-Some.is at c.given_on.ensures)

use Rattle.std.proofs.Common.{ℤ, Some, refl, subst, sym, w32, to_z, of_z}
use Rattle.std.proofs.lemmas.Int.{to_z-of_z}
use Rattle.dma_ffi.specs.{Explaining.outputs, inner.Found.AnswersDevice}
use Rattle.dma_ffi.proofs.ProgramCalls.{explains_on_device}
use Rattle.dma_ffi.proofs.explaining.dma330_device_explain.Goals as goal

pub returns : goal.returns
returns c =
    let held = rw c.in-Some.is at c.get_mut.ensures.value in
    let d = c.in-Some.device.now in
    let code = c.answer_device.result in
    let before = outputs c.args.src.now c.args.dst.now c.args.zeros.now c.args.events.now c.args.explanation.now in
    let new = c.answer_device.new in
    let after = outputs new.src new.dst new.zeros new.events new.explanation in
    explains_on_device c.args.channel c.args.most (to_z w32 (of_z w32 code)) before after c.args.kept.now.device.value (Some d) d
    c.explain-found.result held refl
    c.explain-found.ensures.ok c.explain-found.ensures.err
    (subst (λ (z : ℤ). AnswersDevice c.explain-found.result z before after)
    (sym (to_z-of_z w32 code (record { sfits = c.answer_device.type_inv }))) c.answer_device.ensures)

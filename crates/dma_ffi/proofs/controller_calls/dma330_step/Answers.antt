use Rattle.std.proofs.Common.{◌≡◌, ◌∙◌, w32, rules}
use Rattle.std.proofs.lemmas.Int.{to_z-of_z}
use Rattle.dma_ffi.proofs.Returns.{reported, returns_steps}
use Rattle.dma_ffi.proofs.controller_calls.dma330_step.Goals as goal

pub returns : goal.returns
returns c =
    let held = rw c.in-Some.is at c.get_mut.ensures.value in
    let map : c.map.result ≡ reported c.take_steps-steps.result = search rules in
    returns_steps c.in-Some.engine.now c.take_steps-steps.new.engine held c.args.report.now c.args.ch c.args.most c.take_steps-steps.result
    c.take_steps-steps.ensures
    (to_z-of_z w32 c.answered.result (record { sfits = c.answered.type_inv }) ∙ rw map at c.answered.ensures.code) (rw map at c.answered.ensures.value)

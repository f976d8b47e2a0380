use Rattle.std.proofs.Common.{◌∙◌, length, refl, w32}
use Rattle.std.proofs.lemmas.Int.{to_z-of_z}
use Rattle.dma_mem.specs.declared.call.Call.TheVariants.{Read}
use Rattle.dma_engine.specs.{declared.call.Reply.TheVariants.Bytes, Answer.reply_of}
use Rattle.dma_ffi.specs.Requests.{bytes_or_conflict}
use Rattle.dma_ffi.proofs.Returns.{bytes_are, code_is, conflict_is, replies}
use Rattle.dma_ffi.proofs.controller_calls.dma330_read.Goals as goal

pub returns : goal.returns
returns c =
    let held = rw c.in-Some.is at c.get_mut.ensures.value in
    let before = c.args.out.now in
    let out = c.read_into.new.out in
    let conflict = c.args.conflict.now in
    let a = c.read_into.result in
    let done = c.done_unless in
    replies c.in-Some.engine.now c.read_into.new.self held (Read c.args.addr (length before)) (reply_of (λ _. Bytes out) a)
    (bytes_or_conflict before out conflict done.new.conflict) c.read_into.ensures.answer
    (to_z-of_z w32 done.result (record { sfits = done.type_inv }) ∙ done.ensures.code ∙ code_is (λ _. Bytes out) (λ _. refl) a)
    (bytes_are a before out c.read_into.ensures.same, done.ensures.conflict ∙ conflict_is (λ _. Bytes out) (λ _ d. refl) a conflict) tt

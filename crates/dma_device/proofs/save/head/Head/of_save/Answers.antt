use Rattle.std.proofs.Common.{◌≡◌, arith, sym, take}
use Rattle.std.proofs.lemmas.List.{length-append, take_at}
use Rattle.std.proofs.{lemmas.Grind.common_steps, lemmas.Bool.Decides.Decides-eqb, lemmas.Slice.Eq.slice_eq-Decides}
use Rattle.dma_device.specs.Snapshot.{head_bytes}
use Rattle.dma_device.proofs.SavedDevices.{head_length}
use Rattle.dma_device.proofs.save.head.Head.of_save.Goals as goal

pub returns-then-bytes-lt-HEAD_LEN-clause-only : goal.returns-then-bytes-lt-HEAD_LEN-clause-only
returns-then-bytes-lt-HEAD_LEN-clause-only c h rest ranges known config e = grind (arith, common_steps, head_length, length-append)

pub returns-else-eq-clause-only : goal.returns-else-eq-clause-only
returns-else-eq-clause-only c h rest ranges known config e =
    let head : c.read-head.result ≡ h = c.read-head.ensures.same h rest ranges config e in
    let same : c.as_slice.result.now ≡ take 40 c.args.bytes.now =
    rw (c.as_slice.ensures.value, c.bytes-again.ensures.bytes, head, e) (sym (take_at (head_bytes h) rest 40 (head_length h))) in
    cc ((slice_eq-Decides Decides-eqb _ _ _ c.eq.ensures).1 same, c.if-eq.false)

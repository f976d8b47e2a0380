use Rattle.std.proofs.Common.{◌∙◌, sym}
use Rattle.dma_mem.proofs.TransferRules.{copy_from_no_refusal, length_places}
use Rattle.dma_mem.proofs.transfer.Transfer.new.Goals as goal

pub invariant_of-result : goal.invariant_of-result
invariant_of-result c =
    rw (c.in_ok-src.ensures, c.in_ok-dst.ensures)
    (copy_from_no_refusal _ _ _ _ c.in_ok-len.ensures.0, c.in_ok-len.ensures.1 ∙ sym (length_places c.args.dst.now))

pub returns-clause-rules : goal.returns-clause-rules
returns-clause-rules c = rw (c.in_ok-src.ensures, c.in_ok-dst.ensures) (copy_from_no_refusal _ _ _ _ c.in_ok-len.ensures.0)

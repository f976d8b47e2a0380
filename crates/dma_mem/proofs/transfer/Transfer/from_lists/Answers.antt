use Rattle.std.proofs.Common.{◌∙◌, sym}
use Rattle.dma_mem.proofs.TransferRules.{copy_from_no_refusal, length_places}
use Rattle.dma_mem.proofs.transfer.Transfer.from_lists.Goals as goal

pub returns-clause-rules : goal.returns-clause-rules
returns-clause-rules c = copy_from_no_refusal _ _ _ _ (rw (← c.as_slice.ensures, ← c.as_slice-2.ensures) c.in_ok-len.ensures.0)

pub invariant_of-result : goal.invariant_of-result
invariant_of-result c =
    (returns-clause-rules c, rw (← c.as_slice-2.ensures) c.in_ok-len.ensures.1 ∙ sym (length_places c.args.dst))

-- The fields so far and the rest of the words give what all words give.
use Rattle.std.proofs.Common.{◌≡◌}
use Rattle.dma_manual.specs.Fields.{fields_from, no_fields}
use Rattle.dma_manual.proofs.fields.fields_at.Given as goal

abbrev pub invariant-loop-left : goal.invariant-loop-left
invariant-loop-left l = fields_from l.left l.fields l.rest ≡ fields_from 11 no_fields l.initial.rest

abbrev pub decreases-loop-left : goal.decreases-loop-left
decreases-loop-left l = l.left

use Rattle.std.proofs.Common.{arith}
use Rattle.std.proofs.lemmas.Grind.{common_steps}
use Rattle.dma_text.proofs.Begun.{begins_more}
use Rattle.dma_manual.proofs.listing.push_comment.Goals as goal

pub returns-clause-ok : goal.returns-clause-ok
returns-clause-ok c = grind (arith, common_steps)

pub returns-clause-begins : goal.returns-clause-begins
returns-clause-begins c = begins_more _ _ _ c.in_ok-push_blanks.ensures.begins c.push.ensures.begins

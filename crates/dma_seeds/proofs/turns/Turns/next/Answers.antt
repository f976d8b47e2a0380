use Rattle.std.proofs.Common.{arith}
use Rattle.std.proofs.lemmas.List.{get_or_read}
use Rattle.dma_seeds.proofs.TurnLemmas.{drawn_next, drawn_none}
use Rattle.dma_seeds.proofs.turns.Turns.next.Goals as goal

pub returns-then-self-eq0 : goal.returns-then-self-eq0
returns-then-self-eq0 c = grind (arith, drawn_none)

pub returns : goal.returns
returns c = grind (arith, get_or_read, drawn_next)

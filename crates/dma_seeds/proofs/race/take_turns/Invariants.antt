-- What all turns do is what the turns so far did, and what the others will do.
use Rattle.std.proofs.Common.{length}
use Rattle.dma_seeds.proofs.RaceLemmas.{TookSome}
use Rattle.dma_seeds.proofs.race.take_turns.Given as goal

abbrev pub invariant-loop-turn : goal.invariant-loop-turn
invariant-loop-turn l =
    TookSome l.initial.engine.view l.initial.turns l.engine.view l.turns l.totals.steps l.totals.finished

abbrev pub decreases-loop-turn : goal.decreases-loop-turn
decreases-loop-turn l = length l.turns

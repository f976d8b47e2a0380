-- The lines of the turns so far, and of those that are left.
use Rattle.std.proofs.Common.{◌≡◌, ◌++◌, length}
use Rattle.dma_seeds.specs.Script.{turns_text}
use Rattle.dma_seeds.proofs.script.text_of_turns.Given as goal

abbrev pub invariant-loop-turn : goal.invariant-loop-turn
invariant-loop-turn l = turns_text l.fn.turns ≡ l.text.items ++ turns_text l.turns

abbrev pub decreases-loop-turn : goal.decreases-loop-turn
decreases-loop-turn l = length l.turns

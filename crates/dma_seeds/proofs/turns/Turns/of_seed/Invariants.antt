-- The turns of the jobs so far.
use Rattle.std.proofs.Common.{◌≡◌, ◌*◌, ◌^◌, ◌≤◌, map, take}
use Rattle.dma_seeds.specs.Turns.{all_turns, total_left}
use Rattle.dma_seeds.proofs.turns.Turns.of_seed.Given as goal

abbrev pub invariant-loop-line : goal.invariant-loop-line
invariant-loop-line l = record {
  jobs : l.jobs.items ≡ map all_turns (take l.line-index l.lines);
  left : total_left l.jobs.items ≡ l.left;
  few : l.left ≤ l.line-index * 2 ^ 32;
}

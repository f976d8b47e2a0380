use Rattle.std.proofs.Common.{◌≡◌, ◌+◌, ◌^◌, ◌≤◌, length, map}
use Rattle.std.specs.List.{AllByRecursion}
use Rattle.dma_chan.specs.{Compiled.cost_on, Compiled.piece_tree, Tree.in_order}
use Rattle.dma_chan.proofs.TreeCosts.{counted}
use Rattle.dma_chan.proofs.compile.counts.cost_on.Given as goal

abbrev pub invariant-loop-piece : goal.invariant-loop-piece
invariant-loop-piece l = record {
  so_far : l.cost + counted (in_order (map (piece_tree l.bus) l.pieces)) ≡ cost_on l.bus l.transfer;
  small : AllByRecursion (λ p. p.len ≤ 2 ^ 20) l.pieces;
}

abbrev pub decreases-loop-piece : goal.decreases-loop-piece
decreases-loop-piece l = length l.pieces

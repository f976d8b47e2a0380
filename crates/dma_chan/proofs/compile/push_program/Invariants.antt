use Rattle.std.proofs.Common.{◌≡◌, ◌+◌, ◌*◌, ◌^◌, ◌≤◌, ◌++◌, length, map, vec_capacity}
use Rattle.std.specs.List.{AllByRecursion}
use Rattle.dma_chan.specs.{Compiled.cost_on, Compiled.piece_tree, Compiled.pieces_of, Compiled.wait_tree, Tree.bytes_of, Tree.in_order}
use Rattle.dma_chan.proofs.TreeCosts.{counted}
use Rattle.dma_chan.proofs.compile.push_program.Given as goal

abbrev pub invariant-loop-piece : goal.invariant-loop-piece
invariant-loop-piece l = record {
  so_far : l.cost + counted (in_order (map (piece_tree l.bus) l.pieces)) ≡ cost_on l.bus l.transfer;
  small : AllByRecursion (λ p. p.len ≤ 2 ^ 20) l.pieces;
  bytes : l.code.items ++ bytes_of (in_order (map (piece_tree l.bus) l.pieces)) ≡ l.fn.code.items ++
      (bytes_of (wait_tree l.transfer.wait) ++ bytes_of (in_order (map (piece_tree l.bus) (pieces_of l.transfer))));
  most : length l.code.items + 58 * length l.pieces ≤ length l.fn.code.items + 58 * length (pieces_of l.transfer) + 2;
  room : length l.code.items + 58 * length l.pieces + 3 ≤ vec_capacity l.code;
  capacity : vec_capacity l.code ≡ vec_capacity l.fn.code;
}

abbrev pub decreases-loop-piece : goal.decreases-loop-piece
decreases-loop-piece l = length l.pieces

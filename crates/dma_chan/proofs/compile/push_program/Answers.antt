use Rattle.std.proofs.Common.{◌≡◌, ◌∙◌, ◌+◌, ◌++◌, List, ℕ, ap, arith, append_assoc, length, map}
use Rattle.dma_chan.specs.Compiled.{piece_tree, pieces_of, signal_tree, wait_tree}
use Rattle.dma_chan.specs.{declared.pieces.Piece.Piece, Tree.bytes_of, Tree.in_order}
use Rattle.dma_chan.proofs.PieceCode.{all_small, cut_well, piece_more, pieces_few}
use Rattle.dma_chan.proofs.TreeCosts.{cost_counted, cost_of_tree, counted}
use Rattle.dma_chan.proofs.compile.push_program.Goals as goal

pub loop-piece-init : goal.loop-piece-init
loop-piece-init c =
    let t = c.args.transfer.now in
    let pieces = bytes_of (in_order (map (piece_tree c.args.bus) (pieces_of t))) in
    let wait = c.push_wait.ensures.bytes ∙ ap (λ event. c.args.code.now.items ++ bytes_of (wait_tree event)) c.wait.ensures in
    let room = c.requires.room c.of-pieces.ensures.rules in
    rw c.of-pieces.ensures.value (record {
      so_far = omega (arith, c.events_cost-cost.ensures.value, cost_counted (wait_tree t.wait), cost_counted (signal_tree t.signal), cost_of_tree c.args.bus t);
      small = all_small (pieces_of t) (cut_well t c.of-pieces.ensures.rules).fit;
      bytes = ap (λ (xs : List ℕ). xs ++ pieces) wait ∙ append_assoc c.args.code.now.items (bytes_of (wait_tree t.wait)) pieces;
      most = omega (arith, c.push_wait.ensures.most);
      room = omega (arith, c.push_wait.ensures.most, c.push_wait.ensures.capacity, room);
      capacity = c.push_wait.ensures.capacity;
    })

pub loop-piece-preserved : goal.loop-piece-preserved
loop-piece-preserved c =
    let is = c.in-Some.ensures in
    let h = c.loop-piece.invariant in
    let e = c.push_piece-cost.ensures in
    let fewer : length c.loop-piece.pieces ≡ length c.next.new.self + 1 = omega (arith, ap length is) in
    let counts = ap (λ (ps : List Piece). counted (in_order (map (piece_tree c.args.bus) ps))) is in
    let small = rw is at h.small in
    record {
      so_far = omega (arith, h.so_far, counts, e.cost, cost_counted (piece_tree c.args.bus c.in-Some.piece));
      small = small.1;
      bytes = piece_more c.args.bus c.in-Some.piece c.loop-piece.pieces c.next.new.self _ _ _ is e.bytes h.bytes;
      most = omega (arith, h.most, fewer, e.most);
      room = omega (arith, h.room, fewer, e.most, e.capacity);
      capacity = e.capacity ∙ h.capacity;
    }

pub returns-clause-most : goal.returns-clause-most
returns-clause-most c = grind (arith, pieces_few)

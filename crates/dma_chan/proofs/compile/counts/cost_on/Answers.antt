use Rattle.std.proofs.Common.{arith}
use Rattle.dma_chan.specs.Compiled.{pieces_of, signal_tree, wait_tree}
use Rattle.dma_chan.proofs.{PieceCode.all_small, PieceCode.cut_well, TreeCosts.cost_counted, TreeCosts.cost_of_tree}
use Rattle.dma_chan.proofs.compile.counts.cost_on.Goals as goal

pub loop-piece-init : goal.loop-piece-init
loop-piece-init c =
    let t = c.args.transfer.now in
    rw c.of-pieces.ensures.value (record {
      so_far = omega (arith, c.events_cost-cost.ensures.value, cost_counted (wait_tree t.wait), cost_counted (signal_tree t.signal), cost_of_tree c.args.bus t);
      small = all_small (pieces_of t) (cut_well t c.of-pieces.ensures.rules).fit;
    })

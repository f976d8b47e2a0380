use Rattle.std.proofs.Common.{◌+◌, ◌-◌, arith}
use Rattle.dma_work.proofs.InTurns.{goes_on_then, goes_on_turn, left_less}
use Rattle.dma_work.proofs.shift.Shift.finish_job.Goals as goal

pub loop-preserved : goal.loop-preserved
loop-preserved g c =
    let left = c.left-left.result in
    let turn = c.if-not-turn.ensures in record {
      left =
          left_less c.args.worker turn.channel (left - c.loop.counter) (left - (c.loop.counter + 1)) c.loop.self.seats c.turn.new.self.seats turn.next
          (omega (arith, c.loop-test.true)) c.loop.invariant.left;
      goes_on =
          goes_on_then c.args.self.now c.loop.self c.turn.new.self c.loop.invariant.goes_on (goes_on_turn c.args.worker c.loop.self c.turn.new.self turn);
    }

use Rattle.std.proofs.Common.{arith}
use Rattle.dma_work.proofs.InTurns.{left_is}
use Rattle.dma_work.proofs.rota.Seats.left.Goals as goal

pub returns : goal.returns
returns c =
    left_is c.args.worker c.self.inside.seats.items c.args.self.now c.index-seat.result.now c.self.view_is
    (omega (arith, c.len.ensures, c.if-worker-len.false)) c.index-seat.ensures

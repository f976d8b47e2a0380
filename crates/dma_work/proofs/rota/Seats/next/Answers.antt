use Rattle.std.proofs.Common.{arith}
use Rattle.dma_work.proofs.InTurns.{takes_next}
use Rattle.dma_work.proofs.rota.Seats.next.Goals as goal

pub returns-clause-some : goal.returns-clause-some
returns-clause-some c =
    takes_next c.args.worker c.self.inside.seats.items c.args.self.now c.index-seat.result.now c.after.result c.self.view_is
    (omega (arith, c.len.ensures, c.if-worker-len.false)) c.index-seat.ensures c.after.ensures

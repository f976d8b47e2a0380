use Rattle.std.proofs.Common.{sym, subst}
use Rattle.std.specs.List.{All}
use Rattle.dma_work.specs.Shift.{IsDone, ShiftState}
use Rattle.dma_work.proofs.InTurns.{all_taken}
use Rattle.dma_work.proofs.shift.Shift.end.Goals as goal

pub returns-in-Ok-clause-ok : goal.returns-in-Ok-clause-ok
returns-in-Ok-clause-ok g c =
    let inside = c.self.inside in
    all_taken g.N.DeskName.opening g.N.DeskName.jobs inside.desk.engine.view inside.desk.book inside.seats
    (subst (λ (s : ShiftState). All IsDone s.seats) (sym c.self.view_is) c.in-Ok.ensures.ok) c.self.invariant.in_turn

use Rattle.std.proofs.Common.{sym, subst}
use Rattle.dma_work.specs.Shift.{ShiftState, TakesATurn, TakesNext}
use Rattle.dma_work.proofs.InTurns.{in_turn_more, out_of_memory}
use Rattle.dma_work.proofs.shift.Shift.turn.Goals as goal

pub invariant_of-self : goal.invariant_of-self
invariant_of-self g c =
    let inside = c.self.inside in record {
      in_turn =
          in_turn_more g.N.DeskName.opening g.N.DeskName.jobs inside.desk c.take_step.new.desk c.args.worker c.in-Some.ch inside.seats c.set.new.self
          c.in-Ok.ensures.ok
          (subst (TakesNext c.args.worker c.in-Some.ch inside.seats) (sym c.set.ensures) c.in-Some.ensures.some) c.self.invariant.in_turn;
      starved = λ was. absurd (cc (was, c.if-self.false));
    }

pub invariant_of-self-in-Err : goal.invariant_of-self-in-Err
invariant_of-self-in-Err g c =
    let inside = c.self.inside in
    out_of_memory g.N.DeskName.opening g.N.DeskName.jobs inside.desk c.take_step.new.desk c.args.worker c.in-Some.ch inside.seats _
    c.in-Err.ensures.err c.in-Some.ensures.some c.self.invariant.in_turn

pub returns-in-Ok : goal.returns-in-Ok
returns-in-Ok g c =
    subst (λ (s : ShiftState). TakesATurn c.args.worker s
    (record { desk = c.take_step.new.desk; seats = c.set.new.self; is_starved = c.self.inside.is_starved })) c.self.view_is (record {
      not_starved = (c.if-self.false, c.if-self.false);
      channel = c.in-Some.ch;
      next = subst (TakesNext c.args.worker c.in-Some.ch c.self.inside.seats) (sym c.set.ensures) c.in-Some.ensures.some;
      step = c.in-Ok.ensures.ok;
    })

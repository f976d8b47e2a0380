use Rattle.std.proofs.Common.{◌+◌, arith, refl, rules, subst, sym, take}
use Rattle.std.proofs.lemmas.List.{take_all}
use Rattle.dma_work.specs.Shift.{AreNewSeats}
use Rattle.dma_work.proofs.InTurns.{new_more}
use Rattle.dma_work.proofs.rota.Seats.new.Goals as goal

pub loop-at-init : goal.loop-at-init
loop-at-init c = grind (arith, rules, subst, sym, refl, arith)

pub loop-at-preserved : goal.loop-at-preserved
loop-at-preserved c =
    let i = c.loop-at.invariant in record {
      count = search rules;
      room = search rules;
      new =
          subst (AreNewSeats (take (c.loop-at.at + 1) c.args.jobs.now)) (sym c.push_reserved.ensures.items)
          (new_more c.args.jobs.now c.loop-at.at c.index-jobs-at.result c.loop-at.seats.items c.new.result c.loop-at-test.true (sym c.index-jobs-at.is)
          c.new.ensures.0 c.new.ensures.1 i.new);
    }

pub returns : goal.returns
returns c = subst (λ jobs. AreNewSeats jobs c.loop-at.seats.items) (take_all c.loop-at.at c.args.jobs.now c.loop-at-test.false) c.loop-at.invariant.new

use Rattle.std.proofs.Common.{◌≡◌, ◌∙◌, ap, refl, subst, sym}
use Rattle.dma_work.specs.{declared.worker.Totals.Totals, Desk.AddUp, Desk.DeskState, Desk.Differ}
use Rattle.dma_work.proofs.desk.Desk.settle.Goals as goal

pub returns-then-are_sums_of-clause-engine : goal.returns-then-are_sums_of-clause-engine
returns-then-are_sums_of-clause-engine g c = (c.into_parts.ensures.engine, c.into_parts.ensures.book)

pub returns-then-are_sums_of-clause-settled : goal.returns-then-are_sums_of-clause-settled
returns-then-are_sums_of-clause-settled g c =
    let e = c.into_parts.ensures in
    let book : c.self.inside.book ≡ c.into_parts.result.1 = ap (λ (d : DeskState). d.book) c.self.view_is ∙ sym e.book in
    record {
      adds = subst (λ (b : Totals). AddUp c.args.tallies.now b) book (c.are_sums_of.ensures.yes c.if-are_sums_of.true);
      counts = e.counts;
      sound = e.sound;
      memory = e.memory;
    }

pub returns-else-are_sums_of-clause-missing : goal.returns-else-are_sums_of-clause-missing
returns-else-are_sums_of-clause-missing g c =
    subst (λ (d : DeskState). Differ c.args.tallies.now d.book) c.self.view_is (c.are_sums_of.ensures.no c.if-are_sums_of.false)

pub returns-else-are_sums_of-clause-back : goal.returns-else-are_sums_of-clause-back
returns-else-are_sums_of-clause-back g c = refl

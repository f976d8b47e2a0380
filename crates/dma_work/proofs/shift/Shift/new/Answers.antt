use Rattle.std.proofs.Common.{◌∙◌, ap, sym}
use Rattle.dma_work.specs.Desk.{DeskState}
use Rattle.dma_work.proofs.InTurns.{in_turn_new}
use Rattle.dma_work.proofs.shift.Shift.new.Goals as goal

pub invariant_of-result : goal.invariant_of-result
invariant_of-result g c =
    let desk = c.named_anew.result in
    let is = c.named_anew.ensures in record {
      in_turn =
          in_turn_new g.N.DeskName.opening g.N.DeskName.jobs desk.engine.view desk.book c.into_seats.result
          (c.requires.names.0 ∙ ap (λ (d : DeskState). d.engine.view) (sym is)) (ap (λ (d : DeskState). d.book.steps) is)
          (ap (λ (d : DeskState). d.book.finished) is) (rw c.requires.jobs c.into_seats.ensures);
      starved = λ was. absurd (cc was);
    }

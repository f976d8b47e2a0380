use Rattle.std.proofs.Common.{ap, subst, sym}
use Rattle.dma_engine.specs.View.{EngineState}
use Rattle.dma_work.specs.Desk.{DeskState, Names}
use Rattle.dma_work.proofs.Desks.{kept_anew}
use Rattle.dma_work.proofs.desk.Desk.named_anew.Goals as goal

pub invariant_of-result : goal.invariant_of-result
invariant_of-result g c =
    let inside = c.self.inside in
    let M = g.M.DeskName in
    let base = g.N.DeskName.base in
    let log = g.N.DeskName.log in
    let same = ap (λ (d : DeskState). d.engine) (sym c.self.view_is) in
    let none = c.default-book.ensures in
    let names = subst (λ (e : EngineState). Names M.opening M.base M.log (record { engine = e; base = base; log = log })) same c.requires in
    kept_anew _ _ base M.base log M.log inside.engine inside.publisher inside.book c.default-book.result c.self.invariant names (none.0, none.1.0, none.1.1)

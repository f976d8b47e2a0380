use Rattle.std.proofs.Common.{arith}
use Rattle.std.proofs.Common.{◌∙◌, ap, sym}
use Rattle.dma_engine.specs.{inner.Due.Finishes, inner.Holds.view_of, inner.Holds.state_in}
use Rattle.dma_engine.specs.{inner.Inside.parts_of, Turn.Stepped}
use Rattle.dma_engine.proofs.{StartsAndEnds.finish_is, StartsAndEnds.finish_left, StartsAndEnds.front_with_cookie_law, StepCases.due_there}
use Rattle.dma_engine.proofs.engine.Engine.next_finish.Goals as goal

pub unreachable-requires : goal.unreachable-requires
unreachable-requires c = grind (arith, due_there)

pub returns : goal.returns
returns c =
    let p = parts_of c.self.inside in
    let s = state_in p c.args.ch in
    let d = (due_there p c.self.invariant c.args.ch (Finishes (view_of p) c.args.how) (rw (← c.self.view_is) at c.requires)).1 in
    let known = front_with_cookie_law s (rw (c.from-index.ensures, ← c.self.view_is) at c.in-Some.ensures) in
    let stored = rw (c.from-index.ensures, ← c.self.view_is) at c.done-stored.ensures in
    let left = finish_left s known.0 c.len.ensures.size stored in
    rw (← c.self.view_is, known.1, c.saturating_sub.ensures ∙ left) (sym (ap (λ (s : Stepped). s.0) (finish_is c.args.how d)))

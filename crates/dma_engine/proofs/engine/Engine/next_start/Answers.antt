use Rattle.std.proofs.Common.{arith}
use Rattle.std.proofs.Common.{sym, ap}
use Rattle.dma_engine.specs.{Turn.Stepped, View.state_at}
use Rattle.dma_engine.proofs.{CallCases.named_none, StartsAndEnds.front_with_cookie_law, StartsAndEnds.held_is, StartsAndEnds.start_is}
use Rattle.dma_engine.proofs.engine.Engine.next_start.Goals as goal

pub returns-in-Some-first_conflict : goal.returns-in-Some-first_conflict
returns-in-Some-first_conflict c =
    let v = c.args.self.now.view in
    let ch = c.args.ch in
    let front = front_with_cookie_law (state_at v ch) (rw c.from.ensures at c.in-Some.ensures) in
    sym (ap (λ (s : Stepped). s.0)
    (held_is v ch c.in-Some-first_conflict.ch c.in-Some-first_conflict.cookie c.in-Some.transfer.now c.requires front.0 c.in-Some-first_conflict.ensures))

pub returns-in-None : goal.returns-in-None
returns-in-None c = grind (arith, front_with_cookie_law, start_is, named_none)

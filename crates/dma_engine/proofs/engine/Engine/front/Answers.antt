use Rattle.std.proofs.Common.{◌≡◌, ◌+◌, ◌∙◌, None, Some, arith, length, ap}
use Rattle.std.specs.Option.{option_map}
use Rattle.dma_mem.specs.Places.{Descriptor}
use Rattle.dma_engine.specs.Object.{channel, finished, issued_front}
use Rattle.dma_engine.specs.{inner.Found.front_in, inner.Inside.parts_of, inner.Holds.state_in}
use Rattle.dma_engine.proofs.Queues.{HoldsAt, holds_at, many_queues}
use Rattle.dma_engine.proofs.{Boards.queue_small, Conflicts.few_issued, Conflicts.front_found, Sizes.many_channels, engine.Engine.front.Goals.After-index-queue}
use Rattle.dma_engine.proofs.engine.Engine.front.Goals as goal

pub kept-requires : goal.kept-requires
kept-requires c = grind (arith, many_queues, many_channels)

-- the queue that is read
read : (c : After-index-queue) → HoldsAt (parts_of c.self.inside) c.args.index c.index-queue.result.now
read c =
    holds_at (parts_of c.self.inside) c.self.invariant c.args.index c.index-queue.result.now
    (omega (arith, (rw (← c.self.view_is) at c.requires), many_queues (parts_of c.self.inside) c.self.invariant)) c.index-queue.ensures

pub front_in-requires : goal.front_in-requires
front_in-requires c = rw c.kept.ensures (few_issued (read (goal.at.front_in-requires c).After-index-queue))

pub finished-cookie-requires : goal.finished-cookie-requires
finished-cookie-requires c = omega (arith, queue_small (read (goal.at.finished-cookie-requires c).After-index-queue))

pub overflow_add-cookie : goal.overflow_add-cookie
overflow_add-cookie c = omega (arith, queue_small (read (goal.at.overflow_add-cookie c).After-index-queue), c.finished-cookie.ensures)

pub returns-in_default : goal.returns-in_default
returns-in_default c =
    let p = parts_of c.self.inside in
    let s = state_in p c.args.index in
    let listed : None ≡ front_in c.index-queue.result.now (channel p.base c.args.index).submitted p.history = grind (arith) in
    let none : None ≡ issued_front s = listed ∙ front_found (read (goal.at.returns-in_default c).After-index-queue) in
    rw (← c.self.view_is) (ap (option_map (λ (t : Descriptor). (t, finished s + 1))) none)

pub returns : goal.returns
returns c =
    let p = parts_of c.self.inside in
    let s = state_in p c.args.index in
    let t = c.in-Some.transfer.now in
    let at = read (goal.at.returns c).After-index-queue in
    let listed : Some t ≡ front_in c.index-queue.result.now (channel p.base c.args.index).submitted p.history = grind (arith) in
    let number : c.finished-cookie.result + 1 ≡ finished s + 1 = omega (arith, c.finished-cookie.ensures, at.tied.forgotten, ap length at.tied.outcomes) in
    rw (← c.self.view_is, number) (ap (option_map (λ (u : Descriptor). (u, finished s + 1))) (listed ∙ front_found at))

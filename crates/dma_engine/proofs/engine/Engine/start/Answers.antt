use Rattle.std.proofs.Common.{ap, arith}
use Rattle.std.specs.Prelude.{is_some}
use Rattle.dma_engine.specs.{Turn.first_conflicting, declared.fault.EngineFault.TheVariants.NoMemory, declared.call.Reply.TheVariants.Turned, inner.Holds.Parts}
use Rattle.dma_engine.specs.{inner.Holds.view_of, inner.Inside.parts_of, View.state_at, inner.Holds.state_in}
use Rattle.dma_mem.specs.{Places.destinations, declared.call.Call.TheVariants.Step}
use Rattle.dma_chan.proofs.ReadyLaws.{on_pages}
use Rattle.dma_engine.proofs.StartsAndEnds.{FrontFound, found_front, front_with_cookie_law, held_is, holds_started, idle_ranges, now_started, start_answers}
use Rattle.dma_engine.proofs.StartsAndEnds.{start_starved}
use Rattle.dma_engine.proofs.{CallCases.named_none, CallCases.refusal, Changes.holds_pages, Queues.holds_at, Queues.many_queues, Sizes.many_channels}
use Rattle.dma_engine.proofs.{StepCases.stepped_so, engine.Engine.start.Goals.After-deref, Queues.seen, Queues.queue_back}
use Rattle.dma_engine.proofs.engine.Engine.start.Goals as goal

pub kept-requires : goal.kept-requires
kept-requires c = grind (arith, many_queues, many_channels)

pub returns-in-Some-first_conflict-clause-answer : goal.returns-in-Some-first_conflict-clause-answer
returns-in-Some-first_conflict-clause-answer c =
    let v = c.args.self.now.view in
    let front = front_with_cookie_law (state_at v c.args.ch) (rw c.from-index.ensures at c.in-Some.ensures) in
    stepped_so v v c.args.ch _
    (held_is v c.args.ch c.in-Some-first_conflict.ch c.in-Some-first_conflict.cookie c.in-Some.transfer.now c.requires front.0
    c.in-Some-first_conflict.ensures)

-- the front that was found
found : (c : After-deref)
    → FrontFound (parts_of c.self.inside) c.args.ch c.index_mut-queue.result.now c.kept.result.now c.deref.result.now c.in-Some.transfer.now
found c =
    let p = parts_of c.self.inside in
    let asked = rw (← c.self.view_is) at c.requires in
    let front = front_with_cookie_law (state_in p c.args.ch) (rw (c.from-index.ensures, ← c.self.view_is) at c.in-Some.ensures) in
    found_front p c.self.invariant c.args.ch _ c.index_mut-queue.result.now c.kept.result.now c.deref.result.now c.in-Some.transfer.now c.from-index.ensures
    c.index_mut-queue.ensures.value c.kept.ensures c.deref.ensures.value asked.0 front.0

pub start-requires : goal.start-requires
start-requires c =
    let f = found (goal.at.start-requires c).After-deref in
    record { idle = idle_ranges f.at (rw (← c.self.view_is) at c.requires).3; issued = f.known; front = ap is_some f.is; below = rw f.is f.low }

pub invariant_of-self : goal.invariant_of-self
invariant_of-self c = grind (arith, queue_back, holds_pages)

pub returns-in_err-start-clause-answer : goal.returns-in_err-start-clause-answer
returns-in_err-start-clause-answer c =
    let p = parts_of c.self.inside in
    let v = c.args.self.now.view in
    let ch = c.args.ch in
    let t = c.in-Some.transfer.now in
    let same = queue_back p.queues c.from-index.result c.in_err-start.ensures.refused c.index_mut-queue.ensures.value in
    let front = front_with_cookie_law (state_at v ch) (rw c.from-index.ensures at c.in-Some.ensures) in
    refusal (λ turn. Turned turn) v _ (Step ch) NoMemory c.from_residual.result c.from_residual.ensures.1
    (start_starved v _ ch t c.requires front.0 (named_none (first_conflicting v t) c.in_default-first_conflict.ensures)
    (rw same (seen c.self.view_is)))

pub returns-in_err-start-clause-kept : goal.returns-in_err-start-clause-kept
returns-in_err-start-clause-kept c = grind (arith, queue_back)

pub invariant_of-self-2 : goal.invariant_of-self-2
invariant_of-self-2 c =
    let p = parts_of c.self.inside in
    let q = c.index_mut-queue.result.now in
    let t = c.in-Some.transfer.now in
    let none = named_none (first_conflicting (view_of p) t) (rw (← c.self.view_is) at c.in_default-first_conflict.ensures) in
    let f = found (goal.at.invariant_of-self-2 c).After-deref in
    let started = now_started q c.start.new.self t (rw f.is at (c.in_ok-start.ensures.started)) in
    let pages = on_pages c.start.new.memory (destinations t) (rw f.is at (c.in_ok-start.ensures.pages)) in
    let paged : Parts = record p { made = c.start.new.memory.made } in
    let at = holds_at paged (holds_pages p c.start.new.memory.made c.self.invariant c.start.ensures.keeps.made) c.args.ch q f.at.less f.at.read in
    rw (c.from-index.ensures, started.is, c.start.ensures.image)
    (holds_started at t started.ranges (rw (← c.self.view_is) at c.requires) f.issued none pages started.has)

pub returns-clause-answer : goal.returns-clause-answer
returns-clause-answer c =
    let p = parts_of c.self.inside in
    let t = c.in-Some.transfer.now in
    let front = front_with_cookie_law (state_in p c.args.ch) (rw (c.from-index.ensures, ← c.self.view_is) at c.in-Some.ensures) in
    let none = named_none (first_conflicting (view_of p) t) (rw (← c.self.view_is) at c.in_default-first_conflict.ensures) in
    let f = found (goal.at.returns-clause-answer c).After-deref in
    let started = now_started c.index_mut-queue.result.now c.start.new.self t (rw f.is at (c.in_ok-start.ensures.started)) in
    rw (← c.self.view_is, c.from-index.ensures, started.is)
    (start_answers f.at c.in-Some.cookie t started.ranges (rw (← c.self.view_is) at c.requires) front.0 none front.1)

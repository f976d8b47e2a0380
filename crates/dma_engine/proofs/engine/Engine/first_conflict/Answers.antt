use Rattle.std.proofs.Common.{rules, ◌≡◌, ◌<◌, ◌+◌, ap, sym, ◌∙◌, subst, arith, length, Option}
use Rattle.dma_engine.specs.View.{object_of, channels, runs, state_at}
use Rattle.dma_engine.specs.{declared.access.Ranges.Ranges, inner.Inside.parts_of, Object.finished, inner.Holds.state_in}
use Rattle.dma_engine.specs.{inner.Ranges.AreOfRunning, inner.Accesses.named, inner.Accesses.conflicts}
use Rattle.dma_engine.proofs.Conflicts.{nothing_there, passed_over, way_here}
use Rattle.dma_engine.proofs.{Boards.queue_small, Queues.holds_at, Queues.many_queues, Sizes.few_queues, WhatRuns.find_all, WhatRuns.find_none_more}
use Rattle.dma_engine.proofs.{engine.Engine.first_conflict.Goals.in-Some+else-conflicts_with, engine.Engine.first_conflict.Goals.in_default, Queues.seen}
use Rattle.dma_engine.proofs.Queues.{HoldsAt}
use Rattle.dma_engine.proofs.engine.Engine.first_conflict.Goals.{After-index-queue}
use Rattle.dma_engine.proofs.engine.Engine.first_conflict.Goals as goal

pub overflow_cast-result : goal.overflow_cast-result
overflow_cast-result c =
    let few = few_queues (parts_of c.self.inside) c.self.invariant in
    omega (arith, few, c.loop-index-test.true, c.len-index-end.ensures, c.self.inside.queues.ok.0)

-- the queue that is read
read : (c : After-index-queue) → HoldsAt (parts_of c.self.inside) c.loop-index.index c.index-queue.result.now
read c =
    holds_at (parts_of c.self.inside) c.self.invariant c.loop-index.index c.index-queue.result.now
    (omega (arith, c.loop-index-test.true, c.len-index-end.ensures, c.self.inside.queues.ok.0)) c.index-queue.ensures

-- the ranges that it keeps are of what runs in the view
kept : (c : After-index-queue) → let v = c.args.self.now.view in AreOfRunning c.index-queue.result.now.ranges (runs (object_of v) v.schedule c.loop-index.index)
kept c = grind arith

pub finished-cookie-requires : goal.finished-cookie-requires
finished-cookie-requires c = omega (arith, queue_small (read (goal.at.finished-cookie-requires c).After-index-queue))

pub overflow_add-cookie : goal.overflow_add-cookie
overflow_add-cookie c = omega (arith, queue_small (read (goal.at.overflow_add-cookie c).After-index-queue), c.finished-cookie.ensures)

pub returns-then-conflicts_with : goal.returns-then-conflicts_with
returns-then-conflicts_with c =
    let p = parts_of c.self.inside in
    let v = c.args.self.now.view in
    let i = c.loop-index.index in
    let here = (goal.at.returns-then-conflicts_with c).After-index-queue in
    let at = read here in
    let less : i < length (object_of v).channels = omega (arith, at.there, ap channels (seen c.self.view_is)) in
    let done : c.finished-cookie.result ≡ finished (state_in p i) = omega (arith, c.finished-cookie.ensures, at.tied.forgotten, ap length at.tied.outcomes) in
    let number : c.finished-cookie.result + 1 ≡ finished (state_at v i) + 1 = grind (arith) in
    let there = subst (λ (o : Option Ranges). AreOfRunning o (runs (object_of v) v.schedule i)) (sym c.in-Some.ensures) (kept here) in
    search (
      rules,
      way_here (conflicts c.args.access.now) (object_of v) v.schedule i (c.finished-cookie.result + 1) c.in-Some.ranges.now less
          c.loop-index.invariant there number c.if-conflicts_with.ensures,
    )

pub loop-index-preserved : goal.loop-index-preserved
loop-index-preserved c =
    let v = c.args.self.now.view in
    let test = conflicts c.args.access.now in
    let i = c.loop-index.index in
    let x = runs (object_of v) v.schedule i in
    let kept = kept (goal.at.loop-index-preserved c).After-index-queue in
    find_none_more (λ r. test r.transfer) (object_of v) v.schedule i c.loop-index.invariant
    (elim c.match-ranges.branch [
      | in-Some+else-conflicts_with w ↦
          passed_over test x w.in-Some.ranges.now (subst (λ (o : Option Ranges). AreOfRunning o x) (sym w.in-Some.ensures) kept) w.if-conflicts_with.ensures
      | in_default w ↦ nothing_there test x (subst (λ (o : Option Ranges). AreOfRunning o x) (sym w.in_default.ensures) kept)
    ])

pub returns : goal.returns
returns c =
    let v = c.args.self.now.view in
    let test = conflicts c.args.access.now in
    let many = many_queues (parts_of c.self.inside) c.self.invariant ∙ ap channels (seen c.self.view_is) in
    let all : length (object_of v).channels ≡ c.loop-index.index = grind (arith) in
    sym (ap named (find_all (λ r. test r.transfer) (object_of v) v.schedule c.loop-index.index all c.loop-index.invariant))

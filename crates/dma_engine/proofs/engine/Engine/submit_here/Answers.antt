use Rattle.std.proofs.Common.{◌≡◌, ◌∙◌, ◌+◌, ℕ, List, ap, length, arith, refl, None}
use Rattle.dma_mem.specs.{Places.Descriptor, declared.call.Call.TheVariants.Submit}
use Rattle.dma_engine.specs.{Answer.CallAnswers, Turn.with_entry, Object.used, View.View, View.state_at}
use Rattle.dma_engine.specs.declared.{call.Reply.TheVariants.Cookie, call.Reply.TheVariants.Refused, fault.EngineFault.TheVariants.NoMemory}
use Rattle.dma_engine.specs.declared.{fault.EngineFault.EngineFault, fault.SubmitFault.SubmitFault, entry.Entry.Entry, queue.Queue.Queue}
use Rattle.dma_engine.specs.{declared.entry.Entry.TheVariants.Submitted, Answer.submit_fault, inner.Holds.queue_submitted, inner.Holds.view_of}
use Rattle.dma_engine.specs.{inner.Inside.parts_of, View.channels}
use Rattle.dma_engine.proofs.CallCases.{checked_cookie, checked_none, starved, submit_done, submit_open}
use Rattle.dma_engine.proofs.Queues.{HoldsAt, holds_at, many_queues, queue_back, seen}
use Rattle.dma_engine.proofs.{QueueCalls.holds_submitted, QueueCalls.view_entered, engine.Engine.submit_here.Goals.After-index_mut-queue}
use Rattle.dma_engine.proofs.engine.Engine.submit_here.Goals as goal

-- the queue that is read, and what the check says of its channel
read : (c : After-index_mut-queue) → HoldsAt (parts_of c.self.inside) c.from.result c.index_mut-queue.result.now
read c =
    let p = parts_of c.self.inside in
    let none : submit_fault (view_of p) c.from.result c.args.transfer ≡ None = grind (arith, checked_none) in
    holds_at p c.self.invariant c.from.result c.index_mut-queue.result.now
    (omega (arith, many_queues p c.self.invariant, (submit_open (view_of p) c.from.result c.args.transfer none).0)) c.index_mut-queue.ensures.value

pub invariant_of-self-2 : goal.invariant_of-self-2
invariant_of-self-2 c =
    let p = parts_of c.self.inside in
    let checked = rw (← c.self.view_is, ← c.from.ensures) at c.requires.checked in
    let at = read (goal.at.invariant_of-self-2 c).After-index_mut-queue in
    let index : c.len-index.result ≡ length p.history = omega (arith, c.len-index.ensures, c.reserve.new.self.ok.0, ap length c.reserve.ensures.items) in
    rw (c.push_reserved.ensures.items, c.in-Ok-submit.ensures.submitted, index, c.reserve.ensures.items, checked_cookie _ _ _ checked, ← c.from.ensures)
    (holds_submitted at c.submit.new.self.indices.spare c.args.transfer c.requires.rules (checked_none _ _ _ checked))

pub returns-clause-answer : goal.returns-clause-answer
returns-clause-answer c =
    let p = parts_of c.self.inside in
    let i = c.from.result in
    let t = c.args.transfer in
    let checked = rw (← c.self.view_is, ← c.from.ensures) at c.requires.checked in
    let at = read (goal.at.returns-clause-answer c).After-index_mut-queue in
    let queue = queue_submitted c.index_mut-queue.result.now c.submit.new.self.indices.spare c.len-index.result c.args.cookie in
    rw (← c.self.view_is, c.push_reserved.ensures.items, c.in-Ok-submit.ensures.submitted, c.reserve.ensures.items, ← c.from.ensures)
    (submit_done (view_of p) _ i c.args.cookie t (checked_none _ _ _ checked) (checked_cookie _ _ _ checked)
    (view_entered at queue p.memory p.events (Submitted i t c.args.cookie) refl))

pub index_mut-queue-requires : goal.index_mut-queue-requires
index_mut-queue-requires c =
    let p = parts_of c.self.inside in
    let v = c.args.self.now.view in
    let is : view_of p ≡ v = seen c.self.view_is in
    let free = submit_open v c.args.ch c.args.transfer (checked_none (submit_fault v c.args.ch c.args.transfer) _ c.args.cookie c.requires.checked) in
    omega (arith, many_queues p c.self.invariant, ap channels is, free.0, c.from.ensures, c.self.inside.queues.ok.0)

-- a submit that nothing refuses is out of memory
out : (v w : View) (ch : ℕ) (t : Descriptor) (fault : EngineFault) → submit_fault v ch t ≡ None → fault ≡ NoMemory → w ≡ v
    → CallAnswers v (Submit ch t) (Refused fault) w
out v w ch t fault none is back =
    let e = Submitted ch t (used (state_at v ch) + 1) in
    rw (is, back) (starved v (Submit ch t) (Cookie (used (state_at v ch) + 1)) (with_entry v e) e (rw none refl) refl)

pub returns-in_default-clause-answer : goal.returns-in_default-clause-answer
returns-in_default-clause-answer c =
    let p = parts_of c.self.inside in
    out c.args.self.now.view _ c.args.ch c.args.transfer _ (checked_none _ _ _ c.requires.checked)
    (ap (λ (r : SubmitFault). r.fault) c.no_memory.ensures)
    (ap (λ (h : List Entry). view_of (record p { history = h })) c.reserve.ensures.items ∙ seen c.self.view_is)

pub returns-in_default-submit-clause-answer : goal.returns-in_default-submit-clause-answer
returns-in_default-submit-clause-answer c =
    let p = parts_of c.self.inside in
    let queues = queue_back p.queues c.from.result c.in_default-submit.ensures.refused c.index_mut-queue.ensures.value in
    out c.args.self.now.view _ c.args.ch c.args.transfer _ (checked_none _ _ _ c.requires.checked)
    (ap (λ (r : SubmitFault). r.fault) c.no_memory-in_default-submit.ensures)
    (ap (λ (q : List Queue). view_of (record p { queues = q; history = c.reserve.new.self.items })) queues
    ∙ ap (λ (h : List Entry). view_of (record p { history = h })) c.reserve.ensures.items ∙ seen c.self.view_is)

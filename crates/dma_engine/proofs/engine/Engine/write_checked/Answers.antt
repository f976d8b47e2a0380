use Rattle.std.proofs.Common.{arith}
use Rattle.std.proofs.Common.{◌≡◌, length, None}
use Rattle.dma_engine.specs.{Answer.write_fault, inner.Holds.view_of, inner.Inside.parts_of}
use Rattle.dma_engine.proofs.{CallCases.write_done, CallCases.write_starved, Changes.holds_pages, Entries.holds_wrote, Queues.seen}
use Rattle.dma_engine.proofs.engine.Engine.write_checked.Goals as goal

pub returns-in_err-reserve-clause-answer : goal.returns-in_err-reserve-clause-answer
returns-in_err-reserve-clause-answer c = grind (arith, write_starved, seen)

pub returns-in_default-clause-answer : goal.returns-in_default-clause-answer
returns-in_default-clause-answer c = grind (arith, write_starved, seen)

pub invariant_of-self-2 : goal.invariant_of-self-2
invariant_of-self-2 c =
    let p = parts_of c.self.inside in
    let is : view_of p ≡ c.args.self.now.view = seen c.self.view_is in
    let free : write_fault (view_of p) c.args.addr (length c.args.bytes) ≡ None = grind (arith) in
    let paged = record p { made = c.write.new.self.made } in
    let holds = holds_pages p c.write.new.self.made c.self.invariant c.write.ensures.keeps.made in
    rw (c.push_reserved.ensures.items, c.reserve.ensures.items, c.in-Ok.ensures.ok, c.as_slice.ensures) (holds_wrote paged c.args.addr c.args.bytes holds free)

pub returns-clause-answer : goal.returns-clause-answer
returns-clause-answer c = grind (arith, seen, write_done)

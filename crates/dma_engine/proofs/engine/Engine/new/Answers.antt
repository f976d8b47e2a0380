use Rattle.std.proofs.Common.{arith}
use Rattle.dma_engine.proofs.Opening.{holds_new, made_from, new_view_law}
use Rattle.dma_engine.proofs.engine.Engine.new.Goals as goal

pub invariant_of-result : goal.invariant_of-result
invariant_of-result c =
    let made = made_from c.args.size c.args.channels c.if-channels-eq0.false (omega (arith, c.if-channels-gt-MAX_CHANNELS.false)) c.in-Ok.ensures.size in
    rw (c.in-Ok.ensures.image, c.new-2.ensures, c.new-3.ensures, c.new-4.ensures.items, c.in_ok-queues.ensures, c.in_ok-base.ensures)
    (holds_new c.args.size c.in-Ok.memory.made c.args.channels made)

pub returns-clause-ok : goal.returns-clause-ok
returns-clause-ok c = rw (c.new-4.ensures.items, c.in_ok-queues.ensures, c.in_ok-base.ensures) (new_view_law c.args.size c.in-Ok.memory.made c.args.channels)

use Rattle.std.proofs.Common.{◌<◌, arith}
use Rattle.dma_engine.specs.{inner.Holds.view_of, inner.Inside.parts_of, View.channels, inner.Holds.object_in}
use Rattle.dma_engine.proofs.{Queues.many_queues, Checkpoint.none_taken}
use Rattle.dma_engine.proofs.engine.Engine.next_channels.Goals as goal

pub next_channel-requires-clause-rests : goal.next_channel-requires-clause-rests
next_channel-requires-clause-rests c =
    let p = parts_of c.self.inside in
    let i = c.loop-index.index in
    let none = rw (← c.self.view_is) at c.requires in
    let less : i < channels (view_of p) =
    omega (arith, c.loop-index-test.true, c.len-index-end.ensures, many_queues p c.self.invariant, c.self.inside.queues.ok.0) in
    rw (← c.self.view_is) (none_taken (object_in p) (view_of p).schedule i c.self.invariant.sound.fits none less)

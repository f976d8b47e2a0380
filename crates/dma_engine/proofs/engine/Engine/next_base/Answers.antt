use Rattle.std.proofs.Common.{ap}
use Rattle.dma_engine.specs.{inner.Inside.parts_of, Object.base_from, View.EngineState, View.object_of, inner.Holds.object_in}
use Rattle.dma_engine.proofs.Checkpoint.{image_now}
use Rattle.dma_engine.proofs.engine.Engine.next_base.Goals as goal

pub returns : goal.returns
returns c =
    let p = parts_of c.self.inside in
    let o = object_in p in
    let none = rw (← c.self.view_is) at c.requires in
    let channels = rw (← c.self.view_is) at c.in_ok-channels.ensures in
    rw (
      c.in_ok-image.ensures,
      c.in_ok-marks.ensures,
      c.copy.ensures,
      channels,
      image_now p c.self.invariant none,
      c.self.invariant.events,
      c.self.invariant.marks,
    )
    (ap (λ (w : EngineState). base_from (object_of w.view)) c.self.view_is)

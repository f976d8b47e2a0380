use Rattle.std.proofs.Common.{ap}
use Rattle.std.specs.Prelude.{is_some}
use Rattle.dma_engine.specs.View.{channels}
use Rattle.dma_why.specs.Waits.{waits_of}
use Rattle.dma_why.proofs.{CircleLemmas.circle_found, CircleLemmas.circle_is, ViewWaits.waits_below}
use Rattle.dma_why.proofs.laws.circles_are_named.Goals as goal

pub returns : goal.returns
returns c = record {
  only = λ v first circle named. circle_is (waits_of v) (channels v) first circle named;
  all = λ v first circle is.
      let f = circle_found (waits_of v) (channels v) first circle (waits_below v) is in (f.0, ap is_some f.1.1);
}

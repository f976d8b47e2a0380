use Rattle.std.proofs.Common.{◌≡◌, refl}
use Rattle.std.proofs.lemmas.List.Elements.{All-push}
use Rattle.dma_mem.specs.declared.regions.Region.{Region}
use Rattle.dma_trace.proofs.Regions.{back_zeros, front_zeros, one_more}
use Rattle.dma_trace.proofs.ram.regions_over.Goals as goal

pub loop-range-preserved : goal.loop-range-preserved
loop-range-preserved c =
    let ranges = c.args.ranges.now in
    let k = c.loop-range.range-index in
    let front = front_zeros ranges k _ _ c.loop-range-test.true c.loop-range.invariant.rest c.split_at_mut-front.ensures.front in
    record {
      made = rw c.in_ok-push.ensures.items (one_more ranges k c.loop-range.regions.items _ c.loop-range-test.true c.loop-range.invariant.made refl front);
      writable = rw c.in_ok-push.ensures.items (All-push (λ (r : Region). r.read_only ≡ 0) c.loop-range.regions.items _ c.loop-range.invariant.writable refl);
      rest = back_zeros ranges k _ _ c.loop-range-test.true c.loop-range.invariant.rest c.split_at_mut-front.ensures.back;
    }

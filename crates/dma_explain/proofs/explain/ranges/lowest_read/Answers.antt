use Rattle.std.proofs.Common.{arith, refl}
use Rattle.dma_mem.specs.Places.{places}
use Rattle.dma_explain.proofs.LowestPlaces.{all_read, more_read, none_read}
use Rattle.dma_explain.proofs.explain.ranges.lowest_read.Goals as goal

pub loop-item-init : goal.loop-item-init
loop-item-init c = none_read c.args.items.now (places c.args.ranges.now)

pub loop-item-preserved : goal.loop-item-preserved
loop-item-preserved c =
    let now = c.loop-item in
    more_read c.args.items.now (places c.args.ranges.now) now.item-index now.lowest c.first_read.result c.min-lowest.result _ refl now.invariant
    c.first_read.ensures.least c.first_read.ensures.found c.min-lowest.ensures

pub returns : goal.returns
returns c =
    let now = c.loop-item in
    all_read c.args.items.now (places c.args.ranges.now) now.item-index now.lowest c.requires.items (omega arith) now.invariant.fits c.requires.some
    now.invariant

use Rattle.dma_chan.specs.LentRegions.{with_gaps_of}
use Rattle.dma_trace.specs.inner.Running.{machine_over}
use Rattle.dma_trace.proofs.Steps.{one_step, some_last}
use Rattle.dma_trace.proofs.trace.step.Goals as goal

pub unwrap-requires : goal.unwrap-requires
unwrap-requires c =
    let taken = c.step_regions-taken in
    some_last (with_gaps_of c.args.regions.now c.args.marks.now) (machine_over c.args.channel.now c.args.regions.now c.args.events.now) taken.result.count
    taken.result.last (machine_over taken.new.channel taken.new.regions taken.new.events) taken.ensures.steps c.requires.count

pub returns : goal.returns
returns c =
    let taken = c.step_regions-taken in
    let one = one_step (with_gaps_of c.args.regions.now c.args.marks.now) (machine_over c.args.channel.now c.args.regions.now c.args.events.now)
    taken.result.count taken.result.last c.unwrap.result (machine_over taken.new.channel taken.new.regions taken.new.events) taken.ensures.steps
    c.unwrap.ensures in
    record { turn = one.0; after = one.1; places = taken.ensures.places; read_only = taken.ensures.read_only }

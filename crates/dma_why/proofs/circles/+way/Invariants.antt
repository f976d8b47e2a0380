use Rattle.std.proofs.Common.{◌-◌}
use Rattle.dma_why.proofs.circles.+way.Given as goal

abbrev pub decreases-way : goal.decreases-way
decreases-way l = l.channels - l.low

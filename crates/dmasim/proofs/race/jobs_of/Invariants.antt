-- The jobs of the lines so far.
use Rattle.std.proofs.Common.{take}
use Rattle.dmasim.specs.inner.RaceSteps.{AreJobs}
use Rattle.dmasim.proofs.race.jobs_of.Given as goal

abbrev pub invariant-loop-line : goal.invariant-loop-line
invariant-loop-line l = AreJobs (take l.line-index l.lines) l.jobs.items

use Rattle.std.specs.Prelude.{[]}
use Rattle.dma_tests.proofs.workers.worked.Given as goal

abbrev pub ghosts-shared_by : goal.ghosts-shared_by
ghosts-shared_by g a = record { base = a.parts.base; log = a.parts.log; opening = a.parts.engine.view; jobs = [] }

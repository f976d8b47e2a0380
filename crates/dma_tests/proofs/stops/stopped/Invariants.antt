use Rattle.std.specs.Prelude.{[]}
use Rattle.dma_tests.proofs.stops.stopped.Given as goal

abbrev pub ghosts-stopped_at_a_desk : goal.ghosts-stopped_at_a_desk
ghosts-stopped_at_a_desk g a = record { base = a.parts.base; log = a.parts.log; opening = a.parts.engine.view; jobs = [] }

use Rattle.std.specs.Prelude.{[]}
use Rattle.dma_tests.proofs.statuses.asked.Given as goal

abbrev pub ghosts-at_a_desk : goal.ghosts-at_a_desk
ghosts-at_a_desk g a = record { base = a.parts.base; log = a.parts.log; opening = a.parts.engine.view; jobs = [] }

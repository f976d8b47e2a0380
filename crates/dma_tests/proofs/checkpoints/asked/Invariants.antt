use Rattle.std.specs.Prelude.{[]}
use Rattle.dma_tests.proofs.checkpoints.asked.Given as goal

abbrev pub ghosts-asked_at_a_desk : goal.ghosts-asked_at_a_desk
ghosts-asked_at_a_desk g a = record { base = a.parts.base; log = a.parts.log; opening = a.parts.engine.view; jobs = [] }

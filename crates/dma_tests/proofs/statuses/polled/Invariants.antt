use Rattle.std.specs.Prelude.{[]}
use Rattle.dma_tests.proofs.statuses.polled.Given as goal

abbrev pub ghosts-polled_at_a_desk : goal.ghosts-polled_at_a_desk
ghosts-polled_at_a_desk g a = record { base = a.parts.base; log = a.parts.log; opening = a.parts.engine.view; jobs = [] }

use Rattle.std.specs.Prelude.{[]}
use Rattle.desk_bench.proofs.measure.Given as goal

abbrev pub ghosts-time_desk : goal.ghosts-time_desk
ghosts-time_desk g a = record { base = a.parts.base; log = a.parts.log; opening = a.parts.engine.view; jobs = [] }

-- The name of a desk over these parts.
use Rattle.std.specs.Prelude.{[]}
use Rattle.dmasim.proofs.race.run_race.Given as goal

abbrev pub ghosts-raced : goal.ghosts-raced
ghosts-raced g a = record { base = a.parts.base; log = a.parts.log; opening = a.parts.engine.view; jobs = [] }

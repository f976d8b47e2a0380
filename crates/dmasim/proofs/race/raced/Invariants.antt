-- The name of a desk that has a rota.
use Rattle.dmasim.proofs.race.raced.Given as goal

abbrev pub ghosts-go : goal.ghosts-go
ghosts-go g a = record { base = g.M.DeskName.base; log = g.M.DeskName.log; opening = a.desk.engine.view; jobs = a.rota }

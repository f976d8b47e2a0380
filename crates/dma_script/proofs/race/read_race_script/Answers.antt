use Rattle.std.proofs.Common.{rules, Ok}
use Rattle.dma_script.specs.Race.{IsRace, race_script_of}
use Rattle.dma_script.proofs.Within.{given_holds, race_script_within}
use Rattle.dma_script.proofs.race.read_race_script.Goals as goal

pub returns-clause-within : goal.returns-clause-within
returns-clause-within c = given_holds IsRace (Ok _) (race_script_of c.args.input.now) (search rules) (race_script_within c.args.input.now)

use Rattle.std.proofs.Common.{◌≡◌, Ok, subst, sym}
use Rattle.dma_io.specs.Command.{MayAnswer}
use Rattle.dma_script.specs.Race.{race_script_of}
use Rattle.dma_commands.specs.Raced.{race_prints_of}
use Rattle.dmasim.proofs.RaceLemmas.{race_refused}
use Rattle.dmasim.proofs.race.RaceCommand.answer.Goals as goal

pub returns-in-Ok : goal.returns-in-Ok
returns-in-Ok g c =
    let is : race_script_of c.args.input.now ≡ Ok c.in-Ok.script = c.in-Ok.ensures.script in
    subst (λ read. MayAnswer (race_prints_of read) c.run_race.result c.args.out.now.items c.run_race.new.out.items) (sym is) c.run_race.ensures

pub returns-in-Err : goal.returns-in-Err
returns-in-Err g c =
    race_refused c.args.input.now c.in-Err.error c.refuse.result _ _ c.in-Err.ensures.script c.refuse.ensures.answer c.refuse.ensures.printed

-- A race as a run.
use Rattle.std.proofs.Common.{[], ◌∷◌, refl, ap}
use Rattle.dma_engine.specs.Turn.{turn}
use Rattle.dma_commands.specs.{Raced.RacesAreRuns, Run.line_answer}
use Rattle.dma_script.specs.declared.statements.Statement.TheVariants as statements

pub races_are_runs : RacesAreRuns
races_are_runs v [] after = refl
races_are_runs v (t ∷ turns) after =
    ap (λ l. (line_answer v (statements.Step t.channel 1)).0 ∷ l) (races_are_runs (turn v t.channel).1 turns after)

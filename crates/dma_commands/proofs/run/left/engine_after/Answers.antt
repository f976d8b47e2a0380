use Rattle.std.proofs.Common.{◌∙◌, ap}
use Rattle.dma_commands.specs.Left.{lines_left}
use Rattle.dma_commands.proofs.run.left.engine_after.Goals as goal

pub returns : goal.returns
returns c = c.in_ok-execute_all.ensures.ok.left ∙ ap (λ v. lines_left v c.args.script.statements) c.in_ok-engine.ensures

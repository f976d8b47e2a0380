use Rattle.std.proofs.lemmas.Result.{on_ok_weaker}
use Rattle.dma_commands.specs.Left.{view_after}
use Rattle.dma_why.specs.Why.{explanation}
use Rattle.dma_why.proofs.LineLemmas.{explained}
use Rattle.dma_why.proofs.why.push_why.Goals as goal

pub returns : goal.returns
returns c =
    on_ok_weaker c.push_explanation-pushed.result
    (λ done. explained explanation c.args.out.now.items c.push_explanation-pushed.new.out.items c.in_ok-engine.engine.view (view_after c.args.script)
    c.in_ok-engine.ensures done) c.push_explanation-pushed.ensures

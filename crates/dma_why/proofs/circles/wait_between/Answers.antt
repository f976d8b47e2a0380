use Rattle.std.proofs.Common.{◌∙◌, ◌==◌, ◌&&◌, rules, tests}
use Rattle.std.proofs.{lemmas.Iterator.YieldsList-from_slice, lemmas.Iterator.Search.find_from_yields_List}
use Rattle.dma_why.specs.declared.waits.Wait.{Wait}
use Rattle.dma_why.proofs.circles.wait_between.Goals as goal

pub returns : goal.returns
returns c =
    let test = λ (w : Wait). w.ch == c.args.from && w.by.ch == c.args.to in
    c.copied.ensures
    ∙ find_from_yields_List test _ _ c.find.result c.find.ensures.ran (YieldsList-from_slice c.args.waits.now cc) (λ x b q k. search (rules, tests))

use Rattle.std.proofs.Common.{◌≡◌, ◌+◌, ◌-◌, arith}
use Rattle.std.proofs.lemmas.Result.{on_ok_weaker}
use Rattle.dma_seeds.proofs.ExpectLemmas.{failing_printed}
use Rattle.dma_seeds.proofs.seeds.print_failing.Goals as goal

pub returns-clause-ok : goal.returns-clause-ok
returns-clause-ok c =
    let many = c.saturating_sub-many.result in
    let same : many ≡ c.args.seeds.last + 1 - c.args.seeds.first = omega arith in
    on_ok_weaker c.print_line.result (λ done. failing_printed c.args.failing many c.args.seeds _ _ c.if-failing-eq0.false same done) c.print_line.ensures.ok

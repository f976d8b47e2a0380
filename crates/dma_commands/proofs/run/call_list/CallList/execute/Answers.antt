use Rattle.std.proofs.Common.{◌<◌, ◌∙◌, ap, arith, length, subst}
use Rattle.dma_io.specs.Command.{AppendsGroups}
use Rattle.dma_commands.specs.Run.{lines_answered}
use Rattle.dma_commands.proofs.ListLemmas.{answers_length, stops_unprinted}
use Rattle.dma_commands.proofs.run.call_list.CallList.execute.Goals as goal

pub returns-in_default-clause-err : goal.returns-in_default-clause-err
returns-in_default-clause-err c =
    let v = c.args.engine.now.view in
    let out = c.args.out.now.items in
    let some : 0 < length c.self.inside.lines.items = grind arith in
    subst (λ l. AppendsGroups (lines_answered v l) out out) c.self.view_is
    (stops_unprinted v c.self.inside.lines.items c.self.inside.calls out c.self.invariant some)

pub print_replies-requires-clause-same : goal.print_replies-requires-clause-same
print_replies-requires-clause-same c =
    ap length c.deref-2.ensures.value ∙ answers_length _ _ _ _ c.in-Ok.ensures.answers

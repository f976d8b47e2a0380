use Rattle.std.proofs.Common.{◌∙◌, ◌∷◌, ◌++◌, [], ap, refl}
use Rattle.dma_script.specs.declared.statements.Statement.TheVariants as statements
use Rattle.dma_commands.specs.declared.run.call_list.Line.TheVariants as lines
use Rattle.dma_commands.proofs.ListLemmas.{added}
use Rattle.dma_commands.proofs.run.call_list.CallList.push.Goals as goal

pub invariant_of-self-2 : goal.invariant_of-self-2
invariant_of-self-2 c =
    let s = c.self.inside in
    rw (c.push_reserved.ensures.items, c.reserve.ensures.items, c.in_ok-push.ensures.ok)
    (added s.lines.items lines.Call s.calls (c.args.call ∷ []) c.self.invariant refl).0

pub returns : goal.returns
returns c =
    let s = c.self.inside in
    rw (c.push_reserved.ensures.items, c.reserve.ensures.items, c.in_ok-push.ensures.ok)
    ((added s.lines.items lines.Call s.calls (c.args.call ∷ []) c.self.invariant refl).1
    ∙ ap (λ before. before ++ statements.Call c.args.call ∷ []) c.self.view_is)

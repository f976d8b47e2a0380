use Rattle.std.proofs.Common.{◌∙◌, ◌∷◌, ◌++◌, [], ap}
use Rattle.std.specs.Prelude.{replicate}
use Rattle.dma_mem.specs.declared.call.Call.TheVariants.{Step}
use Rattle.dma_script.specs.declared.statements.Statement.TheVariants as statements
use Rattle.dma_commands.specs.declared.run.call_list.Line.TheVariants as lines
use Rattle.dma_commands.proofs.ListLemmas.{added, whole_steps}
use Rattle.dma_commands.proofs.run.call_list.CallList.push_steps.Goals as goal

pub invariant_of-self-2 : goal.invariant_of-self-2
invariant_of-self-2 c =
    let s = c.self.inside in
    let ch = c.args.ch in
    let count = c.args.count in
    rw (c.push_reserved.ensures.items, c.reserve.ensures.items, c.in_ok-push_steps.ensures.ok)
    (added s.lines.items (lines.Steps ch count) s.calls (replicate count (Step ch)) c.self.invariant (whole_steps ch count)).0

pub returns : goal.returns
returns c =
    let s = c.self.inside in
    let ch = c.args.ch in
    let count = c.args.count in
    rw (c.push_reserved.ensures.items, c.reserve.ensures.items, c.in_ok-push_steps.ensures.ok)
    ((added s.lines.items (lines.Steps ch count) s.calls (replicate count (Step ch)) c.self.invariant (whole_steps ch count)).1
    ∙ ap (λ before. before ++ statements.Step ch count ∷ []) c.self.view_is)

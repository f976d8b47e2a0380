use Rattle.std.proofs.Common.{◌≡◌, ◌∙◌, ◌∷◌, ◌++◌, [], ap, arith}
use Rattle.std.specs.Prelude.{replicate}
use Rattle.dma_mem.specs.declared.call.Call.TheVariants.{Step}
use Rattle.dma_script.specs.declared.statements.Statement.TheVariants as statements
use Rattle.dma_commands.specs.declared.run.call_list.Line.TheVariants as lines
use Rattle.dma_commands.proofs.ListLemmas.{added, whole_steps}
use Rattle.dma_commands.proofs.run.call_list.CallList.reuse_step.Goals as goal

pub invariant_of-self : goal.invariant_of-self
invariant_of-self c =
    let s = c.self.inside in
    let ch = c.args.ch in
    let one : c.args.count ≡ 1 = grind arith in
    rw (c.push_reserved.ensures.items, c.if-reuse_step.ensures.added, one)
    (added s.lines.items (lines.Steps ch 1) s.calls (replicate 1 (Step ch)) c.self.invariant (whole_steps ch 1)).0

pub returns-then-reuse_step-clause-added : goal.returns-then-reuse_step-clause-added
returns-then-reuse_step-clause-added c = λ _.
    let s = c.self.inside in
    let ch = c.args.ch in
    let one : c.args.count ≡ 1 = grind arith in
    rw (c.push_reserved.ensures.items, c.if-reuse_step.ensures.added, one)
    ((added s.lines.items (lines.Steps ch 1) s.calls (replicate 1 (Step ch)) c.self.invariant (whole_steps ch 1)).1
    ∙ ap (λ before. before ++ statements.Step ch 1 ∷ []) c.self.view_is)

use Rattle.std.proofs.Common.{refl}
use Rattle.dma_script.specs.declared.statements.Statement.TheVariants as statements
use Rattle.dma_commands.proofs.ListLemmas.{reaches_pushed}
use Rattle.dma_commands.proofs.run.call_list.CallList.take_steps.Goals as goal

pub returns-then-reuse_step-clause-ok : goal.returns-then-reuse_step-clause-ok
returns-then-reuse_step-clause-ok c = λ behind.
    reaches_pushed c.args.engine.now.view c.args.self.now c.reuse_step.new.self (statements.Step c.args.ch c.args.count) behind c.args.out.now.items
    (c.if-reuse_step.ensures.added refl)

use Rattle.std.proofs.Common.{refl, rules}
use Rattle.dma_explain.proofs.{Knowing.halts, Knowing.syncs_set, Knowing.syncs_use, TracerSteps.happen_advances}
use Rattle.dma_explain.proofs.explain.tracer.Tracer.happen.Goals as goal

pub returns-clause-ok : goal.returns-clause-ok
returns-clause-ok c =
    record {
      known = syncs_use c.args.next c.args.sync c.args.self.now c.requires.next;
      after = syncs_set c.args.next c.args.sync c.args.self.now.known c.requires.next;
      advances = happen_advances c.args.next c.args.sync c.args.self.now _ _ c.requires.tracer c.requires.next (search rules) (search rules);
    }

pub returns-then-is_err-clause-err : goal.returns-then-is_err-clause-err
returns-then-is_err-clause-err c =
    halts c.args.next c.args.self.now _ (syncs_use c.args.next c.args.sync c.args.self.now c.requires.next) (λ other. absurd (other refl))

use Rattle.dma_engine.proofs.laws.calls_add.Goals as goal
use Rattle.dma_engine.proofs.{AnswerCounts.ends_as_reported, AnswerCounts.quiet_calls_keep_counts, AnswerCounts.steps_add, CallLists.answers_extend}
use Rattle.dma_engine.proofs.{CallLists.chain_extends, Checkpoint.checkpoints_keep, CookieCounts.submits_add, CookieCounts.terminates_add, OutcomesStay.kept}

pub returns : goal.returns
returns c =
    record {
      extends = answers_extend;
      outcomes = λ v w calls replies none h. let e = chain_extends v w calls replies none h in (e, kept v w e);
      quiet = quiet_calls_keep_counts;
      checkpoint = checkpoints_keep;
      submit = submits_add;
      terminate = terminates_add;
      step = steps_add;
      ends = ends_as_reported;
    }

use Rattle.std.proofs.Common.{arith}
use Rattle.dma_engine.proofs.laws.answers_with_memory.Goals as goal
use Rattle.dma_engine.proofs.JoinedCalls.{answer_is_one, answer_unless_no_memory, answers_are_answers, answers_unless_no_memory}

pub returns : goal.returns
returns c = grind (arith, answer_is_one, answers_are_answers, answer_unless_no_memory, answers_unless_no_memory)

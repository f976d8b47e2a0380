use Rattle.dma_engine.proofs.laws.answers_add.Goals as goal
use Rattle.dma_engine.proofs.JoinedCalls.{answers_append, answers_one, answers_split}

pub returns : goal.returns
returns c = record { one = answers_one; append = answers_append; split = answers_split }

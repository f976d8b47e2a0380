use Rattle.dma_script.proofs.LineLemmas.{lines_at, lines_none}
use Rattle.dma_script.proofs.words.split_script_line.Goals as goal

pub returns-in-Some-clause-first : goal.returns-in-Some-clause-first
returns-in-Some-clause-first c = lines_at c.args.input.now c.without_return.result.now c.in-Some.end c.in-Some.ensures c.without_return.ensures

pub returns-in-None-clause-first : goal.returns-in-None-clause-first
returns-in-None-clause-first c = lines_none c.args.input.now c.requires c.in-None.ensures

use Rattle.dma_text.proofs.TextLines.{lines_at, lines_none}
use Rattle.dma_text.proofs.lines.split_line.Goals as goal

pub returns-in-Some-clause-first : goal.returns-in-Some-clause-first
returns-in-Some-clause-first c = lines_at c.args.text.now c.in-Some.end c.in-Some.ensures

pub returns-in-None-clause-first : goal.returns-in-None-clause-first
returns-in-None-clause-first c = lines_none c.args.text.now c.requires c.in-None.ensures

use Rattle.dma_script.proofs.WordLemmas.{found_blank, found_none}
use Rattle.dma_script.proofs.words.blank_from.Goals as goal

pub returns-in-Some : goal.returns-in-Some
returns-in-Some c = found_blank c.args.line.now c.args.start c.in-Some.more c.requires c.in-Some.ensures

pub returns-in-None : goal.returns-in-None
returns-in-None c = found_none c.args.line.now c.args.start c.requires c.in-None.ensures

-- No blank so far.
use Rattle.dma_script.specs.inner.Reading.{NoBlank}
use Rattle.dma_script.proofs.words.cut_word.Given as goal

abbrev pub invariant-loop-end : goal.invariant-loop-end
invariant-loop-end l = NoBlank l.line 0 l.end

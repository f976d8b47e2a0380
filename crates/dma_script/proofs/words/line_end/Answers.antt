use Rattle.std.proofs.Common.{arith, sym}
use Rattle.dma_script.proofs.LineLemmas.{first_at}
use Rattle.dma_script.proofs.words.line_end.Goals as goal

pub returns-then-input-end-eq10 : goal.returns-then-input-end-eq10
returns-then-input-end-eq10 c = sym (first_at 10 c.args.input.now c.loop-end.end (omega arith) c.if-input-end-eq10.true c.loop-end.invariant)

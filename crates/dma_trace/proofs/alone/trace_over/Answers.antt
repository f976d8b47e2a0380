use Rattle.std.proofs.Common.{arith}
use Rattle.dma_text.proofs.Begun.{begun}
use Rattle.dma_trace.proofs.alone.trace_over.Goals as goal

pub returns-clause-begins : goal.returns-clause-begins
returns-clause-begins g c = grind (arith, begun)

pub returns-clause-begins_err : goal.returns-clause-begins_err
returns-clause-begins_err g c = grind (arith, begun)

pub returns-clause-begins_wave : goal.returns-clause-begins_wave
returns-clause-begins_wave g c = grind (arith, begun)

pub returns-in_err-bytes-clause-begins : goal.returns-in_err-bytes-clause-begins
returns-in_err-bytes-clause-begins g c = grind (arith, begun)

pub returns-in_err-bytes-clause-begins_err : goal.returns-in_err-bytes-clause-begins_err
returns-in_err-bytes-clause-begins_err g c = grind (arith, begun)

pub returns-in_err-bytes-clause-begins_wave : goal.returns-in_err-bytes-clause-begins_wave
returns-in_err-bytes-clause-begins_wave g c = grind (arith, begun)

pub returns-in_err-regions-clause-begins : goal.returns-in_err-regions-clause-begins
returns-in_err-regions-clause-begins g c = grind (arith, begun)

pub returns-in_err-regions-clause-begins_err : goal.returns-in_err-regions-clause-begins_err
returns-in_err-regions-clause-begins_err g c = grind (arith, begun)

pub returns-in_err-regions-clause-begins_wave : goal.returns-in_err-regions-clause-begins_wave
returns-in_err-regions-clause-begins_wave g c = grind (arith, begun)

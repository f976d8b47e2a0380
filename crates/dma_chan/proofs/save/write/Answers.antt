use Rattle.std.proofs.Common.{arith}
use Rattle.dma_chan.specs.Saved.{sealed}
use Rattle.dma_chan.proofs.save.write.Goals as goal

pub returns-clause-bytes : goal.returns-clause-bytes
unfolding sealed
returns-clause-bytes c = grind arith

pub returns-clause-buffer_bytes : goal.returns-clause-buffer_bytes
returns-clause-buffer_bytes c = λ k. omega (arith, c.type_inv.buffer k)

pub returns-clause-program_bytes : goal.returns-clause-program_bytes
returns-clause-program_bytes c = λ k. omega (arith, c.type_inv.program k)

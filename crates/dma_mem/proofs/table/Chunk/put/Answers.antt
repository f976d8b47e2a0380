use Rattle.std.proofs.Common.{arith}
use Rattle.std.specs.{Vec.with_items}
use Rattle.dma_mem.specs.Image.{bytes_at}
use Rattle.dma_mem.proofs.BlankChunks.{HasPut, has_put, length_with_zeros}
use Rattle.dma_mem.proofs.table.Chunk.put.Goals as goal

-- the list after the call
written : (c : goal.After-self-1) → HasPut (with_items c.add_zeros.new.bytes c.put_bytes.new.all) c.args.self.now (bytes_at c.args.offset c.args.bytes.now)
written c = grind (arith, has_put)

pub put_bytes-requires : goal.put_bytes-requires
put_bytes-requires c = grind (arith, length_with_zeros)

pub invariant_of-self : goal.invariant_of-self
invariant_of-self c = let w = written c in (λ some. omega (arith, w.whole), omega (arith, w.whole), λ some. w.room)

pub returns-clause-whole : goal.returns-clause-whole
returns-clause-whole c = (written c).all

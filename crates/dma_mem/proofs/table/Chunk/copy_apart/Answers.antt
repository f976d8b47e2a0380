use Rattle.std.proofs.Common.{arith, drop, take}
use Rattle.std.specs.{Vec.with_items}
use Rattle.dma_mem.specs.Image.{bytes_at}
use Rattle.dma_mem.proofs.BlankChunks.{HasPut, has_put, length_with_zeros}
use Rattle.dma_mem.proofs.table.Chunk.copy_apart.Goals as goal

-- the list after the call
written : (c : goal.After-self-1)
    → HasPut (with_items c.add_zeros.new.bytes c.copy_bytes_apart.new.all) c.args.self.now
    (bytes_at c.args.to (take c.args.len (drop c.args.from c.deref_mut.result.now)))
written c = grind (arith, has_put)

pub copy_bytes_apart-requires-clause-source : goal.copy_bytes_apart-requires-clause-source
copy_bytes_apart-requires-clause-source c = grind (arith, length_with_zeros)

pub copy_bytes_apart-requires-clause-within : goal.copy_bytes_apart-requires-clause-within
copy_bytes_apart-requires-clause-within c = grind (arith, length_with_zeros)

pub invariant_of-self : goal.invariant_of-self
invariant_of-self c = let w = written c in (λ some. omega (arith, w.whole), omega (arith, w.whole), λ some. w.room)

pub returns-clause-whole : goal.returns-clause-whole
returns-clause-whole c = (written c).all

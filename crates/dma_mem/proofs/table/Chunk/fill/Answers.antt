use Rattle.std.proofs.Common.{◌≡◌, ◌∙◌, ap, arith, length, replicate, sym}
use Rattle.std.specs.{Prelude.vec_capacity, Vec.with_items}
use Rattle.dma_mem.specs.{Image.bytes_at, inner.ChunkTable.blank}
use Rattle.dma_mem.proofs.BlankChunks.{HasPut, has_put, length_with_zeros, filled_blank, length_blank, shown_blank}
use Rattle.dma_mem.proofs.table.Chunk.fill.Goals as goal

-- A fill with 0 leaves a blank chunk as it is.
is : (c : goal.Then-is_blank) → c.args.self.now ≡ blank
is c = sym c.self.view_is ∙ shown_blank (vec_capacity c.self.inside.bytes) c.self.inside.bytes.items (sym c.is_blank.ensures ∙ c.if-is_blank.true)

pub returns-then-is_blank-clause-whole : goal.returns-then-is_blank-clause-whole
returns-then-is_blank-clause-whole c = ap length (is c) ∙ length_blank

pub returns-then-is_blank-clause-bytes : goal.returns-then-is_blank-clause-bytes
returns-then-is_blank-clause-bytes c = grind (arith, is, filled_blank)

-- the list after the call
written : (c : goal.After-self-1)
    → HasPut (with_items c.add_zeros.new.bytes c.fill_bytes.new.all) c.args.self.now (bytes_at c.args.offset (replicate c.args.len c.args.byte))
written c = grind (arith, has_put)

pub fill_bytes-requires : goal.fill_bytes-requires
fill_bytes-requires c = grind (arith, length_with_zeros)

pub invariant_of-self : goal.invariant_of-self
invariant_of-self c = let w = written c in (λ some. omega (arith, w.whole), omega (arith, w.whole), λ some. w.room)

pub returns-clause-whole : goal.returns-clause-whole
returns-clause-whole c = (written c).all

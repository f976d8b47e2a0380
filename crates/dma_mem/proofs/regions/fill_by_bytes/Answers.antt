use Rattle.std.proofs.Common.{◌+◌, ◌∷◌, [], List, ℕ, replicate, arith, subst}
use Rattle.std.proofs.lemmas.List.{length-replicate, replicate-append-replicate}
use Rattle.dma_mem.specs.inner.Rewritten.{Rewritten}
use Rattle.dma_mem.proofs.PieceWrites.{rewritten_none, rewritten_more, writable_part, writable_after, writable_most}
use Rattle.dma_mem.proofs.regions.fill_by_bytes.Goals as goal

pub loop-i-init : goal.loop-i-init
loop-i-init c = rewritten_none c.args.regions.now c.args.addr

pub overflow_add-addr : goal.overflow_add-addr
overflow_add-addr c = omega (arith, writable_most c.args.regions.now c.args.addr c.args.len c.requires)

pub put_byte-requires : goal.put_byte-requires
put_byte-requires c =
    let old = c.args.regions.now in
    let now = c.loop-i.regions in
    let addr = c.args.addr in
    let len = c.args.len in
    writable_part now addr len (addr + c.loop-i.i) 1 (writable_after old now addr len addr (replicate c.loop-i.i c.args.byte) c.requires c.loop-i.invariant)
    (omega arith) (omega arith)

pub loop-i-preserved : goal.loop-i-preserved
loop-i-preserved c =
    let old = c.args.regions.now in
    let new = c.put_byte.new.regions in
    let addr = c.args.addr in
    let byte = c.args.byte in
    let i = c.loop-i.i in
    subst (λ (xs : List ℕ). Rewritten old new addr xs) (replicate-append-replicate i 1 byte)
    (rewritten_more old c.loop-i.regions new addr (addr + i) (replicate i byte) (byte ∷ []) c.loop-i.invariant c.put_byte.ensures
    (omega (arith, length-replicate i byte)))

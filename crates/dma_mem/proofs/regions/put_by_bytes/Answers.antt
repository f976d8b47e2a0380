use Rattle.std.proofs.Common.{◌+◌, ◌∷◌, [], List, ℕ, length, take, get_or, arith, subst, sym}
use Rattle.std.proofs.lemmas.List.{take_more, length-take-le}
use Rattle.dma_mem.specs.inner.Rewritten.{Rewritten}
use Rattle.dma_mem.proofs.PieceWrites.{rewritten_none, rewritten_more, writable_part, writable_after, writable_most}
use Rattle.dma_mem.proofs.regions.put_by_bytes.Goals as goal

pub loop-i-init : goal.loop-i-init
loop-i-init c = rewritten_none c.args.regions.now c.args.addr

pub overflow_cast-i : goal.overflow_cast-i
overflow_cast-i c = omega (arith, writable_most c.args.regions.now c.args.addr (length c.args.bytes.now) c.requires)

pub overflow_add-addr : goal.overflow_add-addr
overflow_add-addr c = omega (arith, writable_most c.args.regions.now c.args.addr (length c.args.bytes.now) c.requires)

pub put_byte-requires : goal.put_byte-requires
put_byte-requires c =
    let old = c.args.regions.now in
    let now = c.loop-i.regions in
    let addr = c.args.addr in
    let len = length c.args.bytes.now in
    writable_part now addr len (addr + c.loop-i.i) 1 (writable_after old now addr len addr (take c.loop-i.i c.args.bytes.now) c.requires c.loop-i.invariant)
    (omega arith) (omega arith)

pub loop-i-preserved : goal.loop-i-preserved
loop-i-preserved c =
    let old = c.args.regions.now in
    let new = c.put_byte.new.regions in
    let addr = c.args.addr in
    let bytes = c.args.bytes.now in
    let i = c.loop-i.i in
    let next = get_or bytes i 0 in
    let e = take_more bytes i 0 (omega arith) in
    subst (λ (xs : List ℕ). Rewritten old new addr xs) (sym e)
    (rewritten_more old c.loop-i.regions new addr (addr + i) (take i bytes) (next ∷ []) c.loop-i.invariant c.put_byte.ensures
    (omega (arith, length-take-le i bytes (omega arith))))

use Rattle.std.proofs.Common.{◌+◌, take, drop, arith}
use Rattle.std.proofs.{Math.Seq.take-add, lemmas.List.length-take-le, lemmas.List.length-drop, lemmas.List.drop-drop}
use Rattle.dma_mem.specs.{Regions.pieces_of, Regions.image_of}
use Rattle.dma_mem.proofs.PieceWrites.{rewritten_none, rewritten_more, rewritten_length, writable_part, writable_after}
use Rattle.dma_mem.proofs.{BlockCopies.read_outside}
use Rattle.dma_mem.proofs.regions.copies.copy_by_blocks.Goals as goal

pub loop-done-init : goal.loop-done-init
loop-done-init c = record { within = omega arith; copied = rewritten_none c.args.regions.now c.args.to }

pub copy_block-requires-clause-writable : goal.copy_block-requires-clause-writable
copy_block-requires-clause-writable c =
    let old = c.args.regions.now in
    let now = c.loop-done.regions in
    let to = c.args.to in
    let len = c.args.len in
    let before = take c.loop-done.done (drop c.args.from (image_of (pieces_of old))) in
    writable_part now to len (to + c.loop-done.done) c.min-count.result
    (writable_after old now to len to before c.requires.writable c.loop-done.invariant.copied) (omega arith) (omega (arith, c.min-count.ensures))

pub copy_block-requires-clause-source : goal.copy_block-requires-clause-source
copy_block-requires-clause-source c = grind (arith, rewritten_length)

pub loop-done-preserved : goal.loop-done-preserved
loop-done-preserved c = grind (arith, length-take-le, length-drop, read_outside, take-add, drop-drop, rewritten_more)

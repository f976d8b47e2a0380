use Rattle.std.proofs.Common.{ℕ, ◌+◌, ◌∙◌, ap, arith, get_or, length}
use Rattle.std.proofs.lemmas.List.{length-append, length-take}
use Rattle.dma_mem.proofs.ChunkImages.{bytes_more, part_from}
use Rattle.dma_mem.proofs.table.Table.to_vec.Goals as goal

pub loop-list-preserved : goal.loop-list-preserved
loop-list-preserved c = record {
  within = omega (arith, ap length c.in_ok-extend_from_slice.ensures.items, length-append {A = ℕ}, length-take {A = ℕ});
  filled =
      rw c.in_ok-extend_from_slice.ensures.items
      (bytes_more c.args.self.now c.args.start (c.args.start + c.len-in-loop-list.result) c.loop-list.list.items _ c.loop-list.invariant.filled (omega arith)
      (part_from c.args.self.now (c.args.start + c.len-in-loop-list.result) _ c.shown-chunk.result.now
      (λ k. c.shown-chunk.ensures.bytes k ∙ ap (λ x. get_or x k 0) c.chunk.ensures.bytes) (omega arith)));
}

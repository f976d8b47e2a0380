use Rattle.std.proofs.Common.{◌≡◌, ◌+◌, ◌-◌, ◌%◌, ◌≤◌, ◌++◌, ◌∙◌, List, ℕ, length, take, drop, take_all, ap, append_assoc, arith, get_or, subst, sym}
use Rattle.std.proofs.lemmas.List.{length-append, length-drop, length-take, take_at}
use borrow.Rule.Slice.PartMut.{put_mid, same_len_mid}
use Rattle.dma_mem.specs.inner.ChunkTable.{AreBytesFrom}
use Rattle.dma_mem.proofs.ChunkImages.{bytes_more, part_from}
use Rattle.dma_mem.proofs.table.Table.read.Goals as goal

-- the front of a list in which a part was replaced
replaced_front : (xs ys : List ℕ) (a k n : ℕ) → a ≤ length xs → a + length ys ≡ n → take n (put_mid a k xs ys) ≡ take a xs ++ ys
replaced_front xs ys a k n h e =
    ap (take n) (sym (append_assoc (take a xs) ys _)) ∙ take_at (take a xs ++ ys) _ n (omega (arith, length-append (take a xs) ys, length-take a xs))

pub loop-done-preserved : goal.loop-done-preserved
loop-done-preserved c =
    let chunks = c.args.self.now in
    let done = c.loop-done.done in
    let buf = c.loop-done.buf in
    let count = c.min-count.result in
    let new = c.copy_from_slice.new.self in
    let long : length new ≡ count = omega (arith, c.copy_from_slice.ensures.len, length-take {A = ℕ}, length-drop {A = ℕ}, c.min-count.ensures) in
    let offset = (c.args.start + done) % 16384 in
    let part : AreBytesFrom chunks (c.args.start + done) (take ((offset + count) - offset) (drop offset c.shown-chunk.result.now)) =
    part_from chunks (c.args.start + done) ((offset + count) - offset) c.shown-chunk.result.now
    (λ k. c.shown-chunk.ensures.bytes k ∙ ap (λ x. get_or x k 0) c.chunk.ensures.bytes) (omega (arith, c.min-count.ensures)) in
    let filled : AreBytesFrom chunks (c.args.start + done) new = subst (AreBytesFrom chunks (c.args.start + done)) (sym c.copy_from_slice.ensures.after) part in
    record {
      within = omega (arith, same_len_mid done _ buf new c.copy_from_slice.ensures.len, c.min-count.ensures);
      filled = rw (replaced_front buf new done ((done + count) - done) (done + count) c.loop-done.invariant.within (omega arith))
          (bytes_more chunks c.args.start (c.args.start + done) (take done buf) new c.loop-done.invariant.filled (omega (arith, length-take done buf)) filled);
    }

pub returns : goal.returns
returns c =
    subst (AreBytesFrom c.args.self.now c.args.start) (take_all c.loop-done.done c.loop-done.buf c.loop-done-test.false) c.loop-done.invariant.filled

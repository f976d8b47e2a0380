use Rattle.std.proofs.Common.{◌≡◌, ◌∙◌, ◌+◌, ◌-◌, ◌≤◌, ◌++◌, ℕ, List, ap, append_assoc, arith, drop, length, sym, take}
use Rattle.std.proofs.lemmas.List.{drop-drop, drop_at, length-take}
use borrow.Rule.Slice.PartMut.{put_mid}
use Rattle.dma_chan.specs.Saved.{saved}
use Rattle.dma_device.specs.Snapshot.{saved_thread, thread_bytes}
use Rattle.dma_device.proofs.SavedDevices.{put_tail, tail_is, thread_length}
use Rattle.dma_device.proofs.thread.Thread.save.Goals as goal

pub returns-clause-bytes : goal.returns-clause-bytes
unfolding saved_thread
returns-clause-bytes c =
    let t = c.args.self.now in
    let out = c.args.out.now in
    let len = c.in-Some.len in
    let new = c.save.new.out in
    let long : 20 ≤ length out = omega (arith, c.requires, thread_length t) in
    let head : c.copy_from_slice.new.self ≡ thread_bytes t len = c.copy_from_slice.ensures.after ∙ c.as_slice.ensures.value ∙ c.head_bytes-head.ensures.bytes in
    let tail : drop 20 (put_mid 20 (length out - 20) out new) ≡ saved t.channel ++ drop (20 + len) out =
    ap (drop 20) (put_tail 20 out new long) ∙ drop_at (take 20 out) new 20 (omega (arith, length-take 20 out))
    ∙ c.in-Some.ensures.bytes ∙ ap (λ (l : List ℕ). saved t.channel ++ drop len l) (tail_is 20 out)
    ∙ ap (λ (l : List ℕ). saved t.channel ++ l) (drop-drop len 20 out) in
    ap (λ (l : List ℕ). l ++ drop 20 (put_mid 20 (length out - 20) out new)) head
    ∙ ap (λ (l : List ℕ). thread_bytes t len ++ l) tail
    ∙ sym (append_assoc (thread_bytes t len) (saved t.channel) (drop (20 + len) out))
    ∙ ap (λ (n : ℕ). (thread_bytes t n ++ saved t.channel) ++ drop (20 + len) out) c.in-Some.ensures.len

pub unreachable-requires : goal.unreachable-requires
unreachable-requires c = grind (arith, thread_length)

pub returns-clause-len : goal.returns-clause-len
returns-clause-len c = omega (arith, c.in-Some.ensures.len, thread_length c.args.self.now)

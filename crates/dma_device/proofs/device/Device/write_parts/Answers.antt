use Rattle.std.proofs.Common.{◌≡◌, ◌∙◌, ◌+◌, ◌-◌, ◌≤◌, ◌++◌, ℕ, List, ap, append_assoc, arith, drop, length, sym, take}
use Rattle.std.proofs.{lemmas.Grind.common_steps, lemmas.List.drop-drop, lemmas.List.drop_at, lemmas.List.length-take}
use Rattle.std.specs.List.{flat_map}
use Rattle.dma_device.specs.Snapshot.{device_parts, head_bytes, head_of, saved_thread}
use Rattle.dma_device.specs.{Device.DeviceValue, declared.thread.Thread.Thread, inner.Fields.device_value}
use Rattle.dma_device.proofs.SavedDevices.{device_length, front_length, head_length, put_tail, tail_is}
use borrow.Rule.Slice.PartMut.{put_mid}
use Rattle.dma_device.proofs.device.Device.write_parts.Goals as goal

-- there is room for the head and the threads
room : (d e : DeviceValue) (ts : List Thread) (out : List ℕ) → d ≡ e → ts ≡ d.threads → length (device_parts e) ≤ length out
    → 40 + length (flat_map saved_thread ts) ≤ length out
room d e ts out is threads fits = grind (arith, common_steps, device_length)

pub save_threads-requires : goal.save_threads-requires
save_threads-requires c = grind (arith, room, tail_is, length-take)

pub slice_bounds-copy_from_slice-end-2 : goal.slice_bounds-copy_from_slice-end-2
slice_bounds-copy_from_slice-end-2 c = sym (front_length 40 c.args.out.now c.save_threads.new.out c.requires.head)

pub copy_from_slice-requires : goal.copy_from_slice-requires
copy_from_slice-requires c =
    front_length 40 c.args.out.now c.save_threads.new.out c.requires.head
    ∙ sym (ap length (c.as_slice.ensures.value ∙ c.bytes-head.ensures.bytes) ∙ head_length c.head.result)

pub returns : goal.returns
unfolding device_parts
returns c =
    let d = device_value c.self.inside in
    let out = c.args.out.now in
    let new = c.save_threads.new.out in
    let parts = flat_map saved_thread d.threads in
    let long : 40 ≤ length out = c.requires.head in
    let threads = c.deref.ensures.value in
    let head : c.copy_from_slice.new.self ≡ head_bytes (head_of d) = grind (arith) in
    let tail : drop 40 (put_mid 40 (length out - 40) out new) ≡ parts ++ drop (40 + length parts) out =
    ap (drop 40) (put_tail 40 out new long) ∙ drop_at (take 40 out) new 40 (omega (arith, length-take 40 out)) ∙ c.save_threads.ensures
    ∙ simp (threads, tail_is 40 out, drop-drop) in
    rw (← c.self.view_is, device_length d, head, tail) (sym (append_assoc (head_bytes (head_of d)) parts (drop (40 + length parts) out)))

use Rattle.std.proofs.Common.{◌≡◌, ◌∙◌, ◌+◌, ◌++◌, ap, drop, length, sym, take}
use Rattle.std.proofs.{lemmas.List.drop-drop, lemmas.List.drop_at, lemmas.List.take_at}
use Rattle.dma_device.specs.Snapshot.{device_parts, saved_device}
use Rattle.dma_device.proofs.device.Device.save.Goals as goal

pub returns-clause-bytes : goal.returns-clause-bytes
unfolding saved_device
returns-clause-bytes c =
    let out = c.args.out.now in
    let parts = device_parts c.args.self.now in
    let len = c.parts_len-len.result in
    let rest = drop (length parts) out in
    let is : c.write_parts.new.out ≡ parts ++ rest = c.write_parts.ensures in
    let front : take len c.write_parts.new.out ≡ parts = ap (take len) is ∙ take_at parts rest len (sym c.parts_len-len.ensures.len) in
    let behind : drop len c.write_parts.new.out ≡ rest = ap (drop len) is ∙ drop_at parts rest len (sym c.parts_len-len.ensures.len) in
    let tail : drop (len + 4) c.write_parts.new.out ≡ drop (len + 4) out =
    sym (drop-drop 4 len c.write_parts.new.out) ∙ ap (drop 4) behind ∙ drop-drop 4 (length parts) out ∙ simp c.parts_len-len.ensures.len in
    c.seal.ensures ∙ simp (front, tail)

use Rattle.std.proofs.Common.{◌∙◌, ◌+◌, ◌++◌, ℕ, List, ap, arith, drop, length, sym, take}
use Rattle.std.proofs.lemmas.List.{length-append, length-drop, take_all}
use Rattle.std.proofs.{lemmas.Grind.common_steps, lemmas.List.Folds.length-flat_map-take}
use Rattle.std.specs.List.{flat_map}
use Rattle.dma_device.specs.Snapshot.{saved_thread}
use Rattle.dma_device.proofs.SavedDevices.{one_more, tail_is, written_more}
use Rattle.dma_device.proofs.save.threads.save_threads.Goals as goal

pub slice_bounds-save-count : goal.slice_bounds-save-count
slice_bounds-save-count c = grind (arith, common_steps, length-flat_map-take)

pub save-at-requires : goal.save-at-requires
save-at-requires c = grind (arith, common_steps, length-drop, length-flat_map-take, tail_is)

pub loop-n-preserved : goal.loop-n-preserved
loop-n-preserved c =
    let ts = c.args.threads.now in
    let n = c.loop-n.n in
    let t = c.index-threads-n.result in
    let more = one_more saved_thread ts n t (omega arith) c.index-threads-n.is in
    let few = length-flat_map-take saved_thread ts n t (omega arith) in
    record {
      at = omega (arith, c.loop-n.invariant.at, c.save-at.ensures.len, ap length more, length-append (flat_map saved_thread (take n ts)) (saved_thread t));
      out = written_more c.loop-n.at c.save-at.result (flat_map saved_thread (take n ts)) (saved_thread t) c.loop-n.out c.args.out.now c.save-at.new.out
          (omega (arith, few, c.loop-n.invariant.at, c.requires, c.loop-n.auto.out)) c.loop-n.invariant.at c.loop-n.invariant.out c.save-at.ensures.bytes
          ∙ ap (λ (l : List ℕ). l ++ drop (c.loop-n.at + c.save-at.result) c.args.out.now) (sym more);
    }

pub returns : goal.returns
returns c = grind (arith, common_steps, take_all)

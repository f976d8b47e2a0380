use Rattle.std.proofs.Common.{◌≡◌, ◌∙◌, ℕ, ap, arith, get_or, inl, inr, length, subst, sym, take}
use Rattle.std.proofs.{lemmas.Bool.cases_lt, lemmas.List.length-append, lemmas.List.get_or_default}
use Rattle.std.specs.List.{flat_map}
use Rattle.dma_device.specs.Snapshot.{IsThreadValue, saved_thread}
use Rattle.dma_device.proofs.SavedDevices.{one_more}
use Rattle.dma_device.proofs.save.threads.threads_len.Goals as goal

pub loop-n-preserved : goal.loop-n-preserved
loop-n-preserved c =
    let ts = c.args.threads.now in
    let n = c.loop-n.n in
    let t = c.index-threads-n.result in
    let more = ap length (one_more saved_thread ts n t (omega arith) c.index-threads-n.is) in
    let sum = length-append (flat_map saved_thread (take n ts)) (saved_thread t) in
    record {
      len = omega (arith, c.loop-n.invariant.len, c.save_len-len.ensures.len, more, sum);
      limit = omega (arith, c.loop-n.invariant.limit, c.save_len-len.ensures.limit);
      values = λ k d below. elim (cases_lt k n) [
        | inl early ↦ c.loop-n.invariant.values k d early
        | inr last ↦
            let here : get_or ts k d ≡ t = ap (λ (i : ℕ). get_or ts i d) (omega arith) ∙ get_or_default ts n d t (omega arith) ∙ sym c.index-threads-n.is in
            subst (IsThreadValue c.args.events) (sym here) c.save_len-len.ensures.value
      ];
    }

pub returns-clause-values : goal.returns-clause-values
returns-clause-values c = λ k d less. c.loop-n.invariant.values k d (omega arith)

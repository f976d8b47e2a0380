use Rattle.std.proofs.Common.{◌∙◌, ◌++◌, ℕ, List, [], ◌∷◌, ap, arith}
use Rattle.std.proofs.lemmas.List.{replicate-append-replicate}
use Rattle.std.specs.Prelude.{replicate}
use Rattle.dma_device.specs.{Thread.reset_thread, declared.thread.Thread.Thread}
use Rattle.dma_device.proofs.device.new_threads.Goals as goal

pub loop-n-init : goal.loop-n-init
loop-n-init c = c.new-threads.ensures.items

pub loop-n-preserved : goal.loop-n-preserved
loop-n-preserved c =
    let new = reset_thread c.args.bus in
    c.in_ok-push.ensures.items ∙ ap (λ (t : Thread). c.loop-n.threads.items ++ t ∷ []) c.in_ok-thread.ensures
    ∙ ap (λ (ts : List Thread). ts ++ new ∷ []) c.loop-n.invariant ∙ replicate-append-replicate c.loop-n._n 1 new

pub returns : goal.returns
returns c = c.loop-n.invariant ∙ ap (λ (n : ℕ). replicate n (reset_thread c.args.bus)) (omega arith)

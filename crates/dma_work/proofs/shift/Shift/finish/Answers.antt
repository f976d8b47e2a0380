use Rattle.std.proofs.Common.{◌≡◌, ◌⊎◌, ◌∙◌, ◌+◌, ◌<◌, ℕ, inl, inr, true}
use borrow.Author.Count.{below_more}
use Rattle.dma_work.specs.Shift.{HasNoTurn, ShiftState}
use Rattle.dma_work.specs.inner.InTurn.{GoesOn}
use Rattle.dma_work.proofs.shift.Shift.finish.Goals as goal

one_more : (worker : ℕ) (a b : ShiftState) → (a.is_starved ≡ true) ⊎ ((k : ℕ) → k < worker → HasNoTurn k a.seats)
    → (b.is_starved ≡ true) ⊎ HasNoTurn worker b.seats → GoesOn a b → (b.is_starved ≡ true) ⊎ ((k : ℕ) → k < worker + 1 → HasNoTurn k b.seats)
one_more worker a b (inl starved) over on = inl (on.starved starved)
one_more worker a b (inr done) (inl starved) on = inl starved
one_more worker a b (inr done) (inr over) on = inr (below_more (λ k. HasNoTurn k b.seats) worker (λ k less. on.done k (done k less)) over)

pub loop-worker-preserved : goal.loop-worker-preserved
loop-worker-preserved g c =
    let e = c.finish_job.ensures in
    let i = c.loop-worker.invariant in record {
      done = one_more c.loop-worker.worker c.loop-worker.self c.finish_job.new.self i.done e.over e.goes_on;
      many = e.goes_on.many ∙ i.many;
    }

use Rattle.std.proofs.Common.{◌≡◌, ◌≢◌, ◌<◌, ℕ, length, arith, sym, subst}
use Rattle.std.specs.Prelude.{slice_index_or}
use Rattle.std.proofs.lemmas.List.{get_or-set_other}
use Rattle.dma_work.specs.{declared.job.Job.Job, declared.shared.Begun.Begun, inner.Begun.IsOf, Desk.TallyCounts, Tallies.TookTurns}
use Rattle.dma_work.proofs.ItemsOfLists.{pushed}
use Rattle.dma_work.proofs.shared.Crew.work_all.Goals as goal

pub loop-last-preserved : goal.loop-last-preserved
loop-last-preserved g c =
    let opening = g.N.DeskName.opening in
    let passes = g.G.Gate.passes in
    let jobs = c.args.jobs.now in
    let n = c.loop-last.last in
    let i = c.loop-last.invariant in
    let Q : ℕ → TallyCounts → Type 0 = λ k t. (j : Job) → TookTurns opening passes k (slice_index_or jobs k j) t in
    let less : n < length jobs = omega (arith, c.loop-last-test.true) in
    let q = c.index_mut-in-loop-last.result.now in
    let tally : Q n c.end.result = λ j.
    let job = slice_index_or jobs n j in
    c.end.ensures n job (subst (λ (b : Begun g.row.N.Denot g.row.G.Denot). IsOf opening passes b n job) (sym c.index_mut-in-loop-last.ensures.value)
    (i.owed n q j less (omega arith))) in
    let all : length c.loop-last.tallies.items ≡ n = omega (arith, i.ended, c.loop-last.tallies.ok.0) in
    record {
      count = i.count;
      ended = omega (arith, c.push_reserved-in-loop-last.ensures.len, i.ended);
      room = omega (arith, c.push_reserved-in-loop-last.ensures.capacity, i.room);
      owed = λ k b j l past.
          let apart : k ≢ n = omega (arith, past) in
          subst (λ (x : Begun g.row.N.Denot g.row.G.Denot). IsOf opening passes x k (slice_index_or jobs k j))
          (sym (get_or-set_other c.loop-last.begun.items n k c.end.new.self b apart)) (i.owed k b j l (omega (arith, past)));
      tallies = λ k t j l. rw c.push_reserved-in-loop-last.ensures.items
          (pushed c.loop-last.tallies.items c.end.result Q n all (λ k t l j. i.tallies k t j l) tally k t l j);
    }

pub returns-clause-each : goal.returns-clause-each
returns-clause-each g c =
    let all : c.loop-last.last ≡ length c.args.jobs.now = omega (arith, c.loop-last-test.false, c.loop-last.auto.last-end) in
    λ i t j l. c.loop-last.invariant.tallies i t j (omega (arith, l, all))

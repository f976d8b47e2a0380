use Rattle.std.proofs.Common.{◌≡◌, ◌<◌, ◌≤◌, ℕ, length}
use Rattle.std.specs.Prelude.{slice_index_or, vec_len, vec_capacity}
use Rattle.dma_work.specs.{declared.job.Job.Job, declared.shared.Begun.Begun, inner.Begun.IsBegun, inner.Begun.IsOf, Desk.TallyCounts, Tallies.TookTurns}
use Rattle.dma_work.proofs.shared.Crew.work_all.Given as goal

abbrev pub invariant-loop-start : goal.invariant-loop-start
invariant-loop-start g l = record {
  count : vec_len l.begun ≡ l.start;
  room : length l.jobs ≤ vec_capacity l.begun;
  begun : (k : ℕ) (b : Begun g.row.N.Denot g.row.G.Denot) (j : Job) → k < l.start
      → IsBegun g.N.DeskName.opening g.G.Gate.passes (slice_index_or l.begun.items k b) k (slice_index_or l.jobs k j);
}

abbrev pub invariant-loop-here : goal.invariant-loop-here
invariant-loop-here g l = record {
  count : vec_len l.begun ≡ length l.jobs;
  owed : (k : ℕ) (b : Begun g.row.N.Denot g.row.G.Denot) (j : Job) → k < l.here
      → IsOf g.N.DeskName.opening g.G.Gate.passes (slice_index_or l.begun.items k b) k (slice_index_or l.jobs k j);
  begun : (k : ℕ) (b : Begun g.row.N.Denot g.row.G.Denot) (j : Job) → k < length l.jobs → l.here ≤ k
      → IsBegun g.N.DeskName.opening g.G.Gate.passes (slice_index_or l.begun.items k b) k (slice_index_or l.jobs k j);
}

abbrev pub invariant-loop-last : goal.invariant-loop-last
invariant-loop-last g l = record {
  count : vec_len l.begun ≡ length l.jobs;
  ended : vec_len l.tallies ≡ l.last;
  room : length l.jobs ≤ vec_capacity l.tallies;
  owed : (k : ℕ) (b : Begun g.row.N.Denot g.row.G.Denot) (j : Job) → k < length l.jobs → l.last ≤ k
      → IsOf g.N.DeskName.opening g.G.Gate.passes (slice_index_or l.begun.items k b) k (slice_index_or l.jobs k j);
  tallies : (k : ℕ) (t : TallyCounts) (j : Job) → k < l.last
      → TookTurns g.N.DeskName.opening g.G.Gate.passes k (slice_index_or l.jobs k j) (slice_index_or l.tallies.items k t);
}

use Rattle.std.proofs.Common.{◌≡◌, ◌⊎◌, ℕ, ◌<◌, length, true}
use Rattle.dma_work.specs.Shift.{HasNoTurn}
use Rattle.dma_work.proofs.shift.Shift.finish.Given as goal

abbrev pub invariant-loop-worker : goal.invariant-loop-worker
invariant-loop-worker g l = record {
  done : (l.self.is_starved ≡ true) ⊎ ((worker : ℕ) → worker < l.worker → HasNoTurn worker l.self.seats);
  many : length l.self.seats ≡ length l.fn.self.seats;
}

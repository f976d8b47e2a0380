-- Jobs that were begun, and whose they are.
use Rattle.std.specs.Prelude.{◌≡◌, ℕ}
use Rattle.dma_engine.specs.View.{View}
use Rattle.dma_work.specs.declared.shared.Begun.TheVariants.{InThread, Here}
use Rattle.dma_work.specs.{declared.shared.Begun.Begun, declared.job.Job.Job, Tallies.TookTurns}

-- A job of this worker is in a thread or done.
abbrev pub IsOf : {N G : Type 0} → View → (ℕ → ℕ → Type 0) → Begun N G → ℕ → Job → Type 0
IsOf opening passes (InThread thread) worker job = (thread.promise.worker ≡ worker) × (thread.promise.job ≡ job)
IsOf opening passes (Here tally) worker job = TookTurns opening passes worker job tally

-- The job of this worker runs in a thread, or it got no thread.
abbrev pub IsBegun : {N G : Type 0} → View → (ℕ → ℕ → Type 0) → Begun N G → ℕ → Job → Type 0
IsBegun opening passes (InThread thread) worker job = IsOf opening passes (InThread thread) worker job
IsBegun opening passes (Here tally) worker job = Unit {0}

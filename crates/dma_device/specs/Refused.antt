-- A program that a DMAGO starts, and that `Device::explain` refuses for a fault, never gets beyond the instruction that
-- it names.
use Rattle.std.specs.Prelude.{◌≡◌, ◌≢◌, ℕ, ◌+◌, ◌*◌, ◌%◌, ◌^◌, ◌<◌, ◌≤◌, Some, IsTrue, slice_get}
use Rattle.dma_mem.specs.Regions.{in_order, pieces_of}
use Rattle.dma_chan.specs.{Channel.last_count, Exec.fault_bit, declared.turn.FaultKind.FaultKind}
use Rattle.dma_explain.specs.{Refusals.fault_of_cause, declared.explain.Unexplained.Unexplained}
use Rattle.dma_device.specs.Device.{DeviceValue, of_thread, program_at, read_at}
use Rattle.dma_device.specs.Dmago.{Go, GivenTurns, MayGo, csr_status, image_in, started_by}
use Rattle.dma_device.specs.{Copies.DeviceHasEvents, Explaining.FailsFor, Progress.vain, Turns.TakesTurn, declared.device.turns.Turn.Turn}
use Rattle.dma_device.specs.Offsets as offset
use Rattle.dma_device.specs.declared.device.explain.ExplainFault.TheVariants.{Unexplained as Refused}

-- A driver starts a program by a DMAGO, and `Device::explain` then refuses it for a fault, with a limit below 2^32.
-- Then a host gives the channel turns, each over regions that are in order. Before each turn anything may happen to the
-- memory, and to the device except to the channel's thread.
pub record RunsRefused (go : Go) (most : ℕ) (u : Unexplained) (kind : FaultKind) (run : GivenTurns) : Type 0 where
  pub may_go : MayGo go
  pub loads : program_at go.ram go.addr ≡ go.program
  pub limit : most ≤ last_count
  pub refused : FailsFor (started_by go) go.channel most (Refused u)
  pub fault : fault_of_cause u.cause ≡ Some kind
  pub begins : slice_get (run.before 0).threads go.channel ≡ slice_get (started_by go).threads go.channel
  pub takes : (k : ℕ) → k < run.count →
      (turn : Turn) × TakesTurn (run.before k) (run.lent k) go.channel (run.most k) (run.after k) (run.left k) turn
  pub order : (k : ℕ) → k < run.count → IsTrue (in_order (pieces_of (run.lent k)))
  pub goes_on : (k : ℕ) → k + 1 < run.count →
      slice_get (run.before (k + 1)).threads go.channel ≡ slice_get (run.after k).threads go.channel

-- how many instructions the channel has executed since the DMAGO; 0 if the device doesn't have the channel
abbrev pub executed : Go → DeviceValue → ℕ
executed go d = of_thread (λ t. t.channel.taken) (slice_get d.threads go.channel)

-- The channel failed at the refused instruction: CSR reads as faulting, FTR has the fault's bit, and CPC is the
-- instruction's address.
pub record FailsAt (go : Go) (u : Unexplained) (kind : FaultKind) (d : DeviceValue) : Type 0 where
  pub csr : csr_status d go.channel ≡ 15
  pub ftr : read_at d (offset.ftr + 4 * go.channel) ≡ 2 ^ fault_bit kind
  pub cpc : read_at d (offset.csr + 4 + 8 * go.channel) ≡ (go.addr + u.pc) % 2 ^ 32

-- What is true after turn number k. The channel has executed at most the instructions before the refused one, and
-- hasn't ended. If before the turn it had executed them all and wasn't faulting, and the turn may take a step, it fails
-- at the refused one, and no byte changes. If it is faulting and has executed them all, it failed at the refused one,
-- if the device had their events in each turn. While CSR doesn't read as faulting, at most u.steps of the turns so far
-- aren't vain (`is_vain`). So after u.steps + 1 turns that aren't vain CSR reads as faulting.
pub record NeverPasses (go : Go) (u : Unexplained) (kind : FaultKind) (run : GivenTurns) (k : ℕ) : Type 0 where
  pub within : executed go (run.after k) ≤ u.steps
  pub never_ends : csr_status (run.after k) go.channel ≢ 0
  pub fails : executed go (run.before k) ≡ u.steps → csr_status (run.before k) go.channel ≢ 15 → 1 ≤ run.most k →
      FailsAt go u kind (run.after k) × (image_in (run.left k) ≡ image_in (run.lent k))
  pub failed : ((j : ℕ) → j ≤ k → DeviceHasEvents (run.before j) go u.steps) →
      executed go (run.after k) ≡ u.steps → csr_status (run.after k) go.channel ≡ 15 → FailsAt go u kind (run.after k)
  pub fails_in_time : csr_status (run.after k) go.channel ≢ 15 → k + 1 ≤ u.steps + vain run (k + 1) go.channel

-- This is true after each turn.
abbrev pub RefusedFails : Type 0
RefusedFails =
    (go : Go) (most : ℕ) (u : Unexplained) (kind : FaultKind) (run : GivenTurns) →
    RunsRefused go most u kind run → (k : ℕ) → k < run.count → NeverPasses go u kind run k

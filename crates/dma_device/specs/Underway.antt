-- How far a channel's program has got, whenever a host looks: between turns, after a stop or a fault, or after a
-- migration.
use Rattle.std.specs.Prelude.{◌≡◌, ℕ, ◌+◌, ◌-◌, ◌<◌, Bool, true, false, List, Some, slice_get}
use Rattle.dma_mem.specs.{Marking.MarkList, declared.regions.Region.Region}
use Rattle.dma_chan.specs.Channel.{ChannelValue}
use Rattle.dma_explain.specs.Explains.{IsReached, IsWait, Work, amounts_of, traced}
use Rattle.dma_explain.specs.{Changes.HasFirst, Changes.bytes_in, declared.explain.Amounts.Amounts}
use Rattle.dma_device.specs.CallSteps.{InTurn, StepsThread, last_in, machine_after, marks_in, signal_in}
use Rattle.dma_device.specs.Dmago.{Go, GivenTurns, RunsCopy, image_in, start_of}
use Rattle.dma_device.specs.Thread.{is_faulting, killed, shown}
use Rattle.dma_device.specs.Turns.{Setup, TakesTurn, begins, steps_in}
use Rattle.dma_device.specs.{Device.DeviceValue, Faults.LastFails, Idle.IsSoundDevice, declared.device.turns.Turn.Turn}
use Rattle.dma_device.specs.{declared.thread.Status.TheVariants.WaitingForEvent, declared.thread.Thread.Thread}

-- ---- what is done

-- A channel has done a part of a work, from the memory `first`: its program has got there, with as many bytes as the
-- channel counts in `stored`. The first destinations, as many as are copied, have the bytes that the sources had, the
-- first zeros, as many as are cleared, are 0, and each other address that the work uses is as before.
pub record HasDone (go : Go) (w : Work) (n : ℕ) (first memory : List ℕ) (c : ChannelValue) : Type 0 where
  pub done : Amounts
  pub count : c.stored ≡ done.copied + done.cleared
  pub reached : IsReached (start_of go) go.program n done
  pub bytes : HasFirst w done (bytes_in first) (bytes_in memory)

-- After each turn the channel has done a part of the work from the memory at the first turn, whether it then executes,
-- waits, is faulting or has ended. (By `RunsCopy`, a device with the same thread may be restored between two turns.)
abbrev pub DmagoUnderway : Type 0
DmagoUnderway =
    (go : Go) (w : Work) (n : ℕ) (run : GivenTurns) → RunsCopy go w n run → (k : ℕ) (th : Thread) → k < run.count →
    slice_get (run.after k).threads go.channel ≡ Some th →
    HasDone go w n (image_in (run.lent 0)) (image_in (run.left k)) th.channel

-- What a program does before one of its DMAWFEs of an event is done, and no more.
pub record IsDoneToWait (go : Go) (w : Work) (n event : ℕ) (first memory : List ℕ) : Type 0 where
  pub wait : IsWait (start_of go) go.program n event
  pub bytes : let done = amounts_of (traced (start_of go) go.program wait.step) in
      HasFirst w done (bytes_in first) (bytes_in memory)

-- So it is after each turn after which the channel's status is that it waits for this event.
abbrev pub DmagoWaitsExactly : Type 0
DmagoWaitsExactly =
    (go : Go) (w : Work) (n : ℕ) (run : GivenTurns) (k event : ℕ) (th : Thread) → RunsCopy go w n run →
    k < run.count → IsSoundDevice (run.after k) → slice_get (run.after k).threads go.channel ≡ Some th →
    th.status ≡ WaitingForEvent event →
    IsDoneToWait go w n event (image_in (run.lent 0)) (image_in (run.left k))

-- ---- what a host sees after a turn

-- A channel has the registers and the counts of another.
pub record HasCountsOf (c other : ChannelValue) : Type 0 where
  pub registers : c.registers ≡ other.registers
  pub taken : c.taken ≡ other.taken
  pub stored : c.stored ≡ other.stored

-- A call of channel n fails, and the thread that it leaves shows the registers and counts from before the step that
-- failed: those after the steps before it, or those before the call if there is no step.
pub record FailsAt (marks : MarkList) (n : ℕ) (th : Thread) (made : Bool) (most : ℕ) (s : Setup) : Type 0 where
  pub executes : StepsThread made n s
  pub fails : let t = executes.thread in
      LastFails s.device.config.events (last_in marks most t s) (signal_in marks most t s)
  pub before : let t = executes.thread in
      HasCountsOf (shown th) (machine_after marks s t (steps_in marks most t s - 1)).channel

-- After a turn of a channel that runs, its thread shows the channel's registers and counts, if it isn't faulting; else
-- those from before the instruction that failed.
abbrev pub TurnShows : Type 0
TurnShows =
    (d e : DeviceValue) (regions left : List Region) (n most : ℕ) (turn : Turn) (th : Thread) →
    TakesTurn d regions n most e left turn → begins d n most ≡ true → slice_get e.threads n ≡ Some th →
    (is_faulting th ≡ false → shown th ≡ th.channel)
    × (is_faulting th ≡ true → InTurn (FailsAt (marks_in regions) n th) d regions n most)

-- ---- what is kept

-- A thread that is killed keeps its registers and counts, and shows the same, so they still say how far its program
-- got. What a thread shows has as many bytes stored as its channel.
pub record KilledKeepsCounts : Type 0 where
  pub kept : (t : Thread) → HasCountsOf (killed t).channel t.channel
  pub seen : (t : Thread) → HasCountsOf (shown (killed t)) (shown t)
  pub stored : (t : Thread) → (shown t).stored ≡ t.channel.stored

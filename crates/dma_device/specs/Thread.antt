-- A channel thread: its status and its fault, and what a call of its channel makes of them.
use Rattle.std.specs.Prelude.{◌≡◌, ℕ, ◌+◌, ◌-◌, ◌*◌, ◌%◌, ◌^◌, Bool, true, false, not, ◌&&◌, ◌||◌, ◌==◌, nat_lt, List, Option, Some, None, Result, Ok, is_some}
use Rattle.std.specs.Prelude.{if◌then◌else◌}
use Rattle.std.specs.Int.{bit_at}
use Rattle.dma_insn.specs.declared.chip.ChipInsn.TheVariants.{St, StoreZeros, Wfe}
use Rattle.dma_insn.specs.{declared.chip.ChipInsn.ChipInsn}
use Rattle.dma_chan.specs.Channel.{ChannelValue, ahead_of, cost_of_program, last_count, loaded_with, unloaded_on}
use Rattle.dma_chan.specs.declared.turn.ChanTurn.TheVariants.{Moved, Waiting, Ended, Fault}
use Rattle.dma_chan.specs.{declared.bus.BusWidth.BusWidth, declared.bus.Bus.TheVariants.Chip, Bus.fits, Exec.fault_bit, declared.turn.ChanTurn.ChanTurn}
use Rattle.dma_chan.specs.{declared.turn.FaultKind.FaultKind}
use Rattle.dma_device.specs.declared.thread.Status.TheVariants.{Stopped, Executing, WaitingForEvent, Faulting}
use Rattle.dma_device.specs.{declared.thread.Status.Status, declared.thread.Thread.Thread}

-- ---- faults (DMA-330 manual, fault type registers)

abbrev pub undef_instr : ℕ
undef_instr = 2 ^ 0

abbrev pub operand_invalid : ℕ
operand_invalid = 2 ^ 1

abbrev pub dmago_err : ℕ
dmago_err = 2 ^ 4

abbrev pub lockup_err : ℕ
lockup_err = 2 ^ 31

-- beside another bit: the instruction came from the debug registers
abbrev pub dbg_instr : ℕ
dbg_instr = 2 ^ 30

-- ---- a thread

-- bits 8:0 of CSR (DMA-330 manual, channel status registers): the status in bits 3:0, the awaited event in bits 8:4
abbrev pub status_bits : Status → ℕ
status_bits Stopped = 0
status_bits Executing = 1
status_bits (WaitingForEvent e) = 4 + e * 16
status_bits Faulting = 15

abbrev pub is_faulting_status : Status → Bool
is_faulting_status Faulting = true
is_faulting_status s = false

-- whether a thread is faulting
abbrev pub is_faulting : Thread → Bool
is_faulting t = is_faulting_status t.status

abbrev pub is_stopped_status : Status → Bool
is_stopped_status Stopped = true
is_stopped_status s = false

-- whether a thread is stopped
abbrev pub is_stopped : Thread → Bool
is_stopped t = is_stopped_status t.status

-- Whether a thread is executing or waiting: it has a program and isn't faulting.
abbrev pub runs : Thread → Bool
runs t = is_some t.channel.program && not (is_faulting t)

-- whether an instruction is a DMAWFE of this event
abbrev pub waits_for : ℕ → Result ChipInsn FaultKind → Bool
waits_for e (Ok (Wfe k invalid)) = k == e
waits_for e next = false

-- whether an instruction is a store: a DMAST, or a DMASTZ, which sets bytes to 0
abbrev pub is_store : Result ChipInsn FaultKind → Bool
is_store (Ok St) = true
is_store (Ok StoreZeros) = true
is_store next = false

-- whether a thread's next instruction is a DMAWFE of this event, CPC is its address, and the program may execute it
abbrev pub is_before_wait : ℕ → Thread → Bool
is_before_wait e t =
    waits_for e (ahead_of t.channel)
    && (nat_lt t.channel.taken last_count && t.pc == (t.base + t.channel.registers.pc) % 2 ^ 32)

-- Whether a thread of a device with this number of events can have this status: it has no program if it is stopped, and
-- one if it executes or waits. The event for which it waits is one of the device's, and its next instruction is a
-- DMAWFE of this event.
abbrev pub has_status : ℕ → Thread → Status → Bool
has_status events t Stopped = not (is_some t.channel.program)
has_status events t Executing = is_some t.channel.program
has_status events t (WaitingForEvent e) = is_some t.channel.program && (nat_lt e events && is_before_wait e t)
has_status events t Faulting = true

-- Whether CPC goes with the rest of a thread: it is the address of its channel's next instruction. If FTR has a fault,
-- it may also be two bytes before that, since a DMASEV that fails leaves it so (`moved`).
abbrev pub has_place : Thread → Bool
has_place t =
    let next = (t.base + t.channel.registers.pc) % 2 ^ 32 in
    t.pc % 2 ^ 32 == next || ((t.pc + 2) % 2 ^ 32 == next && not (t.fault == 0))

-- Whether this FTR goes with this status: a DMAGO clears it, and a failure sets it. A thread that is stopped may have
-- failed before a DMAKILL, which keeps the fault.
abbrev pub has_fault : Status → ℕ → Bool
has_fault Stopped fault = true
has_fault Faulting fault = not (fault == 0)
has_fault s fault = fault == 0

-- A thread is sound: its status goes with its program, CPC and FTR go with the rest, and its program has no known cost,
-- since a driver wrote it.
pub record IsSound (events : ℕ) (t : Thread) : Type 0 where
  pub status : has_status events t t.status ≡ true
  pub place : has_place t ≡ true
  pub fault : has_fault t.status t.fault ≡ true
  pub cost : cost_of_program t.channel.program ≡ None

-- whether a status is no wait, or one for an event whose flag is set
abbrev pub is_signalled : ℕ → Status → Bool
is_signalled events (WaitingForEvent e) = bit_at events e == 1
is_signalled events s = true

-- whether a thread has a program, isn't faulting, and by its status doesn't wait for an event whose flag is clear
abbrev pub can_step : ℕ → Thread → Bool
can_step events t = runs t && is_signalled events t.status

-- A thread's channel is on a chip's bus of this width, and the beats of its control word are no wider than the bus.
pub record IsOn (bus : BusWidth) (t : Thread) : Type 0 where
  pub width : t.channel.registers.bus ≡ Chip bus
  pub control : fits (Chip bus) t.channel.registers.ccr ≡ true

-- a thread on a bus after a reset: CCR is 0x00800200, and its other registers are 0
abbrev pub reset_thread : BusWidth → Thread
reset_thread bus =
    record { channel = unloaded_on (Chip bus); status = Stopped; fault = 0; nonsecure = false; base = 0; pc = 0 }

-- A thread that fails. FTR keeps the fault until the next DMAGO, and the thread stays faulting until a DMAKILL.
abbrev pub failed : ℕ → Thread → Thread
failed why t = record t { status = Faulting; fault = why }

-- a thread after a DMAKILL; its registers and FTR keep their values (profile)
abbrev pub killed : Thread → Thread
killed t = record t { channel = record (t.channel) { program = None }; status = Stopped }

-- a thread after a DMAGO with a program that begins at address `base`; SAR, DAR, CCR and the loop counters keep their
-- values
abbrev pub started : Bool → ℕ → List ℕ → Thread → Thread
started nonsecure base program t = record {
  channel = loaded_with t.channel.registers (record { bytes = program; cost = None });
  status = Executing;
  fault = 0;
  nonsecure = nonsecure;
  base = base;
  pc = base;
}

-- ---- a call of its channel

-- The thread after its channel moved. The flag that the last step set, if any, is that of an event; one that the device
-- doesn't have is an invalid operand, and CPC is that of the DMASEV, which has two bytes.
abbrev pub moved : ℕ → Thread → Option ℕ → Thread
moved events t None = record t { status = Executing }
moved events t (Some e) =
    if nat_lt e events then record t { status = Executing }
    else failed operand_invalid (record t { pc = (t.pc + (2 ^ 32 - 2)) % 2 ^ 32 })

-- the thread at a DMAWFE of an event; one that the device doesn't have is an invalid operand
abbrev pub waited : ℕ → Thread → ℕ → Thread
waited events t e = if nat_lt e events then record t { status = WaitingForEvent e } else failed operand_invalid t

-- The thread after a call of its channel, in a device with this number of events, by the answer of the call's last step
-- and the event whose flag it set. A call without a step is a program that has executed 2^32 - 1 instructions
-- (profile).
abbrev pub answer : ℕ → Thread → Option ChanTurn → Option ℕ → Thread
answer events t None signal = failed lockup_err t
answer events t (Some Moved) signal = moved events t signal
answer events t (Some (Waiting e)) signal = waited events t e
answer events t (Some Ended) signal = record t { status = Stopped }
answer events t (Some (Fault kind)) signal = failed (2 ^ fault_bit kind) t

-- `answer`, with CPC the address of the next instruction
abbrev pub answered : ℕ → Thread → Option ChanTurn → Option ℕ → Thread
answered events t last signal =
    answer events (record t { pc = (t.base + t.channel.registers.pc) % 2 ^ 32 }) last signal

-- ---- what a host sees of its channel

-- Whether CPC is the address of the channel's next instruction. It isn't only after a DMASEV of an event that the
-- device doesn't have: the channel has executed it, but CPC is the address of the DMASEV, which has failed (`moved`).
abbrev pub is_at_next : Thread → Bool
is_at_next t = t.pc == (t.base + t.channel.registers.pc) % 2 ^ 32

-- A thread's channel, with the registers and counts that a host sees. After a DMASEV that has failed they are those
-- from before it, as after each instruction that fails.
abbrev pub shown : Thread → ChannelValue
shown t =
    if is_at_next t then t.channel
    else (
    let before = record (t.channel.registers) { pc = t.channel.registers.pc - 2 } in
    record (t.channel) { registers = before; taken = t.channel.taken - 1 })

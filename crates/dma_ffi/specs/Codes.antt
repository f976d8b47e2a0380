-- The numbers that calls from C return and write.
use Rattle.std.specs.Prelude.{ℕ, ℤ, pos, negsuc, min, ◌-◌, ◌==◌, if◌then◌else◌, Option, None, Some, Result, Ok, Err}
use Rattle.dma_mem.specs.declared.marks.MarkKind.TheVariants.{Reading, Writing}
use Rattle.dma_mem.specs.{declared.marks.MarkKind.MarkKind, declared.transfer.TransferFault.TransferFault}
use Rattle.dma_insn.specs.declared.assembler.AsmCause.TheVariants.{Mnemonic, Operand, Range}
use Rattle.dma_insn.specs.{declared.assembler.AsmCause.AsmCause, declared.codec.DecodeFault.DecodeFault}
use Rattle.dma_chan.specs.declared.turn.FaultKind.TheVariants.{UndefInstr, OperandInvalid, MfifoErr, StDataUnavailable, InstrFetchErr, DataWriteErr}
use Rattle.dma_chan.specs.declared.turn.FaultKind.TheVariants.{DataReadErr}
use Rattle.dma_chan.specs.{declared.program.ProgramFault.ProgramFault, declared.turn.FaultKind.FaultKind}
use Rattle.dma_engine.specs.declared.fault.EngineFault.TheVariants.{OutOfMemoryRange, Busy, Running, NoChannel, CookiesSpent, StepsSpent, BadEvent, BadRange}
use Rattle.dma_engine.specs.declared.fault.EngineFault.TheVariants.{NoMemory}
use Rattle.dma_engine.specs.declared.outcome.TransResult.TheVariants.{NoError, ReadFailed, WriteFailed, Aborted}
use Rattle.dma_engine.specs.declared.turn.Status.TheVariants.{Unknown, InProgress, Complete}
use Rattle.dma_engine.specs.{declared.call.Reply.Reply, declared.fault.EngineFault.EngineFault, declared.fault.NewFault.NewFault}
use Rattle.dma_engine.specs.{declared.outcome.TransResult.TransResult, declared.turn.Status.Status}
use Rattle.dma_mem.specs.declared.transfer.TransferFault.TheVariants as transfers
use Rattle.dma_insn.specs.declared.codec.DecodeFault.TheVariants.{Cut, Unknown as UnknownByte, BadField}
use Rattle.dma_chan.specs.declared.program.ProgramFault.TheVariants as programs
use Rattle.dma_device.specs.declared.config.NewFault.{NewFault as DeviceFault}
use Rattle.dma_device.specs.declared.config.NewFault.TheVariants as devices
use Rattle.dma_engine.specs.declared.call.Reply.TheVariants.{Done, Bytes, Cookie, Count, Turned, State, Result as Resulted, Refused}
use Rattle.dma_engine.specs.declared.fault.NewFault.TheVariants as engines

-- ---- codes: 0 for success, and a negative number for each refusal

-- the number -n, for n above 0: in ℤ, negsuc n is -(n + 1)
abbrev pub minus : ℕ → ℤ
minus n = negsuc (n - 1)

-- the call succeeded
abbrev pub ok_code : ℤ
ok_code = pos 0

-- the controller has no engine, or the channel or device isn't open
abbrev pub not_open : ℤ
not_open = minus 1

-- the controller has an engine already, or the channel or device is open already
abbrev pub already_open : ℤ
already_open = minus 2

-- out of memory
abbrev pub no_memory : ℤ
no_memory = minus 3

-- an event is above 31
abbrev pub bad_event : ℤ
bad_event = minus 12

-- no kind of access has this number
abbrev pub bad_access : ℤ
bad_access = minus 13

-- how the cookie finished isn't known
abbrev pub no_result : ℤ
no_result = minus 27

-- nothing runs on the channel
abbrev pub not_running : ℤ
not_running = minus 26

-- the buffer is too small for what is to be written
abbrev pub buffer_too_small : ℤ
buffer_too_small = minus 4

-- the channel has no program
abbrev pub no_program : ℤ
no_program = minus 6

-- there is no such channel
abbrev pub no_channel : ℤ
no_channel = minus 5

-- a range in which accesses are to fail is empty, or ends above 2^32
abbrev pub bad_range : ℤ
bad_range = minus 14

-- a memory can't have this size
abbrev pub size_out_of_range : ℤ
size_out_of_range = minus 9

-- there are more than 64 regions, they aren't in order, or one reaches beyond address 4,294,967,295
abbrev pub bad_regions : ℤ
bad_regions = minus 10

-- no device can have this configuration or bus, or no program can begin so
abbrev pub bad_config : ℤ
bad_config = minus 11

-- a program is longer than 8,192 bytes
abbrev pub program_too_long : ℤ
program_too_long = minus 7

-- the bytes aren't a save of a channel, or of any device
abbrev pub bad_save : ℤ
bad_save = minus 30

-- the save is of a device of another version or configuration
abbrev pub other_device : ℤ
other_device = minus 31

-- the program isn't explained
abbrev pub unexplained : ℤ
unexplained = minus 38

-- the code of a refused call
abbrev pub fault_code : EngineFault → ℤ
fault_code OutOfMemoryRange = minus 15
fault_code (Busy ch cookie) = minus 24
fault_code NoChannel = no_channel
fault_code CookiesSpent = minus 28
fault_code StepsSpent = minus 29
fault_code BadEvent = bad_event
fault_code BadRange = bad_range
fault_code (Running ch cookie) = minus 25
fault_code NoMemory = no_memory

-- the code of a fault for which no engine is made
abbrev pub new_code : NewFault → ℤ
new_code engines.BadChannels = minus 8
new_code engines.SizeOutOfRange = size_out_of_range
new_code engines.NoMemory = no_memory

-- the code of a fault for which no device is made
abbrev pub device_code : DeviceFault → ℤ
device_code devices.BadConfig = bad_config
device_code devices.NoMemory = no_memory

-- the code of a fault for which no transfer is made
abbrev pub transfer_code : TransferFault → ℤ
transfer_code transfers.EmptyList = minus 16
transfer_code transfers.TooManySegments = minus 17
transfer_code transfers.EmptySegment = minus 18
transfer_code transfers.SegmentWraps = minus 19
transfer_code transfers.TotalsDiffer = minus 20
transfer_code transfers.TooLong = minus 21
transfer_code transfers.DestinationsMeet = minus 22
transfer_code transfers.SourceMeetsDestination = minus 23
transfer_code transfers.BadEvent = bad_event
transfer_code transfers.NoMemory = no_memory

-- the code of a fault for which no program is made of bytes
abbrev pub program_code : ProgramFault → ℤ
program_code programs.ProgramTooLong = program_too_long
program_code programs.NoMemory = no_memory

-- the code of the reason that a line isn't an instruction
abbrev pub cause_code : AsmCause → ℤ
cause_code Mnemonic = minus 32
cause_code Operand = minus 33
cause_code Range = minus 34

-- the code of the reason that bytes aren't an instruction
abbrev pub decode_code : DecodeFault → ℤ
decode_code Cut = minus 35
decode_code (UnknownByte byte) = minus 36
decode_code BadField = minus 37

-- the code of a cookie's status
abbrev pub status_code : Status → ℤ
status_code Unknown = pos 0
status_code InProgress = pos 1
status_code Complete = pos 2

-- The code of a reply: the fault's code for a refusal, the status's code for a status, `no_result` for a result that
-- isn't known, else `ok_code`.
abbrev pub reply_code : Reply → ℤ
reply_code (Refused fault) = fault_code fault
reply_code (State status) = status_code status
reply_code (Resulted None) = no_result
reply_code (Resulted (Some outcome)) = ok_code
reply_code Done = ok_code
reply_code (Bytes bytes) = ok_code
reply_code (Cookie cookie) = ok_code
reply_code (Count count) = ok_code
reply_code (Turned turn) = ok_code

-- the code of an answer to a call
abbrev pub answer_code : {A : Type 0} → Result A EngineFault → ℤ
answer_code (Ok x) = ok_code
answer_code (Err fault) = fault_code fault

-- the value of an answer, or the former value if the call was refused
abbrev pub value_or : {A : Type 0} → Result A EngineFault → A → A
value_or (Ok x) before = x
value_or (Err fault) before = before

-- the code of a call for a value that may be missing
abbrev pub found_code : {A : Type 0} → ℤ → Option A → ℤ
found_code missing None = missing
found_code missing (Some x) = ok_code

-- ---- what the last of some steps did

-- no step was taken
abbrev pub no_step : ℕ
no_step = 0

-- the last step executed an instruction
abbrev pub step_moved : ℕ
step_moved = 1

-- the channel waits for an event
abbrev pub step_waits : ℕ
step_waits = 2

-- the last step executed DMAEND
abbrev pub step_ended : ℕ
step_ended = 3

-- the instruction of the last step failed
abbrev pub step_failed : ℕ
step_failed = 4

-- the last step set the flag of an event
abbrev pub step_signalled : ℕ
step_signalled = 5

-- the next transfer began to run
abbrev pub step_started : ℕ
step_started = 6

-- the transfer finished
abbrev pub step_finished : ℕ
step_finished = 7

-- no transfer is issued and unfinished
abbrev pub step_nothing : ℕ
step_nothing = 8

-- the next transfer can't start, because it conflicts with a running one
abbrev pub step_held : ℕ
step_held = 9

-- the channel is paused
abbrev pub step_paused : ℕ
step_paused = 10

-- the channel is halted
abbrev pub step_halted : ℕ
step_halted = 11

-- ---- other numbers

-- the kind of mark for accesses of this kind, if any: 0 for reads, 1 for writes
abbrev pub mark_kind : ℕ → Option MarkKind
mark_kind access = if access == 0 then Some Reading else (if access == 1 then Some Writing else None)

-- the number of how a cookie finished (from the kernel's enum dmaengine_tx_result)
abbrev pub result_number : TransResult → ℕ
result_number NoError = 0
result_number ReadFailed = 1
result_number WriteFailed = 2
result_number Aborted = 3

-- the number of an instruction's fault
abbrev pub kind_number : FaultKind → ℕ
kind_number UndefInstr = 1
kind_number OperandInvalid = 2
kind_number MfifoErr = 3
kind_number StDataUnavailable = 4
kind_number InstrFetchErr = 5
kind_number DataWriteErr = 6
kind_number DataReadErr = 7

-- The event with this number, or none for a negative number. Numbers above 255 become 255, which is invalid like all
-- events above 31.
abbrev pub event_of : ℤ → Option ℕ
event_of (negsuc n) = None
event_of (pos n) = Some (min n 255)

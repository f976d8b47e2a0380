-- The waveform of a trace (profile): a Value Change Dump (IEEE 1364) with a time unit for each instruction. Instruction
-- number n, counted from 0, is executed from time n to time n + 1. At the limit the signals of the next instruction,
-- which isn't executed, follow.
use Rattle.std.specs.Prelude.{ℕ, ◌+◌, ◌^◌, ◌++◌, Bool, true, false, List, Option, Some, None, Result, Ok, codes, decimal}
use Rattle.dma_insn.specs.declared.chip.ChipInsn.{ChipInsn}
use Rattle.dma_insn.specs.declared.chip.ChipInsn.TheVariants.{Ld, St, Sev, StoreZeros, Wfe}
use Rattle.dma_chan.specs.declared.turn.ChanTurn.TheVariants.{Moved, Waiting, Ended, Fault}
use Rattle.dma_chan.specs.Exec.{destination_of, source_of, fault_bit}
use Rattle.dma_chan.specs.{declared.turn.ChanTurn.ChanTurn, declared.turn.FaultKind.FaultKind, Bursts.burst_len}
use Rattle.dma_trace.specs.{declared.words.Front.Front, declared.words.Point.Point, declared.wave.Moment.Moment, Vcd.signal_line, Words.line_feed}

-- ---- values

-- a channel that executes its next instruction
abbrev pub executing : Point → Moment
executing p = record { at = p; answer = None }

-- the channel status of CSR (DMA-330 manual, channel status registers), by the answer of the last step
abbrev pub state_of : Option ChanTurn → ℕ
state_of None = 1
state_of (Some Moved) = 1
state_of (Some Ended) = 0
state_of (Some (Waiting e)) = 4
state_of (Some (Fault kind)) = 15

-- the bits of FTR (DMA-330 manual, fault type DMA channel registers)
abbrev pub ftr_of : Option ChanTurn → ℕ
ftr_of (Some (Fault kind)) = 2 ^ fault_bit kind
ftr_of answer = 0

-- 1 at a DMALD
abbrev pub load_bit : Result ChipInsn FaultKind → ℕ
load_bit (Ok Ld) = 1
load_bit next = 0

-- 1 at a DMAST or DMASTZ
abbrev pub store_bit : Result ChipInsn FaultKind → ℕ
store_bit (Ok St) = 1
store_bit (Ok StoreZeros) = 1
store_bit next = 0

-- 1 at a DMASEV
abbrev pub signal_bit : Result ChipInsn FaultKind → ℕ
signal_bit (Ok (Sev e)) = 1
signal_bit next = 0

-- 1 at a DMAWFE
abbrev pub wait_bit : Result ChipInsn FaultKind → ℕ
wait_bit (Ok (Wfe e invalid)) = 1
wait_bit next = 0

-- the event of a DMASEV or DMAWFE, else 0
abbrev pub event_of : Result ChipInsn FaultKind → ℕ
event_of (Ok (Sev e)) = e
event_of (Ok (Wfe e invalid)) = e
event_of next = 0

-- how many bytes a DMALD loads with these registers
abbrev pub load_bytes : Front → ℕ
load_bytes f = burst_len (source_of f.registers)

-- how many bytes a DMAST or DMASTZ stores with these registers
abbrev pub store_bytes : Front → ℕ
store_bytes f = burst_len (destination_of f.registers)

-- ---- lines

-- the signals, with their widths and codes
unfoldable pub header_text : List ℕ
header_text =
    codes "$comment a time unit is an instruction $end\n$timescale 1 ns $end\n$scope module dma330 $end\n"
    ++ (codes "$var wire 16 a pc $end\n$var wire 4 b state $end\n$var wire 32 c ftr $end\n$var wire 32 d sar $end\n$var wire 32 e dar $end\n"
    ++ codes "$var wire 32 f ccr $end\n$var wire 8 g lc0 $end\n$var wire 8 h lc1 $end\n$var wire 9 i buffer $end\n")
    ++ (codes "$var wire 1 j ld $end\n$var wire 12 k ld_bytes $end\n$var wire 1 l st $end\n$var wire 12 m st_bytes $end\n"
    ++ codes "$var wire 1 n sev $end\n$var wire 1 o wfe $end\n$var wire 5 p event $end\n")
    ++ codes "$upscope $end\n$enddefinitions $end\n"

-- the status, the registers and the buffer
unfoldable pub registers_text : Bool → Moment → Moment → List ℕ
registers_text all b a =
    (signal_line all (codes "a") 16 b.at.front.registers.pc a.at.front.registers.pc
    ++ signal_line all (codes "b") 4 (state_of b.answer) (state_of a.answer)
    ++ signal_line all (codes "c") 32 (ftr_of b.answer) (ftr_of a.answer))
    ++ (signal_line all (codes "d") 32 b.at.front.registers.sar a.at.front.registers.sar
    ++ signal_line all (codes "e") 32 b.at.front.registers.dar a.at.front.registers.dar
    ++ signal_line all (codes "f") 32 b.at.front.registers.ccr a.at.front.registers.ccr)
    ++ (signal_line all (codes "g") 8 b.at.front.registers.lc0 a.at.front.registers.lc0
    ++ signal_line all (codes "h") 8 b.at.front.registers.lc1 a.at.front.registers.lc1
    ++ signal_line all (codes "i") 9 b.at.front.held a.at.front.held)

-- what the instruction does: bursts
unfoldable pub bursts_text : Bool → Moment → Moment → List ℕ
bursts_text all b a =
    signal_line all (codes "j") 1 (load_bit b.at.ahead) (load_bit a.at.ahead)
    ++ signal_line all (codes "k") 12 (load_bytes b.at.front) (load_bytes a.at.front)
    ++ signal_line all (codes "l") 1 (store_bit b.at.ahead) (store_bit a.at.ahead)
    ++ signal_line all (codes "m") 12 (store_bytes b.at.front) (store_bytes a.at.front)

-- what the instruction does: events
unfoldable pub events_text : Bool → Moment → Moment → List ℕ
events_text all b a =
    signal_line all (codes "n") 1 (signal_bit b.at.ahead) (signal_bit a.at.ahead)
    ++ signal_line all (codes "o") 1 (wait_bit b.at.ahead) (wait_bit a.at.ahead)
    ++ signal_line all (codes "p") 5 (event_of b.at.ahead) (event_of a.at.ahead)

-- the lines of the signals that differ between two moments, or of all signals
abbrev pub signals_text : Bool → Moment → Moment → List ℕ
signals_text all b a = registers_text all b a ++ bursts_text all b a ++ events_text all b a

-- a time
abbrev pub time_text : ℕ → List ℕ
time_text t = codes "#" ++ decimal t ++ line_feed

-- the header, and each signal's value at the first instruction
abbrev pub first_text : Moment → List ℕ
first_text m =
    (header_text ++ time_text m.at.steps ++ codes "$dumpvars\n") ++ signals_text true m m ++ codes "$end\n"

-- the changes from an instruction to the next
abbrev pub change_text : Moment → Moment → List ℕ
change_text b a = time_text a.at.steps ++ signals_text false b a

-- The end: one time unit after the last instruction began, the changes by its answer, and a time unit more. At the
-- limit there is no answer, and nothing changes: `m` is the next instruction.
abbrev pub last_text : Moment → Option ChanTurn → List ℕ
last_text m answer =
    time_text (m.at.steps + 1) ++ signals_text false m (record m { answer = answer }) ++ time_text (m.at.steps + 2)

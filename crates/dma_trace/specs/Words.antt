-- The words of explanations and traces (profile).
use Rattle.std.specs.Prelude.{ℕ, false, true, Bool, ◌+◌, ◌*◌, ◌/◌, ◌%◌, ◌^◌, ◌==◌, ◌++◌, List, [], ◌∷◌, Option, Some, None, Result, Ok, Err, if◌then◌else◌}
use Rattle.std.specs.Prelude.{codes, decimal}
use Rattle.std.specs.Option.{option_and_then}
use Rattle.dma_text.specs.Digits.{hex_digits, hex_pair}
use Rattle.dma_insn.specs.declared.control.ControlFault.TheVariants.{ReservedSize, Swap, Bit31}
use Rattle.dma_insn.specs.{declared.chip.ChipInsn.ChipInsn, declared.chip.ChipInsn.TheVariants.Mov, ControlWord.control_of, ControlWord.field}
use Rattle.dma_insn.specs.{declared.control.Control.Control, declared.control.ControlFault.ControlFault}
use Rattle.dma_manual.specs.{ChipOnly.chip_only_name, ChipOnly.needs_chip_bus, FirstBytes.field_words, FirstBytes.insn_name, ManualText.manual_text}
use Rattle.dma_chan.specs.declared.turn.FaultKind.TheVariants.{UndefInstr, OperandInvalid, MfifoErr, StDataUnavailable, InstrFetchErr, DataWriteErr}
use Rattle.dma_chan.specs.declared.turn.FaultKind.TheVariants.{DataReadErr}
use Rattle.dma_chan.specs.{declared.bus.Bus.Bus, declared.turn.FaultKind.FaultKind, declared.bursts.Burst.Burst, Bursts.burst_len, Bursts.span_of}
use Rattle.dma_chan.specs.{Bus.widest_beat, Exec.destination_of, Exec.fault_bit, Exec.source_of}
use Rattle.dma_explain.specs.declared.explain.Cause.{Cause}
use Rattle.dma_trace.specs.{declared.words.Front.Front, Columns.aligned}
use Rattle.dma_explain.specs.declared.explain.Cause.TheVariants as causes
use Rattle.dma_explain.specs.declared.explain.known.Register.{Register}
use Rattle.dma_explain.specs.declared.explain.known.Register.TheVariants as registers

abbrev pub line_feed : List ℕ
line_feed = 10 ∷ []

-- an offset in a program: `0x000C`
abbrev pub offset_text : ℕ → List ℕ
offset_text pc = codes "0x" ++ hex_pair (pc / 256 % 256) ++ hex_pair (pc % 256)

-- a number of bytes: `1 byte`, `32 bytes`
abbrev pub bytes_text : ℕ → List ℕ
bytes_text n = decimal n ++ (if n == 1 then codes " byte" else codes " bytes")

-- a number of instructions: `1 instruction`, `8 instructions`
abbrev pub count_text : ℕ → List ℕ
count_text n = decimal n ++ (if n == 1 then codes " instruction" else codes " instructions")

-- what follows a range that is read this number of times: `, 64 times`, or nothing for one time
abbrev pub times_text : ℕ → List ℕ
times_text n = if n == 1 then [] else codes ", " ++ decimal n ++ codes " times"

-- a range of addresses that is read this number of times: `0x00002000 + 32 bytes, 64 times`
unfoldable pub range_text : ℕ → ℕ → ℕ → List ℕ
range_text addr len times = codes "0x" ++ hex_digits addr ++ (codes " + " ++ bytes_text len) ++ times_text times

-- the addresses of a burst, and how often it touches each of them
abbrev pub span_text : Burst → List ℕ
span_text b = range_text b.addr (span_of b) (if b.increments then 1 else b.beats)

-- The fields of one end of a control word, whose lowest bit is bit 0, in the manual's words (DMA-330 manual, DMAMOV
-- CCR): the number of beats, the bits of a beat, and whether the address rises, as `SB16 SS64 SAI`.
unfoldable pub end_text : List ℕ → ℕ → List ℕ
end_text letter w =
    (letter ++ codes "B" ++ decimal (field 4 4 w + 1)) ++ (codes " " ++ letter ++ codes "S" ++ decimal (8 * 2 ^ field 1 3 w))
    ++ (codes " " ++ letter ++ (if field 0 1 w == 1 then codes "AI" else codes "AF"))

-- the control word, and the fields of the source and the destination
unfoldable pub control_text : ℕ → List ℕ
control_text w =
    codes "CCR 0x" ++ hex_digits w ++ (codes ": " ++ end_text (codes "S") w ++ codes " " ++ end_text (codes "D") (w / 2 ^ 14))

-- the addresses, the loop counters and the buffer; each decimal number has spaces before it up to a width
unfoldable pub front_text : ℕ → Front → List ℕ
front_text width f =
    (codes "SAR 0x" ++ hex_digits f.registers.sar) ++ (codes " DAR 0x" ++ hex_digits f.registers.dar)
    ++ (codes " LC0 " ++ aligned width f.registers.lc0 ++ codes " LC1 " ++ aligned width f.registers.lc1)
    ++ (codes " buffer " ++ aligned width f.held)

-- The name of the chip's instruction that begins with this byte, if no channel executes it on the ideal bus. `first`
-- below is the first byte of the next instruction, if the program has one there.
abbrev pub chip_only_at : Option ℕ → Option (List ℕ)
chip_only_at first = option_and_then chip_only_name first

-- the name of the instruction that begins with this byte, if it has more bytes or some channel doesn't execute it
abbrev pub name_at : Option ℕ → Option (List ℕ)
name_at first = option_and_then insn_name first

-- whether a channel executes the instruction that begins with this byte on a chip's bus alone
abbrev pub on_chip_bus : Option ℕ → Bool
on_chip_bus (Some b) = needs_chip_bus b
on_chip_bus None = false

-- what is named in place of an instruction that isn't decoded, by its name
abbrev pub absent_text : Option (List ℕ) → List ℕ
absent_text (Some name) = name
absent_text None = codes "no instruction"

-- the next instruction
abbrev pub next_text : Option ℕ → Result ChipInsn FaultKind → List ℕ
next_text first (Ok i) = manual_text i
next_text first (Err kind) = absent_text (name_at first)

-- ---- faults

-- a fault's name (DMA-330 manual, fault type DMA channel registers)
abbrev pub fault_name : FaultKind → List ℕ
fault_name UndefInstr = codes "undef_instr"
fault_name OperandInvalid = codes "operand_invalid"
fault_name MfifoErr = codes "mfifo_err"
fault_name StDataUnavailable = codes "st_data_unavailable"
fault_name InstrFetchErr = codes "instr_fetch_err"
fault_name DataWriteErr = codes "data_write_err"
fault_name DataReadErr = codes "data_read_err"

-- why a control word isn't accepted on a bus: its first fault, or else a beat that is wider than the bus
abbrev pub control_words : Bus → Result Control ControlFault → List ℕ
control_words bus (Err ReservedSize) = codes "a size code is above 4, the code for 16 bytes"
control_words bus (Err Swap) = codes "the endian swap isn't 0"
control_words bus (Err Bit31) = codes "bit 31 is set"
control_words bus (Ok c) = codes "a beat is wider than the bus, which has " ++ bytes_text (widest_beat bus)

-- why an instruction that was decoded has a refused operand
abbrev pub operand_words : ChipInsn → Bus → List ℕ
operand_words (Mov reg w) bus = control_words bus (control_of w)
operand_words i bus = codes "a field is outside its range"

-- which field of an instruction that begins with this byte is refused, and why
abbrev pub field_at : Option ℕ → List ℕ
field_at (Some b) = field_words b
field_at None = codes "a field is outside its range"

-- why an operand is refused
abbrev pub refused_words : Option ℕ → Result ChipInsn FaultKind → Front → List ℕ
refused_words first (Ok i) f = operand_words i f.registers.bus
refused_words first (Err kind) f = field_at first

-- why no instruction is fetched: a jump, no byte here, or too few
abbrev pub fetch_words : Option ℕ → Result ChipInsn FaultKind → List ℕ
fetch_words first (Ok i) = codes "it jumps to before the program's start"
fetch_words None (Err kind) = codes "the program has no DMAEND"
fetch_words (Some b) (Err kind) = codes "the program has no whole instruction here"

-- why an instruction is undefined, by the name of the chip's instruction, and whether a channel executes it on a chip's
-- bus
abbrev pub undefined_words : Option (List ℕ) → Bool → List ℕ
undefined_words (Some name) true =
    codes "an instruction that a channel executes only on a chip's bus (--bus 32, 64 or 128)"
undefined_words (Some name) false = codes "an instruction of the chip that no channel of this model executes"
undefined_words None on_chip = codes "no instruction begins with this byte"

-- What is wrong with an instruction that fails, by the registers and the buffer before it
unfoldable pub fault_words : FaultKind → Option ℕ → Result ChipInsn FaultKind → Front → List ℕ
fault_words UndefInstr first next f = undefined_words (chip_only_at first) (on_chip_bus first)
fault_words OperandInvalid first next f = refused_words first next f
fault_words MfifoErr first next f =
    codes "the buffer holds " ++ bytes_text f.held ++ (codes ", the load adds " ++ decimal (burst_len (source_of f.registers)))
    ++ codes ", and 256 fit"
fault_words StDataUnavailable first next f =
    codes "the buffer holds " ++ bytes_text f.held
    ++ (codes ", the store needs " ++ decimal (burst_len (destination_of f.registers)))
fault_words InstrFetchErr first next f = fetch_words first next
fault_words DataWriteErr first next f = codes "it can't store " ++ span_text (destination_of f.registers)
fault_words DataReadErr first next f = codes "it can't load " ++ span_text (source_of f.registers)

-- The fault's name comes first, then its bit of FTR, and then what is wrong with the instruction.
unfoldable pub fault_text : FaultKind → Option ℕ → Result ChipInsn FaultKind → Front → List ℕ
fault_text kind first next f =
    fault_name kind ++ (codes " (FTR bit " ++ decimal (fault_bit kind)) ++ (codes "): " ++ fault_words kind first next f)

-- ---- causes

-- a register's name
abbrev pub register_name : Register → List ℕ
register_name registers.Sar = codes "SAR"
register_name registers.Dar = codes "DAR"
register_name registers.Ccr = codes "CCR"
register_name registers.Lc0 = codes "LC0"
register_name registers.Lc1 = codes "LC1"

-- why an instruction may not use a register that isn't known: a DMAMOV uses the old value for nothing but to compare it
unfoldable pub uses_text : Register → Result ChipInsn FaultKind → Front → List ℕ
uses_text r (Ok (Mov reg v)) f =
    (codes "the buffer holds " ++ bytes_text f.held) ++ (codes ", which a chip drops or keeps by the old " ++ register_name r)
    ++ codes ", which the program hasn't set"
uses_text r next f = codes "it uses " ++ register_name r ++ codes ", which the program hasn't set"

-- why an instruction is part of no work, by the registers and the buffer before it, after this number of others
unfoldable pub cause_text : Cause → Option ℕ → Result ChipInsn FaultKind → ℕ → Front → List ℕ
cause_text causes.TooLong first next n f = codes "the program has more than 8192 bytes"
cause_text (causes.Fails kind) first next n f = fault_text kind first next f
cause_text causes.LoadsPast first next n f = codes "the load ends above 2^32: " ++ span_text (source_of f.registers)
cause_text causes.StoresPast first next n f = codes "the store ends above 2^32: " ++ span_text (destination_of f.registers)
cause_text causes.StoresFixed first next n f = codes "the destination is fixed: each beat overwrites the one before"
cause_text causes.DropsBytes first next n f = codes "a chip drops what the buffer holds: " ++ bytes_text f.held
cause_text causes.BytesLeft first next n f = codes "left over in the buffer: " ++ bytes_text f.held
cause_text causes.StoresTwice first next n f = codes "a byte is stored twice"
cause_text causes.StoresSource first next n f = codes "a byte is stored where one is loaded"
cause_text causes.NoEnd first next n f = codes "the program hasn't ended after " ++ count_text n
cause_text causes.NoMemory first next n f = codes "out of memory"
cause_text (causes.UsesUnknown r) first next n f = uses_text r next f

-- ---- refusals

-- ` offset 0x000C: DMAST (instruction 17): `, for an instruction after n others
unfoldable pub place_text : Option ℕ → Result ChipInsn FaultKind → ℕ → ℕ → List ℕ
place_text first next pc n =
    codes " offset " ++ offset_text pc ++ (codes ": " ++ next_text first next) ++ (codes " (instruction " ++ decimal (n + 1) ++ codes "): ")

-- the registers, on two lines, and how many bytes were stored: `  1024 bytes stored before`
unfoldable pub state_text : Front → ℕ → List ℕ
state_text f stored =
    (codes "\n  " ++ front_text 0 f) ++ (codes "\n  " ++ control_text f.registers.ccr) ++ (codes "\n  " ++ bytes_text stored ++ codes " stored before\n")

-- The lines of an instruction that is refused after n others: where it is and why, then the registers before it, and
-- how many bytes were stored before it.
abbrev pub refusal_text : List ℕ → Option ℕ → Result ChipInsn FaultKind → ℕ → Front → ℕ → List ℕ
refusal_text why first next n f stored = place_text first next f.registers.pc n ++ why ++ state_text f stored

-- the line of a program that is too long
unfoldable pub long_text : List ℕ
long_text = codes " offset 0x2000: the program has more than 8192 bytes" ++ line_feed

-- An instruction in the syntax of the DMA-330's manual (ARM DDI 0424, instruction set and assembler directives).
use Rattle.std.specs.Prelude.{ℕ, ◌+◌, ◌*◌, ◌/◌, ◌%◌, Bool, true, false, ◌==◌, if◌then◌else◌, List, [], ◌++◌, codes, decimal, Option, Some, None, Result, Ok}
use Rattle.std.specs.Prelude.{Err}
use Rattle.dma_text.specs.Digits.{hex_digits, hex_pair}
use Rattle.dma_insn.specs.declared.insn.Reg.TheVariants.{Sar, Ccr, Dar}
use Rattle.dma_insn.specs.declared.chip.ChipInsn.TheVariants.{Mov, Ld, St, Rmb, Wmb, Nop, End, Lp, LpEnd, Sev, Wfe, StoreZeros, AddHalfword, LoopAgain}
use Rattle.dma_insn.specs.{ControlWord.beat_bytes, ControlWord.control_of, declared.control.BurstEnd.BurstEnd, declared.control.Control.Control}
use Rattle.dma_insn.specs.{declared.control.ControlFault.ControlFault, declared.insn.Counter.Counter, declared.insn.Counter.TheVariants.Lc0}
use Rattle.dma_insn.specs.{declared.insn.Counter.TheVariants.Lc1, declared.chip.ChipInsn.ChipInsn, declared.chip.Address.Address}
use Rattle.dma_manual.specs.declared.insns.OtherInsn.TheVariants.{Kill, LdIf, StIf, OfPeripheral, LpEndIf, LoopAgainIf, Go}
use Rattle.dma_manual.specs.{declared.insns.Action.Action, declared.insns.ManualInsn.ManualInsn, declared.insns.ManualInsn.TheVariants.Chip}
use Rattle.dma_manual.specs.{declared.insns.ManualInsn.TheVariants.Other, declared.insns.OtherInsn.OtherInsn, declared.insns.Request.Request}
use Rattle.dma_manual.specs.{declared.insns.Request.TheVariants.Single, declared.insns.Request.TheVariants.Burst, declared.manual.Side.Side}
use Rattle.dma_manual.specs.{declared.manual.Side.TheVariants.Source, declared.manual.Side.TheVariants.Destination}
use Rattle.dma_insn.specs.declared.chip.Address.TheVariants as address
use Rattle.dma_manual.specs.declared.insns.Action.TheVariants as action
use Rattle.dma_manual.specs.declared.insns.Awaited.TheVariants as awaited

-- the name of a loop counter
abbrev pub counter_name : Counter → List ℕ
counter_name Lc0 = codes "lc0"
counter_name Lc1 = codes "lc1"

-- the letter with which the names of an end's fields begin
abbrev pub letter : Side → List ℕ
letter Source = codes "S"
letter Destination = codes "D"

-- The signals ARCACHE[3:0] or AWCACHE[3:0] for the three bits of a cache field: the field has ARCACHE[2:0], or
-- AWCACHE[3] and AWCACHE[1:0]; ARCACHE[3] and AWCACHE[2] are low (manual, channel control registers).
abbrev pub cache_signals : Side → ℕ → ℕ
cache_signals Source code = code
cache_signals Destination code = code % 4 + 8 * (code / 4)

-- a field of an end, with a space before it
abbrev pub field_text : List ℕ → List ℕ → List ℕ → List ℕ
field_text side name value = codes " " ++ side ++ name ++ value

-- a field of an end, with a space before it, unless its number is 0, the manual's default
abbrev pub flag_text : List ℕ → List ℕ → ℕ → List ℕ
flag_text side name n = if n == 0 then [] else field_text side name (decimal n)

-- whether the address grows
abbrev pub increment_name : Bool → List ℕ
increment_name true = codes "AI"
increment_name false = codes "AF"

-- The fields of an end: its beats, the bits of a beat, whether the address grows, protection and cache.
abbrev pub end_text : Side → BurstEnd → List ℕ
end_text side e =
    field_text (letter side) (codes "B") (decimal e.beats) ++ field_text (letter side) (codes "S") (decimal (8 * beat_bytes e.size))
    ++ (codes " " ++ letter side ++ increment_name e.increments) ++ flag_text (letter side) (codes "P") e.protection
    ++ flag_text (letter side) (codes "C") (cache_signals side e.cache)

-- the fields of a control word, or ` 0x` and its eight digits if it is none that a channel accepts
abbrev pub control_text_of : ℕ → Result Control ControlFault → List ℕ
control_text_of word (Ok c) = end_text Source c.src ++ end_text Destination c.dst
control_text_of word (Err fault) = codes " 0x" ++ hex_digits word

-- the operand of DMAMOV CCR, with a space before each word
abbrev pub control_text : ℕ → List ℕ
control_text word = control_text_of word (control_of word)

-- the name of an address register
abbrev pub address_name : Address → List ℕ
address_name address.Source = codes "SAR"
address_name address.Destination = codes "DAR"

-- the name of DMAADDH, or of DMAADNH
abbrev pub add_name : Bool → List ℕ
add_name false = codes "DMAADDH "
add_name true = codes "DMAADNH "

-- a number of 16 bits in four hexadecimal digits
abbrev pub half_digits : ℕ → List ℕ
half_digits half = hex_pair (half / 256 % 256) ++ hex_pair (half % 256)

-- What follows the jump of the DMALPEND of a DMALPFE: `lc0` if its bit lc is 0. The manual sets this bit for such a
-- loop, so that the first byte is 0x2c: 0x29 and 0x2b are DMASTPS and DMASTPB.
abbrev pub again_flag : Counter → List ℕ
again_flag Lc0 = codes ", lc0"
again_flag Lc1 = []

-- the line of an instruction, without label, comment or line feed
abbrev pub manual_text : ChipInsn → List ℕ
manual_text End = codes "DMAEND"
manual_text Ld = codes "DMALD"
manual_text St = codes "DMAST"
manual_text Rmb = codes "DMARMB"
manual_text Wmb = codes "DMAWMB"
manual_text Nop = codes "DMANOP"
manual_text (Lp c n) = codes "DMALP " ++ counter_name c ++ codes ", " ++ decimal n
manual_text (LpEnd c b) = codes "DMALPEND " ++ counter_name c ++ codes ", -" ++ decimal b
manual_text (Sev e) = codes "DMASEV e" ++ decimal e
manual_text (Wfe e false) = codes "DMAWFE e" ++ decimal e
manual_text (Wfe e true) = codes "DMAWFE e" ++ decimal e ++ codes ", invalid"
manual_text (Mov Sar v) = codes "DMAMOV SAR, 0x" ++ hex_digits v
manual_text (Mov Dar v) = codes "DMAMOV DAR, 0x" ++ hex_digits v
manual_text (Mov Ccr v) = codes "DMAMOV CCR," ++ control_text v
manual_text StoreZeros = codes "DMASTZ"
manual_text (AddHalfword a half negative) = add_name negative ++ address_name a ++ codes ", 0x" ++ half_digits half
manual_text (LoopAgain c b) = codes "DMALPEND -" ++ decimal b ++ again_flag c

-- the letter for a kind of request with which names end
abbrev pub request_letter : Request → List ℕ
request_letter Single = codes "S"
request_letter Burst = codes "B"

-- the name of a DMALPEND, which may be for a kind of request
abbrev pub end_name : Option Request → List ℕ
end_name None = codes "DMALPEND"
end_name (Some Single) = codes "DMALPENDS"
end_name (Some Burst) = codes "DMALPENDB"

-- the name of an instruction with a peripheral
abbrev pub action_name : Action → List ℕ
action_name (action.Ld Single) = codes "DMALDPS"
action_name (action.Ld Burst) = codes "DMALDPB"
action_name (action.St Single) = codes "DMASTPS"
action_name (action.St Burst) = codes "DMASTPB"
action_name (action.Wait w) = codes "DMAWFP"
action_name action.Flush = codes "DMAFLUSHP"

-- what follows the peripheral: which requests a DMAWFP waits for
abbrev pub action_flag : Action → List ℕ
action_flag (action.Wait awaited.Single) = codes ", single"
action_flag (action.Wait awaited.Burst) = codes ", burst"
action_flag (action.Wait awaited.Either) = codes ", periph"
action_flag _ = []

-- what follows the address of a DMAGO: whether the channel is non-secure
abbrev pub go_flag : Bool → List ℕ
go_flag false = []
go_flag true = codes ", ns"

-- the line of an instruction that no channel executes
abbrev pub other_text : OtherInsn → List ℕ
other_text Kill = codes "DMAKILL"
other_text (LdIf r) = codes "DMALD" ++ request_letter r
other_text (StIf r) = codes "DMAST" ++ request_letter r
other_text (OfPeripheral a p) = action_name a ++ codes " P" ++ decimal p ++ action_flag a
other_text (LpEndIf r c b) = end_name (Some r) ++ codes " " ++ counter_name c ++ (codes ", -" ++ decimal b)
other_text (LoopAgainIf r b) = end_name (Some r) ++ codes " -" ++ decimal b
other_text (Go c a ns) = codes "DMAGO C" ++ decimal c ++ codes ", 0x" ++ (hex_digits a ++ go_flag ns)

-- the line of an instruction
abbrev pub insn_text : ManualInsn → List ℕ
insn_text (Chip i) = manual_text i
insn_text (Other i) = other_text i

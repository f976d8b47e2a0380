-- The instructions of a chip's channels: those of the model, whose bytes are the model's, and four more (PL330 manual,
-- instruction chapter).
use Rattle.std.specs.Prelude.{ℕ, ◌^◌, ◌<◌, ◌==◌, Bool, true, false, List, [], ◌∷◌, length, drop, slice_index, nat_lt}
use Rattle.std.specs.Prelude.{if◌then◌else◌, Option, Some, None, IsSome, IsSomeAnd, IfSome, Result, Ok, Err}
use Rattle.std.specs.Option.{option_map_or}
use Rattle.byteorder.specs.Endian.{little_bytes, little_number}
use Rattle.dma_insn.specs.declared.chip.ChipInsn.TheVariants.{Mov, Ld, St, Rmb, Wmb, Nop, End, Lp, LpEnd, Sev, Wfe, StoreZeros, AddHalfword, LoopAgain}
use Rattle.dma_insn.specs.declared.codec.DecodeFault.TheVariants.{Cut, Unknown}
use Rattle.dma_insn.specs.Grammar.{Spelled, Refused, or_more}
use Rattle.dma_insn.specs.Spelling.{spelling as core_spelling, HasRanges as CoreRanges}
use Rattle.dma_insn.specs.{declared.chip.ChipInsn.ChipInsn, declared.chip.Address.Address, declared.chip.Address.TheVariants.Source}
use Rattle.dma_insn.specs.{declared.chip.Address.TheVariants.Destination, declared.insn.Insn.Insn, declared.insn.Counter.Counter}
use Rattle.dma_insn.specs.{declared.insn.Counter.TheVariants.Lc0, declared.insn.Counter.TheVariants.Lc1, declared.codec.DecodeFault.DecodeFault}
use Rattle.dma_insn.specs.declared.insn.Insn.TheVariants.{Mov as CoreMov, Ld as CoreLd, St as CoreSt, Rmb as CoreRmb, Wmb as CoreWmb, Nop as CoreNop, End as CoreEnd, Lp as CoreLp, LpEnd as CoreLpEnd, Sev as CoreSev, Wfe as CoreWfe}
use Rattle.dma_insn.specs.Decoding.{Decoded as CoreDecoded, decoded as core_decoded}

-- an instruction of the model as one of a chip
abbrev pub widened : Insn → ChipInsn
widened CoreEnd = End
widened CoreLd = Ld
widened CoreSt = St
widened CoreRmb = Rmb
widened CoreWmb = Wmb
widened CoreNop = Nop
widened (CoreLp c n) = Lp c n
widened (CoreLpEnd c b) = LpEnd c b
widened (CoreSev e) = Sev e
widened (CoreWfe e v) = Wfe e v
widened (CoreMov r v) = Mov r v

-- the first byte of DMAADDH, or of DMAADNH, by its register
abbrev pub add_byte : Address → Bool → ℕ
add_byte Source false = 0x54
add_byte Destination false = 0x56
add_byte Source true = 0x5c
add_byte Destination true = 0x5e

-- the first byte of the DMALPEND of a loop that DMALPFE begins, by its bit lc
abbrev pub again_byte : Counter → ℕ
again_byte Lc0 = 0x28
again_byte Lc1 = 0x2c

-- the instruction of the model that an instruction of a chip is; `None` for those that only a chip has
abbrev pub core_of : ChipInsn → Option Insn
core_of End = Some CoreEnd
core_of Ld = Some CoreLd
core_of St = Some CoreSt
core_of Rmb = Some CoreRmb
core_of Wmb = Some CoreWmb
core_of Nop = Some CoreNop
core_of (Lp c n) = Some (CoreLp c n)
core_of (LpEnd c b) = Some (CoreLpEnd c b)
core_of (Sev e) = Some (CoreSev e)
core_of (Wfe e v) = Some (CoreWfe e v)
core_of (Mov r v) = Some (CoreMov r v)
core_of _ = None

-- The bytes of an instruction of a chip. DMASTZ has one byte. DMAADDH and DMAADNH have the number in two bytes after the
-- first, the lower first. The DMALPEND of a loop that DMALPFE begins has the jump back in its second byte. The others
-- have their bytes in the model.
abbrev pub spelling : ChipInsn → List ℕ
spelling StoreZeros = 0x0c ∷ []
spelling (AddHalfword a h n) = add_byte a n ∷ little_bytes 2 h
spelling (LoopAgain c b) = again_byte c ∷ b ∷ []
spelling i = option_map_or core_spelling (core_of i) []

-- The ranges of the fields: those of the model, and those of a chip's own. The type `ChipInsn` guarantees them.
abbrev pub HasRanges : ChipInsn → Type 0
HasRanges StoreZeros = Unit {0}
HasRanges (AddHalfword a h n) = h < 2 ^ 16
HasRanges (LoopAgain c b) = b < 256
HasRanges i = IfSome (core_of i) CoreRanges

-- an instruction is one of the model's
abbrev pub IsCore : ChipInsn → Type 0
IsCore i = IsSome (core_of i)

-- An instruction is one of the model's, with its ranges.
abbrev pub HasCoreRanges : ChipInsn → Type 0
HasCoreRanges i = IsSomeAnd (core_of i) CoreRanges

-- The first n bytes are the encoding of the instruction i, which is in range.
abbrev pub IsSpelledAt : List ℕ → ChipInsn → ℕ → Type 0
IsSpelledAt = Spelled HasRanges spelling

-- why bytes that begin with no instruction of a chip are refused
abbrev pub IsRefusedFor : List ℕ → DecodeFault → Type 0
IsRefusedFor = Refused HasRanges spelling

-- ---- decoding

-- an instruction of a chip and its length in bytes, or a fault
abbrev pub Decoded : Type 0
Decoded = Result (ChipInsn × ℕ) DecodeFault

-- the model's instruction at the front, as one of a chip
abbrev pub widely : CoreDecoded → Decoded
widely (Ok x) = Ok (widened x.0, x.1)
widely (Err fault) = Err fault

-- the instruction at the front of the bytes in the model's grammar
abbrev pub decoded_core : List ℕ → Decoded
decoded_core bytes = widely (core_decoded bytes)

-- DMAADDH or DMAADNH of a register
abbrev pub added_by : Address → Bool → List ℕ → Decoded
added_by a n bytes =
    if nat_lt (length bytes) 3 then Err Cut else Ok (AddHalfword a (little_number 2 (drop 1 bytes)) n, 3)

-- the DMALPEND of a loop that DMALPFE begins
abbrev pub again_by : Counter → List ℕ → Decoded
again_by c bytes = if nat_lt (length bytes) 2 then Err Cut else Ok (LoopAgain c (slice_index bytes 1), 2)

-- an instruction that only a chip has, by its first byte and all bytes
abbrev pub beyond_core : ℕ → List ℕ → Decoded
beyond_core b bytes =
    if b == 0x0c then Ok (StoreZeros, 1) else (
    if b == 0x28 then again_by Lc0 bytes else (
    if b == 0x2c then again_by Lc1 bytes else (
    if b == 0x54 then added_by Source false bytes else (
    if b == 0x56 then added_by Destination false bytes else (
    if b == 0x5c then added_by Source true bytes else (
    if b == 0x5e then added_by Destination true bytes else Err (Unknown b)))))))

-- where the model's grammar has no instruction with the first byte, a chip may have one
abbrev pub or_beyond : List ℕ → CoreDecoded → Decoded
or_beyond = or_more widened beyond_core

-- the instruction at the front of the bytes in a chip's grammar
abbrev pub decoded : List ℕ → Decoded
decoded bytes = or_beyond bytes (core_decoded bytes)

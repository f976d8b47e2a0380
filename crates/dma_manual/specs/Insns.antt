-- The manual's instructions (ARM DDI 0424, instruction set): those that channels of the model execute, and the bytes of
-- those that none executes.
use Rattle.std.specs.Prelude.{ℕ, ◌+◌, ◌*◌, ◌/◌, ◌%◌, ◌^◌, ◌<◌, ◌==◌, Bool, true, false, List, [], ◌∷◌, length, drop, slice_index, nat_lt}
use Rattle.std.specs.Prelude.{if◌then◌else◌, Result, Ok, Err}
use Rattle.byteorder.specs.Endian.{little_bytes, little_number}
use Rattle.dma_insn.specs.declared.codec.DecodeFault.TheVariants.{Cut, Unknown, BadField}
use Rattle.dma_insn.specs.declared.insn.Counter.TheVariants.{Lc0, Lc1}
use Rattle.dma_insn.specs.{declared.codec.DecodeFault.DecodeFault, declared.insn.Counter.Counter}
use Rattle.dma_manual.specs.declared.insns.OtherInsn.TheVariants.{Kill, LdIf, StIf, OfPeripheral, LpEndIf, LoopAgainIf, Go}
use Rattle.dma_manual.specs.{declared.insns.Action.Action, declared.insns.ManualInsn.ManualInsn, declared.insns.ManualInsn.TheVariants.Chip}
use Rattle.dma_manual.specs.{declared.insns.ManualInsn.TheVariants.Other, declared.insns.OtherInsn.OtherInsn, declared.insns.Request.Request}
use Rattle.dma_manual.specs.{declared.insns.Request.TheVariants.Single, declared.insns.Request.TheVariants.Burst}
use Rattle.dma_insn.specs.Grammar.{Refused, Spelled, or_more}
use Rattle.dma_insn.specs.Chip.{Decoded as ChipDecoded, HasRanges as HasChipRanges, decoded as chip_decoded, spelling as chip_spelling}
use Rattle.dma_manual.specs.declared.insns.Action.TheVariants as action
use Rattle.dma_manual.specs.declared.insns.Awaited.TheVariants as awaited

-- the bits of a byte that say for which kind of request an instruction is: its bit 1
abbrev pub request_bits : Request → ℕ
request_bits Single = 0
request_bits Burst = 2

-- the first byte of an instruction with a peripheral: DMALDPS, DMALDPB, DMASTPS, DMASTPB, DMAWFP or DMAFLUSHP
abbrev pub action_byte : Action → ℕ
action_byte (action.Ld r) = 0x25 + request_bits r
action_byte (action.St r) = 0x29 + request_bits r
action_byte (action.Wait awaited.Single) = 0x30
action_byte (action.Wait awaited.Either) = 0x31
action_byte (action.Wait awaited.Burst) = 0x32
action_byte action.Flush = 0x35

-- the first byte of a DMALPENDS or DMALPENDB of a loop that DMALP begins
abbrev pub end_if_byte : Request → Counter → ℕ
end_if_byte r Lc0 = 0x39 + request_bits r
end_if_byte r Lc1 = 0x3d + request_bits r

-- the first byte of DMAGO, whose bit 1 is ns
abbrev pub go_byte : Bool → ℕ
go_byte false = 0xa0
go_byte true = 0xa2

-- The bytes of an instruction that no channel executes. DMAKILL, DMALDS, DMALDB, DMASTS and DMASTB have one byte. The
-- second byte has a peripheral in bits 7:3, or is the jump back. DMAGO has its channel in the second byte, and then the
-- four bytes of the address, the lowest first.
abbrev pub other_spelling : OtherInsn → List ℕ
other_spelling Kill = 0x01 ∷ []
other_spelling (LdIf r) = (0x05 + request_bits r) ∷ []
other_spelling (StIf r) = (0x09 + request_bits r) ∷ []
other_spelling (OfPeripheral a p) = action_byte a ∷ (p * 8) ∷ []
other_spelling (LpEndIf r c b) = end_if_byte r c ∷ b ∷ []
other_spelling (LoopAgainIf r b) = (0x2d + request_bits r) ∷ b ∷ []
other_spelling (Go c a ns) = go_byte ns ∷ c ∷ little_bytes 4 a

-- the bytes of an instruction
abbrev pub spelling : ManualInsn → List ℕ
spelling (Chip i) = chip_spelling i
spelling (Other i) = other_spelling i

-- The ranges of the fields. The types guarantee them.
abbrev pub HasOtherRanges : OtherInsn → Type 0
HasOtherRanges (OfPeripheral a p) = p < 32
HasOtherRanges (LpEndIf r c b) = b < 256
HasOtherRanges (LoopAgainIf r b) = b < 256
HasOtherRanges (Go c a ns) = (c < 8) × (a < 2 ^ 32)
HasOtherRanges _ = Unit {0}

-- Each field of an instruction of the manual is in its range.
abbrev pub HasRanges : ManualInsn → Type 0
HasRanges (Chip i) = HasChipRanges i
HasRanges (Other i) = HasOtherRanges i

-- The first n bytes are the encoding of the instruction i, which is in range.
abbrev pub IsSpelledAt : List ℕ → ManualInsn → ℕ → Type 0
IsSpelledAt = Spelled HasRanges spelling

-- why bytes that begin with no instruction are refused
abbrev pub IsRefusedFor : List ℕ → DecodeFault → Type 0
IsRefusedFor = Refused HasRanges spelling

-- ---- decoding

-- an instruction that no channel executes and its length in bytes, or a fault
abbrev pub OtherDecoded : Type 0
OtherDecoded = Result (OtherInsn × ℕ) DecodeFault

-- an instruction with a peripheral, whose bits 2:0 of the second byte are 0
abbrev pub of_peripheral : Action → List ℕ → OtherDecoded
of_peripheral a bytes =
    if nat_lt (length bytes) 2 then Err Cut else (
    if (slice_index bytes 1 % 8) == 0 then Ok (OfPeripheral a (slice_index bytes 1 / 8), 2) else Err BadField)

-- a DMALPENDS or DMALPENDB of a loop that DMALP begins
abbrev pub end_if : Request → Counter → List ℕ → OtherDecoded
end_if r c bytes = if nat_lt (length bytes) 2 then Err Cut else Ok (LpEndIf r c (slice_index bytes 1), 2)

-- a DMALPENDS or DMALPENDB of a loop that DMALPFE begins
abbrev pub again_if : Request → List ℕ → OtherDecoded
again_if r bytes = if nat_lt (length bytes) 2 then Err Cut else Ok (LoopAgainIf r (slice_index bytes 1), 2)

-- a DMAGO, whose bits 7:3 of the second byte are 0
abbrev pub go_of : Bool → List ℕ → OtherDecoded
go_of ns bytes =
    if nat_lt (length bytes) 6 then Err Cut else (
    if nat_lt (slice_index bytes 1) 8 then Ok (Go (slice_index bytes 1) (little_number 4 (drop 2 bytes)) ns, 6)
    else Err BadField)

-- an instruction that no channel executes, by its first byte and all bytes
abbrev pub other_decoded : ℕ → List ℕ → OtherDecoded
other_decoded b bytes =
    if b == 0x01 then Ok (Kill, 1) else (
    if b == 0x05 then Ok (LdIf Single, 1) else (
    if b == 0x07 then Ok (LdIf Burst, 1) else (
    if b == 0x09 then Ok (StIf Single, 1) else (
    if b == 0x0b then Ok (StIf Burst, 1) else (
    if b == 0x25 then of_peripheral (action.Ld Single) bytes else (
    if b == 0x27 then of_peripheral (action.Ld Burst) bytes else (
    if b == 0x29 then of_peripheral (action.St Single) bytes else (
    if b == 0x2b then of_peripheral (action.St Burst) bytes else (
    if b == 0x2d then again_if Single bytes else (
    if b == 0x2f then again_if Burst bytes else (
    if b == 0x30 then of_peripheral (action.Wait awaited.Single) bytes else (
    if b == 0x31 then of_peripheral (action.Wait awaited.Either) bytes else (
    if b == 0x32 then of_peripheral (action.Wait awaited.Burst) bytes else (
    if b == 0x35 then of_peripheral action.Flush bytes else (
    if b == 0x39 then end_if Single Lc0 bytes else (
    if b == 0x3b then end_if Burst Lc0 bytes else (
    if b == 0x3d then end_if Single Lc1 bytes else (
    if b == 0x3f then end_if Burst Lc1 bytes else (
    if b == 0xa0 then go_of false bytes else (
    if b == 0xa2 then go_of true bytes else Err (Unknown b)))))))))))))))))))))

-- an instruction of the manual and its length in bytes, or a fault
abbrev pub Decoded : Type 0
Decoded = Result (ManualInsn × ℕ) DecodeFault

-- the result for an instruction that no channel executes, as one for any instruction
abbrev pub as_other : OtherDecoded → Decoded
as_other (Ok x) = Ok (Other x.0, x.1)
as_other (Err fault) = Err fault

-- a channel's instruction; or, if none has the first byte, one that no channel executes
abbrev pub or_other : List ℕ → ChipDecoded → Decoded
or_other = or_more Chip (λ b bytes. as_other (other_decoded b bytes))

-- the instruction at the front of the bytes
abbrev pub decoded : List ℕ → Decoded
decoded bytes = or_other bytes (chip_decoded bytes)

-- What is said of an instruction that isn't decoded, by its first byte (ARM DDI 0424, instruction set).
use Rattle.std.specs.Prelude.{ℕ, ◌==◌, ◌||◌, if◌then◌else◌, List, codes, Option, Some, None}
use Rattle.std.specs.Option.{option_or}
use Rattle.dma_manual.specs.ChipOnly.{chip_only_name}

-- the name of the instruction that begins with this byte, if each channel executes it and it has more bytes
abbrev pub longer_name : ℕ → Option (List ℕ)
longer_name b =
    if b == 0x20 || b == 0x22 then Some (codes "DMALP") else (
    if b == 0x34 then Some (codes "DMASEV") else (
    if b == 0x36 then Some (codes "DMAWFE") else (
    if b == 0x38 || b == 0x3c then Some (codes "DMALPEND") else (
    if b == 0xbc then Some (codes "DMAMOV") else None))))

-- the name of the instruction that begins with this byte, if it has more bytes or some channel doesn't execute it
abbrev pub insn_name : ℕ → Option (List ℕ)
insn_name b = option_or (chip_only_name b) (longer_name b)

-- Which field of an instruction that begins with this byte is refused, and why: DMASEV and DMAWFE have the event in bits
-- 7:3 of the second byte, and DMAWFE its flag in bit 1; the second byte of DMAMOV is the register.
abbrev pub field_words : ℕ → List ℕ
field_words b =
    if b == 0x34 then codes "bits 2:0 of its second byte, beside the event, aren't 0" else (
    if b == 0x36 then codes "bits 2 and 0 of its second byte, beside the event, aren't 0" else (
    if b == 0xbc then codes "its register, the second byte, isn't 0 (SAR), 1 (CCR) or 2 (DAR)"
    else codes "a field is outside its range"))

-- The instructions of a DMA-330 that some channel doesn't execute (ARM DDI 0424, instruction set).
use Rattle.std.specs.Prelude.{ℕ, Bool, ◌==◌, ◌||◌, if◌then◌else◌, List, codes, Option, Some, None}

-- The name of the instruction that begins with this byte, if no channel executes it, or none on the ideal bus. S and B
-- are for single and for burst requests of a peripheral, of which the model has none; DMAGO and DMAKILL are for the
-- chip's manager.
abbrev pub chip_only_name : ℕ → Option (List ℕ)
chip_only_name b =
    if b == 0x01 then Some (codes "DMAKILL") else (
    if b == 0x05 then Some (codes "DMALDS") else (
    if b == 0x07 then Some (codes "DMALDB") else (
    if b == 0x09 then Some (codes "DMASTS") else (
    if b == 0x0b then Some (codes "DMASTB") else (
    if b == 0x0c then Some (codes "DMASTZ") else (
    if b == 0x25 then Some (codes "DMALDPS") else (
    if b == 0x27 then Some (codes "DMALDPB") else (
    if b == 0x29 then Some (codes "DMASTPS") else (
    if b == 0x2b then Some (codes "DMASTPB") else (
    if b == 0x28 || b == 0x2c then Some (codes "DMALPEND of a DMALPFE") else (
    if b == 0x2d then Some (codes "DMALPENDS of a DMALPFE") else (
    if b == 0x2f then Some (codes "DMALPENDB of a DMALPFE") else (
    if b == 0x30 || b == 0x31 || b == 0x32 then Some (codes "DMAWFP") else (
    if b == 0x35 then Some (codes "DMAFLUSHP") else (
    if b == 0x39 || b == 0x3d then Some (codes "DMALPENDS") else (
    if b == 0x3b || b == 0x3f then Some (codes "DMALPENDB") else (
    if b == 0x54 || b == 0x56 then Some (codes "DMAADDH") else (
    if b == 0x5c || b == 0x5e then Some (codes "DMAADNH") else (
    if b == 0xa0 || b == 0xa2 then Some (codes "DMAGO") else None)))))))))))))))))))

-- whether a channel executes the instruction that begins with this byte on a chip's bus, and not on the ideal bus:
-- DMASTZ, the DMALPEND of a DMALPFE, DMAADDH and DMAADNH
abbrev pub needs_chip_bus : ℕ → Bool
needs_chip_bus b =
    b == 0x0c || b == 0x28 || b == 0x2c || b == 0x54 || b == 0x56 || b == 0x5c || b == 0x5e

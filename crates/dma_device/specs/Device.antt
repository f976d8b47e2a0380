-- The registers of a DMA-330 as a guest's driver sees them (DMA-330 manual, register summary), and what a write does.
use Rattle.std.specs.Prelude.{ℕ, ◌+◌, ◌-◌, ◌*◌, ◌/◌, ◌%◌, ◌^◌, Bool, true, false, not, ◌&&◌, ◌||◌, ◌==◌, nat_le, nat_lt, List, [], ◌∷◌, take, replicate, Option}
use Rattle.std.specs.Prelude.{Some, None, slice_get, slice_set, bit_and, bit_or, if◌then◌else◌}
use Rattle.std.specs.{Int.w32, Int.bit_at, Int.bit_not, List.list_any, Option.option_map_or}
use Rattle.dma_mem.specs.Regions.{Piece, run_from}
use Rattle.dma_insn.specs.{AssemblyText.most_program_bytes, ControlWord.field, ControlWord.flag}
use Rattle.dma_chan.specs.{declared.exec.Registers.Registers, Bus.bus_code}
use Rattle.dma_device.specs.Thread.{is_faulting, is_stopped, status_bits, reset_thread, failed, killed, started, undef_instr, operand_invalid, dmago_err}
use Rattle.dma_device.specs.Thread.{dbg_instr}
use Rattle.dma_device.specs.{Config.revision_code, declared.config.Config.Config, declared.config.Revision.Revision, declared.device.Manager.Manager}
use Rattle.dma_device.specs.{declared.thread.Thread.Thread}
use Rattle.dma_device.specs.Offsets as offset

-- A device: its configuration; the events and the interrupts that are set; INTEN, which says for each event whether a
-- DMASEV raises it as an interrupt; the debug registers; the manager; and the channel threads.
pub record DeviceValue : Type 0 where
  pub config : Config
  pub events : ℕ
  pub interrupts : ℕ
  pub inten : ℕ
  pub dbginst0 : ℕ
  pub dbginst1 : ℕ
  pub manager : Manager
  pub threads : List Thread

-- a device after a reset
abbrev pub reset_device : Config → DeviceValue
reset_device g = record {
  config = g;
  events = 0;
  interrupts = 0;
  inten = 0;
  dbginst0 = 0;
  dbginst1 = 0;
  manager = record { is_faulting = false; fault = 0 };
  threads = replicate g.channels (reset_thread g.bus);
}

-- a bit for each event that the device has
abbrev pub all_events : DeviceValue → ℕ
all_events d = 2 ^ d.config.events - 1

-- the lines irq[31:0], and INTMIS: the interrupts that are set
abbrev pub irqs : DeviceValue → ℕ
irqs d = d.interrupts

-- the line irq_abort: a thread is faulting
abbrev pub irq_abort : DeviceValue → Bool
irq_abort d = d.manager.is_faulting || list_any is_faulting d.threads

-- ---- the registers that each channel has

-- bit n: thread n is faulting
abbrev pub faulting_bits : List Thread → ℕ
faulting_bits [] = 0
faulting_bits (t ∷ ts) = flag (is_faulting t) + 2 * faulting_bits ts

-- CSR: the status in bits 3:0, the awaited event in bits 8:4, non-secure in bit 21
abbrev pub csr : Thread → ℕ
csr t = status_bits t.status + flag t.nonsecure * 2 ^ 21

-- SAR, DAR, CCR, LC0 and LC1, by their offset from SAR
abbrev pub address_register : Registers → ℕ → ℕ
address_register r at =
    if at == 0x00 then r.sar else (
    if at == 0x04 then r.dar else (
    if at == 0x08 then r.ccr else (
    if at == 0x0C then r.lc0 else (
    if at == 0x10 then r.lc1 else 0))))

-- the value of a register of thread n, or 0 if the device doesn't have the thread
abbrev pub of_thread : (Thread → ℕ) → Option Thread → ℕ
of_thread value thread = option_map_or value thread 0

-- The registers that each channel has: FTR n at 0x040 + 4n; CSR n and CPC n at 0x100 + 8n and 0x104 + 8n; SAR n, DAR n,
-- CCR n, LC0 n and LC1 n from 0x400 + 0x20n on.
abbrev pub channel_register : List Thread → ℕ → ℕ
channel_register ts at =
    if nat_lt at offset.csr then of_thread (λ t. t.fault) (slice_get ts ((at - offset.ftr) / 4)) else (
    if nat_lt at offset.sar then
    of_thread (λ t. if at % 8 == 0 then csr t else t.pc) (slice_get ts ((at - offset.csr) / 8)) else
    of_thread (λ t. address_register t.channel.registers (at % 0x20)) (slice_get ts ((at - offset.sar) / 0x20)))

-- ---- the other registers

-- DSR: the manager's status in bits 3:0, non-secure in bit 9
abbrev pub dsr : DeviceValue → ℕ
dsr d = 15 * flag d.manager.is_faulting + flag d.config.nonsecure * 2 ^ 9

-- CR0: non-secure after a reset in bit 2, the number of channels less 1 in bits 6:4, that of events less 1 in bits
-- 21:17
abbrev pub cr0 : Config → ℕ
cr0 g = flag g.nonsecure * 2 ^ 2 + (g.channels - 1) * 2 ^ 4 + (g.events - 1) * 2 ^ 17

-- CR1: the instruction cache, eight lines of 32 bytes
abbrev pub cr1 : ℕ
cr1 = 5 + 7 * 2 ^ 4

-- CR3: bit n is 1 if event n is non-secure after a reset
abbrev pub cr3 : DeviceValue → ℕ
cr3 d = if d.config.nonsecure then all_events d else 0

-- CRD: the width of the data bus in bits 2:0, 8 writes and 8 reads at a time in queues of 16, and the number of the
-- buffer's lines less 1 in bits 29:20
abbrev pub crd : Config → ℕ
crd g = bus_code g.bus + 7 * 2 ^ 4 + 15 * 2 ^ 8 + 7 * 2 ^ 12 + 15 * 2 ^ 16 + (g.lines - 1) * 2 ^ 20

-- periph_id_0 to 3 and pcell_id_0 to 3, a byte in each: part 0x330 of maker 0x41 (Arm), and the revision in bits 7:4 of
-- periph_id_2; a PrimeCell's id
abbrev pub id : Revision → ℕ → ℕ
id revision at =
    if at == 0xFE0 then 0x30 else (
    if at == 0xFE4 then 0x13 else (
    if at == 0xFE8 then 4 + revision_code revision * 2 ^ 4 else (
    if at == 0xFEC then 0x00 else (
    if at == 0xFF0 then 0x0D else (
    if at == 0xFF4 then 0xF0 else (
    if at == 0xFF8 then 0x05 else (
    if at == 0xFFC then 0xB1 else 0)))))))

-- The registers outside the channels'. INT_EVENT_RIS (0x024) has both the events and the interrupts that are set. DPC
-- (0x004), CR2 (0xE08), CR4 (0xE10) and DBGSTATUS (0xD00) are 0, and so are the write-only ones: INTCLR (0x02C),
-- DBGCMD (0xD04), DBGINST0 (0xD08) and DBGINST1 (0xD0C).
abbrev pub device_register : DeviceValue → ℕ → ℕ
device_register d at =
    if at == offset.dsr then dsr d else (
    if at == offset.inten then d.inten else (
    if at == offset.int_event_ris then bit_or d.events d.interrupts else (
    if at == offset.intmis then irqs d else (
    if at == offset.fsrd then flag d.manager.is_faulting else (
    if at == offset.fsrc then faulting_bits d.threads else (
    if at == offset.ftrd then d.manager.fault else (
    if at == offset.cr0 then cr0 d.config else (
    if at == offset.cr1 then cr1 else (
    if at == offset.cr3 then cr3 d else (
    if at == offset.crd then crd d.config else id d.config.revision at))))))))))

-- the value that a read of the register at an offset returns; 0 at an offset that has no register
abbrev pub read_at : DeviceValue → ℕ → ℕ
read_at d at =
    if at % 4 == 0 then
    (if nat_le offset.ftr at && nat_lt at offset.dbgstatus then channel_register d.threads at else device_register d at)
    else 0

-- ---- the debug instruction: it is executed by the thread that bits 10:8 of DBGINST0 number if bit 0 is 1, else by the
-- manager. Its bytes 0 and 1 are in bits 31:16 of DBGINST0, and bytes 2 to 5 are in DBGINST1.

-- the manager, failing
abbrev pub manager_failed : ℕ → DeviceValue → DeviceValue
manager_failed why d = record d { manager = record { is_faulting = true; fault = why + dbg_instr } }

-- Whether FTRD goes with the manager: it has the fault of a debug instruction, or is 0 if the manager isn't faulting. If
-- the manager isn't faulting, it may have failed before a DMAKILL, which keeps the fault.
abbrev pub has_ftrd : Manager → Bool
has_ftrd m =
    m.fault == 0 && not m.is_faulting
    || (m.fault == undef_instr + dbg_instr
    || (m.fault == operand_invalid + dbg_instr || m.fault == dmago_err + dbg_instr))

-- the device with a thread replaced
abbrev pub with_thread : ℕ → Thread → DeviceValue → DeviceValue
with_thread n t d = record d { threads = slice_set d.threads n t }

-- whether byte 1 of a DMASEV is an event that the device has, in bits 7:3; bits 2:0 are 0
abbrev pub is_event : DeviceValue → ℕ → Bool
is_event d byte = byte % 8 == 0 && nat_lt (byte / 8) d.config.events

-- whether INTEN makes event n an interrupt
abbrev pub is_interrupt : DeviceValue → ℕ → Bool
is_interrupt d n = bit_at d.inten n == 1

-- The device after a DMASEV of event n (DMA-330 manual, INTEN): interrupt n is set if INTEN makes it an interrupt, else
-- event n is.
abbrev pub signalled : ℕ → DeviceValue → DeviceValue
signalled n d =
    if is_interrupt d n then record d { interrupts = bit_or d.interrupts (2 ^ n) }
    else record d { events = bit_or d.events (2 ^ n) }

-- the program that begins at an address: the bytes of RAM from there up to the first address that isn't in RAM, at most
-- 8,192 (profile)
abbrev pub program_at : List Piece → ℕ → List ℕ
program_at ram addr = take most_program_bytes (run_from ram addr)

-- A thread that the manager starts by DMAGO. Nothing happens to one that isn't stopped.
abbrev pub gone : List Piece → Bool → ℕ → Thread → DeviceValue → DeviceValue
gone ram nonsecure n t d =
    if is_stopped t then with_thread n (started nonsecure d.dbginst1 (program_at ram d.dbginst1) t) d else d

-- DMAGO, byte 1 of which is the channel
abbrev pub go : List Piece → Bool → ℕ → Option Thread → DeviceValue → DeviceValue
go ram nonsecure n None d = manager_failed operand_invalid d
go ram nonsecure n (Some t) d =
    if d.config.nonsecure && not nonsecure then manager_failed dmago_err d else gone ram nonsecure n t d

-- The manager executes an instruction: DMAKILL (0x01), DMASEV (0x34), DMAGO (0xA0; 0xA2 for a non-secure channel).
-- A faulting manager executes only DMAKILL.
abbrev pub by_manager : List Piece → ℕ → ℕ → DeviceValue → DeviceValue
by_manager ram opcode byte d =
    if opcode == 0x01 then record d { manager = record (d.manager) { is_faulting = false } } else (
    if d.manager.is_faulting then d else (
    if opcode == 0x34 then
    (if is_event d byte then signalled (byte / 8) d else manager_failed operand_invalid d) else (
    if opcode == 0xA0 then go ram false byte (slice_get d.threads byte) d else (
    if opcode == 0xA2 then go ram true byte (slice_get d.threads byte) d else
    manager_failed undef_instr d))))

-- A channel thread executes an instruction: DMAKILL or DMASEV, also if it is stopped (profile). A faulting thread
-- executes only DMAKILL, and nothing happens if the device doesn't have the thread.
abbrev pub by_thread : ℕ → Option Thread → ℕ → ℕ → DeviceValue → DeviceValue
by_thread n None opcode byte d = d
by_thread n (Some t) opcode byte d =
    if opcode == 0x01 then with_thread n (killed t) d else (
    if is_faulting t then d else (
    if opcode == 0x34 then
    (if is_event d byte then signalled (byte / 8) d else with_thread n (failed (operand_invalid + dbg_instr) t) d) else
    with_thread n (failed (undef_instr + dbg_instr) t) d))

-- the device after the debug instruction
abbrev pub debugged : List Piece → DeviceValue → DeviceValue
debugged ram d =
    let opcode = field 16 8 d.dbginst0 in
    let byte = field 24 8 d.dbginst0 in
    let n = field 8 3 d.dbginst0 in
    if field 0 1 d.dbginst0 == 1 then by_thread n (slice_get d.threads n) opcode byte d
    else by_manager ram opcode byte d

-- ---- writes

-- The device after a write of a value to INTCLR. Of the events that INTEN makes interrupts, those with a 1 in the value
-- are cleared, whichever way they were set: as an interrupt (DMA-330 manual, INTCLR), and as an event, by a DMASEV that
-- came while INTEN made it one (profile). The manual has one resource for both, and INT_EVENT_RIS shows one bit.
-- Otherwise a driver that finds the bit set and clears it, as Linux's does, would find it again at each later interrupt.
abbrev pub cleared_by : ℕ → DeviceValue → DeviceValue
cleared_by value d =
    let kept = bit_not w32 (bit_and value d.inten) in
    record d { events = bit_and d.events kept; interrupts = bit_and d.interrupts kept }

-- The device after a write to the register at an offset, with this RAM: INTEN, which changes neither events nor
-- interrupts; INTCLR; DBGINST0 and DBGINST1; and DBGCMD, to which a write of 0 in bits 1:0 executes the debug
-- instruction. Other writes are ignored.
abbrev pub written : List Piece → ℕ → ℕ → DeviceValue → DeviceValue
written ram at value d =
    if at == offset.inten then record d { inten = bit_and value (all_events d) } else (
    if at == offset.intclr then cleared_by value d else (
    if at == offset.dbgcmd then (if value % 4 == 0 then debugged ram d else d) else (
    if at == offset.dbginst0 then record d { dbginst0 = value } else (
    if at == offset.dbginst1 then record d { dbginst1 = value } else d))))

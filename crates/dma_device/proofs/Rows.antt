-- Rows computed from the definitions: values after a reset, a DMAGO of a program with its turns, and INTCLR.
use Rattle.std.proofs.Common.{◌≡◌, ℕ, ◌+◌, ◌<◌, zero, suc, arith, sym, true≢false, true, false, List, [], ◌∷◌, map, get_or, Some, None, refl}
use Rattle.std.specs.{Prelude.IsTrue, Prelude.slice_index, List.list_any}
use Rattle.dma_insn.specs.ControlWord.{control_of, end_at, is_control}
use Rattle.dma_mem.specs.{Flags.flags_of, Regions.Piece, Regions.has, Regions.image_of}
use Rattle.dma_chan.specs.declared.bus.BusWidth.TheVariants.{Bits32, Bits64, Bits128}
use Rattle.dma_chan.specs.Stepping.{Machine, after_steps, last_of, machine, signal_after}
use Rattle.dma_chan.specs.{declared.bus.Bus.TheVariants.Chip, Channel.loaded_with, Exec.reset_on, declared.turn.ChanTurn.TheVariants.Ended, Written.range_at}
use Rattle.dma_device.specs.Device.{DeviceValue, irq_abort, irqs, read_at, reset_device, with_thread, written}
use Rattle.dma_device.specs.Turns.{raises, runs_at, visible_events, with_flags}
use Rattle.dma_device.specs.Accesses.{Access, Reads, Turned, Turns, Value, Writes}
use Rattle.dma_device.specs.{declared.config.Config.Config, declared.config.Revision.TheVariants.R0p0, declared.config.Revision.TheVariants.R1p2}
use Rattle.dma_device.specs.{Config.is_valid, Dmago.HasProgram, Thread.reset_thread, Run.LentDevice, Run.next, Run.run}

-- eight channels, 32 events, and 16 lines of 16 bytes for each channel
abbrev pub largest : Config
largest = record { channels = 8; events = 32; nonsecure = false; bus = Bits128; lines = 128; revision = R1p2 }

-- ---- after a reset

cr0_reset : read_at (reset_device largest) 0xE00 ≡ 0x003E0070
cr0_reset = refl

cr1_reset : read_at (reset_device largest) 0xE04 ≡ 0x75
cr1_reset = refl

crd_reset : read_at (reset_device largest) 0xE14 ≡ 0x07FF7F74
crd_reset = refl

cr3_nonsecure : read_at (reset_device (record largest { nonsecure = true })) 0xE0C ≡ 0xFFFFFFFF
cr3_nonsecure = refl

inten_reset : read_at (reset_device largest) 0x020 ≡ 0
inten_reset = refl

-- ---- chips, and the limits of the buffer's lines

-- Stratix 10, Arria 10 and Cyclone V: 8 channels, 32 events, 512 lines of 64 bits
abbrev stratix : Config
stratix = record { channels = 8; events = 32; nonsecure = false; bus = Bits64; lines = 512; revision = R1p2 }

valid_stratix : is_valid stratix ≡ true
valid_stratix = refl

crd_stratix : read_at (reset_device stratix) 0xE14 ≡ 0x1FFF7F73
crd_stratix = refl

-- Juno: 1,024 lines of 128 bits, as many as CRD has room for
abbrev juno : Config
juno = record { channels = 8; events = 8; nonsecure = false; bus = Bits128; lines = 1024; revision = R1p2 }

valid_juno : is_valid juno ≡ true
valid_juno = refl

crd_juno : read_at (reset_device juno) 0xE14 ≡ 0x3FFF7F74
crd_juno = refl

-- Exynos 5420: 4 lines of 64 bits for 6 channels
valid_exynos : is_valid (record stratix { channels = 6; lines = 4 }) ≡ true
valid_exynos = refl

refused_lines : is_valid (record juno { lines = 1025 }) ≡ false
refused_lines = refl

refused_no_lines : is_valid (record juno { lines = 0 }) ≡ false
refused_no_lines = refl

-- channel 7 has its registers, and a device with one channel has none of channel 1
csr_reset : read_at (reset_device largest) 0x138 ≡ 0
csr_reset = refl

no_channel_law : read_at (reset_device (record largest { channels = 1 })) 0x108 ≡ 0
no_channel_law = refl

-- a bus of 32 bits, and r0p0
crd_narrow : read_at (reset_device (record largest { bus = Bits32 })) 0xE14 ≡ 0x07FF7F72
crd_narrow = refl

periph_id_2_r1p2 : read_at (reset_device largest) 0xFE8 ≡ 0x34
periph_id_2_r1p2 = refl

periph_id_2_r0p0 : read_at (reset_device (record largest { revision = R0p0 })) 0xFE8 ≡ 0x04
periph_id_2_r0p0 = refl

periph_id_0 : read_at (reset_device largest) 0xFE0 ≡ 0x30
periph_id_0 = refl

-- ---- a program: DMASEV 1 and DMAEND at 0x100

abbrev ram : List Piece
ram = record { addr = 0x100; bytes = 0x34 ∷ 0x08 ∷ 0x00 ∷ [] } ∷ []

-- event 1 is an interrupt
abbrev ready : DeviceValue
ready = written ram 0x020 0x2 (reset_device largest)

-- DMAGO of channel 3
abbrev going : DeviceValue
going = written ram 0xD04 0 (written ram 0xD0C 0x100 (written ram 0xD08 0x03A00000 ready))

-- CCR 3 after a reset
ccr_reset : read_at (reset_device largest) 0x468 ≡ 0x00800200
ccr_reset = refl

-- a device whose channel 3 a program has left with these registers, and the same DMAGO, which keeps SAR, DAR, CCR and
-- LC0
abbrev used : DeviceValue
used =
    let t = reset_thread Bits128 in
    let r = record (t.channel.registers) { pc = 7; sar = 0x1000; dar = 0x2000; lc0 = 5 } in
    with_thread 3 (record t { channel = record (t.channel) { registers = r } }) ready

abbrev going_again : DeviceValue
going_again = written ram 0xD04 0 (written ram 0xD0C 0x100 (written ram 0xD08 0x03A00000 used))

registers_kept : map (read_at going_again) (0x460 ∷ 0x464 ∷ 0x468 ∷ 0x46C ∷ []) ≡ 0x1000 ∷ 0x2000 ∷ 0x00800200 ∷ 5 ∷ []
registers_kept = refl

cpc_again : read_at going_again 0x11C ≡ 0x100
cpc_again = refl

csr_going : read_at going 0x118 ≡ 1
csr_going = refl

cpc_going : read_at going 0x11C ≡ 0x100
cpc_going = refl

runs_going : runs_at going 3 ≡ true
runs_going = refl

-- its channel after the first step, and what that sets and answers; then DMAEND
abbrev began : Machine
began = machine (loaded_with (reset_on (Chip Bits128)) (record { bytes = 0x34 ∷ 0x08 ∷ 0x00 ∷ []; cost = None })) [] (flags_of (visible_events going))

first_flags : (after_steps [] began 1).flags ≡ flags_of 0x2
unfolding flags_of
first_flags = refl

first_signal : signal_after [] began 1 ≡ Some 1
first_signal = refl

interrupts_first : (with_flags 0x2 going).interrupts ≡ 0x2
interrupts_first = refl

events_first : (with_flags 0x2 going).events ≡ 0
events_first = refl

raises_first : raises going (Some 1) ≡ true
raises_first = refl

second_answer : last_of [] began 2 ≡ Some Ended
unfolding flags_of
second_answer = refl

-- ---- a bus of 32 bits

-- DMAMOV CCR with beats of four bytes at both ends, and DMAMOV CCR with source beats of eight bytes
abbrev beats : List Piece
beats = record { addr = 0x100; bytes = 188 ∷ 1 ∷ 5 ∷ 64 ∷ 1 ∷ 0 ∷ 188 ∷ 1 ∷ 7 ∷ 64 ∷ 1 ∷ 0 ∷ 0 ∷ [] } ∷ []

abbrev narrow : LentDevice
narrow = record {
  device = written beats 0xD04 0 (written beats 0xD0C 0x100 (written beats 0xD08 0x03A00000 (reset_device (record largest { bus = Bits32 }))));
  ram = record { pieces = beats; read_only = [] };
}

abbrev wide_turn : Access
wide_turn = Turns 3 10

-- after a turn the channel fails at the second, with operand_invalid
csr_wide : (next (Reads 0x118) (next wide_turn narrow).0).1 ≡ Value 15
unfolding flags_of is_control control_of end_at
csr_wide = refl

ftr_wide : (next (Reads 0x04C) (next wide_turn narrow).0).1 ≡ Value 2
unfolding flags_of is_control control_of end_at
ftr_wide = refl

cpc_wide : (next (Reads 0x11C) (next wide_turn narrow).0).1 ≡ Value 0x106
unfolding flags_of is_control control_of end_at
cpc_wide = refl

-- DMAGO of channel 8, which no device has
abbrev lost : DeviceValue
lost = written ram 0xD04 0 (written ram 0xD08 0x08A00000 ready)

ftrd_lost : read_at lost 0x038 ≡ 0x40000002
ftrd_lost = refl

fsrd_lost : read_at lost 0x030 ≡ 1
fsrd_lost = refl

abort_lost : irq_abort lost ≡ true
abort_lost = refl

-- a DMAKILL of the manager
abort_killed : irq_abort (written ram 0xD04 0 (written ram 0xD08 0x00010000 lost)) ≡ false
abort_killed = refl

-- ---- INTCLR

-- a DMASEV of event 1 and one of event 2, by the manager
abbrev both : DeviceValue
both = written ram 0xD04 0 (written ram 0xD08 0x10340000 (written ram 0xD04 0 (written ram 0xD08 0x08340000 ready)))

ris_both : read_at both 0x024 ≡ 0x6
ris_both = refl

irqs_both : irqs both ≡ 0x2
irqs_both = refl

-- the interrupt is cleared, and the event, which INTEN doesn't make one, is not
ris_cleared : read_at (written ram 0x02C 0x6 both) 0x024 ≡ 0x4
ris_cleared = refl

-- channels see the event alone
events_both : visible_events both ≡ 0x4
events_both = refl

-- ---- INTEN

-- the event becomes no interrupt, and the interrupt no event; neither can a channel see
abbrev turned_over : DeviceValue
turned_over = written ram 0x020 0x4 both

irqs_turned_over : irqs turned_over ≡ 0x2
irqs_turned_over = refl

events_turned_over : visible_events turned_over ≡ 0
events_turned_over = refl

-- INTCLR clears only what INTEN makes an interrupt: here the event, and not the interrupt
ris_turned_over : read_at (written ram 0x02C 0x6 turned_over) 0x024 ≡ 0x2
ris_turned_over = refl

irqs_cleared : irqs (written ram 0x02C 0x6 turned_over) ≡ 0x2
irqs_cleared = refl

-- and once INTEN makes it one again, no event is left of it
events_cleared : visible_events (written ram 0x020 0x2 (written ram 0x02C 0x6 turned_over)) ≡ 0
events_cleared = refl

-- ---- a run: INTEN, DMAGO of channel 3, a turn, INTCLR

abbrev accesses : List Access
accesses =
    Writes 0x020 0x2 ∷ Writes 0xD08 0x03A00000 ∷ Writes 0xD0C 0x100 ∷ Writes 0xD04 0 ∷ Turns 3 10 ∷ Reads 0x118
    ∷ Writes 0x02C 0x2 ∷ []

abbrev access : ℕ → Access
access k = get_or accesses k (Reads 0x028)

abbrev start : LentDevice
start = record { device = reset_device largest; ram = record { pieces = ram; read_only = [] } }

-- the turn raises the interrupt and ends the program in two steps, and writes nothing
turn_run : (next (access 4) (run access start 4)).1 ≡ Turned (record { written = range_at 0 0; lines_changed = true; taken = 2 })
unfolding flags_of
turn_run = refl

line_run : irqs (run access start 5).device ≡ 0x2
unfolding flags_of
line_run = refl

csr_run : (next (access 5) (run access start 5)).1 ≡ Value 0
unfolding flags_of
csr_run = refl

intmis_run : (next (access 7) (run access start 7)).1 ≡ Value 0
unfolding flags_of
intmis_run = refl

-- ---- a program in RAM

-- two pieces without a gap between them
abbrev two_pieces : List Piece
two_pieces = record { addr = 0x100; bytes = 7 ∷ (0x18 ∷ []) } ∷ (record { addr = 0x102; bytes = 0x18 ∷ (0 ∷ []) } ∷ [])

across_two : HasProgram two_pieces 0x101 (0x18 ∷ (0x18 ∷ (0 ∷ [])))
across_two = record { order = refl; short = omega arith; lies = lies; bytes = bytes }
  where
    lies : (k : ℕ) → k < 3 → IsTrue (list_any (has (0x101 + k)) two_pieces)
    lies zero less = refl
    lies (suc zero) less = refl
    lies (suc (suc zero)) less = refl
    lies (suc (suc (suc k))) less = absurd (omega arith)

    bytes : (k : ℕ) → k < 3 → slice_index (image_of two_pieces) (0x101 + k) ≡ slice_index (0x18 ∷ (0x18 ∷ (0 ∷ []))) k
    bytes zero less = refl
    bytes (suc zero) less = refl
    bytes (suc (suc zero)) less = refl
    bytes (suc (suc (suc k))) less = absurd (omega arith)

-- the address after the last piece isn't in RAM, whatever byte the program has there
past_the_end : (b : ℕ) → ¬ HasProgram two_pieces 0x103 (0 ∷ (b ∷ []))
past_the_end b h = true≢false (sym (h.lies 1 (omega arith)))

-- another byte
other_byte_law : ¬ HasProgram two_pieces 0x100 (8 ∷ [])
other_byte_law h = let bad : 7 ≡ 8 = h.bytes 0 (omega arith) in omega (arith, bad)

-- The limits, as numbers, and a program worked out: rows computed from the definitions, and the code's own constants.
-- And what a law refuses.
use Rattle.std.proofs.Common.{◌≡◌, ℕ, zero, suc, ◌<◌, ◌+◌, ◌*◌, ◌^◌, [], ◌∷◌, map, Some, None, Ok, Err, true, false, refl, arith, List, ◌++◌}
use Rattle.dma_mem.specs.{Places.Descriptor, Places.filling, Image.put}
use Rattle.dma_insn.specs.ControlWord.{bits_of, control_of, end_at, end_bits, is_control}
use Rattle.dma_insn.specs.declared.chip.ChipInsn.TheVariants.{Ld, StoreZeros, AddHalfword, LoopAgain}
use Rattle.dma_insn.specs.{AssemblyText.most_program_bytes, declared.assembler.TheConstants.MAX_PROGRAM_BYTES, Chip.decoded, Chip.decoded_core}
use Rattle.dma_insn.specs.{declared.chip.Address.TheVariants.Source, declared.chip.Address.TheVariants.Destination}
use Rattle.dma_insn.specs.{declared.codec.DecodeFault.TheVariants.Unknown, declared.insn.Counter.TheVariants.Lc0, declared.insn.Counter.TheVariants.Lc1}
use Rattle.dma_chan.specs.Compiled.{beat_of, parts, members, cost, compiled, compiled_on, most_compiled}
use Rattle.dma_chan.specs.{declared.bursts.TheConstants.BUFFER_SIZE, declared.bus.Bus.TheVariants.Ideal, declared.bus.Bus.TheVariants.Chip}
use Rattle.dma_chan.specs.{declared.bus.BusWidth.TheVariants.Bits32, declared.bus.BusWidth.TheVariants.Bits64, declared.bus.BusWidth.TheVariants.Bits128}
use Rattle.dma_chan.specs.{Bursts.burst_at, Bursts.burst_len, Bursts.reaches, Bursts.touched, Bus.accepts, declared.rowwise.Rows.Rows, Rowwise.RunsRows}
use Rattle.dma_chan.specs.{Rowwise.WritesRow, Rowwise.row_of, Stepping.Machine, Stepping.after_steps, Written.adjoins, Written.range_at, Exec.act}
use Rattle.dma_chan.specs.{Exec.buffer_size, Exec.start, Exec.start_on, Exec.state, Exec.moved, Traffic.read_len, Traffic.write_len}

-- ---- the code's constants

program_bytes : MAX_PROGRAM_BYTES ≡ most_program_bytes
program_bytes = refl

-- 58 bytes for each of at most 127 pieces, and 5 for the wait, the signal and the end
compiled_bytes_add_up : 58 * 127 + 5 ≡ most_compiled
compiled_bytes_add_up = refl

buffer_bytes : BUFFER_SIZE ≡ buffer_size
buffer_bytes = refl

-- what a transfer costs is below this
cost_limit : 2 ^ 19 ≡ 524288
cost_limit = refl

-- ---- bursts by their control word: 16 beats of 16 bytes are the most, a beat of one byte the least

most_bytes_of_a_burst : read_len 249 ≡ 256
unfolding burst_at
most_bytes_of_a_burst = refl

least_bytes_of_a_burst : write_len 0 ≡ 1
unfolding burst_at
least_bytes_of_a_burst = refl

-- ---- a load of 4 beats of 4 bytes at address 6: its word is 53 if the address rises, and 52 if it doesn't

-- on a chip's bus the first beat ends at 8, so that 14 bytes are read, from 6 to 19, and SAR becomes 20
first_beat_ends_at_a_multiple : touched (burst_at (Chip Bits32) 0 6 53) ≡ 6 ∷ 7 ∷ 8 ∷ 9 ∷ 10 ∷ 11 ∷ 12 ∷ 13 ∷ 14 ∷ 15 ∷ 16 ∷ 17 ∷ 18 ∷ 19 ∷ []
unfolding burst_at
first_beat_ends_at_a_multiple = refl

sar_after_it : (moved Ld (record (start_on (Chip Bits32)) { sar = 6; ccr = 53 })).sar ≡ 20
unfolding burst_at
sar_after_it = refl

-- it moves as many bytes on each chip's bus, and all its 16 at 8, on the ideal bus, and if the address doesn't rise
lengths_at_6_and_8 : map burst_len (burst_at (Chip Bits64) 0 6 53 ∷ burst_at (Chip Bits32) 0 8 53 ∷ burst_at Ideal 0 6 53 ∷ burst_at (Chip Bits32) 0 6 52 ∷ [])
    ≡ 14 ∷ 16 ∷ 16 ∷ 16 ∷ []
unfolding burst_at
lengths_at_6_and_8 = refl

sar_on_the_ideal_bus : (moved Ld (record start { sar = 6; ccr = 53 })).sar ≡ 22
unfolding burst_at
sar_on_the_ideal_bus = refl

-- after the last address SAR is 0
sar_after_the_last_address : (moved Ld (record start { sar = 4294967280; ccr = 53 })).sar ≡ 0
unfolding burst_at
sar_after_the_last_address = refl

-- ranges that are one together, but for all 2 ^ 32 addresses
ranges_up_to_the_last_address : adjoins (range_at 1 4294967294) (range_at 4294967295 1) ∷ adjoins (range_at 0 4294967295) (range_at 4294967295 1) ∷ [] ≡ true ∷
    false ∷ []
ranges_up_to_the_last_address = refl

-- ---- control words that a bus accepts: source beats of four, eight and 16 bytes, destination beats of eight

words_on_32_bits : map (λ w. accepts (Chip Bits32) w) (4 ∷ 6 ∷ 8 ∷ 98304 ∷ []) ≡ true ∷ false ∷ false ∷ false ∷ []
unfolding is_control control_of end_at
words_on_32_bits = refl

words_on_64_bits : map (λ w. accepts (Chip Bits64) w) (4 ∷ 6 ∷ 8 ∷ 98304 ∷ []) ≡ true ∷ true ∷ false ∷ true ∷ []
unfolding is_control control_of end_at
words_on_64_bits = refl

-- 32-byte beats, whose code is 5, fit no bus
words_on_128_bits : map (λ w. accepts (Chip Bits128) w) (8 ∷ 10 ∷ []) ≡ true ∷ false ∷ []
unfolding is_control control_of end_at
words_on_128_bits = refl

words_on_ideal : map (λ w. accepts Ideal w) (8 ∷ 10 ∷ []) ≡ true ∷ false ∷ []
unfolding is_control control_of end_at
words_on_ideal = refl

-- ---- a program

-- four bytes from 0x1000 to 0x2000
abbrev four : Descriptor
four =
    record { fill = false; src = record { addr = 4096; len = 4 } ∷ []; dst = record { addr = 8192; len = 4 } ∷ []; wait = None; signal = None }

-- DMAMOV SAR, DMAMOV DAR, DMAMOV CCR with one beat of four bytes at both ends, DMALD, DMARMB, DMAST, DMAWMB, DMAEND
four_compiled : (compiled four).bytes ≡ 188 ∷ 0 ∷ 0 ∷ 16 ∷ 0 ∷ 0 ∷ 188 ∷ 2 ∷ 0 ∷ 32 ∷ 0 ∷ 0 ∷ 188 ∷ 1 ∷ 5 ∷ 64 ∷ 1 ∷ 0 ∷ 4 ∷ 18 ∷ 8 ∷ 19 ∷ 0 ∷ []
unfolding compiled parts beat_of bits_of end_bits
four_compiled = refl

four_costs : cost four ≡ 8
unfolding cost members parts beat_of bits_of end_bits
four_costs = refl

-- 20 bytes from 0x20 on with the byte at 0x10
abbrev twenty : Descriptor
twenty = filling 16 (record { addr = 32; len = 20 } ∷ []) None None

-- one burst of 16 beats of a byte, and one of four: their control words are 0x003C40F0 and 0x000C4030, with bit 0 clear
twenty_compiled : (compiled twenty).bytes ≡ 188 ∷ 0 ∷ 16 ∷ 0 ∷ 0 ∷ 0 ∷ 188 ∷ 2 ∷ 32 ∷ 0 ∷ 0 ∷ 0 ∷ 188 ∷ 1 ∷ 240 ∷ 64 ∷ 60 ∷ 0 ∷ 34 ∷ 0 ∷ 4 ∷ 18 ∷ 8 ∷ 19 ∷ 60 ∷
    4 ∷ 188 ∷ 1 ∷ 48 ∷ 64 ∷ 12 ∷ 0 ∷ 4 ∷ 18 ∷ 8 ∷ 19 ∷ 0 ∷ []
unfolding compiled parts beat_of bits_of end_bits
twenty_compiled = refl

twenty_costs : cost twenty ≡ 15
unfolding cost members parts beat_of bits_of end_bits
twenty_costs = refl

-- 16 bytes from 0x1000 to 0x2000
abbrev sixteen : Descriptor
sixteen =
    record { fill = false; src = record { addr = 4096; len = 16 } ∷ []; dst = record { addr = 8192; len = 16 } ∷ []; wait = None; signal = None }

-- one burst on each bus: of four beats of four bytes under 0x000D4035, of two beats of eight bytes under 0x0005C017,
-- and of one beat of 16 bytes under 0x00024009
abbrev under_word : List ℕ → List ℕ
under_word word = 188 ∷ 0 ∷ 0 ∷ 16 ∷ 0 ∷ 0 ∷ 188 ∷ 2 ∷ 0 ∷ 32 ∷ 0 ∷ 0 ∷ 188 ∷ 1 ∷ [] ++ (word ++ 4 ∷ 18 ∷ 8 ∷ 19 ∷ 0 ∷ [])

sixteen_on_32_bits : (compiled_on (Chip Bits32) sixteen).bytes ≡ under_word (53 ∷ 64 ∷ 13 ∷ 0 ∷ [])
unfolding compiled_on parts beat_of bits_of end_bits
sixteen_on_32_bits = refl

sixteen_on_64_bits : (compiled_on (Chip Bits64) sixteen).bytes ≡ under_word (23 ∷ 192 ∷ 5 ∷ 0 ∷ [])
unfolding compiled_on parts beat_of bits_of end_bits
sixteen_on_64_bits = refl

sixteen_on_128_bits : (compiled_on (Chip Bits128) sixteen).bytes ≡ under_word (9 ∷ 64 ∷ 2 ∷ 0 ∷ [])
unfolding compiled_on parts beat_of bits_of end_bits
sixteen_on_128_bits = refl

-- ---- a chip's instructions, by their codes in the manual

codes_on_a_chip : map decoded ((0x0c ∷ []) ∷ (0x54 ∷ 0x34 ∷ 0x12 ∷ []) ∷ (0x5e ∷ 0xf0 ∷ 0xff ∷ []) ∷ (0x28 ∷ 5 ∷ []) ∷ (0x2c ∷ 5 ∷ []) ∷ [])
    ≡ Ok (StoreZeros, 1) ∷ Ok (AddHalfword Source 0x1234 false, 3) ∷ Ok (AddHalfword Destination 0xfff0 true, 3) ∷ Ok (LoopAgain Lc0 5, 2) ∷ Ok
    (LoopAgain Lc1 5, 2) ∷ []
codes_on_a_chip = refl

-- the model's grammar has none of them, and a chip's has no conditional form
no_such_codes : map decoded_core ((0x0c ∷ []) ∷ (0x28 ∷ 5 ∷ []) ∷ []) ++ map decoded ((0x05 ∷ []) ∷ (0x39 ∷ 5 ∷ []) ∷ [])
    ≡ Err (Unknown 0x0c) ∷ Err (Unknown 0x28) ∷ Err (Unknown 0x05) ∷ Err (Unknown 0x39) ∷ []
no_such_codes = refl

-- DMAADNH with 0xFFF0 subtracts 16, and after the last address comes 0
sixteen_less : (moved (AddHalfword Destination 0xfff0 true) (record start { dar = 0x1000 })).dar ≡ 0xff0
sixteen_less = refl

one_more_than_the_last : (moved (AddHalfword Source 1 false) (record start { sar = 4294967295 })).sar ≡ 0
one_more_than_the_last = refl

-- a burst of a byte of zeros at address 1, of a memory of three bytes; the buffer keeps its byte
zeros_at_1 : (act [] StoreZeros (state (record (start_on (Chip Bits32)) { dar = 1; ccr = 0x4000 }) (9 ∷ []) (5 ∷ 6 ∷ 7 ∷ []) [])).1
    ≡ state (record (start_on (Chip Bits32)) { pc = 1; dar = 2; ccr = 0x4000 }) (9 ∷ []) (5 ∷ 0 ∷ 7 ∷ []) []
unfolding burst_at reaches put
zeros_at_1 = refl

-- ---- two rows of one byte, whose sources are 2 apart and whose destinations are 3 apart

-- the body: DMALD, DMAST, DMAADDH SAR 1, DMAADDH DAR 2, DMALPEND; two rounds follow the first
two_rows : Machine
two_rows = record {
  channel = record {
    program = Some (record { bytes = 4 ∷ 8 ∷ 0x54 ∷ 1 ∷ 0 ∷ 0x56 ∷ 2 ∷ 0 ∷ 0x38 ∷ 8 ∷ []; cost = None });
    registers = record (start_on (Chip Bits32)) { sar = 5; ccr = 0x4001; lc0 = 2 };
    buffer = [];
    taken = 0;
    stored = 0;
  };
  image = 9 ∷ 9 ∷ 9 ∷ 9 ∷ 9 ∷ 1 ∷ 5 ∷ 2 ∷ [];
  flags = [];
}

after_two : Machine
after_two = record two_rows {
  channel = record (two_rows.channel) {
    registers = record (start_on (Chip Bits32)) { sar = 9; dar = 6; ccr = 0x4001; lc0 = 0 };
    taken = 10;
    stored = 2;
  };
  image = 1 ∷ 9 ∷ 9 ∷ 2 ∷ 9 ∷ 1 ∷ 5 ∷ 2 ∷ [];
}

first_row : WritesRow [] two_rows 5 (range_at 0 1) (after_steps [] two_rows 5)
unfolding burst_at reaches put two_rows
first_row = record { taken = record { count = refl; answer = refl; ends_at = refl }; signal = refl; written = refl }

second_row : WritesRow [] (after_steps [] two_rows 5) 5 (range_at 3 1) after_two
unfolding burst_at reaches put two_rows after_two
second_row = record { taken = record { count = refl; answer = refl; ends_at = refl }; signal = refl; written = refl }

between_rows : ℕ → Machine
between_rows zero = two_rows
between_rows (suc zero) = after_steps [] two_rows 5
between_rows (suc (suc k)) = after_two

the_rows : Rows
the_rows = record { first = range_at 0 1; pitch = 3; count = 2; steps = 5 }

rows_called : (k : ℕ) → k < 2 → WritesRow [] (between_rows k) 5 (row_of the_rows k) (between_rows (suc k))
unfolding the_rows between_rows two_rows
rows_called zero l = first_row
rows_called (suc zero) l = second_row
rows_called (suc (suc k)) l = absurd (omega (arith, l))

rows_are_calls : RunsRows [] two_rows the_rows after_two
unfolding the_rows two_rows between_rows
rows_are_calls = record { between = between_rows; begins = refl; ends = refl; calls = rows_called }

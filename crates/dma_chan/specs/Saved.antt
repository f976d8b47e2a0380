-- The bytes of a saved channel. Numbers of several bytes are little-endian.
use Rattle.std.specs.Prelude.{◌≡◌, ℕ, ◌+◌, ◌*◌, ◌%◌, ◌^◌, ◌<◌, ◌≤◌, IsTrue, is_some, unwrap_or, List, [], ◌∷◌, ◌++◌, length, slice_index, Option, IfSome}
use Rattle.std.specs.Int.{w16, w32, w64, to_le_bytes}
use Rattle.dma_insn.specs.{AssemblyText.most_program_bytes, ControlWord.flag, ControlWord.is_control}
use Rattle.dma_chan.specs.Channel.{ChannelValue, code_of, cost_of_program}
use Rattle.dma_chan.specs.{declared.exec.Registers.Registers, declared.save.head.Head.Head, Programs.ProgramValue}

-- ---- what every channel satisfies

-- Each item is a byte.
abbrev pub AreBytes : List ℕ → Type 0
AreBytes bytes = (k : ℕ) → slice_index bytes k < 256

-- The registers fit their numbers of bits, and the control word is accepted.
pub record HasRegisterRanges (r : Registers) : Type 0 where
  pub pc : r.pc < 2 ^ 32
  pub sar : r.sar < 2 ^ 32
  pub dar : r.dar < 2 ^ 32
  pub ccr : r.ccr < 2 ^ 32
  pub control : IsTrue (is_control r.ccr)
  pub lc0 : r.lc0 < 256
  pub lc1 : r.lc1 < 256

-- A program has at most 8,192 bytes, each of them a byte value. The offset of the next instruction is in it or at its
-- end, and its cost fits 32 bits.
pub record IsLoadedAt (pc : ℕ) (p : ProgramValue) : Type 0 where
  pub limit : length p.bytes ≤ most_program_bytes
  pub bytes : AreBytes p.bytes
  pub offset : pc ≤ length p.bytes
  pub cost : IfSome p.cost (λ n. n < 2 ^ 32)

-- What every channel satisfies: its numbers are in their ranges, its buffer has at most 256 bytes, and the bytes stored
-- are at most 256 for each instruction executed.
pub record IsChannelValue (c : ChannelValue) : Type 0 where
  pub registers : HasRegisterRanges c.registers
  pub program : IfSome c.program (IsLoadedAt c.registers.pc)
  pub buffer_limit : length c.buffer ≤ 256
  pub buffer : AreBytes c.buffer
  pub taken : c.taken < 2 ^ 32
  pub few : c.stored ≤ 256 * c.taken

-- ---- the checksum

-- the largest prime below 2 ^ 16
abbrev pub adler_prime : ℕ
adler_prime = 65521

-- Adler-32 (RFC 1950), continued from two sums modulo that prime: `low` is the sum of the bytes, and `high` is the sum
-- of all values of `low`.
unfoldable pub adler : ℕ → ℕ → List ℕ → ℕ
adler low high [] = high * 65536 + low
adler low high (b ∷ bs) = let next = (low + b) % adler_prime in adler next ((high + next) % adler_prime) bs

-- the Adler-32 checksum of bytes
unfoldable pub checksum : List ℕ → ℕ
checksum bytes = adler 1 0 bytes

-- bytes followed by their checksum in four bytes
unfoldable pub sealed : List ℕ → List ℕ
sealed bytes = bytes ++ to_le_bytes w32 (checksum bytes)

-- ---- the format

-- Each save begins with `dma330`, a 0 and the version, 1.
abbrev pub magic : List ℕ
magic = 100 ∷ 109 ∷ 97 ∷ 51 ∷ 51 ∷ 48 ∷ 0 ∷ 1 ∷ []

-- a cost: a byte that is 1 if there is a cost, else 0, and the cost in four bytes, or 0 without one
abbrev pub cost_bytes : Option ℕ → List ℕ
cost_bytes cost = flag (is_some cost) ∷ to_le_bytes w32 (unwrap_or cost 0)

-- the values in the head of a channel's save
abbrev pub head_of : ChannelValue → Head
head_of c = record {
  registers = c.registers;
  taken = c.taken;
  stored = c.stored;
  is_loaded = is_some c.program;
  cost = cost_of_program c.program;
  buffer_len = length c.buffer;
  program_len = length (code_of c);
}

-- the registers: pc, SAR, DAR and CCR in four bytes each, LC0 and LC1 in one each
unfoldable pub register_bytes : Registers → List ℕ
register_bytes r =
    to_le_bytes w32 r.pc
    ++ to_le_bytes w32 r.sar
    ++ to_le_bytes w32 r.dar
    ++ to_le_bytes w32 r.ccr
    ++ (r.lc0 ∷ r.lc1 ∷ [])

-- The head of a save, 48 bytes: the magic; the registers; how many instructions were executed since the load, in four
-- bytes, and how many bytes were stored, in eight; a byte that is 1 if a program is loaded, else 0; its cost; how many
-- bytes are in the buffer, and how many are in the program, in two bytes each.
unfoldable pub head_bytes : Head → List ℕ
head_bytes h =
    magic
    ++ register_bytes h.registers
    ++ to_le_bytes w32 h.taken
    ++ to_le_bytes w64 h.stored
    ++ (flag h.is_loaded ∷ [])
    ++ cost_bytes h.cost
    ++ to_le_bytes w16 h.buffer_len
    ++ to_le_bytes w16 h.program_len

-- A save: the head, the bytes in the buffer with the oldest first, the bytes of the program, or none if none is loaded,
-- and the checksum of everything before it.
unfoldable pub saved : ChannelValue → List ℕ
saved c = sealed (head_bytes (head_of c) ++ c.buffer ++ code_of c)

-- The bytes are the save of a channel.
abbrev pub IsSave : List ℕ → Type 0
IsSave save = (c : ChannelValue) × IsChannelValue c × (save ≡ saved c)

-- the most bytes of a save: 48 of the head, 256 of the buffer, 8,192 of the program and 4 of the checksum
abbrev pub most_saved : ℕ
most_saved = 8500

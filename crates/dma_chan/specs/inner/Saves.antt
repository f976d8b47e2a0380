-- The parts of a save, whose lengths are in its head.
use Rattle.std.specs.Prelude.{◌≡◌, ℕ, ◌+◌, ◌*◌, ◌^◌, ◌<◌, ◌≤◌, Bool, true, false, if◌then◌else◌, List, take, drop, Some, None, IfSome}
use Rattle.dma_insn.specs.AssemblyText.{most_program_bytes}
use Rattle.dma_chan.specs.{declared.save.head.Head.Head, Channel.ChannelValue, Saved.HasRegisterRanges}

-- the bytes of the buffer in a save with this head
abbrev pub buffer_in : List ℕ → Head → List ℕ
buffer_in save h = take h.buffer_len (drop 48 save)

-- the bytes of the program in a save with this head
abbrev pub program_in : List ℕ → Head → List ℕ
program_in save h = take h.program_len (drop (48 + h.buffer_len) save)

-- the channel of a save with this head
abbrev pub channel_in : List ℕ → Head → ChannelValue
channel_in save h = record {
  program = if h.is_loaded then Some (record { bytes = program_in save h; cost = h.cost }) else None;
  registers = h.registers;
  buffer = buffer_in save h;
  taken = h.taken;
  stored = h.stored;
}

-- The fields of a head fit their numbers of bits, and its control word is accepted.
pub record HasHeadRanges (h : Head) : Type 0 where
  pub registers : HasRegisterRanges h.registers
  pub taken : h.taken < 2 ^ 32
  pub stored : h.stored < 2 ^ 64
  pub cost : IfSome h.cost (λ n. n < 2 ^ 32)
  pub buffer_len : h.buffer_len < 2 ^ 16
  pub program_len : h.program_len < 2 ^ 16

-- If a program is loaded, the offset of its next instruction is in it or at its end; if none is loaded, there is no
-- cost and no byte of a program.
abbrev pub LoadsWhole : Bool → Head → Type 0
LoadsWhole true h = h.registers.pc ≤ h.program_len
LoadsWhole false h = (h.cost ≡ None) × (h.program_len ≡ 0)

-- A head is within the limits of a channel: at most 256 bytes in the buffer, at most 8,192 bytes in the program, which
-- is loaded whole or not at all, and at most 256 bytes stored for each instruction executed. A save with this head has
-- n bytes.
pub record FitsIn (n : ℕ) (h : Head) : Type 0 where
  pub buffer : h.buffer_len ≤ 256
  pub program : h.program_len ≤ most_program_bytes
  pub total : n ≡ 48 + h.buffer_len + h.program_len + 4
  pub loads : LoadsWhole h.is_loaded h
  pub few : h.stored ≤ 256 * h.taken

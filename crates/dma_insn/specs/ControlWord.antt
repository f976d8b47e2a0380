-- The channel control word (PL330 manual, channel control registers).
use Rattle.std.specs.Prelude.{◌≡◌, ℕ, ◌+◌, ◌-◌, ◌*◌, ◌/◌, ◌%◌, ◌^◌, ◌<◌, ◌≤◌, Bool, true, false, ◌==◌, if◌then◌else◌, Option, Some, None, Result, Ok, Err}
use Rattle.std.specs.Prelude.{is_ok}
use Rattle.std.specs.Option.{option_map}
use Rattle.dma_insn.specs.declared.control.BeatSize.TheVariants.{One, Two, Four, Eight, Sixteen}
use Rattle.dma_insn.specs.declared.control.ControlFault.TheVariants.{ReservedSize, Swap, Bit31}
use Rattle.dma_insn.specs.{declared.control.BeatSize.BeatSize, declared.control.BurstEnd.BurstEnd, declared.control.Control.Control}
use Rattle.dma_insn.specs.{declared.control.ControlFault.ControlFault}

-- n bits of a word, from bit k up
abbrev pub field : ℕ → ℕ → ℕ → ℕ
field k n w = w / 2 ^ k % 2 ^ n

-- a truth value as one bit
abbrev pub flag : Bool → ℕ
flag true = 1
flag false = 0

-- the burst size codes; 5, 6 and 7 are reserved
abbrev pub size_code : BeatSize → ℕ
size_code One = 0
size_code Two = 1
size_code Four = 2
size_code Eight = 3
size_code Sixteen = 4

-- the size of a code, if it is not reserved
abbrev pub size_of : ℕ → Option BeatSize
size_of c =
    if c == 0 then Some One else (
    if c == 1 then Some Two else (
    if c == 2 then Some Four else (
    if c == 3 then Some Eight else (
    if c == 4 then Some Sixteen else None))))

-- the bytes of one beat
abbrev pub beat_bytes : BeatSize → ℕ
beat_bytes One = 1
beat_bytes Two = 2
beat_bytes Four = 4
beat_bytes Eight = 8
beat_bytes Sixteen = 16

-- the number of bytes of one burst: its beats times the bytes of a beat
abbrev pub burst_bytes : BurstEnd → ℕ
burst_bytes e = e.beats * beat_bytes e.size

-- The ranges of one end's fields, which the types of the fields guarantee.
pub record HasEndRanges (e : BurstEnd) : Type 0 where
  pub some : 1 ≤ e.beats
  pub beats : e.beats ≤ 16
  pub protection : e.protection < 8
  pub cache : e.cache < 8

-- The fields of a control word, bit by bit. A length code n means n + 1 beats; the swap field and bit 31 are 0
-- (profile).
pub record HasFields (w : ℕ) (c : Control) : Type 0 where
  pub src_increments : flag c.src.increments ≡ field 0 1 w
  pub src_size : size_code c.src.size ≡ field 1 3 w
  pub src_beats : c.src.beats ≡ field 4 4 w + 1
  pub src_protection : c.src.protection ≡ field 8 3 w
  pub src_cache : c.src.cache ≡ field 11 3 w
  pub dst_increments : flag c.dst.increments ≡ field 14 1 w
  pub dst_size : size_code c.dst.size ≡ field 15 3 w
  pub dst_beats : c.dst.beats ≡ field 18 4 w + 1
  pub dst_protection : c.dst.protection ≡ field 22 3 w
  pub dst_cache : c.dst.cache ≡ field 25 3 w
  pub swap : field 28 3 w ≡ 0
  pub bit31 : field 31 1 w ≡ 0

-- The fields of the end whose lowest bit is bit k, with this size.
abbrev pub end_with : ℕ → ℕ → BeatSize → BurstEnd
end_with k w size = record {
  increments = field k 1 w == 1;
  size = size;
  beats = field (k + 4) 4 w + 1;
  protection = field (k + 8) 3 w;
  cache = field (k + 11) 3 w;
}

-- the fields of the end whose lowest bit is bit k, if its size code is not reserved
unfoldable pub end_at : ℕ → ℕ → Option BurstEnd
end_at k w = option_map (end_with k w) (size_of (field (k + 1) 3 w))

-- the fields of the word w with these ends, or the first fault: an end with a reserved size, a swap that is not 0, bit
-- 31
abbrev pub with_ends : ℕ → Option BurstEnd → Option BurstEnd → Result Control ControlFault
with_ends w (Some s) (Some d) =
    if field 28 3 w == 0 then (if field 31 1 w == 0 then Ok (record { src = s; dst = d }) else Err Bit31) else Err Swap
with_ends w _ _ = Err ReservedSize

-- The fields of a word, or the first fault: a reserved size of either end, a swap that is not 0, bit 31.
unfoldable pub control_of : ℕ → Result Control ControlFault
control_of w = with_ends w (end_at 0 w) (end_at 14 w)

-- Whether a word is accepted: no size is reserved, the swap is 0 and bit 31 is clear (profile).
unfoldable pub is_control : ℕ → Bool
is_control w = is_ok (control_of w)

-- the fourteen bits of one end
unfoldable pub end_bits : BurstEnd → ℕ
end_bits e = flag e.increments + 2 * size_code e.size + 2 ^ 4 * (e.beats - 1) + 2 ^ 8 * e.protection + 2 ^ 11 * e.cache

-- the word of these fields
unfoldable pub bits_of : Control → ℕ
bits_of c = end_bits c.src + 2 ^ 14 * end_bits c.dst

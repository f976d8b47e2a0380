-- A burst by the fields of one end of a control word.
use Rattle.std.proofs.Common.{arith}
use Rattle.std.proofs.Common.{◌≡◌, ℕ, ◌+◌, ◌^◌, Option, Some, refl}
use Rattle.std.specs.Option.{option_map}
use Rattle.std.proofs.lemmas.Option.{same_Some}
use Rattle.dma_insn.specs.ControlWord.{field, size_code, size_of, beat_bytes, end_with, end_at}
use Rattle.dma_insn.specs.{declared.control.BeatSize.BeatSize, declared.control.BurstEnd.BurstEnd}
use Rattle.dma_insn.proofs.ControlLaws.{size_code_size_of}
use Rattle.dma_chan.specs.{declared.bursts.Burst.Burst, declared.bus.Bus.Bus, Bursts.burst_at, Bursts.skip_of}

-- the bytes of a beat are a power of two, by its code
pub beat_bytes_power : (s : BeatSize) → beat_bytes s ≡ 2 ^ size_code s
beat_bytes_power s = grind (arith)

abbrev burst_of : Bus → ℕ → BurstEnd → Burst
burst_of bus addr e = record {
  addr = addr;
  increments = e.increments;
  size = beat_bytes e.size;
  beats = e.beats;
  skip = skip_of bus e.increments addr (beat_bytes e.size);
}

of_size : (bus : Bus) (k addr w : ℕ) (o : Option BeatSize) (e : BurstEnd) → size_of (field (k + 1) 3 w) ≡ o → option_map (end_with k w) o ≡ Some e
    → burst_of bus addr e ≡ burst_at bus k addr w
unfolding burst_at
of_size bus k addr w o e h h2 = grind (arith, same_Some, beat_bytes_power, size_code_size_of)

-- the burst of the end whose lowest bit is bit k
pub burst_of_end : (bus : Bus) (k addr w : ℕ) (e : BurstEnd) → end_at k w ≡ Some e
    → record { addr = addr; increments = e.increments; size = beat_bytes e.size; beats = e.beats; skip = skip_of bus e.increments addr (beat_bytes e.size) } ≡
    burst_at bus k addr w
unfolding end_at
burst_of_end bus k addr w e h = of_size bus k addr w (size_of (field (k + 1) 3 w)) e refl h

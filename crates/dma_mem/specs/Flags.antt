-- Event flags.
use Rattle.std.specs.{Prelude.ℕ, Prelude.Bool, Prelude.false, Prelude.nat_eq, Prelude.List, Prelude.map, Prelude.replicate, List.range_with_len, Int.bit_at}

-- The flags of the events 0 to 31, all clear (PL330 manual, DMASEV and DMAWFE: 32 events).
unfoldable pub all_clear : List Bool
all_clear = replicate 32 false

-- the flags of a number: the flag of event e is set if bit e is
unfoldable pub flags_of : ℕ → List Bool
flags_of bits = map (λ e. nat_eq (bit_at bits e) 1) (range_with_len 0 32)

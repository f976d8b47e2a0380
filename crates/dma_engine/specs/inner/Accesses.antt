-- The running transfers that conflict with a call or a start.
use Rattle.std.specs.{Prelude.ℕ, Prelude.Bool, Prelude.true, Prelude.not, Prelude.Option, Option.option_map}
use Rattle.dma_mem.specs.Places.{Descriptor, touches, writes, is_free_of}
use Rattle.dma_engine.specs.declared.access.Access.TheVariants.{Write, Read, Checkpoint, Start}
use Rattle.dma_engine.specs.{View.RunningTransfer, declared.access.Access.Access}

-- Whether a running transfer conflicts: with a write if it touches the range, with a read if it writes the range, with
-- a checkpoint always, and with a start if the starting transfer isn't free of it.
abbrev pub conflicts : Access → Descriptor → Bool
conflicts (Write range) t = touches t range
conflicts (Read range) t = writes t range
conflicts Checkpoint t = true
conflicts (Start other) t = not (is_free_of other.now t)

-- the channel and the cookie of a running transfer, if any
abbrev pub named : Option RunningTransfer → Option (ℕ × ℕ)
named x = option_map (λ r. (r.ch, r.cookie)) x

-- Which addresses a transfer uses, and that an instruction writes no others than its own.
use Rattle.std.specs.{Prelude.◌≡◌, Prelude.ℕ, Prelude.◌⊎◌, Prelude.Bool, Prelude.false, Prelude.List, Prelude.length, Prelude.slice_index, List.Contains}
use Rattle.dma_mem.specs.Places.{Descriptor, sources, destinations}
use Rattle.dma_mem.specs.{declared.marks.MarkKind.TheVariants.Reading, declared.marks.MarkKind.TheVariants.Writing, Marking.MarkList, Marking.is_marked}
use Rattle.dma_chan.specs.{Channel.ChannelValue, Channel.step_of, NextWrites.written_next}

-- whether a transfer reads or writes an address
abbrev pub Touches : Descriptor → ℕ → Type 0
Touches t a = Contains (sources t) a ⊎ Contains (destinations t) a

-- No mark lies at an address that a transfer touches: none that it reads is marked for loads, and none that it writes
-- is marked for stores.
pub record Misses (marks : MarkList) (t : Descriptor) : Type 0 where
  pub reads : (a : ℕ) → Contains (sources t) a → is_marked Reading marks a ≡ false
  pub writes : (a : ℕ) → Contains (destinations t) a → is_marked Writing marks a ≡ false

-- After an instruction, the memory has the same size, and all bytes are the same except those that the channel's next
-- instruction writes. This applies to every program, including one that was not compiled.
pub record KeepsOthers (before after : List ℕ) (c : ChannelValue) : Type 0 where
  pub size : length after ≡ length before
  pub bytes : (a : ℕ) → ¬ Contains (written_next c) a → slice_index after a ≡ slice_index before a

-- Each instruction keeps the other bytes.
abbrev pub WritesNoOther : Type 0
WritesNoOther =
    (marks : MarkList) (c : ChannelValue) (image : List ℕ) (flags : List Bool) →
    KeepsOthers image (step_of marks c image flags).1.image c

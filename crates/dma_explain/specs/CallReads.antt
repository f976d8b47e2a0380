-- The addresses that a call reads on a channel whose program a work explains, and that nothing else in the memory has
-- any effect on it.
use Rattle.std.specs.{Prelude.◌≡◌, Prelude.◌⊎◌, Prelude.ℕ, Prelude.◌≤◌, Prelude.List, Prelude.slice_index, Prelude.Option, List.Contains}
use Rattle.dma_mem.specs.{Marking.MarkList, Places.sources}
use Rattle.dma_chan.specs.Stepping.{Machine, TakesSteps, after_steps}
use Rattle.dma_chan.specs.{declared.exec.Registers.Registers, declared.turn.ChanTurn.ChanTurn, Reads.AgreeAt, Reads.Reads}
use Rattle.dma_explain.specs.Explains.{Executes, Explains, Work}

-- Each call on a channel that executes a program that a work explains reads only the sources of its copy, whatever the
-- memory's size and bytes, the marks and the flags are, and whatever others wrote before.
abbrev pub CallReadsIn : Type 0
CallReadsIn =
    (start : Registers) (program : List ℕ) (w : Work) (n : ℕ) (marks : MarkList) (s : Machine) (most taken : ℕ)
    (last : Option ChanTurn) (after : Machine) (a : ℕ) →
    Explains start program w n → Executes start program n s.channel → TakesSteps marks s most taken last after →
    Reads marks s taken a → Contains (sources w.copy) a

-- two machines with the same channel and flags, over memories of one size that have the same bytes at these addresses
pub record AlikeAt (places : List ℕ) (s u : Machine) : Type 0 where
  pub channel : u.channel ≡ s.channel
  pub flags : u.flags ≡ s.flags
  pub image : AgreeAt places s.image u.image

-- Of two memories x and y, which became v and w, each byte is the same in v and w, or has changed in neither.
abbrev pub SameOrKept : (x y v w : List ℕ) → Type 0
SameOrKept x y v w =
    (a : ℕ) → (slice_index v a ≡ slice_index w a)
    ⊎ ((slice_index v a ≡ slice_index x a) × (slice_index w a ≡ slice_index y a))

-- Bytes outside these sources have no effect on the steps of such a call: after each of them, the channel, the flags
-- and all bytes that were written are the same, whatever bytes the memory had there.
abbrev pub CallReadsNoOther : Type 0
CallReadsNoOther =
    (start : Registers) (program : List ℕ) (w : Work) (n : ℕ) (marks : MarkList) (s u : Machine) (most taken : ℕ)
    (last : Option ChanTurn) (after : Machine) (k : ℕ) →
    Explains start program w n → Executes start program n s.channel → TakesSteps marks s most taken last after →
    AlikeAt (sources w.copy) s u → k ≤ taken →
    let x = after_steps marks s k in let y = after_steps marks u k in
    AlikeAt (sources w.copy) x y × SameOrKept s.image u.image x.image y.image

-- The addresses that a call writes on a channel whose program a work explains.
use Rattle.std.specs.{Prelude.◌≡◌, Prelude.ℕ, Prelude.◌⊎◌, Prelude.List, Prelude.Option, Prelude.None, List.Contains}
use Rattle.dma_mem.specs.Marking.{MarkList}
use Rattle.dma_chan.specs.Stepping.{Machine, TakesSteps, written_after}
use Rattle.dma_chan.specs.{declared.exec.Registers.Registers, declared.turn.ChanTurn.ChanTurn, Channel.ChannelValue, Written.LiesIn}
use Rattle.dma_explain.specs.Explains.{Executes, Explains, IsLoadedWith, Work, written}

-- What a call on a channel does whose program this work explains: it writes only what the work writes, and the channel
-- still executes the program or has ended it.
pub record CallStays (start : Registers) (program : List ℕ) (w : Work) (n : ℕ) (marks : MarkList) (before : Machine)
    (taken : ℕ) (after : Machine) : Type 0 where
  pub writes : (a : ℕ) → LiesIn (written_after marks before taken) a → Contains (written w) a
  pub channel : Executes start program n after.channel ⊎ (after.channel.program ≡ None)

-- A channel into which a program was just loaded that begins with these bytes executes them.
abbrev pub LoadExecutes : Type 0
LoadExecutes =
    (start : Registers) (program : List ℕ) (n : ℕ) (c : ChannelValue) → IsLoadedWith start program c →
    Executes start program n c

-- Each call on a channel that executes a program that a work explains stays in it, whatever the memory's size and
-- bytes, the marks and the flags are, and whatever others wrote before.
abbrev pub CallStaysIn : Type 0
CallStaysIn =
    (start : Registers) (program : List ℕ) (w : Work) (n : ℕ) (marks : MarkList) (s : Machine) (most taken : ℕ)
    (last : Option ChanTurn) (after : Machine) →
    Explains start program w n → Executes start program n s.channel → TakesSteps marks s most taken last after →
    CallStays start program w n marks s taken after

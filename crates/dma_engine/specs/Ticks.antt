-- The changes that readers of the status see.
use Rattle.std.specs.Prelude.{ℕ, ◌+◌, min, List, [], ◌∷◌, map, slice_index_or, slice_set}
use Rattle.dma_engine.specs.Object.{Object, ChannelState, used, finished}
use Rattle.dma_engine.specs.{declared.entry.Entry.Entry, declared.turn.Status.Status, Answer.status_by}
use Rattle.dma_engine.specs.declared.entry.Entry.TheVariants.{Submitted as EntrySubmitted, Finished as EntryFinished, Terminated}

-- A channel gave a cookie, or `count` of its cookies finished.
pub data Tick : Type 0 where
  Submitted : (ch : ℕ) → Tick
  Finished : (ch count : ℕ) → Tick

-- the channel of a tick
abbrev pub tick_channel : Tick → ℕ
tick_channel (Submitted ch) = ch
tick_channel (Finished ch count) = ch

-- the ticks of a history
abbrev pub ticks_of : List Entry → List Tick
ticks_of [] = []
ticks_of (EntrySubmitted ch t cookie ∷ es) = Submitted ch ∷ ticks_of es
ticks_of (EntryFinished ch result done ∷ es) = Finished ch 1 ∷ ticks_of es
ticks_of (Terminated ch done count ∷ es) = Finished ch count ∷ ticks_of es
ticks_of (_ ∷ es) = ticks_of es

-- how many cookies of a channel were given, and how many are finished
pub record Counts : Type 0 where
  pub used : ℕ
  pub finished : ℕ

-- The counts of each channel, in order.
abbrev pub Board : Type 0
Board = List Counts

-- the counts of a channel that doesn't exist
abbrev pub no_counts : Counts
no_counts = record { used = 0; finished = 0 }

-- the counts of a channel
abbrev pub counts : Board → ℕ → Counts
counts board ch = slice_index_or board ch no_counts

-- a sum, limited to the largest number of 32 bits, which no legal history reaches
abbrev pub added_up : ℕ → ℕ → ℕ
added_up n by = min (n + by) 4294967295

-- the board after one tick
abbrev pub ticked : Board → Tick → Board
ticked board (Submitted ch) = slice_set board ch (record (counts board ch) { used = added_up (counts board ch).used 1 })
ticked board (Finished ch count) =
    slice_set board ch (record (counts board ch) { finished = added_up (counts board ch).finished count })

-- the board after these ticks, in order
abbrev pub board_after : Board → List Tick → Board
board_after board [] = board
board_after board (t ∷ ts) = board_after (ticked board t) ts

-- the counts of a channel's state
abbrev pub counts_of : ChannelState → Counts
counts_of c = record { used = used c; finished = finished c }

-- the counts of each channel of an object
abbrev pub board_of : Object → Board
board_of o = map counts_of o.channels

-- the status of a cookie by a board
abbrev pub status_of : Board → ℕ → ℕ → Status
status_of board ch cookie = status_by (counts board ch).used (counts board ch).finished cookie

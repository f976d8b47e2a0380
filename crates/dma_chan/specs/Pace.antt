-- How fast a transfer moves: its instructions by number (`member`), how many there are (`cost`), how many bytes each
-- moves (`burst`), and how many bytes the first n store (`stored_after`).
use Rattle.std.specs.Prelude.{◌≡◌, ◌≢◌, ◌↔◌, ℕ, ◌+◌, ◌-◌, ◌≤◌, ◌<◌, Bool, true, false, List, [], length, Some, Ok, IfSome, slice_index_or}
use Rattle.dma_insn.specs.declared.chip.ChipInsn.TheVariants.{Ld, St, End, Sev, Wfe}
use Rattle.dma_mem.specs.{Marking.MarkList, Places.Descriptor, Places.size_of, Places.lies_below, Rules.IsTransfer}
use Rattle.dma_chan.specs.{declared.turn.ChanTurn.TheVariants.Moved, declared.turn.ChanTurn.TheVariants.Ended, Channel.ahead_of, Channel.loaded, Compiled.cost}
use Rattle.dma_chan.specs.{Compiled.compiled, NextWrites.written_next, Reads.read_next, Stepping.Machine, Stepping.machine, Stepping.answer_at}
use Rattle.dma_chan.specs.{Stepping.after_steps, Traffic.member, Traffic.stored_after, Traffic.burst, Traffic.read_places, Traffic.written_places}

-- ---- in plain terms

-- The order of a transfer's instructions, of which there is at least one. The last one is DMAEND. If the transfer
-- waits, the first one is the DMAWFE of its event, and if it signals, the last but one is the DMASEV of its event. No
-- other instruction ends, waits or signals. (Past the last one, DMAEND has all numbers.)
pub record IsInOrder (t : Descriptor) : Type 0 where
  pub some : 1 ≤ cost t
  pub ends : (n : ℕ) → (member t n ≡ End) ↔ (cost t ≤ n + 1)
  pub waits : (n e : ℕ) (invalid : Bool) →
      (member t n ≡ Wfe e invalid) ↔ ((n ≡ 0) × (t.wait ≡ Some e) × (invalid ≡ false))
  pub signals : (n e : ℕ) → (member t n ≡ Sev e) ↔ ((n + 2 ≡ cost t) × (t.signal ≡ Some e))

-- The instructions of each transfer have this order.
abbrev pub OrderIs : Type 0
OrderIs = (t : Descriptor) → IsTransfer t → IsInOrder t

-- a burst of 1 to 256 bytes that lies within the transfer's length
abbrev pub IsBurstWithin : Descriptor → ℕ → Type 0
IsBurstWithin t n = (1 ≤ burst t n) × (burst t n ≤ 256) × (stored_after t n + burst t n ≤ size_of t)

-- How the number of bytes stored grows: each store adds the length of its burst, and before the last instruction it is
-- the transfer's length. Only loads and stores move bytes.
pub record StoresInTurn (t : Descriptor) : Type 0 where
  pub none : stored_after t 0 ≡ 0
  pub by_store : (n : ℕ) → member t n ≡ St → stored_after t (n + 1) ≡ stored_after t n + burst t n
  pub by_other : (n : ℕ) → member t n ≢ St → stored_after t (n + 1) ≡ stored_after t n
  pub at_most : (n : ℕ) → stored_after t n ≤ size_of t
  pub load : (n : ℕ) → member t n ≡ Ld → IsBurstWithin t n
  pub store : (n : ℕ) → member t n ≡ St → IsBurstWithin t n
  pub other : (n : ℕ) → member t n ≢ Ld → member t n ≢ St → burst t n ≡ 0
  pub all : stored_after t (cost t - 1) ≡ size_of t

-- The number of bytes stored grows like this in each transfer's program.
abbrev pub StoredIs : Type 0
StoredIs = (t : Descriptor) → IsTransfer t → StoresInTurn t

-- ---- exactly, by the steps of a channel

-- A channel of the ideal bus into which the program of a transfer was just loaded, over this memory and these flags.
abbrev pub just_loaded : Descriptor → List ℕ → List Bool → Machine
just_loaded t image flags = machine (loaded (compiled t)) image flags

-- each of the first n steps of a channel moves
abbrev pub MovesFor : MarkList → Machine → ℕ → Type 0
MovesFor marks s n = (k : ℕ) → k < n → answer_at marks (after_steps marks s k) ≡ Moved

-- A channel has executed n instructions of a transfer. The next one is instruction number n. If it is a load, it reads
-- the source places of number n, and if it is a store, it writes the destination places. The channel has stored as many
-- bytes as the first n instructions store. Its next step ends the program exactly if number n is the last one.
pub record IsInStep (t : Descriptor) (n : ℕ) (marks : MarkList) (s : Machine) : Type 0 where
  pub within : n < cost t
  pub next : ahead_of s.channel ≡ Ok (member t n)
  pub reads : member t n ≡ Ld → read_next s.channel ≡ read_places t n
  pub writes : member t n ≡ St → written_next s.channel ≡ written_places t n
  pub stored : s.channel.stored ≡ stored_after t n
  pub ends : (answer_at marks s ≡ Ended) ↔ (n + 1 ≡ cost t)

-- If the first n steps after the load move, the channel has then executed n instructions of the transfer. So it is over
-- each memory that contains the transfer's ranges, with any marks and any flags.
abbrev pub StaysInStep : Type 0
StaysInStep =
    (t : Descriptor) (n : ℕ) (marks : MarkList) (image : List ℕ) (flags : List Bool) → IsTransfer t →
    lies_below t (length image) ≡ true → MovesFor marks (just_loaded t image flags) n →
    IsInStep t n marks (after_steps marks (just_loaded t image flags) n)

-- Without marks all steps but the last one move, if the flag for which the transfer waits is set.
abbrev pub GetsToEnd : Type 0
GetsToEnd =
    (t : Descriptor) (image : List ℕ) (flags : List Bool) → IsTransfer t → lies_below t (length image) ≡ true →
    IfSome t.wait (λ e. slice_index_or flags e false ≡ true) → MovesFor [] (just_loaded t image flags) (cost t - 1)

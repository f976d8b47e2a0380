-- The log of the published ticks, the lists that are published of it, and what readers have seen.
use Rattle.std.specs.Prelude.{ℕ, ◌≡◌, ◌+◌, ◌*◌, ◌<◌, ◌≤◌, Bool, true, Option, Some, None, List, [], ◌∷◌, ◌++◌, length, slice_index_or, IfSome}
use Rattle.logbook.specs.Pages.{Book, Cell, Named, Nib, Step, View as LogView, cell, may_make, may_write, nib}
use Rattle.dma_engine.specs.{Ticks.Board, Ticks.Tick, Ticks.ticks_of, View.View}
use Rattle.dma_work.specs.{Known.Known, Known.knows, Ticks.StartsWith}
use mathlib.Core.Option.{some}
use lib.ListN.{get_elem?}

-- ---- the log

-- A snapshot of a log: the log, and the ticks that it had.
pub record SnapshotState : Type 0 where
  pub log : Book
  pub ticks : List Tick

-- A log: all of its ticks, and whether it has room for one more.
pub record LogState : Type 0 where
  pub all : SnapshotState
  pub has_room : Bool

-- the snapshot with more ticks
abbrev pub snapshot_and : SnapshotState → List Tick → SnapshotState
snapshot_and s more = record s { ticks = s.ticks ++ more }

-- The rule of a log. Its cells are a count, one that stays 0, one for each tick, and perhaps a spare one for the next
-- tick. All but the spare one are at home. The count is twice the number of ticks, and 1 more if there is a spare cell.
pub record IsCounted (cells : List Cell) (ticks : List Tick) : Type 0 where
  pub spare : ℕ
  pub few : spare ≤ 1
  pub long : length cells ≡ length ticks + 2 + spare
  pub count : cell cells 0 ≡ (2 * length ticks + spare, true)
  pub homes : (k : ℕ) → k < length ticks + 2 → (cell cells k).1 ≡ true

-- the count of a log
abbrev pub head_of : Book → Named
head_of b = record { tracked = true; key = 0; book = b }

-- The pen of the spare cell that follows these ticks. There is one such pen, and so nobody else adds a tick.
abbrev pub spare_after : List Tick → Nib
spare_after ticks = nib may_write (length ticks + 2) 0

-- What an exchange shows that adds a spare cell: if it found the count that it expected, it has the right to make the
-- cell's word.
abbrev pub MakesRoom : Step Tick → LogView Tick ℕ → ℕ → LogView Tick ℕ → Type 0
MakesRoom s v found w = found ≡ s.old → w.1.0 ≡ nib may_make (length v.0 + 2) 0

-- What the exchange with the pen of the spare cell shows: the tick follows all that was seen before.
abbrev pub Adds : Step Tick → LogView Tick ℕ → ℕ → LogView Tick ℕ → Type 0
Adds s v found w = w.0 ≡ v.0 ++ s.ask ∷ []

-- ---- the published list

-- The published list: the counts that it begins with, its ticks, and the log that has them.
pub record PublishedList : Type 0 where
  pub base : Board
  pub ticks : List Tick
  pub log : Book

-- the list with more ticks
abbrev pub list_and : PublishedList → List Tick → PublishedList
list_and b more = record b { ticks = b.ticks ++ more }

-- the list with one more tick
abbrev pub list_with : PublishedList → Tick → PublishedList
list_with b t = list_and b (t ∷ [])

-- a snapshot of the list's log that has the list's ticks
abbrev pub snapshot_of : PublishedList → SnapshotState
snapshot_of b = record { log = b.log; ticks = b.ticks }

-- A later list begins with the earlier one.
pub record IsLaterList (old new : PublishedList) : Type 0 where
  pub base : new.base ≡ old.base
  pub log : new.log ≡ old.log
  pub ticks : StartsWith new.ticks old.ticks

-- One list is to be published next, and it is a later one.
abbrev pub IsNext : PublishedList → List PublishedList → Type 0
IsNext shown pending = (next : PublishedList) × (pending ≡ next ∷ []) × IsLaterList shown next

-- A publisher: the published list, the lists that are to be published next, whether the log has room for one more tick,
-- and the ticks that were published before those of the engine's history.
pub record PublisherState : Type 0 where
  pub shown : PublishedList
  pub pending : List PublishedList
  pub has_room : Bool
  pub before : List Tick

-- Everything has grown that the publication of this tick needs: the list that has it is next, and the log has room.
abbrev pub IsReady : PublisherState → Tick → Type 0
IsReady p t = (p.pending ≡ list_with p.shown t ∷ []) × (p.has_room ≡ true)

-- The engine has acted: the published ticks followed by this one are `before` followed by the ticks of the engine's
-- history.
abbrev pub HasActed : PublisherState → View → Tick → Type 0
HasActed p v t = p.before ++ ticks_of v.history ≡ p.shown.ticks ++ t ∷ []

-- These ticks were published, and none is pending.
pub record Publishes (old : PublisherState) (more : List Tick) (new : PublisherState) : Type 0 where
  pub shown : new.shown ≡ list_and old.shown more
  pub pending : new.pending ≡ []
  pub before : new.before ≡ old.before

-- ---- the rule of what is published: it only grows, and begins with all that anyone has seen

-- The list that the writer or a reader has seen, if any, is an earlier state of this one.
abbrev pub IsSeen : PublishedList → Option PublishedList → Type 0
IsSeen b view = IfSome view (λ seen. IsLaterList seen b)

-- Each list that was seen is an earlier state of this one.
abbrev pub Keeps : PublishedList → List (Option PublishedList) → Type 0
Keeps b views = (seat : ℕ) (view : Option PublishedList) → get_elem? views seat ≡ some view → IsSeen b view

-- Whoever reads or publishes a list has then seen it, and the list seen before is an earlier state of it.
abbrev pub Sees : Option PublishedList → PublishedList → PublishedList → Option PublishedList → Type 0
Sees before old new after = IsSeen new before × (after ≡ Some new)

-- ---- readers

-- the list that was seen, or an empty one
abbrev pub seen_list : Option PublishedList → PublishedList
seen_list (Some b) = b
seen_list None = record { base = []; ticks = []; log = record { number = 0; log_name = 0; cells_name = 0 } }

-- what a reader knows that has seen this list and learnt this snapshot
abbrev pub known_by : PublishedList → SnapshotState → Known
known_by b learnt = record { base = b.base; log = b.log; seen = b.ticks; learnt = learnt.ticks }

-- what a reader knows that has seen and learnt exactly what a publisher has published
abbrev pub known_at : PublisherState → Known
known_at p = knows p.shown.base p.shown.log p.shown.ticks

-- The first places have readers that know this.
abbrev pub AreTaken : Known → ℕ → List (Option Known) → Type 0
AreTaken known count places = (place : ℕ) → place < count → slice_index_or places place None ≡ Some known

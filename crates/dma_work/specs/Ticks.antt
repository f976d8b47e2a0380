-- Published ticks, and the status of a cookie after them.
use Rattle.std.specs.Prelude.{ℕ, ◌<◌, ◌≤◌, List, [], ◌∷◌}
use Rattle.dma_engine.specs.{Ticks.Tick, Ticks.Board, Ticks.board_after, Ticks.board_of, Ticks.counts, Ticks.status_of, View.View, declared.turn.Status.Status}
use mathlib.Core.List.{IsPrefix}

-- The list `ticks` begins with the list `front`.
abbrev pub StartsWith : List Tick → List Tick → Type 0
StartsWith ticks front = IsPrefix front ticks

-- The board that a list of published ticks adds up to, from the counts of its base.
abbrev pub board_from : Board → List Tick → Board
board_from base ticks = board_after base ticks

-- the status of a cookie after these ticks
abbrev pub status_after : Board → List Tick → ℕ → ℕ → Status
status_after base ticks ch cookie = status_of (board_from base ticks) ch cookie

-- the counts of the channels 0 to 7
abbrev pub eight : Board → Board
eight b =
    counts b 0 ∷ counts b 1 ∷ counts b 2 ∷ counts b 3 ∷ counts b 4 ∷ counts b 5 ∷ counts b 6 ∷ counts b 7 ∷ []

-- the counts with which an engine's history begins
abbrev pub base_of : View → Board
base_of v = eight (board_of v.base)

-- the cookie is given after these ticks
abbrev pub IsGiven : Board → List Tick → ℕ → ℕ → Type 0
IsGiven base ticks ch cookie = (0 < cookie) × (cookie ≤ (counts (board_from base ticks) ch).used)

-- each cookie up to this one is given and finished after these ticks
abbrev pub AreFinished : Board → List Tick → ℕ → ℕ → Type 0
AreFinished base ticks ch through =
    (through ≤ (counts (board_from base ticks) ch).used) × (through ≤ (counts (board_from base ticks) ch).finished)

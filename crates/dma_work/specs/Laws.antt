-- What a reader can rely on between two statuses.
use Rattle.std.specs.Prelude.{◌≡◌, ◌≢◌, ℕ, ◌<◌, ◌≤◌, List}
use Rattle.dma_engine.specs.{Ticks.Board, Ticks.Tick, Ticks.counts, declared.turn.Status.TheVariants.Unknown, declared.turn.Status.TheVariants.Complete}
use Rattle.dma_work.specs.Ticks.{AreFinished, IsGiven, StartsWith, status_after}

-- the counts of a board are numbers of 32 bits
abbrev pub AreCounts : Board → Type 0
AreCounts board = (ch : ℕ) → ((counts board ch).used ≤ 4294967295) × ((counts board ch).finished ≤ 4294967295)

-- A cookie that is given in a list is never unknown in a list that begins with that one.
abbrev pub StaysKnown : Type 0
StaysKnown =
    (base : Board) (learnt seen : List Tick) (ch cookie : ℕ) → AreCounts base → StartsWith seen learnt
    → IsGiven base learnt ch cookie → status_after base seen ch cookie ≢ Unknown

-- A cookie that is complete in a list is complete in each list that begins with that one.
abbrev pub StaysComplete : Type 0
StaysComplete =
    (base : Board) (earlier later : List Tick) (ch cookie : ℕ) → AreCounts base → StartsWith later earlier
    → status_after base earlier ch cookie ≡ Complete → status_after base later ch cookie ≡ Complete

-- Each cookie that a terminate closed is complete in each list that begins with the list of its ticket.
abbrev pub ClosedIsComplete : Type 0
ClosedIsComplete =
    (base : Board) (learnt seen : List Tick) (ch through cookie : ℕ) → AreCounts base → StartsWith seen learnt
    → AreFinished base learnt ch through → 0 < cookie → cookie ≤ through → status_after base seen ch cookie ≡ Complete

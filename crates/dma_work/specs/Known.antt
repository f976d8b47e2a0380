-- What a reader knows.
use Rattle.std.specs.Prelude.{List}
use Rattle.logbook.specs.Pages.{Book}
use Rattle.dma_engine.specs.Ticks.{Board, Tick}

-- What a reader knows: the counts with which its board begins, the log of its list, the ticks that it has seen, and the
-- longest list that it has learnt.
pub record Known : Type 0 where
  pub base : Board
  pub log : Book
  pub seen : List Tick
  pub learnt : List Tick

-- what a reader knows that has seen and learnt exactly this list
abbrev pub knows : Board → Book → List Tick → Known
knows base log ticks = record { base = base; log = log; seen = ticks; learnt = ticks }

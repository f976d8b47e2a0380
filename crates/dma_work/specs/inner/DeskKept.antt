-- The invariant of a desk.
use Rattle.std.specs.Prelude.{◌≡◌, [], ◌++◌}
use Rattle.logbook.specs.Pages.{Book}
use Rattle.dma_engine.specs.{Ticks.Board, Ticks.ticks_of, View.EngineState, View.View, View.channels, View.size}
use Rattle.dma_work.specs.{declared.worker.Totals.Totals, Desk.CountsSince, inner.Published.PublisherState, Laws.AreCounts, Ticks.base_of, Ticks.board_from}

-- The invariant of a desk, for the opening view, the base and the log that its name has. The published list ends with
-- the ticks of the history, and nothing is pending. The published ticks before those add up to the counts with
-- which the history begins. The counts of the base are numbers of 32 bits. The book counts since the opening view, whose
-- size and number of channels the engine has.
pub record IsKept
    (opening : View) (base : Board) (log : Book) (engine : EngineState) (p : PublisherState) (book : Totals)
    : Type 0 where
  pub shown : p.shown ≡ record { base = base; ticks = p.before ++ ticks_of engine.view.history; log = log }
  pub pending : p.pending ≡ []
  pub opens : board_from base p.before ≡ base_of engine.view
  pub small : AreCounts base
  pub counts : CountsSince opening engine.view book
  pub bytes_are : size engine.view ≡ size opening
  pub many_are : channels engine.view ≡ channels opening

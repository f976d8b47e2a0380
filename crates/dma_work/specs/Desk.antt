-- What contracts see of a desk.
use Rattle.std.specs.{Prelude.◌≡◌, Prelude.◌≢◌, Prelude.◌⊎◌, Prelude.ℕ, Prelude.◌+◌, Prelude.List, Prelude.◌++◌, Prelude.Result, List.sum_by}
use Rattle.logbook.specs.Pages.{Book}
use Rattle.dma_mem.specs.declared.call.Call.{Call}
use Rattle.dma_engine.specs.View.{EngineState, IsSound, View, channels, memory_of, object_of, size}
use Rattle.dma_engine.specs.{Answer.CallAnswers, Answer.StepAnswers, Object.finished_all}
use Rattle.dma_engine.specs.{Ticks.Board, Ticks.Tick, Ticks.ticks_of, Turn.finishes_in, Turn.steps_in, declared.call.Reply.Reply}
use Rattle.dma_engine.specs.{declared.fault.EngineFault.EngineFault, declared.turn.Turn.Turn}
use Rattle.dma_work.specs.declared.worker.Totals.{Totals}

-- The parts of a desk: an engine, the log of its published list, and the counts with which the board of
-- that list begins.
pub record PartsState : Type 0 where
  pub engine : EngineState
  pub base : Board
  pub log : Book

-- A desk: its engine, its book of totals, and the ticks that were published before those of the engine's history. There
-- are none before the desk's first checkpoint.
pub record DeskState : Type 0 where
  pub engine : EngineState
  pub book : Totals
  pub before : List Tick

-- the published list of ticks
abbrev pub published : DeskState → List Tick
published d = d.before ++ ticks_of d.engine.view.history

-- A sound view of an engine with the size of memory and the number of channels of the opening view.
pub record IsSoundOf (opening v : View) : Type 0 where
  pub sound : IsSound v
  pub bytes_are : size v ≡ size opening
  pub many_are : channels v ≡ channels opening

-- The book has what the step count and the number of finished cookies have risen by since the opening view.
pub record CountsSince (opening v : View) (book : Totals) : Type 0 where
  pub steps : opening.steps + book.steps ≡ v.steps
  pub finished : finished_all (object_of opening) + (book.finished + book.terminated) ≡ finished_all (object_of v)

-- These parts have this view, base and log.
abbrev pub Names : View → Board → Book → PartsState → Type 0
Names opening base log p = (opening ≡ p.engine.view) × (base ≡ p.base) × (log ≡ p.log)

-- The book is unchanged, and so are the ticks that were published before those of the history.
abbrev pub SameBook : DeskState → DeskState → Type 0
SameBook old new = (new.book ≡ old.book) × (new.before ≡ old.before)

-- A call that publishes nothing: the engine's answer, and nothing else changes.
abbrev pub DeskAnswers : DeskState → Call → Reply → DeskState → Type 0
DeskAnswers old call reply new = CallAnswers old.engine.view call reply new.engine.view × SameBook old new

-- an empty book
abbrev pub no_totals : Totals
no_totals = record { steps = 0; finished = 0; terminated = 0 }

-- the book after a step with this answer
abbrev pub stepped_book : Totals → Result Turn EngineFault → Totals
stepped_book b r = record b { steps = b.steps + steps_in r; finished = b.finished + finishes_in r }

-- A tally: a worker's number, how many steps were counted in the tally, how many of them executed an instruction or
-- finished a cookie, and how many finished a cookie.
pub record TallyCounts : Type 0 where
  pub worker : ℕ
  pub turns : ℕ
  pub steps : ℕ
  pub finishes : ℕ

-- a tally of a worker with nothing counted
abbrev pub new_tally : ℕ → TallyCounts
new_tally worker = record { worker = worker; turns = 0; steps = 0; finishes = 0 }

-- the sum of the tallies' steps
abbrev pub steps_of : List TallyCounts → ℕ
steps_of tallies = sum_by (λ (t : TallyCounts). t.steps) tallies

-- the sum of the tallies' finishes
abbrev pub finishes_of : List TallyCounts → ℕ
finishes_of tallies = sum_by (λ (t : TallyCounts). t.finishes) tallies

-- The tallies' steps and finishes add up to those of the book.
abbrev pub AddUp : List TallyCounts → Totals → Type 0
AddUp tallies book = (steps_of tallies ≡ book.steps) × (finishes_of tallies ≡ book.finished)

-- The tallies' steps don't add up to those of the book, or their finishes don't.
abbrev pub Differ : List TallyCounts → Totals → Type 0
Differ tallies book = (steps_of tallies ≢ book.steps) ⊎ (finishes_of tallies ≢ book.finished)

-- A desk that was opened with this view has ended with this engine and this book. The tallies add up to the book.
pub record IsSettled
    (opening : View) (tallies : List TallyCounts) (engine : EngineState) (book : Totals) : Type 0 where
  pub adds : AddUp tallies book
  pub counts : CountsSince opening engine.view book
  pub sound : IsSoundOf opening engine.view
  pub memory : engine.memory ≡ memory_of engine.view

-- a tally after a step with this answer, which may be a refusal
abbrev pub counted : Result Turn EngineFault → TallyCounts → TallyCounts
counted r t = record t { turns = t.turns + 1; steps = t.steps + steps_in r; finishes = t.finishes + finishes_in r }

-- A step of a channel, counted, of a sound desk that was opened with this view: the engine's step has some answer,
-- which the desk's book and a tally count. The ticks that were published before those of the history are unchanged.
pub record CountsAStep
    (opening : View) (ch : ℕ) (tally : TallyCounts) (old : DeskState) (tally_after : TallyCounts) (new : DeskState)
    : Type 0 where
  pub sound : IsSoundOf opening old.engine.view
  pub answer : Result Turn EngineFault
  pub step : StepAnswers old.engine.view ch answer new.engine.view
  pub book : new.book ≡ stepped_book old.book answer
  pub before_history : new.before ≡ old.before
  pub count : tally_after ≡ counted answer tally

-- A worker: the lender of its desk, and its tally.
pub record WorkerState (L : Type 0) : Type 0 where
  pub lender : L
  pub tally : TallyCounts

-- A worker's turn: its gate has let it pass, it is lent a desk for one step of the channel, and does nothing else.
-- `passes` has a worker and the number of its turn; `lends` relates the desk that is lent and the desk that is given
-- back.
abbrev pub TakesAStep
    : {L : Type 0} → View → (ℕ → ℕ → Type 0) → (L → DeskState → DeskState → L → Type 0) → WorkerState L → ℕ
    → WorkerState L → Type 0
TakesAStep opening passes lends old ch new =
    passes old.tally.worker (old.tally.turns + 1)
    × ((d : DeskState) × (e : DeskState) × lends old.lender d e new.lender
    × CountsAStep opening ch old.tally d new.tally e)

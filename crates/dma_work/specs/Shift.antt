-- A desk that works on jobs.
use Rattle.std.specs.Prelude.{◌≡◌, ℕ, ◌+◌, ◌<◌, ◌⊎◌, Bool, true, false, List, map, length, slice_index_or, slice_set}
use Rattle.std.specs.List.{All, sum_by}
use Rattle.dma_mem.specs.declared.call.Call.TheVariants.{Step}
use Rattle.dma_engine.specs.Interleaved.{Interleaves, JobTurn, channel_at, rotation, turns_taken}
use Rattle.dma_engine.specs.{Answer.takes_memory, Turn.finishes_in, Turn.steps_in, Turn.turn, View.View}
use Rattle.dma_work.specs.{declared.job.Job.Job, declared.seat.Seat.Seat, declared.worker.Totals.Totals, Desk.DeskState, Desk.SameBook, Desk.stepped_book}

-- A desk at work; a seat for each job: the job, and how many of its turns were taken; and whether a turn was out of
-- memory.
pub record ShiftState : Type 0 where
  pub desk : DeskState
  pub seats : List Seat
  pub is_starved : Bool

-- the jobs of seats
abbrev pub jobs_of : List Seat → List Job
jobs_of seats = map (λ (s : Seat). s.job) seats

-- The seats of these jobs, of which no turn was taken.
abbrev pub AreNewSeats : List Job → List Seat → Type 0
AreNewSeats jobs seats = (jobs_of seats ≡ jobs) × All (λ (s : Seat). s.taken ≡ 0) seats

-- all turns of a seat's job were taken
abbrev pub IsDone : Seat → Type 0
IsDone s = s.taken ≡ s.job.turns

-- all turns of a worker's job were taken, if there is such a worker
abbrev pub HasNoTurn : ℕ → List Seat → Type 0
HasNoTurn worker seats = (s : Seat) → worker < length seats → IsDone (slice_index_or seats worker s)

-- The next turn of a worker's job was taken, on this channel.
pub record TakesNext (worker ch : ℕ) (old new : List Seat) : Type 0 where
  pub seat : Seat
  pub there : worker < length old
  pub now : new ≡ slice_set old worker seat
  pub job : (s : Seat) → seat.job ≡ (slice_index_or old worker s).job
  pub taken : (s : Seat) → seat.taken ≡ (slice_index_or old worker s).taken + 1
  pub channel : (s : Seat) → ch ≡ channel_at seat.job.first seat.job.last (slice_index_or old worker s).taken

-- A desk takes a step of a channel: the engine's own, which the book counts. The ticks that were published before those
-- of the history are unchanged.
pub record TakesStep (ch : ℕ) (old new : DeskState) : Type 0 where
  pub view : new.engine.view ≡ (turn old.engine.view ch).1
  pub book : new.book ≡ stepped_book old.book (turn old.engine.view ch).0
  pub before_history : new.before ≡ old.before

-- A desk takes no step: its view, its book and its published ticks are unchanged.
abbrev pub TakesNoStep : DeskState → DeskState → Type 0
TakesNoStep old new = (new.engine.view ≡ old.engine.view) × SameBook old new

-- A step of a channel takes memory, and a desk takes no step.
pub record LacksMemory (ch : ℕ) (old new : DeskState) : Type 0 where
  pub memory : takes_memory old.engine.view (Step ch) ≡ true
  pub still : TakesNoStep old new

-- The next turn of a worker's job takes memory: it is a step, of this channel, that takes memory.
pub record NeedsMemory (worker : ℕ) (view : View) (seats : List Seat) : Type 0 where
  pub channel : ℕ
  pub after : List Seat
  pub next : TakesNext worker channel seats after
  pub memory : takes_memory view (Step channel) ≡ true

-- The next turn of a worker's job was taken: a step of its channel. No turn was out of memory.
pub record TakesATurn (worker : ℕ) (old new : ShiftState) : Type 0 where
  pub not_starved : (old.is_starved ≡ false) × (new.is_starved ≡ false)
  pub channel : ℕ
  pub next : TakesNext worker channel old.seats new.seats
  pub step : TakesStep channel old.desk new.desk

-- No turn was taken: the worker has none left, or a turn was out of memory, now or before. If it is now, the turn takes
-- memory.
pub record TakesNoTurn (worker : ℕ) (old new : ShiftState) : Type 0 where
  pub why : (new.is_starved ≡ true) ⊎ HasNoTurn worker old.seats
  pub stays : old.is_starved ≡ true → new.is_starved ≡ true
  pub memory : new.is_starved ≡ true → (old.is_starved ≡ true) ⊎ NeedsMemory worker old.desk.engine.view old.seats
  pub desk : TakesNoStep old.desk new.desk
  pub seats : new.seats ≡ old.seats

-- From the one view to the other, jobs took turns on these channels, interleaved in some order, each with the engine's
-- own result, and nothing else was done. The book has their steps and finishes.
pub record TookTurnsOn (opening : View) (channels : List (List ℕ)) (view : View) (book : Totals) : Type 0 where
  pub turns : List JobTurn
  pub interleaved : Interleaves channels turns
  pub leads : view ≡ (turns_taken opening turns).1
  pub steps : book.steps ≡ sum_by steps_in (turns_taken opening turns).0
  pub finished : book.finished ≡ sum_by finishes_in (turns_taken opening turns).0

-- the channels of a job's turns, in order
abbrev pub channels_of_job : Job → List ℕ
channels_of_job job = rotation job.first job.last job.turns

-- From the one view to the other, all turns of these jobs were taken, and nothing else was done. The book has their
-- steps and finishes.
abbrev pub TookAllTurns : View → List Job → View → Totals → Type 0
TookAllTurns opening jobs view book = TookTurnsOn opening (map channels_of_job jobs) view book

-- the channels of a seat's turns that were taken, in order
abbrev pub channels_taken : Seat → List ℕ
channels_taken s = rotation s.job.first s.job.last s.taken

-- From the opening view to this one, nothing was done but the turns that the seats of these jobs count. The book has
-- their steps and finishes.
abbrev pub IsInTurn : View → List Job → View → Totals → List Seat → Type 0
IsInTurn opening jobs view book seats =
    (jobs_of seats ≡ jobs) × TookTurnsOn opening (map channels_taken seats) view book

-- Some turns of these jobs, taken from the opening view on with nothing else done, come to where the next turn of one of
-- the jobs takes memory. They needn't be those that a shift took.
pub record MayRunOut (opening : View) (jobs : List Job) : Type 0 where
  pub view : View
  pub book : Totals
  pub seats : List Seat
  pub in_turn : IsInTurn opening jobs view book seats
  pub worker : ℕ
  pub needs : NeedsMemory worker view seats

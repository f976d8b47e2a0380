-- What a call from C on a controller returns and writes: one definition for all calls.
use Rattle.std.specs.Prelude.{◌≡◌, ◌≢◌, ℕ, ◌+◌, ◌⊎◌, zero, suc, if◌then◌else◌, ◌==◌, ℤ, Option, None, Some, IsSomeAnd, MatchOption, Result, Ok, Err, List}
use Rattle.std.specs.Prelude.{length, min, unwrap_or}
use Rattle.std.specs.Option.{option_map}
use Rattle.dma_mem.specs.{Places.Descriptor, Refusals.refusal_of, declared.marks.MarkKind.MarkKind, declared.segment.Segment.Segment}
use Rattle.dma_mem.specs.{declared.transfer.TransferFault.TransferFault, declared.call.Call.Call}
use Rattle.dma_engine.specs.View.{View, EngineState, object_of, running, running_on, new_fault, new_view}
use Rattle.dma_engine.specs.{declared.call.Reply.Reply, declared.fault.EngineFault.EngineFault, declared.turn.Advanced.Advanced, declared.turn.Running.Running}
use Rattle.dma_engine.specs.{declared.turn.Turn.Turn, declared.turn.Turn.TheVariants.Started, declared.turn.Turn.TheVariants.Moved, Object.channel}
use Rattle.dma_engine.specs.{Object.unfinished, Advance.IsAdvance, Advance.steps_before, History.kept_bytes, Answer.CallAnswers, Room.HasNoSpare}
use Rattle.dma_ffi.specs.Codes.{ok_code, not_open, already_open, bad_access, not_running, new_code, transfer_code, reply_code, mark_kind}
use Rattle.dma_ffi.specs.{declared.steps.StepsTaken.StepsTaken, declared.reports.DmaConflict.DmaConflict, declared.reports.DmaOutcome.DmaOutcome}
use Rattle.dma_ffi.specs.{declared.reports.DmaReport.DmaReport, Reports.conflict_of, Reports.outcome_of, Reports.report_of}
use Rattle.dma_mem.specs.declared.transfer.TransferFault.TheVariants as transfers
use Rattle.dma_mem.specs.declared.call.Call.TheVariants.{Submit, Status as StatusOf, Result as ResultOf, Mark, Checkpoint}
use Rattle.dma_engine.specs.declared.call.Reply.TheVariants.{Bytes, Cookie, Count, Result as Resulted, Refused}
use Rattle.dma_engine.specs.declared.fault.NewFault.TheVariants as engines

-- ---- requests and answers

-- A value that an engine has.
pub data Value : Type 0 where
  -- what runs on a channel, if anything
  runs : Option Running → Value
  -- a number
  numbered : ℕ → Value

-- What the controller answers.
pub data Answer : Type 0 where
  -- there is no engine
  closed : Answer
  -- the engine's reply to a call
  replied : Reply → Answer
  -- no transfer was made, because of this broken rule or because memory ran out
  unfit : TransferFault → Answer
  -- no kind of mark has this number
  no_kind : Answer
  -- this many steps were taken, and the last one did this
  stepped : ℕ → Option Turn → Answer
  -- a value
  known : Value → Answer

-- What C requests from a controller.
pub data Request : Type 0 where
  -- a call of the engine
  ask_call : Call → Request
  -- a mark of the kind that has this number
  ask_mark : ℕ → Segment → Request
  -- the submit of a transfer to a channel
  ask_submit : ℕ → Descriptor → Request
  -- steps of a channel, at most this many
  ask_steps : ℕ → ℕ → Request
  -- a value that the engine has
  ask_value : (View → Value) → Request

-- what runs on a channel
abbrev pub the_run : ℕ → View → Value
the_run ch v = runs (running_on v ch)

-- the number of unfinished cookies of a channel
abbrev pub the_unfinished : ℕ → View → Value
the_unfinished ch v = numbered (unfinished (channel (object_of v) ch))

-- the number of a channel's cookies whose results were forgotten by checkpoints
abbrev pub the_forgotten : ℕ → View → Value
the_forgotten ch v = numbered (channel (object_of v) ch).forgotten

-- the step count
abbrev pub the_steps : View → Value
the_steps v = numbered v.steps

-- the number of entries in the history
abbrev pub the_history_entries : View → Value
the_history_entries v = numbered (length v.history)

-- the number of bytes that the history keeps, of writes and of reads
abbrev pub the_history_bytes : View → Value
the_history_bytes v = numbered (min (kept_bytes v.history) 18446744073709551615)

-- the number of running transfers
abbrev pub the_running_count : View → Value
the_running_count v = numbered (length (running (object_of v) v.schedule))

-- ---- steps in a row

-- what the last step did of a start, if any, and of steps that moved after it
abbrev pub turn_before : Option ℕ → ℕ → Option Turn
turn_before started zero = option_map Started started
turn_before started (suc moved) = Some Moved

-- The answer for consecutive steps of the engine, by the result of the last: how many were taken, and what the last one
-- did. A refused step isn't taken. If it is the first, the answer is its refusal.
abbrev pub advance_answer : Advanced → Option (Result Turn EngineFault) → Answer
advance_answer a None = stepped (steps_before a) (turn_before a.started a.moved)
advance_answer a (Some (Ok turn)) = stepped (steps_before a + 1) (Some turn)
advance_answer a (Some (Err fault)) =
    if steps_before a == 0 then replied (Refused fault) else stepped (steps_before a) (turn_before a.started a.moved)

-- ---- how an engine answers

-- The answer is the engine's reply to a call.
abbrev pub Replies : View → Call → Answer → View → Type 0
Replies v call answer w = (reply : Reply) × (answer ≡ replied reply) × CallAnswers v call reply w

-- The answer to a mark: `no_kind` for a number without a kind, and the view is unchanged; else the engine's reply.
abbrev pub AnswersMark : View → Option MarkKind → Segment → Answer → View → Type 0
AnswersMark v None range answer w = (answer ≡ no_kind) × (w ≡ v)
AnswersMark v (Some kind) range answer w = Replies v (Mark kind range) answer w

-- The answer to a submit: `unfit` with the transfer's refusal, or with `NoMemory` if it has none, and the view is
-- unchanged; or the engine's reply, only for a transfer without a refusal.
abbrev pub AnswersSubmit : View → ℕ → Descriptor → Answer → View → Type 0
AnswersSubmit v ch t answer w =
    ((answer ≡ unfit (unwrap_or (refusal_of t) transfers.NoMemory)) × (w ≡ v))
    ⊎ ((refusal_of t ≡ None) × Replies v (Submit ch t) answer w)

-- The answer to steps is that for consecutive steps of the engine, at most `most`.
abbrev pub AnswersSteps : View → ℕ → ℕ → Answer → View → Type 0
AnswersSteps v ch most answer w = (a : Advanced) × IsAdvance v ch most a w × (answer ≡ advance_answer a a.last)

-- An engine with the view `v` may give this answer to the request, and then has the view `w`.
abbrev pub Answers : View → Request → Answer → View → Type 0
Answers v (ask_call call) answer w = Replies v call answer w
Answers v (ask_mark kind range) answer w = AnswersMark v (mark_kind kind) range answer w
Answers v (ask_submit ch t) answer w = AnswersSubmit v ch t answer w
Answers v (ask_steps ch most) answer w = AnswersSteps v ch most answer w
Answers v (ask_value value) answer w = (answer ≡ known (value v)) × (w ≡ v)

-- the answer to steps: those that were taken, or the refusal of the first
abbrev pub steps_answer : Result StepsTaken EngineFault → Answer
steps_answer (Ok taken) = stepped taken.count taken.last
steps_answer (Err fault) = replied (Refused fault)

-- ---- what a call returns and writes

-- the code of an answer
abbrev pub code_of : Answer → ℤ
code_of closed = not_open
code_of (replied reply) = reply_code reply
code_of (unfit fault) = transfer_code fault
code_of no_kind = bad_access
code_of (known (runs None)) = not_running
code_of _ = ok_code

-- What a call writes: the values of its output arguments before and after the call.
pub data Written : Type 0 where
  nothing : Written
  a_number : ℕ → ℕ → Written
  a_conflict : DmaConflict → DmaConflict → Written
  bytes_or_conflict : List ℕ → List ℕ → DmaConflict → DmaConflict → Written
  an_outcome : DmaOutcome → DmaOutcome → Written
  a_run : Running → Running → Written
  a_report : DmaReport → DmaReport → Written

-- The number in the answer, or the former value if the answer has none.
abbrev pub number_in : Answer → ℕ → ℕ
number_in (replied (Cookie cookie)) before = cookie
number_in (replied (Count count)) before = count
number_in (known (numbered number)) before = number
number_in _ before = before

-- The bytes in the answer, or the former bytes if the answer has none.
abbrev pub bytes_in : Answer → List ℕ → List ℕ
bytes_in (replied (Bytes bytes)) before = bytes
bytes_in _ before = before

-- The transfer that a `Busy` or `Running` refusal names, or the former value for any other answer.
abbrev pub conflict_in : Answer → DmaConflict → DmaConflict
conflict_in (replied (Refused fault)) before = conflict_of {A = Unit {0}} (Err fault) before
conflict_in _ before = before

-- The outcome in the answer, or the former value if the answer has none.
abbrev pub outcome_in : Answer → DmaOutcome → DmaOutcome
outcome_in (replied (Resulted (Some outcome))) before = outcome_of outcome
outcome_in _ before = before

-- What runs, or the former value if nothing does.
abbrev pub run_in : Answer → Running → Running
run_in (known (runs (Some running))) before = running
run_in _ before = before

-- The report of the steps, or the former value if the answer isn't about steps that were taken.
abbrev pub report_in : Answer → DmaReport → DmaReport
report_in (stepped taken last) before = report_of taken last
report_in _ before = before

-- Each output argument has the answer's value for it after the call, or its former value if the answer has none.
abbrev pub IsWritten : Answer → Written → Type 0
IsWritten answer nothing = Unit {0}
IsWritten answer (a_number before after) = after ≡ number_in answer before
IsWritten answer (a_conflict before after) = after ≡ conflict_in answer before
IsWritten answer (bytes_or_conflict before after c d) = (after ≡ bytes_in answer before) × (d ≡ conflict_in answer c)
IsWritten answer (an_outcome before after) = after ≡ outcome_in answer before
IsWritten answer (a_run before after) = after ≡ run_in answer before
IsWritten answer (a_report before after) = after ≡ report_in answer before

-- What a call does to the engine's whole state, beyond its view. A request for a status, a result or a value doesn't
-- change the state, and neither does a refused checkpoint. After a checkpoint that succeeds the lists have no spare
-- capacity.
abbrev pub EffectOf : Request → ℤ → EngineState → EngineState → Type 0
EffectOf (ask_call (StatusOf ch cookie)) code e e' = e' ≡ e
EffectOf (ask_call (ResultOf ch cookie)) code e e' = e' ≡ e
EffectOf (ask_value value) code e e' = e' ≡ e
EffectOf (ask_call Checkpoint) code e e' = (code ≡ ok_code → HasNoSpare e') × (code ≢ ok_code → e' ≡ e)
EffectOf _ code e e' = Unit {0}

-- What a call from C on a controller returns and writes. The controller holds the first engine before the call and the
-- second one after it. Without an engine each request is answered by `closed`, and there is no engine afterwards. With
-- an engine, the engine gives some answer to the request, the code and what is written are those of this answer, and
-- the controller still has an engine afterwards.
unfoldable pub Returns : Option EngineState → Request → ℤ → Written → Option EngineState → Type 0
Returns None request code written new = (new ≡ None) × (code ≡ code_of closed) × IsWritten closed written
Returns (Some e) request code written new =
    IsSomeAnd new (λ e'. (answer : Answer) × Answers e.view request answer e'.view × (code ≡ code_of answer)
    × IsWritten answer written × EffectOf request code e e')

-- ---- an engine made

-- What opening a controller with this memory size and number of channels returns. If the controller has an engine:
-- `already_open`, and the engine is unchanged. Else, without an engine afterwards: the code of the first fault of
-- these arguments, or of `NoMemory` if they have none. Else `ok_code`, only for arguments without a fault, and the
-- controller has a new engine.
abbrev pub Opens : Option EngineState → ℕ → ℕ → ℤ → Option EngineState → Type 0
Opens (Some e) size channels code new = (code ≡ already_open) × (new ≡ Some e)
Opens None size channels code new =
    MatchOption new (code ≡ new_code (unwrap_or (new_fault size channels) engines.NoMemory))
    (λ e. (code ≡ ok_code) × (new_fault size channels ≡ None) × (e.view ≡ new_view size channels))

-- What calls from C on a controller return and write, from the engine's answers.
use Rattle.std.proofs.Common.{◌≡◌, ℕ, List, Option, Some, None, Result, Ok, Err, Bool, true, false, refl, sym, ap, ◌∙◌, subst, inl, inr, arith}
use Rattle.std.specs.Prelude.{ℤ, pos, negsuc, OnErr, IsSome, IfOk, unwrap_or, is_some}
use Rattle.std.specs.{Option.option_map, Result.result_map_both}
use Rattle.std.proofs.lemmas.Bool.{true≢false}
use Rattle.dma_mem.specs.{Places.Descriptor, declared.marks.MarkKind.MarkKind, declared.segment.Segment.Segment}
use Rattle.dma_mem.specs.{declared.transfer.TransferFault.TransferFault, declared.call.Call.Call}
use Rattle.dma_engine.specs.{declared.call.Reply.Reply, declared.fault.EngineFault.EngineFault, declared.outcome.Outcome.Outcome, declared.turn.Running.Running}
use Rattle.dma_engine.specs.{declared.turn.Status.Status, View.View, View.EngineState, View.object_of, View.running_on, Answer.CallAnswers, Answer.reply_of}
use Rattle.dma_engine.specs.{Answer.result_of, Answer.status_in, Room.HasNoSpare}
use Rattle.dma_ffi.specs.Codes.{answer_code, bad_access, fault_code, found_code, mark_kind, no_result, not_running, reply_code, status_code, value_or}
use Rattle.dma_ffi.specs.Requests.{Answer, Answers, AnswersMark, AnswersSteps, IsWritten, EffectOf, Request, Returns, Value, Written, a_conflict, a_number}
use Rattle.dma_ffi.specs.Requests.{a_report, a_run, an_outcome, ask_call, ask_mark, ask_steps, ask_submit, ask_value, bytes_in, closed, code_of}
use Rattle.dma_ffi.specs.Requests.{conflict_in, known, no_kind, nothing, number_in, numbered, outcome_in, replied, run_in, runs, stepped, steps_answer, the_run}
use Rattle.dma_ffi.specs.Requests.{unfit}
use Rattle.dma_ffi.specs.{declared.reports.DmaOutcome.DmaOutcome, declared.reports.DmaConflict.DmaConflict, declared.reports.DmaReport.DmaReport}
use Rattle.dma_ffi.specs.{declared.steps.StepsTaken.StepsTaken, Reports.conflict_of, Reports.outcome_of, Reports.report_of, inner.Submits.Submits}
use Rattle.dma_ffi.proofs.Transfers.{IsMadeTransfer}
use Rattle.dma_mem.specs.declared.call.Call.TheVariants.{Status as StatusOf, Result as ResultOf, Mark, Checkpoint}
use Rattle.dma_engine.specs.declared.call.Reply.TheVariants.{Done, Bytes, Count, State, Result as Resulted, Refused}

-- there was no engine
pub returns_closed : (old : Option EngineState) {code : ℤ} (request : Request) (written : Written) → is_some old ≡ false → code ≡ negsuc 0
    → IsWritten closed written → Returns old request code written old
unfolding Returns
returns_closed x0 x1 x2 x3 x4 x5 = grind (arith, refl, true, false)

-- the engine gave this answer
returns : {old : Option EngineState} {code : ℤ} (request : Request) (written : Written) (answer : Answer) (e e' : EngineState) → Some e ≡ old
    → Answers e.view request answer e'.view → code ≡ code_of answer → IsWritten answer written → EffectOf request code e e'
    → Returns old request code written (Some e')
unfolding Returns
returns {code = code} request written answer e e' was answers is held effect =
    subst (λ (o : Option EngineState). Returns o request code written (Some e')) was (answer, answers, is, held, effect)

-- ---- replies of the engine

-- the code of a reply
pub code_is : {A : Type 0} (f : A → Reply) → ((x : A) → reply_code (f x) ≡ pos 0) → (a : Result A EngineFault) → answer_code a ≡ reply_code (reply_of f a)
code_is f ok a = grind (arith, ok)

pub conflict_is : {A : Type 0} (f : A → Reply) → ((x : A) (d : DmaConflict) → conflict_in (replied (f x)) d ≡ d) → (a : Result A EngineFault) (d : DmaConflict)
    → conflict_of a d ≡ conflict_in (replied (reply_of f a)) d
conflict_is f none a d = grind (arith, none)

counted : (a : Result ℕ EngineFault) (before : ℕ) → value_or a before ≡ number_in (replied (reply_of (λ n. Count n) a)) before
counted a before = grind arith

pub bytes_are : (a : Result (Unit {0}) EngineFault) (bytes out : List ℕ) → OnErr a (out ≡ bytes) → out ≡ bytes_in (replied (reply_of (λ _. Bytes out) a)) bytes
bytes_are a bytes out same = grind arith

outcome_code : (o : Option Outcome) (m : Option DmaOutcome) → m ≡ option_map outcome_of o → found_code no_result m ≡ reply_code (Resulted o)
outcome_code o m is = grind arith

outcome_is : (o : Option Outcome) (m : Option DmaOutcome) (before : DmaOutcome) → m ≡ option_map outcome_of o
    → unwrap_or m before ≡ outcome_in (replied (Resulted o)) before
outcome_is o m before is = grind arith

-- the code and the value of what runs
run_code : (r : Option Running) → found_code not_running r ≡ code_of (known (runs r))
run_code r = grind arith

run_is : (r : Option Running) (before : Running) → unwrap_or r before ≡ run_in (known (runs r)) before
run_is r before = grind arith

-- the report of steps
abbrev pub reported : Result StepsTaken EngineFault → Result DmaReport EngineFault
reported r = result_map_both (λ (t : StepsTaken). report_of t.count t.last) (λ (fault : EngineFault). fault) r

-- ---- calls that may change the engine

module _ {old : Option EngineState} {code : ℤ} (e e' : EngineState) (was : Some e ≡ old) where
  pub replies : (call : Call) (reply : Reply) (written : Written) → CallAnswers e.view call reply e'.view → code ≡ reply_code reply
      → IsWritten (replied reply) written → EffectOf (ask_call call) code e e' → Returns old (ask_call call) code written (Some e')
  replies call reply written answers is held effect =
      returns (ask_call call) written (replied reply) e e' was (reply, refl, answers) is held effect

  pub returns_done : (call : Call) (a : Result (Unit {0}) EngineFault) → CallAnswers e.view call (reply_of (λ _. Done) a) e'.view → code ≡ answer_code a
      → EffectOf (ask_call call) code e e' → Returns old (ask_call call) code nothing (Some e')
  returns_done call a answers is effect =
      replies call (reply_of (λ _. Done) a) nothing answers (is ∙ code_is (λ _. Done) (λ _. refl) a) tt effect

  pub returns_count : {after : ℕ} (before : ℕ) (call : Call) (a : Result ℕ EngineFault) → CallAnswers e.view call (reply_of (λ n. Count n) a) e'.view
      → code ≡ answer_code a → after ≡ value_or a before → EffectOf (ask_call call) code e e'
      → Returns old (ask_call call) code (a_number before after) (Some e')
  returns_count {after} before call a answers is number effect =
      replies call (reply_of (λ n. Count n) a) (a_number before after) answers (is ∙ code_is (λ n. Count n) (λ n. refl) a) (number ∙ counted a before) effect

  pub returns_unless : {after : DmaConflict} (before : DmaConflict) (call : Call) (a : Result (Unit {0}) EngineFault)
      → CallAnswers e.view call (reply_of (λ _. Done) a) e'.view → code ≡ answer_code a → after ≡ conflict_of a before → EffectOf (ask_call call) code e e'
      → Returns old (ask_call call) code (a_conflict before after) (Some e')
  returns_unless {after} before call a answers is named effect =
      replies call (reply_of (λ _. Done) a) (a_conflict before after) answers (is ∙ code_is (λ _. Done) (λ _. refl) a)
      (named ∙ conflict_is (λ _. Done) (λ _ d. refl) a before) effect

  pub returns_mark : (number : ℕ) (kind : MarkKind) (range : Segment) (a : Result (Unit {0}) EngineFault) → Some kind ≡ mark_kind number
      → CallAnswers e.view (Mark kind range) (reply_of (λ _. Done) a) e'.view → code ≡ answer_code a
      → Returns old (ask_mark number range) code nothing (Some e')
  returns_mark number kind range a named answers is =
      let reply = reply_of (λ _. Done) a in
      returns (ask_mark number range) nothing (replied reply) e e' was
      (subst (λ (o : Option MarkKind). AnswersMark e.view o range (replied reply) e'.view) named (reply, refl, answers))
      (is ∙ code_is (λ _. Done) (λ _. refl) a) tt tt

  pub returns_steps : {after : DmaReport} (before : DmaReport) (ch most : ℕ) (r : Result StepsTaken EngineFault)
      → AnswersSteps e.view ch most (steps_answer r) e'.view → code ≡ answer_code (reported r) → after ≡ value_or (reported r) before
      → Returns old (ask_steps ch most) code (a_report before after) (Some e')
  returns_steps {after} before ch most (Ok t) answers is written =
      returns (ask_steps ch most) (a_report before after) (stepped t.count t.last) e e' was answers is written tt
  returns_steps {after} before ch most (Err fault) answers is written =
      returns (ask_steps ch most) (a_report before after) (replied (Refused fault)) e e' was answers is written tt

-- the answer to a submit of a transfer that may not have been made
pub returns_submit : (old : Option EngineState) (code : ℤ) (after : ℕ) (e e' : EngineState) (before ch : ℕ) (t : Descriptor)
    (made : Result Descriptor TransferFault) → IsMadeTransfer t made → Some e ≡ old → Submits e.view ch made code before after e'.view
    → Returns old (ask_submit ch t) code (a_number before after) (Some e')
returns_submit old code after e e' before ch t (Ok x) is was h =
    let here : Submits e.view ch (Ok t) code before after e'.view = subst (λ (y : Descriptor). Submits e.view ch (Ok y) code before after e'.view) is.0 h in
    returns (ask_submit ch t) (a_number before after) (replied here.0) e e' was (inr (is.1, (here.0, refl, here.1))) here.2 here.3 tt
returns_submit old code after e e' before ch t (Err fault) is was h =
    returns (ask_submit ch t) (a_number before after) (unfit fault) e e' was (inl (ap unfit is, h.2)) h.0 h.1 tt

-- a mark of no kind
pub returns_no_kind : (old : Option EngineState) {code : ℤ} (number : ℕ) (range : Segment) → None ≡ mark_kind number → IsSome old → code ≡ bad_access
    → Returns old (ask_mark number range) code nothing old
returns_no_kind (Some e) number range named there is =
    returns (ask_mark number range) nothing no_kind e e refl (subst (λ (o : Option MarkKind). AnswersMark e.view o range no_kind e.view) named (refl, refl)) is
    tt tt
returns_no_kind None number range named there is = absurd (true≢false (sym there))

-- ---- calls that leave the engine as it is

module _ {old : Option EngineState} {code : ℤ} (e : EngineState) (was : Some e ≡ old) where
  pub returns_status : (ch cookie : ℕ) (s : Status) → s ≡ status_in e.view ch cookie → code ≡ status_code s
      → Returns old (ask_call (StatusOf ch cookie)) code nothing (Some e)
  returns_status ch cookie s shown is =
      replies e e was (StatusOf ch cookie) (State s) nothing (ap (λ (x : Status). (State x, e.view)) shown) is tt refl

  pub returns_value : {after : ℕ} (value : View → Value) (before : ℕ) → numbered after ≡ value e.view → code ≡ pos 0
      → Returns old (ask_value value) code (a_number before after) (Some e)
  returns_value {after} value before is ok =
      returns (ask_value value) (a_number before after) (known (numbered after)) e e was (ap known is, refl) ok refl refl

  pub returns_run : {after : Running} (before : Running) (ch : ℕ) (r : Option Running) → r ≡ running_on e.view ch → code ≡ found_code not_running r
      → after ≡ unwrap_or r before → Returns old (ask_value (the_run ch)) code (a_run before after) (Some e)
  returns_run {after} before ch r is coded written =
      returns (ask_value (the_run ch)) (a_run before after) (known (runs r)) e e was (ap (λ x. known (runs x)) is, refl) (coded ∙ run_code r)
      (written ∙ run_is r before) refl

  pub returns_outcome : {after : DmaOutcome} (before : DmaOutcome) (ch cookie : ℕ) (o : Option Outcome) (m : Option DmaOutcome)
      → o ≡ result_of (object_of e.view) ch cookie → m ≡ option_map outcome_of o → code ≡ found_code no_result m → after ≡ unwrap_or m before
      → Returns old (ask_call (ResultOf ch cookie)) code (an_outcome before after) (Some e)
  returns_outcome {after} before ch cookie o m is map coded written =
      replies e e was (ResultOf ch cookie) (Resulted o) (an_outcome before after) (ap (λ (x : Option Outcome). (Resulted x, e.view)) is)
      (coded ∙ outcome_code o m map) (written ∙ outcome_is o m before map) refl

-- ---- a checkpoint

abbrev is_refusal : ℤ → Bool
is_refusal (pos n) = false
is_refusal (negsuc n) = true

refused : (fault : EngineFault) → is_refusal (fault_code fault) ≡ true
refused fault = grind arith

-- the effect of a checkpoint, by its code
pub checkpoint_effect : {code : ℤ} (a : Result (Unit {0}) EngineFault) (e e' : EngineState) → IfOk a (λ _. HasNoSpare e') → OnErr a (e' ≡ e)
    → code ≡ answer_code a → EffectOf (ask_call Checkpoint) code e e'
checkpoint_effect h1 h2 h3 = grind (arith, refused)

-- what a call on a controller returns and writes, by the engine's answer to it
pub ruleset returned = (
  returns_closed,
  returns_done,
  returns_count,
  returns_unless,
  returns_status,
  returns_value,
  returns_run,
  returns_outcome,
  returns_mark,
  returns_no_kind,
  checkpoint_effect,
)

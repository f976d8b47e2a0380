-- What each answer adds to the ticks, to the step count and to the number of finished cookies; the views after
-- answers; and answers to consecutive calls.
use Rattle.std.specs.Prelude.{◌≡◌, ◌≢◌, ℕ, ◌+◌, ◌≤◌, ◌<◌, ◌⊎◌, false, if◌then◌else◌, None, Result, Err, List, [], ◌∷◌, ◌++◌, length, take, drop}
use Rattle.std.specs.List.{All}
use Rattle.dma_mem.specs.declared.call.Call.TheVariants.{Submit, Terminate, Step, Checkpoint}
use Rattle.dma_mem.specs.{Limits.most_channels, Places.Descriptor, Rules.IsTransfer, declared.call.Call.Call}
use Rattle.dma_engine.specs.declared.call.Reply.TheVariants.{Cookie, Count, Done, Turned, Refused}
use Rattle.dma_engine.specs.Object.{finished, finished_all, last_cookie, unfinished, used}
use Rattle.dma_engine.specs.Ticks.{Tick, Submitted, Finished, board_after, board_of, counts, status_of, tick_channel, ticks_of}
use Rattle.dma_engine.specs.Turn.{ends, finishes_in, steps_in, turn}
use Rattle.dma_engine.specs.Answer.{CallAnswers, AreAnswers, StepAnswers, Extends, KeepsOutcomes, answer, answers, has_checkpoint, is_checkpoint, reply_of}
use Rattle.dma_engine.specs.Answer.{status_in}
use Rattle.dma_engine.specs.View.{View, IsSound, channels, new_fault, new_view, object_of, state_at}
use Rattle.dma_engine.specs.{declared.call.Reply.Reply, declared.entry.Entry.Entry, declared.fault.EngineFault.EngineFault}
use Rattle.dma_engine.specs.{declared.fault.EngineFault.TheVariants.NoMemory, declared.turn.Turn.Turn, Room.IsIdle}

-- the tick of a step's answer: one if it finishes a cookie, else none
abbrev pub ticks_in : ℕ → Result Turn EngineFault → List Tick
ticks_in ch r = if ends r then Finished ch 1 ∷ [] else []

-- The new view has these additional ticks, this many more steps and this many more finished cookies.
pub record Adds (old new : View) (more : List Tick) (moves finishes : ℕ) : Type 0 where
  pub ticks : ticks_of new.history ≡ ticks_of old.history ++ more
  pub steps : new.steps ≡ old.steps + moves
  pub finished : finished_all (object_of new) ≡ finished_all (object_of old) + finishes

-- The ticks, the step count and the number of finished cookies are the same.
pub record SameCounts (old new : View) : Type 0 where
  pub ticks : ticks_of new.history ≡ ticks_of old.history
  pub steps : new.steps ≡ old.steps
  pub finished : finished_all (object_of new) ≡ finished_all (object_of old)

-- a call that is not a submit, a terminate, a step or a checkpoint
abbrev pub IsQuiet : Call → Type 0
IsQuiet (Submit ch t) = ⊥
IsQuiet (Terminate ch) = ⊥
IsQuiet (Step ch) = ⊥
IsQuiet Checkpoint = ⊥
IsQuiet _ = Unit {0}

-- After any call that is not an accepted checkpoint, the new history begins with the old one, and the base is the same.
abbrev pub CallsExtend : Type 0
CallsExtend =
    (v w : View) (call : Call) (reply : Reply) → is_checkpoint call reply ≡ false → CallAnswers v call reply w → Extends v w

-- After a quiet call, whatever its reply, the ticks, the step count and the number of finished cookies are the same.
abbrev pub QuietCallsKeepCounts : Type 0
QuietCallsKeepCounts = (v w : View) (call : Call) (reply : Reply) → IsQuiet call → CallAnswers v call reply w → SameCounts v w

-- An accepted submit adds its tick and no step or finished cookie. Its channel exists, and its cookie, which is above
-- 0, is the last one that the channel has given.
abbrev pub SubmitsAdd : Type 0
SubmitsAdd =
    (v w : View) (ch cookie : ℕ) (t : Descriptor) → CallAnswers v (Submit ch t) (Cookie cookie) w
    → Adds v w (Submitted ch ∷ []) 0 0 × (ch < channels w) × (0 < cookie) × (cookie ≡ used (state_at w ch))

-- An accepted terminate adds its tick. It finishes as many cookies as were unfinished, and then all cookies of the
-- channel, which exists, are finished.
abbrev pub TerminatesAdd : Type 0
TerminatesAdd =
    (v w : View) (ch count : ℕ) → CallAnswers v (Terminate ch) (Count count) w
    → Adds v w (Finished ch count ∷ []) 0 count × (ch < channels w) × (count ≡ unfinished (state_at v ch))
    × (used (state_at w ch) ≤ finished (state_at w ch))

-- A step adds the tick, the step and the finished cookie of its answer.
abbrev pub StepsAdd : Type 0
StepsAdd =
    (v w : View) (ch : ℕ) (r : Result Turn EngineFault) → StepAnswers v ch r w
    → Adds v w (ticks_in ch r) (steps_in r) (finishes_in r)

-- A step's answer finishes a cookie exactly if its turn does, unless it is out of memory.
abbrev pub EndsByTurn : Type 0
EndsByTurn =
    (v w : View) (ch : ℕ) (r : Result Turn EngineFault) → StepAnswers v ch r w
    → (r ≡ Err NoMemory) ⊎ (ends r ≡ ends (turn v ch).0)

-- After an accepted checkpoint of a sound view the history is empty, the base has the counts that the channels had, and
-- the step count and the number of finished cookies are the same.
abbrev pub CheckpointsKeep : Type 0
CheckpointsKeep =
    (v w : View) → IsSound v → CallAnswers v Checkpoint Done w
    → (w.history ≡ []) × (board_of w.base ≡ board_of (object_of v)) × (w.steps ≡ v.steps)
    × (finished_all (object_of w) ≡ finished_all (object_of v))

-- After calls without an accepted checkpoint, the new history begins with the old one, the base is the same, and no
-- known outcome changes. The calls between two checkpoints of a longer list are such a list.
abbrev pub CallsKeepOutcomes : Type 0
CallsKeepOutcomes =
    (v w : View) (calls : List Call) (replies : List Reply) → has_checkpoint calls replies ≡ false
    → AreAnswers v calls replies w → Extends v w × KeepsOutcomes v w

-- The board of a sound view's ticks has the counts of the object after its history.
abbrev pub BoardsCount : Type 0
BoardsCount = (v : View) → IsSound v → board_after (board_of v.base) (ticks_of v.history) ≡ board_of (object_of v)

-- The board that a sound view's ticks sum up to determines the status of each cookie, as readers of the status know it.
abbrev pub StatusByTicks : Type 0
StatusByTicks =
    (v : View) (ch cookie : ℕ) → IsSound v
    → status_in v ch cookie ≡ status_of (board_after (board_of v.base) (ticks_of v.history)) ch cookie

-- The base of a sound view has at most 8 channels, with counts for each, and no count above the last cookie.
abbrev pub BaseCountsBounded : Type 0
BaseCountsBounded =
    (v : View) → IsSound v
    → (length (board_of v.base) ≡ channels v) × (channels v ≤ most_channels)
    × ((ch : ℕ)
    → ((counts (board_of v.base) ch).used ≤ last_cookie) × ((counts (board_of v.base) ch).finished ≤ last_cookie))

-- Each tick of a sound view's history is that of a channel that exists.
abbrev pub TicksNameChannels : Type 0
TicksNameChannels = (v : View) → IsSound v → All (λ t. tick_channel t < channels v) (ticks_of v.history)

-- A history has no more ticks than entries.
abbrev pub TicksAtMostEntries : Type 0
TicksAtMostEntries = (es : List Entry) → length (ticks_of es) ≤ length es

-- If the answer to a step is idle, the view is unchanged.
abbrev pub IdleStepsStay : Type 0
IdleStepsStay =
    (v w : View) (ch : ℕ) (r : Result Turn EngineFault) → IsIdle r → (reply_of Turned r, w) ≡ answer v (Step ch) → w ≡ v

-- ---- the views after answers

-- A call that can be made: the transfer of a submit obeys the rules of transfers, as every value of the type does.
abbrev pub IsCall : Call → Type 0
IsCall (Submit ch t) = IsTransfer t
IsCall call = Unit {0}

-- Calls in order have these replies, one for each call, and every view on the way is sound, including the first and the
-- last.
abbrev pub AreSoundAnswers : View → List Call → List Reply → View → Type 0
AreSoundAnswers old [] [] new = IsSound new × (new ≡ old)
AreSoundAnswers old (call ∷ calls) (reply ∷ replies) new =
    IsSound old × ((next : View) × CallAnswers old call reply next × AreSoundAnswers next calls replies new)
AreSoundAnswers old _ _ new = ⊥

-- The view of an engine that can be made is sound.
abbrev pub NewViewsAreSound : Type 0
NewViewsAreSound = (bytes many : ℕ) → new_fault bytes many ≡ None → IsSound (new_view bytes many)

-- A sound view stays sound after any answer to a call.
abbrev pub AnswersStaySound : Type 0
AnswersStaySound =
    (v w : View) (call : Call) (reply : Reply) → IsCall call → IsSound v → CallAnswers v call reply w → IsSound w

-- From a sound view, every view on the way through answers to calls in order is sound.
abbrev pub CallsStaySound : Type 0
CallsStaySound =
    (v w : View) (calls : List Call) (replies : List Reply) → All IsCall calls → IsSound v → AreAnswers v calls replies w
    → IsSound w × AreSoundAnswers v calls replies w

-- ---- answers to consecutive calls

-- An answer to a call is an answer to a list of only that call.
abbrev pub AnswersOne : Type 0
AnswersOne =
    (v w : View) (call : Call) (reply : Reply) → CallAnswers v call reply w → AreAnswers v (call ∷ []) (reply ∷ []) w

-- Answers to calls, followed by answers to further calls, are answers to all of them in order.
abbrev pub AnswersAppend : Type 0
AnswersAppend =
    (u v w : View) (calls more : List Call) (replies others : List Reply) → AreAnswers u calls replies v
    → AreAnswers v more others w → AreAnswers u (calls ++ more) (replies ++ others) w

-- Answers to calls in order are answers to the first ones, followed by answers to the rest.
abbrev pub AnswersSplit : Type 0
AnswersSplit =
    (u w : View) (calls more : List Call) (replies : List Reply) → AreAnswers u (calls ++ more) replies w
    → (v : View) × AreAnswers u calls (take (length calls) replies) v
    × AreAnswers v more (drop (length calls) replies) w

-- ---- answers when memory doesn't run out

-- The answer to a call with enough memory is one of its answers.
abbrev pub AnswerIsOne : Type 0
AnswerIsOne = (v : View) (call : Call) → CallAnswers v call (answer v call).0 (answer v call).1

-- The answers to calls in order with enough memory are answers to them.
abbrev pub AnswersAreAnswers : Type 0
AnswersAreAnswers = (v : View) (calls : List Call) → AreAnswers v calls (answers v calls).0 (answers v calls).1

-- A reply other than out of memory, and its view, are those with enough memory.
abbrev pub AnswerUnlessNoMemory : Type 0
AnswerUnlessNoMemory =
    (v w : View) (call : Call) (reply : Reply) → reply ≢ Refused NoMemory → CallAnswers v call reply w
    → (reply, w) ≡ answer v call

-- Replies without an out of memory are those with enough memory, and so is the view after them.
abbrev pub AnswersUnlessNoMemory : Type 0
AnswersUnlessNoMemory =
    (v w : View) (calls : List Call) (replies : List Reply) → All (λ r. r ≢ Refused NoMemory) replies
    → AreAnswers v calls replies w → (replies, w) ≡ answers v calls

-- How calls from C correspond to calls of the engine.
use Rattle.std.specs.Prelude.{◌≡◌, ℕ, ℤ, Option, None, Some, IsSomeAnd, List, [], ◌∷◌, ◌++◌, flat_map, replicate}
use Rattle.std.specs.List.{All}
use Rattle.dma_mem.specs.declared.call.Call.TheVariants.{Submit, Step, Mark}
use Rattle.dma_mem.specs.{declared.marks.MarkKind.MarkKind, declared.segment.Segment.Segment, Rules.HasOneByte, declared.call.Call.Call}
use Rattle.dma_engine.specs.View.{EngineState, View, new_view}
use Rattle.dma_engine.specs.{declared.call.Reply.Reply, declared.call.Reply.TheVariants.Turned, Answer.AreAnswers, Laws.IsCall}
use Rattle.dma_ffi.specs.Codes.{mark_kind}
use Rattle.dma_ffi.specs.Requests.{Answer, Answers, IsWritten, Opens, Request, Returns, Written, code_of, ask_call, ask_mark, ask_steps, ask_submit, replied}
use Rattle.dma_ffi.specs.Requests.{stepped}

-- the call that marks a range for this kind; no call without a kind
abbrev pub marking : Option MarkKind → Segment → List Call
marking None range = []
marking (Some kind) range = Mark kind range ∷ []

-- the call if the answer is the engine's reply, else none
abbrev pub if_replied : Answer → Call → List Call
if_replied (replied reply) call = call ∷ []
if_replied _ call = []

-- The engine calls that a request of C makes, given its answer: the call itself; a mark whose kind exists; the submit
-- of a transfer that was made; the steps that were taken, or the first one if it was refused; none for a request that
-- only reads, for a kind that doesn't exist, and for a transfer that wasn't made.
abbrev pub calls_made : Request → Answer → List Call
calls_made (ask_call call) answer = call ∷ []
calls_made (ask_mark kind range) answer = marking (mark_kind kind) range
calls_made (ask_submit ch t) answer = if_replied answer (Submit ch t)
calls_made (ask_steps ch most) (replied reply) = Step ch ∷ []
calls_made (ask_steps ch most) (stepped taken last) = replicate taken (Step ch)
calls_made _ _ = []

-- Whether these replies fit an answer. If the answer is the engine's reply, it is the only reply. If steps were taken,
-- the last reply is the turn of the last step. If no step was taken, and for any other answer, there is no reply.
abbrev pub AreReplies : Answer → List Reply → Type 0
AreReplies (replied reply) replies = replies ≡ reply ∷ []
AreReplies (stepped taken None) replies = replies ≡ []
AreReplies (stepped taken (Some turn)) replies = (before : List Reply) × (replies ≡ before ++ Turned turn ∷ [])
AreReplies _ replies = replies ≡ []

-- What a call from C on an open controller returns and writes is an answer of the controller's engine. It is also the
-- answer to a list of the engine's own calls, made in order: their replies fit the answer and lead to the same view.
-- So what holds of all lists of the engine's calls holds of everything that C does with a controller between an open
-- and a close.
abbrev pub CallsAreTheEngines : Type 0
CallsAreTheEngines =
    (e : EngineState) (request : Request) (code : ℤ) (written : Written) (new : Option EngineState)
    → Returns (Some e) request code written new
    → IsSomeAnd new (λ e'. (answer : Answer) × Answers e.view request answer e'.view × (code ≡ code_of answer)
    × IsWritten answer written
    × ((replies : List Reply) × AreReplies answer replies × AreAnswers e.view (calls_made request answer) replies e'.view))

-- ---- calls from C, one after another

-- A call from C as C sees it: what it requests, the code that it returns, and what it writes.
pub record Exchange : Type 0 where
  pub request : Request
  pub code : ℤ
  pub written : Written

-- A request that C can make: an engine call that can be made (`IsCall`), the submit of a copy or of a fill with one
-- source byte, or any other request.
abbrev pub CanBeRequested : Request → Type 0
CanBeRequested (ask_call call) = IsCall call
CanBeRequested (ask_submit ch t) = HasOneByte t
CanBeRequested _ = Unit {0}

-- Calls from C on one controller, one after another, each with a request that C can make. The controller has the engine
-- `found`, or none, before the first call, and `left`, or none, after the last. (Opening an open controller is refused
-- and changes nothing: `Opens`.)
abbrev pub AreExchanges : Option EngineState → List Exchange → Option EngineState → Type 0
AreExchanges found [] left = left ≡ found
AreExchanges found (call ∷ later) left =
    (next : Option EngineState) × CanBeRequested call.request
    × Returns found call.request call.code call.written next × AreExchanges next later left

-- What the engine does for a call from C: its answer, and its replies to the engine calls that the request makes.
pub record Service : Type 0 where
  pub answer : Answer
  pub replies : List Reply

-- An engine with the view `v` may serve a call from C like this, and then has the view `w`. The code and what is
-- written are the answer's, the replies fit the answer, and they are replies to the engine calls that the request
-- makes.
pub record Serves (v : View) (call : Exchange) (service : Service) (w : View) : Type 0 where
  pub answers : Answers v call.request service.answer w
  pub code : call.code ≡ code_of service.answer
  pub written : IsWritten service.answer call.written
  pub replies : AreReplies service.answer service.replies
  pub made : AreAnswers v (calls_made call.request service.answer) service.replies w

-- An engine with the view `v` may serve these calls from C by these services, one for each call, each on the view
-- after the call before, and then has the view `w`.
abbrev pub ServesAll : View → List Exchange → List Service → View → Type 0
ServesAll v [] [] w = w ≡ v
ServesAll v (call ∷ later) (service ∷ services) w =
    (next : View) × Serves v call service next × ServesAll next later services w
ServesAll v _ _ w = ⊥

-- the engine calls of all calls from C, in order
abbrev pub all_calls : List Exchange → List Service → List Call
all_calls (call ∷ later) (service ∷ services) = calls_made call.request service.answer ++ all_calls later services
all_calls _ _ = []

-- the replies to these engine calls, in order
abbrev pub all_replies : List Service → List Reply
all_replies services = flat_map (λ service. service.replies) services

-- The calls from C, however many, are one list of engine calls, made one after another, and each of these can be made
-- (`IsCall`). What each call from C returns and writes is given by its replies in that list.
abbrev pub AreOneList : View → List Exchange → View → Type 0
AreOneList v calls w =
    (services : List Service) × ServesAll v calls services w
    × AreAnswers v (all_calls calls services) (all_replies services) w × All IsCall (all_calls calls services)

-- For all calls from C on an open controller, one after another: none of them closes the controller, and they are one
-- list of engine calls (`AreOneList`).
abbrev pub ExchangesAreTheEngines : Type 0
ExchangesAreTheEngines =
    (e : EngineState) (calls : List Exchange) (left : Option EngineState) → AreExchanges (Some e) calls left
    → IsSomeAnd left (λ e'. AreOneList e.view calls e'.view)

-- After an open that makes an engine, this list begins on a new engine with that memory size and number of channels.
-- So what holds of all lists of a new engine's calls holds of everything that C does with a controller between an open
-- and a close.
abbrev pub SessionsAreTheEngines : Type 0
SessionsAreTheEngines =
    (size channels : ℕ) (code : ℤ) (e : EngineState) (calls : List Exchange) (left : Option EngineState)
    → Opens None size channels code (Some e) → AreExchanges (Some e) calls left
    → IsSomeAnd left (λ e'. AreOneList (new_view size channels) calls e'.view)

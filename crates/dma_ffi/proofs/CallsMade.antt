-- A call from C is a list of the engine's calls.
use Rattle.std.proofs.Common.{◌≡◌, ℕ, zero, suc, ◌+◌, Bool, true, false, List, [], ◌∷◌, ◌++◌, Option, Some, None, refl, ap, subst, sym, ◌∙◌, inl, inr}
use Rattle.std.proofs.Common.{append_assoc, arith}
use Rattle.std.specs.Prelude.{if◌then◌else◌, ◌==◌, Result, Ok, Err, replicate, unwrap_or}
use Rattle.std.proofs.{lemmas.Bool.eqb-true, lemmas.List.replicate-append-replicate}
use Rattle.dma_mem.specs.declared.call.Call.TheVariants.{Submit, Step, Mark}
use Rattle.dma_mem.specs.{Places.Descriptor, Refusals.refusal_of, declared.marks.MarkKind.MarkKind, declared.segment.Segment.Segment, declared.call.Call.Call}
use Rattle.dma_engine.specs.Advance.{EndsWith, after_steps, replies_before, start_replies, steps_before}
use Rattle.dma_engine.specs.{declared.call.Reply.Reply, declared.call.Reply.TheVariants.Turned, declared.call.Reply.TheVariants.Refused}
use Rattle.dma_engine.specs.{declared.fault.EngineFault.EngineFault, declared.turn.Advanced.Advanced, declared.turn.Turn.Turn}
use Rattle.dma_engine.specs.{declared.turn.Turn.TheVariants.Moved, View.View, Answer.AreAnswers, Answer.StepAnswers, Answer.answers}
use Rattle.dma_engine.proofs.{CallLists.AreAnswers_push, IdleSteps.idle_steps_stay, JoinedCalls.answers_are_answers, Turns.answer_is}
use Rattle.dma_ffi.specs.Requests.{Answer, Answers, AnswersMark, AnswersSubmit, Replies, Request, Returns, advance_answer, ask_call, ask_mark, ask_steps}
use Rattle.dma_ffi.specs.Requests.{ask_submit, ask_value, replied, stepped, turn_before, unfit}
use Rattle.dma_ffi.specs.{Codes.mark_kind, Laws.AreReplies, Laws.CallsAreTheEngines, Laws.calls_made, Laws.if_replied, Laws.marking}
use Rattle.dma_mem.specs.declared.transfer.TransferFault.TheVariants as transfers

-- there are replies to calls in order that fit an answer and lead to this view
abbrev Made : View → List Call → Answer → View → Type 0
Made v calls answer w = (replies : List Reply) × AreReplies answer replies × AreAnswers v calls replies w

none_made : (v w : View) (answer : Answer) → AreReplies answer [] → w ≡ v → Made v [] answer w
none_made v w answer fits same = ([], fits, same)

one_made : (v w : View) (call : Call) (answer : Answer) → Replies v call answer w → Made v (call ∷ []) answer w
one_made v w call answer (reply, is, answers) = (reply ∷ [], subst (λ (a : Answer). AreReplies a (reply ∷ [])) (sym is) refl, (w, answers, refl))

-- ---- steps

-- a refused step changes nothing
refused_stays : (v w : View) (ch : ℕ) (fault : EngineFault) → StepAnswers v ch (Err fault) w → w ≡ v
refused_stays v w ch fault h = grind (arith, answer_is, idle_steps_stay)

before_fits : (n : ℕ) (started : Option ℕ) (moved : ℕ)
    → AreReplies (stepped n (turn_before started moved)) (start_replies started ++ replicate moved (Turned Moved))
before_fits n None zero = refl
before_fits n (Some cookie) zero = ([], refl)
before_fits n started (suc moved) =
    let start = start_replies started in
    let one : moved + 1 ≡ suc moved = omega arith in (
      start ++ replicate moved (Turned Moved),
      sym (append_assoc start (replicate moved (Turned Moved)) (Turned Moved ∷ [])
          ∙ ap (λ l. start ++ l) (replicate-append-replicate moved 1 (Turned Moved) ∙ ap (λ (k : ℕ). replicate k (Turned Moved)) one)),
    )

module _ (v : View) (ch : ℕ) (a : Advanced) (before : (answers v (replicate (steps_before a) (Step ch))).0 ≡ replies_before a) where
  abbrev u : View
  u = after_steps v ch (steps_before a)

  -- the steps before the last
  before_answers : (w : View) → w ≡ u → AreAnswers v (replicate (steps_before a) (Step ch)) (replies_before a) w
  before_answers w same = grind (arith, answers_are_answers)

  before_made : (w : View) → w ≡ u → Made v (replicate (steps_before a) (Step ch)) (stepped (steps_before a) (turn_before a.started a.moved)) w
  before_made w same = (replies_before a, before_fits (steps_before a) a.started a.moved, before_answers w same)

  -- a refused step after others, or as the first
  refused_made : (w : View) (fault : EngineFault) (first : Bool) → StepAnswers u ch (Err fault) w → (steps_before a == 0) ≡ first
      → (let answer = if first then replied (Refused fault) else stepped (steps_before a) (turn_before a.started a.moved) in
      Made v (calls_made (ask_steps ch 0) answer) answer w)
  refused_made w fault true is none = grind (arith, eqb-true, one_made, refl, subst)
  refused_made w fault false is some = before_made w (refused_stays u w ch fault is)

  -- the steps of an advance, by the result of the last
  advance_made : (w : View) (most : ℕ) (last : Option (Result Turn EngineFault)) → EndsWith u ch (steps_before a) most last w
      → Made v (calls_made (ask_steps ch most) (advance_answer a last)) (advance_answer a last) w
  advance_made w most None last = before_made w last.1
  advance_made w most (Some (Ok turn)) last =
      let calls = replicate (steps_before a) (Step ch) in
      let replies = replies_before a ++ Turned turn ∷ [] in (
        replies,
        (replies_before a, refl),
        subst (λ (x : List Call). AreAnswers v x replies w) (replicate-append-replicate (steps_before a) 1 (Step ch))
            (AreAnswers_push v u w calls (replies_before a) (Step ch) (Turned turn) (before_answers u refl) last.2),
      )
  advance_made w most (Some (Err fault)) last = refused_made w fault (steps_before a == 0) last.2 refl

mark_made : (v w : View) (kind : Option MarkKind) (range : Segment) (answer : Answer) → AnswersMark v kind range answer w → Made v (marking kind range) answer w
mark_made v w None range answer h = none_made v w answer (subst (λ (a : Answer). AreReplies a []) (sym h.0) refl) h.1
mark_made v w (Some kind) range answer h = one_made v w (Mark kind range) answer h

submit_made : (v w : View) (ch : ℕ) (t : Descriptor) (answer : Answer) → AnswersSubmit v ch t answer w → Made v (if_replied answer (Submit ch t)) answer w
submit_made v w ch t answer (inl h) =
    subst (λ (a : Answer). Made v (if_replied a (Submit ch t)) a w) (sym h.0) (none_made v w (unfit (unwrap_or (refusal_of t) transfers.NoMemory)) refl h.1)
submit_made v w ch t answer (inr h) =
    subst (λ (a : Answer). Made v (if_replied a (Submit ch t)) a w) (sym h.1.1) (one_made v w (Submit ch t) (replied h.1.0) (h.1.0, refl, h.1.2))

made : (v w : View) (request : Request) (answer : Answer) → Answers v request answer w → Made v (calls_made request answer) answer w
made v w (ask_call call) answer h = one_made v w call answer h
made v w (ask_mark kind range) answer h = mark_made v w (mark_kind kind) range answer h
made v w (ask_submit ch t) answer h = submit_made v w ch t answer h
made v w (ask_steps ch most) answer (a, h, is) =
    subst (λ (x : Answer). Made v (calls_made (ask_steps ch most) x) x w) (sym is) (advance_made v ch a h.before w most a.last h.last)
made v w (ask_value value) answer h = none_made v w answer (subst (λ (a : Answer). AreReplies a []) (sym h.0) refl) h.1

pub calls_are_the_engines : CallsAreTheEngines
unfolding Returns
calls_are_the_engines x0 x1 x2 x3 x4 x5 = grind (arith, made)

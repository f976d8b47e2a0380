-- Answers to consecutive calls, and answers when memory doesn't run out.
use Rattle.std.proofs.Common.{arith}
use Rattle.std.proofs.Common.{inl, inr, ◌≡◌, ◌≢◌, ℕ, List, [], ◌∷◌, ◌++◌, Option, Some, None, Bool, refl, ap, ◌∙◌, subst, sym}
use Rattle.std.specs.{Prelude.nat_le, Option.option_map}
use Rattle.std.proofs.{lemmas.List.Elements.All-head, lemmas.List.Elements.All-tail, lemmas.Bool.cond_both}
use Rattle.dma_mem.specs.{Places.Descriptor, declared.call.Call.Call}
use Rattle.dma_engine.specs.declared.call.Reply.TheVariants.{Turned, Refused}
use Rattle.dma_engine.specs.declared.fault.EngineFault.TheVariants.{Running, NoChannel, NoMemory}
use Rattle.dma_engine.specs.View.{View, RunningTransfer, channels}
use Rattle.dma_engine.specs.Answer.{CallAnswers, AreAnswers, answer, answers, busy, cause, reply_of, unless}
use Rattle.dma_engine.specs.Answer.{submit_fault, channel_fault}
use Rattle.dma_engine.specs.Laws.{AnswersOne, AnswersAppend, AnswersSplit, AnswerIsOne, AnswersAreAnswers, AnswerUnlessNoMemory, AnswersUnlessNoMemory}
use Rattle.dma_engine.specs.{declared.call.Reply.Reply, declared.fault.EngineFault.EngineFault}
use Rattle.dma_engine.specs.{Turn.Stepped, Turn.turn}
use Rattle.dma_engine.proofs.Turns.{answer_is, turn_cases}

-- ---- calls in a row

pub answers_one : AnswersOne
answers_one v w call reply h = (w, h, refl)

pub answers_append : AnswersAppend
answers_append u v w [] more [] others h g = subst (λ (x : View). AreAnswers x more others w) h g
answers_append u v w [] more (r ∷ rs) others h g = absurd h
answers_append u v w (c ∷ cs) more [] others h g = absurd h
answers_append u v w (c ∷ cs) more (r ∷ rs) others h g = (h.0, h.1, answers_append h.0 v w cs more rs others h.2 g)

pub answers_split : AnswersSplit
answers_split u w [] more replies h = (u, refl, h)
answers_split u w (c ∷ cs) more [] h = absurd h
answers_split u w (c ∷ cs) more (r ∷ rs) h =
    let rest = answers_split h.0 w cs more rs h.2 in
    (rest.0, (h.0, h.1, rest.1), rest.2)

pub answers_append_law : (v : View) (xs ys : List Call) → answers v (xs ++ ys) ≡ (let a = answers v xs in let b = answers a.1 ys in (a.0 ++ b.0, b.1))
answers_append_law v [] ys = refl
answers_append_law v (call ∷ xs) ys = ap (λ (a : List Reply × View). ((answer v call).0 ∷ a.0, a.1)) (answers_append_law (answer v call).1 xs ys)

-- ---- with enough memory no answer is out of memory

-- a reply other than out of memory
abbrev IsOther : Reply → Type 0
IsOther (Refused NoMemory) = ⊥
IsOther reply = Unit {0}

-- an answer other than that is one by its definition
by_answer_law : (v w : View) (call : Call) (reply : Reply) → IsOther reply → (reply, w) ≡ answer v call → CallAnswers v call reply w
by_answer_law v w call reply h h2 = grind (arith)

-- no cause of a refusal is `NoMemory`
abbrev IsCause : Option EngineFault → Type 0
IsCause None = Unit {0}
IsCause (Some fault) = IsOther (Refused fault)

one_cause : (b : Bool) (fault : EngineFault) (others : Option EngineFault) → IsOther (Refused fault) → IsCause others → IsCause (cause b fault others)
one_cause b fault others h g = cond_both b (Some fault) others IsCause (λ _. h) (λ _. g)

busy_cause : (x : Option RunningTransfer) → IsCause (busy x)
busy_cause x = grind (arith)

running_cause : (x : Option RunningTransfer) → IsCause (option_map (λ (r : RunningTransfer). Running r.ch r.cookie) x)
running_cause x = grind (arith)

channel_cause : (v : View) (ch : ℕ) → IsCause (channel_fault v ch)
channel_cause v ch = one_cause (nat_le (channels v) ch) NoChannel None tt tt

submit_cause : (v : View) (ch : ℕ) (t : Descriptor) → IsCause (submit_fault v ch t)
submit_cause v ch t = grind (arith, one_cause)

unless_other : (v : View) (f : Option EngineFault) (x : Reply × View) → IsCause f → IsOther x.0 → IsOther (unless f v x).0
unless_other v f x h h2 = grind (arith)

-- ---- nor is the answer of a step

abbrev IsOtherStep : Stepped → Type 0
IsOtherStep x = IsOther (reply_of Turned x.0)

turn_other : (v : View) (ch : ℕ) → IsOtherStep (turn v ch)
turn_other v ch = grind (arith, turn_cases)

answer_other : (v : View) (call : Call) → IsOther (answer v call).0
answer_other v call = grind (arith, unless_other, one_cause, busy_cause, submit_cause, channel_cause, turn_other, running_cause)

pub answer_is_one : AnswerIsOne
answer_is_one v call = by_answer_law v (answer v call).1 call (answer v call).0 (answer_other v call) refl

-- by the equation, whatever the reply
pub answers_so : (v w : View) (call : Call) (reply : Reply) → (reply, w) ≡ answer v call → CallAnswers v call reply w
answers_so v w call reply is = subst (λ (x : Reply × View). CallAnswers v call x.0 x.1) (sym is) (answer_is_one v call)

pub answers_are_answers : AnswersAreAnswers
answers_are_answers v [] = refl
answers_are_answers v (c ∷ cs) = ((answer v c).1, answer_is_one v c, answers_are_answers (answer v c).1 cs)

-- ---- answers of which none is out of memory

pub answer_unless_no_memory : AnswerUnlessNoMemory
answer_unless_no_memory v w call reply n h = elim (answer_is v w call reply h) [ inl none ↦ absurd (n none.0) | inr is ↦ is ]

pub answers_unless_no_memory : AnswersUnlessNoMemory
answers_unless_no_memory v w [] [] all h = ap (λ (x : View). ([], x)) h
answers_unless_no_memory v w [] (r ∷ rs) all h = absurd h
answers_unless_no_memory v w (c ∷ cs) [] all h = absurd h
answers_unless_no_memory v w (c ∷ cs) (r ∷ rs) all h =
    let P : Reply → Type 0 = λ x. x ≢ Refused NoMemory in
    let first : (r, h.0) ≡ answer v c = answer_unless_no_memory v h.0 c r (All-head P r rs all) h.1 in
    let rest : (rs, w) ≡ answers h.0 cs = answers_unless_no_memory h.0 w cs rs (All-tail P r rs all) h.2 in
    ap (λ (x : List Reply × View). (r ∷ x.0, x.1)) rest
    ∙ ap (λ (y : Reply × View). (y.0 ∷ (answers y.1 cs).0, (answers y.1 cs).1)) first

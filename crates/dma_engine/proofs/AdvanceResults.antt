-- Consecutive steps of a channel, taken apart: the result of each, and what they add.
use Rattle.std.proofs.Common.{◌≡◌, ℕ, zero, suc, ◌+◌, ◌*◌, ◌<◌, ◌≤◌, List, [], ◌∷◌, ◌++◌, Option, Some, None, length, map, sum_by, refl, ap, ◌∙◌, subst}
use Rattle.std.proofs.Common.{arith, append-nil, append_assoc}
use Rattle.std.specs.{Prelude.if◌then◌else◌, Prelude.is_some, Prelude.replicate, Prelude.Result, Prelude.Ok, Option.option_map_or}
use Rattle.std.proofs.{lemmas.List.length-append, lemmas.List.length-replicate, lemmas.List.Folds.sum_by-replicate, lemmas.List.Sums.sum_by-cons}
use Rattle.std.proofs.{lemmas.List.Sums.sum_by_push}
use Rattle.dma_mem.specs.declared.call.Call.TheVariants.{Step}
use Rattle.dma_engine.specs.Advance.{EndsWith, IsAdvance, after_steps, finishes_counted, steps_before, steps_counted, steps_taken, ticks_counted}
use Rattle.dma_engine.specs.Answer.{CallAnswers, StepAnswers, answer, answers, reply_of}
use Rattle.dma_engine.specs.{declared.call.Reply.TheVariants.Turned, declared.fault.EngineFault.EngineFault, declared.turn.Advanced.Advanced}
use Rattle.dma_engine.specs.{declared.turn.Turn.Turn, declared.turn.Turn.TheVariants.Started, declared.turn.Turn.TheVariants.Moved, Laws.Adds, Laws.ticks_in}
use Rattle.dma_engine.specs.{Ticks.Tick, Ticks.ticks_of, Turn.finishes_in, Turn.steps_in, View.View}
use Rattle.dma_engine.proofs.{AnswerCounts.steps_add, JoinedCalls.answer_is_one}

abbrev Results : Type 0
Results = List (Result Turn EngineFault)

-- the result of the step that started this cookie, if any
abbrev start_results : Option ℕ → Results
start_results None = []
start_results (Some cookie) = Ok (Started cookie) ∷ []

-- the results of the steps before the last
abbrev results_before : Option ℕ → ℕ → Results
results_before started moved = start_results started ++ replicate moved (Ok Moved)

-- the result of the last one, if any
abbrev last_results : Option (Result Turn EngineFault) → Results
last_results None = []
last_results (Some r) = r ∷ []

-- the result of each step
abbrev pub results_of : Advanced → List (Result Turn EngineFault)
results_of a = results_before a.started a.moved ++ last_results a.last

-- Steps of a channel in order have these results.
abbrev pub AreSteps : View → ℕ → List (Result Turn EngineFault) → View → Type 0
AreSteps v ch [] w = w ≡ v
AreSteps v ch (r ∷ rs) w = (next : View) × StepAnswers v ch r next × AreSteps next ch rs w

-- ---- the results of consecutive steps

map_replicate : {A B : Type 0} (f : A → B) (n : ℕ) (x : A) → map f (replicate n x) ≡ replicate n (f x)
map_replicate f zero x = refl
map_replicate f (suc n) x = ap (λ l. f x ∷ l) (map_replicate f n x)

-- steps with these replies
replied_steps : (rs : List (Result Turn EngineFault)) (v : View) (ch : ℕ) → (answers v (replicate (length rs) (Step ch))).0 ≡ map (reply_of Turned) rs
    → AreSteps v ch rs (after_steps v ch (length rs))
replied_steps [] v ch is = refl
replied_steps (r ∷ rs) v ch is =
    let next = (answer v (Step ch)).1 in
    let first : (answer v (Step ch)).0 ≡ reply_of Turned r = cc is in
    let rest : (answers next (replicate (length rs) (Step ch))).0 ≡ map (reply_of Turned) rs = cc is in
    (next, subst (λ x. CallAnswers v (Step ch) x next) first (answer_is_one v (Step ch)), replied_steps rs next ch rest)

one_step_more : (rs : List (Result Turn EngineFault)) (v u w : View) (ch : ℕ) (r : Result Turn EngineFault) → AreSteps v ch rs u → StepAnswers u ch r w
    → AreSteps v ch (rs ++ r ∷ []) w
one_step_more [] v u w ch r same h = (w, subst (λ x. StepAnswers x ch r w) same h, refl)
one_step_more (x ∷ rs) v u w ch r (next, first, rest) h = (next, first, one_step_more rs next u w ch r rest h)

before_length : (o : Option ℕ) (m : ℕ) → length (results_before o m) ≡ (if is_some o then 1 else 0) + m
before_length o m = grind (arith, length-replicate)

before_replies : (o : Option ℕ) (m : ℕ)
    → map (reply_of Turned) (results_before o m) ≡ option_map_or (λ cookie. Turned (Started cookie) ∷ []) o [] ++ replicate m (Turned Moved)
before_replies o m = grind (arith, map_replicate)

last_step : (o : Option (Result Turn EngineFault)) (rs : List (Result Turn EngineFault)) (v u w : View) (ch n most : ℕ) → AreSteps v ch rs u
    → EndsWith u ch n most o w → AreSteps v ch (rs ++ last_results o) w
last_step o rs v u w ch n most h h2 = grind (arith, append-nil, one_step_more)

pub advance_steps : (v w : View) (ch most : ℕ) (a : Advanced) → IsAdvance v ch most a w → AreSteps v ch (results_of a) w
advance_steps v w ch most a h =
    let rs = results_before a.started a.moved in
    let n = before_length a.started a.moved in
    let replies : (answers v (replicate (length rs) (Step ch))).0 ≡ map (reply_of Turned) rs = grind (arith, before_replies) in
    let steps = replied_steps rs v ch replies in
    last_step a.last rs v (after_steps v ch (steps_before a)) w ch (steps_before a) most (subst (λ k. AreSteps v ch rs (after_steps v ch k)) n steps) h.last

-- ---- how many there are, and what they count

pub results_length : (a : Advanced) → length (results_of a) ≡ steps_taken a
results_length a = grind (arith, length-append, before_length)

-- a count of results that is one for a move and none for a start
sums : (f : Result Turn EngineFault → ℕ) (m : ℕ) (o : Option ℕ) → ((cookie : ℕ) → f (Ok (Started cookie)) ≡ 0)
    → sum_by f (results_before o m) ≡ m * f (Ok Moved)
sums f m o h = grind (arith, sum_by-replicate, sum_by-cons)

with_last : (f : Result Turn EngineFault → ℕ) (rs : List (Result Turn EngineFault)) (o : Option (Result Turn EngineFault))
    → sum_by f (rs ++ last_results o) ≡ sum_by f rs + option_map_or f o 0
with_last f rs o = grind (arith, sum_by, append-nil, sum_by_push)

pub results_steps : (a : Advanced) → sum_by steps_in (results_of a) ≡ steps_counted a
results_steps a = omega (arith, with_last steps_in (results_before a.started a.moved) a.last, sums steps_in a.moved a.started (λ _. refl))

pub results_finishes : (a : Advanced) → sum_by finishes_in (results_of a) ≡ finishes_counted a
results_finishes a = omega (arith, with_last finishes_in (results_before a.started a.moved) a.last, sums finishes_in a.moved a.started (λ _. refl))

-- ---- what they add

ticks_in_all : ℕ → List (Result Turn EngineFault) → List Tick
ticks_in_all ch [] = []
ticks_in_all ch (r ∷ rs) = ticks_in ch r ++ ticks_in_all ch rs

steps_add_all : (rs : List (Result Turn EngineFault)) (v w : View) (ch : ℕ) → AreSteps v ch rs w
    → Adds v w (ticks_in_all ch rs) (sum_by steps_in rs) (sum_by finishes_in rs)
unfolding ticks_in_all
steps_add_all [] v w ch same = grind (arith, append-nil)
steps_add_all (r ∷ rs) v w ch (next, first, rest) =
    let a = steps_add v next ch r first in
    let b = steps_add_all rs next w ch rest in
    record {
      ticks = b.ticks ∙ ap (λ l. l ++ ticks_in_all ch rs) a.ticks ∙ append_assoc (ticks_of v.history) (ticks_in ch r) (ticks_in_all ch rs);
      steps = omega (arith, a.steps, b.steps, sum_by-cons steps_in r rs);
      finished = omega (arith, a.finished, b.finished, sum_by-cons finishes_in r rs);
    }

moves_tick_nothing : (m : ℕ) (ch : ℕ) (l : List (Result Turn EngineFault)) → ticks_in_all ch (replicate m (Ok Moved) ++ l) ≡ ticks_in_all ch l
unfolding ticks_in_all
moves_tick_nothing zero ch l = refl
moves_tick_nothing (suc m) ch l = moves_tick_nothing m ch l

last_ticks : (o : Option (Result Turn EngineFault)) (ch : ℕ) → ticks_in_all ch (last_results o) ≡ option_map_or (ticks_in ch) o []
unfolding ticks_in_all
last_ticks o ch = grind (arith, append-nil)

results_ticks : (a : Advanced) (ch : ℕ) → ticks_in_all ch (results_of a) ≡ ticks_counted ch a
unfolding ticks_in_all
results_ticks a ch = grind (arith, moves_tick_nothing, last_ticks)

-- Consecutive steps add the tick of the last one, their moves and their finish.
pub advance_adds : (v w : View) (ch most : ℕ) (a : Advanced) → IsAdvance v ch most a w → Adds v w (ticks_counted ch a) (steps_counted a) (finishes_counted a)
advance_adds v w ch most a h = grind (arith, steps_add_all, advance_steps, results_ticks, results_steps, results_finishes)

-- at most `most` steps, and at least one if that is above 0
pub advance_count : (v w : View) (ch most : ℕ) (a : Advanced) → IsAdvance v ch most a w → (steps_taken a ≤ most) × (0 < most → 0 < steps_taken a)
advance_count v w ch most a h = grind arith

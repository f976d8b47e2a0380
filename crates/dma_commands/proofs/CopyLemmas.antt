-- The steps of a copy.
use Rattle.std.proofs.Common.{◌≡◌, ◌≢◌, ◌⊎◌, ℕ, ◌<◌, ◌≤◌, zero, suc, Bool, true, false, Option, Some, None, refl, sym, subst, arith}
use Rattle.std.specs.{Prelude.replicate, Prelude.Result, List.All}
use Rattle.std.proofs.lemmas.List.Elements.{All-append, All-cons, All-head, All-nil, All-replicate, All-tail}
use Rattle.dma_mem.proofs.Steps.{taken_is, taken_on, taken_stops}
use Rattle.dma_mem.specs.declared.call.Call.TheVariants.{Step}
use Rattle.dma_engine.specs.Advance.{IsAdvance, after_steps, goes_on, replies_before, start_replies, steps_before}
use Rattle.dma_engine.specs.Answer.{answer, answers, reply_of}
use Rattle.dma_engine.specs.{declared.call.Reply.Reply, declared.call.Reply.TheVariants.Turned, declared.call.Reply.TheVariants.Refused}
use Rattle.dma_engine.specs.{declared.fault.EngineFault.EngineFault, declared.fault.EngineFault.TheVariants.NoMemory, declared.turn.Advanced.Advanced}
use Rattle.dma_engine.specs.{declared.turn.Turn.Turn, declared.turn.Turn.TheVariants.Moved, View.View}
use Rattle.dma_engine.proofs.JoinedCalls.{answer_unless_no_memory}
use Rattle.dma_commands.specs.Run.{stepped_to_end, steps_before_last}

-- whether another step follows step k of channel 0
abbrev pub on_after : View → ℕ → Bool
on_after v k = goes_on (answer (after_steps v 0 k) (Step 0)).0

pub before_last_on : (most : ℕ) (v : View) (k : ℕ) → k < steps_before_last most v → on_after v k ≡ true
unfolding steps_before_last
before_last_on most v k less = taken_on (on_after v) most k less

pub before_last_stops : (most : ℕ) (v : View) → (steps_before_last most v ≡ most) ⊎ (goes_on (stepped_to_end most v).0 ≡ false)
unfolding steps_before_last
before_last_stops most v = taken_stops (on_after v) most

-- ---- an advance

abbrev GoesOn : Reply → Type 0
GoesOn reply = goes_on reply ≡ true

start_on_law : (o : Option ℕ) → All GoesOn (start_replies o)
start_on_law o = grind (arith, All-nil, All-cons)

all_on : (a : Advanced) → All GoesOn (replies_before a)
all_on a = All-append GoesOn (start_replies a.started) (replicate a.moved (Turned Moved)) (start_on_law a.started)
    (All-replicate GoesOn a.moved (Turned Moved) refl)

each_on_law : (n k : ℕ) (v : View) → All GoesOn (answers v (replicate n (Step 0))).0 → k < n → on_after v k ≡ true
each_on_law zero k v all less = absurd (omega (arith, less))
each_on_law (suc n) zero v all less = grind (arith, All-head)
each_on_law (suc n) (suc k) v all less =
    let first = answer v (Step 0) in
    each_on_law n k first.1 (All-tail GoesOn first.0 (answers first.1 (replicate n (Step 0))).0 all) (omega (arith, less))

-- the steps of an advance before its last are those before the last of the copy
before_last : (v w : View) (most : ℕ) (a : Advanced) → IsAdvance v 0 most a w → steps_before a ≤ most → (steps_before a ≡ most)
    ⊎ (on_after v (steps_before a) ≡ false) → steps_before_last most v ≡ steps_before a
unfolding steps_before_last
before_last v w most a h few stops =
    taken_is (on_after v) most (steps_before a) few
    (λ k less. each_on_law (steps_before a) k v (subst (All GoesOn) (sym h.before) (all_on a)) less) stops

-- the step after an advance without a last step
pub advanced_all : (v w u : View) (most : ℕ) (a : Advanced) (reply : Reply) → IsAdvance v 0 most a w → a.last ≡ None → (reply, u) ≡ answer w (Step 0)
    → (reply, u) ≡ stepped_to_end most v
advanced_all v w u most a reply h none is = grind (arith, before_last)

-- the last step of an advance
pub advanced_end : (v w : View) (most : ℕ) (a : Advanced) (last : Result Turn EngineFault) (reply : Reply) → IsAdvance v 0 most a w → a.last ≡ Some last
    → (reply ≡ reply_of Turned last) × (reply ≢ Refused NoMemory) → (reply, w) ≡ stepped_to_end most v
advanced_end v w most a last reply h some is = grind (arith, answer_unless_no_memory, before_last)

-- Calls one after another, as `run` makes them.
use Rattle.std.proofs.Common.{◌≡◌, ◌≢◌, ◌⊎◌, ℕ, ◌+◌, ◌-◌, ◌≤◌, suc, zero, List, [], ◌∷◌, ◌++◌, length, take, drop, Some, None, refl, ap, sym, ◌∙◌, subst, inl, inr}
use Rattle.std.proofs.Common.{append-nil, append_assoc, arith}
use Rattle.std.specs.Prelude.{replicate, Result}
use Rattle.std.proofs.lemmas.List.{length-append, length-drop, replicate-append-replicate, take-append-drop, take-replicate}
use Rattle.std.proofs.{Math.Seq.take-length, lemmas.List.Elements.All-replicate}
use Rattle.dma_mem.specs.declared.call.Call.{Call}
use Rattle.dma_mem.specs.declared.call.Call.TheVariants.{Step}
use Rattle.dma_engine.specs.Answer.{AreAnswers, CallAnswers, StepAnswers, answers, reply_of}
use Rattle.dma_engine.specs.Advance.{EndsWith, IsAdvance, after_steps, replies_before, steps_before}
use Rattle.dma_engine.specs.{declared.call.Reply.Reply, declared.call.Reply.TheVariants.Refused, declared.call.Reply.TheVariants.Turned, Room.IsIdle}
use Rattle.dma_engine.specs.{declared.fault.EngineFault.EngineFault, declared.fault.EngineFault.TheVariants.NoMemory, declared.turn.Advanced.Advanced}
use Rattle.dma_engine.specs.{declared.turn.Turn.Turn, Laws.AreSoundAnswers, Laws.IsCall, View.IsSound, View.View, inner.Runs.AddsAnswers}
use Rattle.dma_engine.proofs.JoinedCalls.{answer_unless_no_memory, answers_append, answers_are_answers}
use Rattle.dma_engine.proofs.{IdleSteps.idle_steps_stay, StaysSound.calls_stay_sound}

-- ---- calls in a row

answers_length : (v w : View) (cs : List Call) (rs : List Reply) → AreAnswers v cs rs w → length rs ≡ length cs
answers_length v w [] [] h = refl
answers_length v w [] (r ∷ rs) h = absurd h
answers_length v w (c ∷ cs) [] h = absurd h
answers_length v w (c ∷ cs) (r ∷ rs) h = ap suc (answers_length h.0 w cs rs h.2)

sound_append : (u v w : View) (cs more : List Call) (rs others : List Reply) → AreSoundAnswers u cs rs v → AreSoundAnswers v more others w
    → AreSoundAnswers u (cs ++ more) (rs ++ others) w
sound_append u v w [] more [] others h g = subst (λ (x : View). AreSoundAnswers x more others w) h.1 g
sound_append u v w [] more (r ∷ rs) others h g = absurd h
sound_append u v w (c ∷ cs) more [] others h g = absurd h
sound_append u v w (c ∷ cs) more (r ∷ rs) others h g = (h.0, (h.1.0, h.1.1, sound_append h.1.0 v w cs more rs others h.1.2 g))

-- Of these calls, those before `left` were answered.
pub record RanCalls (v : View) (all left : List Call) (replies : List Reply) (w : View) : Type 0 where
  pub done : List Call
  pub split : all ≡ done ++ left
  pub answers : AreAnswers v done replies w
  pub sound : AreSoundAnswers v done replies w

pub ran_none : (v : View) (all : List Call) → IsSound v → RanCalls v all all [] v
ran_none v all sound = record { done = []; split = refl; answers = refl; sound = (sound, refl) }

-- the calls behind the first ones, as a slice
pub behind_is : (n : ℕ) (xs : List Call) → take (length xs - n) (drop n xs) ≡ drop n xs
behind_is n xs = ap (λ k. take k (drop n xs)) (sym (length-drop n xs)) ∙ take-length (drop n xs)

pub ran_more : (v u w : View) (all left : List Call) (n : ℕ) (before after : List Reply) → RanCalls v all left before u
    → AddsAnswers u (take n left) w before after → RanCalls v all (take (length left - n) (drop n left)) after w
ran_more v u w all left n before after ran adds = record {
  done = ran.done ++ take n left;
  split = ran.split ∙ ap (λ l. ran.done ++ l) (sym (take-append-drop n left)) ∙ sym (append_assoc ran.done (take n left) (drop n left))
      ∙ ap (λ l. (ran.done ++ take n left) ++ l) (sym (behind_is n left));
  answers = subst (λ rs. AreAnswers v (ran.done ++ take n left) rs w) (sym adds.added)
      (answers_append v u w ran.done (take n left) before adds.replies ran.answers adds.answers);
  sound = subst (λ rs. AreSoundAnswers v (ran.done ++ take n left) rs w) (sym adds.added)
      (sound_append v u w ran.done (take n left) before adds.replies ran.sound adds.sound);
}

pub ran_length : (v w : View) (all left : List Call) (replies : List Reply) → RanCalls v all left replies w → length replies + length left ≡ length all
ran_length v w all left replies ran =
    omega (arith, answers_length v w ran.done replies ran.answers, ap length ran.split, length-append ran.done left)

nothing_left : (left : List Call) → length left ≡ 0 → left ≡ []
nothing_left [] none = refl
nothing_left (c ∷ cs) none = absurd (omega (arith, none))

-- all were answered
pub ran_all : (v w : View) (all left : List Call) (replies : List Reply) → RanCalls v all left replies w → length left ≡ 0
    → AreAnswers v all replies w × AreSoundAnswers v all replies w
ran_all v w all left replies ran none =
    let is : ran.done ≡ all = sym (append-nil ran.done) ∙ ap (λ l. ran.done ++ l) (sym (nothing_left left none)) ∙ sym ran.split in
    (subst (λ cs. AreAnswers v cs replies w) is ran.answers, subst (λ cs. AreSoundAnswers v cs replies w) is ran.sound)

-- one call
pub adds_one : (v w : View) (call : Call) (reply : Reply) (before after : List Reply) → IsSound v → IsSound w → CallAnswers v call reply w
    → after ≡ before ++ reply ∷ [] → AddsAnswers v (call ∷ []) w before after
adds_one v w call reply before after first last is added = record {
  replies = reply ∷ [];
  added = added;
  answers = (w, is, refl);
  sound = (first, (w, is, (last, refl)));
}

-- ---- steps of one channel

-- steps before the last
steps_answered : (v w : View) (ch most : ℕ) (a : Advanced) → IsAdvance v ch most a w
    → AreAnswers v (replicate (steps_before a) (Step ch)) (replies_before a) (after_steps v ch (steps_before a))
steps_answered v w ch most a h =
    let cs = replicate (steps_before a) (Step ch) in
    subst (λ rs. AreAnswers v cs rs (answers v cs).1) h.before (answers_are_answers v cs)

-- a step that changes nothing, again and again
again : (v : View) (call : Call) (reply : Reply) (n : ℕ) → CallAnswers v call reply v → AreAnswers v (replicate n call) (replicate n reply) v
again v call reply zero is = refl
again v call reply (suc n) is = (v, is, again v call reply n is)

-- the last step, repeated if it is idle
last_answered : (u w : View) (ch many : ℕ) (last : Result Turn EngineFault) → StepAnswers u ch last w
    → (many ≡ 1) ⊎ (IsIdle last × (reply_of Turned last ≢ Refused NoMemory))
    → AreAnswers u (replicate many (Step ch)) (replicate many (reply_of Turned last)) w
last_answered u w ch many last is (inl one) =
    subst (λ (n : ℕ). AreAnswers u (replicate n (Step ch)) (replicate n (reply_of Turned last)) w) (sym one) (w, is, refl)
last_answered u w ch many last is (inr idle) =
    let stays : w ≡ u = idle_steps_stay u w ch last idle.0 (answer_unless_no_memory u w (Step ch) (reply_of Turned last) idle.1 is) in
    subst (λ (x : View). AreAnswers u (replicate many (Step ch)) (replicate many (reply_of Turned last)) x) (sym stays)
    (again u (Step ch) (reply_of Turned last) many (subst (λ (x : View). CallAnswers u (Step ch) (reply_of Turned last) x) stays is))

steps_call : (ch n : ℕ) (v w : View) (before after rs : List Reply) → IsSound v → AreAnswers v (replicate n (Step ch)) rs w → after ≡ before ++ rs
    → AddsAnswers v (replicate n (Step ch)) w before after
steps_call ch n v w before after rs sound are added = record {
  replies = rs;
  added = added;
  answers = are;
  sound = (calls_stay_sound v w (replicate n (Step ch)) rs (All-replicate IsCall n (Step ch) tt) sound are).1;
}

-- All steps of an advance without a last one.
pub adds_all : (v w : View) (ch most : ℕ) (a : Advanced) (before after : List Reply) → IsSound v → IsAdvance v ch most a w → a.last ≡ None
    → after ≡ before ++ replies_before a → AddsAnswers v (replicate (steps_before a) (Step ch)) w before after
adds_all v w ch most a before after sound h none added =
    let end = subst (λ o. EndsWith (after_steps v ch (steps_before a)) ch (steps_before a) most o w) none h.last in
    steps_call ch (steps_before a) v w before after (replies_before a) sound
    (subst (λ (x : View). AreAnswers v (replicate (steps_before a) (Step ch)) (replies_before a) x) (sym end.1) (steps_answered v w ch most a h)) added

-- All steps of an advance, and the last one repeated.
pub adds_last : (v w : View) (ch most : ℕ) (a : Advanced) (last : Result Turn EngineFault) (many : ℕ) (before after : List Reply) → IsSound v
    → IsAdvance v ch most a w → a.last ≡ Some last → (many ≡ 1) ⊎ (IsIdle last × (reply_of Turned last ≢ Refused NoMemory))
    → after ≡ before ++ (replies_before a ++ replicate many (reply_of Turned last))
    → AddsAnswers v (replicate (steps_before a + many) (Step ch)) w before after
adds_last v w ch most a last many before after sound h some times added =
    let n = steps_before a in
    let u = after_steps v ch n in
    let end = subst (λ o. EndsWith u ch n most o w) some h.last in
    let both = answers_append v u w (replicate n (Step ch)) (replicate many (Step ch)) (replies_before a) (replicate many (reply_of Turned last))
    (steps_answered v w ch most a h) (last_answered u w ch many last end.2 times) in
    steps_call ch (n + many) v w before after (replies_before a ++ replicate many (reply_of Turned last)) sound
    (subst (λ (cs : List Call). AreAnswers v cs (replies_before a ++ replicate many (reply_of Turned last)) w)
    (replicate-append-replicate n many (Step ch)) both) added

take_of_take : (n m : ℕ) (cs : List Call) → n ≤ m → take n (take m cs) ≡ take n cs
take_of_take zero m cs few = refl
take_of_take (suc n) zero cs few = absurd (omega (arith, few))
take_of_take (suc n) (suc m) [] few = refl
take_of_take (suc n) (suc m) (c ∷ cs) few = ap (λ l. c ∷ l) (take_of_take n m cs (omega (arith, few)))

-- the steps of a row that were taken
pub row_taken : (n most ch : ℕ) (cs : List Call) → n ≤ most → take most cs ≡ replicate most (Step ch) → take n cs ≡ replicate n (Step ch)
row_taken n most ch cs few row = sym (take_of_take n most cs few) ∙ ap (take n) row ∙ take-replicate n most (Step ch) few

-- What each answer adds to the ticks, to the step count and to the number of finished cookies.
use Rattle.std.proofs.Common.{◌≡◌, ℕ, ◌+◌, ◌<◌, List, [], ◌∷◌, ◌++◌, length, map, Option, true, false, refl, ap, sym, ◌∙◌, subst, arith, append-nil}
use Rattle.std.proofs.Common.{inl, inr}
use Rattle.std.specs.Prelude.{slice_set, Result, Ok, sum}
use Rattle.std.proofs.lemmas.List.{map-set, set-get_or, length_push}
use Rattle.std.proofs.{lemmas.List.Sums.sum_by-set, lemmas.List.Sums.sum-map, Math.ListN.get_or-map}
use Rattle.dma_mem.specs.{Places.Descriptor, declared.call.Call.Call}
use Rattle.dma_engine.specs.Object.{Object, ChannelState, after, channel, empty_channel, with_channel, finished}
use Rattle.dma_engine.specs.Object.{finished_all}
use Rattle.dma_engine.specs.Turn.{Stepped, turn, steps_in, finishes_in, next_moved, finishes, with_entry}
use Rattle.dma_engine.specs.Answer.{CallAnswers, answer, unless, write_fault, read_fault, channel_fault, mark_fault, raise_fault, with_pause}
use Rattle.dma_engine.specs.Laws.{Adds, SameCounts, IsQuiet, QuietCallsKeepCounts, StepsAdd, EndsByTurn, ticks_in}
use Rattle.dma_engine.specs.{declared.call.Reply.Reply, declared.call.Reply.TheVariants.Done, declared.entry.Entry.Entry}
use Rattle.dma_engine.specs.{declared.entry.Signaller.TheVariants.Channel, declared.entry.Signaller.TheVariants.Host, declared.fault.EngineFault.EngineFault}
use Rattle.dma_engine.specs.{declared.outcome.TransResult.TransResult, declared.turn.Turn.Turn, Ticks.Submitted, Ticks.Finished, Ticks.ticks_of, View.View}
use Rattle.dma_engine.specs.{View.object_of, View.channels}
use Rattle.dma_engine.proofs.{Histories.object_after_append, Turns.answer_is, Turns.step_is_law, Turns.turn_cases}
use Rattle.dma_mem.specs.declared.call.Call.TheVariants.{Write, Read, Issue, Pause, Resume, Status, Result as ResultOf, Mark, Unmark, Raise}
use Rattle.dma_engine.specs.declared.entry.Entry.TheVariants.{Wrote, ReadBack, Issued, Passed, Signalled, Terminated, Marked, Unmarked}
use Rattle.dma_engine.specs.declared.entry.Entry.TheVariants.{Submitted as SubmittedEntry, Finished as FinishedEntry}
use Rattle.dma_engine.specs.declared.turn.Turn.TheVariants.{Moved, Finished as FinishedTurn}

-- ---- lists of ticks

pub ticks_append : (xs ys : List Entry) → ticks_of (xs ++ ys) ≡ ticks_of xs ++ ticks_of ys
ticks_append [] ys = refl
ticks_append (SubmittedEntry ch t cookie ∷ xs) ys = ap (λ l. Submitted ch ∷ l) (ticks_append xs ys)
ticks_append (FinishedEntry ch result done ∷ xs) ys = ap (λ l. Finished ch 1 ∷ l) (ticks_append xs ys)
ticks_append (Terminated ch done count ∷ xs) ys = ap (λ l. Finished ch count ∷ l) (ticks_append xs ys)
ticks_append (e ∷ xs) ys = ticks_append xs ys

-- ---- the number of finished cookies

pub finished_with : (o : Object) (ch : ℕ) (c : ChannelState) → ch < length o.channels
    → finished_all (with_channel o ch c) + finished (channel o ch) ≡ finished_all o + finished c
finished_with o ch c less = sum_by-set finished o.channels ch c empty_channel less

pub finished_same : (o : Object) (ch : ℕ) (c : ChannelState) → finished c ≡ finished (channel o ch) → finished_all (with_channel o ch c) ≡ finished_all o
finished_same o ch c e =
    sym (sum-map finished (slice_set o.channels ch c))
    ∙ ap sum (map-set finished o.channels ch c ∙ ap (slice_set (map finished o.channels) ch) (e ∙ sym (get_or-map finished o.channels ch empty_channel))
    ∙ set-get_or (map finished o.channels) ch 0)
    ∙ sum-map finished o.channels

-- ---- what an answer keeps

same : (v : View) → SameCounts v v
same v = record { ticks = refl; steps = refl; finished = refl }

-- an entry that gives no cookie and finishes none
abbrev IsQuietEntry : Entry → Type 0
IsQuietEntry (SubmittedEntry ch t cookie) = ⊥
IsQuietEntry (FinishedEntry ch result done) = ⊥
IsQuietEntry (Terminated ch done count) = ⊥
IsQuietEntry _ = Unit {0}

quiet_ticks : (e : Entry) → IsQuietEntry e → ticks_of (e ∷ []) ≡ []
quiet_ticks e h = grind (arith)

quiet_after : (o : Object) (e : Entry) → IsQuietEntry e → finished_all (after o e) ≡ finished_all o
quiet_after o e h = grind (arith, finished_same)

pub object_one : (v : View) (e : Entry) → object_of (with_entry v e) ≡ after (object_of v) e
object_one v e = object_after_append v.base v.history (e ∷ [])

entry_still : (v : View) (e : Entry) → IsQuietEntry e → SameCounts v (with_entry v e)
entry_still v e q = grind (arith, ticks_append, quiet_ticks, append-nil, object_one, quiet_after)

unless_still : (v : View) (f : Option EngineFault) (x : Reply × View) → SameCounts v x.1 → SameCounts v (unless f v x).1
unless_still v f x h = grind (arith)

-- ---- a fact of an answer, from the answer with enough memory

by_answer_law : (v w : View) (call : Call) (reply : Reply) (P : View → Type 0) → P (answer v call).1 → (reply, w) ≡ answer v call → P w
by_answer_law v w call reply P h is = subst P (sym (ap (λ (x : Reply × View). x.1) is)) h

pub answered : (v w : View) (call : Call) (reply : Reply) (P : View → Type 0) → P v → P (answer v call).1 → CallAnswers v call reply w → P w
answered v w call reply P o h a = grind (arith, answer_is, by_answer_law)

-- ---- the calls that give no cookie and finish none

call_still : (v : View) (call : Call) → IsQuiet call → SameCounts v (answer v call).1
call_still v (Write addr bytes) q = unless_still v (write_fault v addr (length bytes)) _ (entry_still v (Wrote addr bytes) tt)
call_still v (Read addr len) q = unless_still v (read_fault v addr len) _ (entry_still v (ReadBack addr _) tt)
call_still v (Issue ch) q = unless_still v (channel_fault v ch) _ (entry_still v (Issued ch) tt)
call_still v (Pause ch) q = unless_still v (channel_fault v ch) (Done, with_pause v ch true) (record { ticks = refl; steps = refl; finished = refl })
call_still v (Resume ch) q = unless_still v (channel_fault v ch) (Done, with_pause v ch false) (record { ticks = refl; steps = refl; finished = refl })
call_still v (Status ch cookie) q = same v
call_still v (ResultOf ch cookie) q = same v
call_still v (Mark kind segment) q = unless_still v (mark_fault segment) _ (entry_still v (Marked kind segment) tt)
call_still v Unmark q = entry_still v Unmarked tt
call_still v (Raise event) q = unless_still v (raise_fault event) _ (entry_still v (Signalled Host event) tt)
call_still v call q = absurd q

pub quiet_calls_keep_counts : QuietCallsKeepCounts
quiet_calls_keep_counts v w call reply q h = answered v w call reply (SameCounts v) (same v) (call_still v call q) h

-- ---- a step

-- what a step's answer adds: a finish is one more tick, one more step and one more finished cookie; a move is one more
-- step
abbrev Deed : View → ℕ → Stepped → Type 0
Deed v ch (Ok (FinishedTurn cookie result residue), w) =
    (ticks_of w.history ≡ ticks_of v.history ++ Finished ch 1 ∷ []) × (w.steps ≡ v.steps + 1)
    × (finished_all (object_of w) ≡ finished_all (object_of v) + 1) × (length w.history ≡ length v.history + 1)
Deed v ch (Ok Moved, w) =
    (ticks_of w.history ≡ ticks_of v.history) × (w.steps ≡ v.steps + 1) × (finished_all (object_of w) ≡ finished_all (object_of v))
Deed v ch (_, w) = SameCounts v w

entry_moves : (v : View) (ch n : ℕ) (e : Entry) → IsQuietEntry e → Deed v ch (next_moved (with_entry v e) ch n)
entry_moves v ch n e q = let s = entry_still v e q in (s.ticks, refl, s.finished)

finish_deed : (v : View) (ch n : ℕ) (t : Descriptor) (how : TransResult) → ch < channels v → Deed v ch (finishes v ch t n how)
finish_deed v ch n t how less = grind (arith, finished_with, length_push, ticks_append, object_one)

turn_deed : (v : View) (ch : ℕ) → Deed v ch (turn v ch)
turn_deed v ch = turn_cases v ch (Deed v ch) (record {
  idle = (same v, same v, same v, same v, same v, λ _. same v, λ _. same v);
  starts = λ _ _. record { ticks = refl; steps = refl; finished = refl };
  moves = λ _ _. (refl, refl, refl);
  passes = λ _ n event. entry_moves v ch n (Passed ch event) tt;
  signals = λ _ n event. entry_moves v ch n (Signalled (Channel ch) event) tt;
  ends = λ there n t how. finish_deed v ch n t how there;
})

-- ---- what a step adds

still_adds : (v w : View) → SameCounts v w → Adds v w [] 0 0
still_adds v w s = grind (arith, append-nil)

deed_adds : (v w : View) (ch : ℕ) (r : Result Turn EngineFault) → Deed v ch (r, w) → Adds v w (ticks_in ch r) (steps_in r) (finishes_in r)
deed_adds v w ch r h = grind (arith, append-nil, still_adds)

pub steps_add : StepsAdd
steps_add v w ch r h = elim (step_is_law v w ch r h) [
  | inl none ↦
      subst (λ x. Adds v w (ticks_in ch x) (steps_in x) (finishes_in x)) (sym none.0) (subst (λ u. Adds v u [] 0 0) (sym none.1) (still_adds v v (same v)))
  | inr is ↦ deed_adds v w ch r (subst (λ (s : Stepped). Deed v ch s) is (turn_deed v ch))
]

pub ends_as_reported : EndsByTurn
ends_as_reported v w ch r h = grind (arith, step_is_law)

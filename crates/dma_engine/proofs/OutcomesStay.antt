-- A known outcome never changes, and after calls it is known or forgotten.
use Rattle.std.proofs.Common.{◌≡◌, ℕ, List, [], ◌∷◌, Some, Bool, true, false, refl, ap, ◌∙◌, inl, ◌≤◌, sym, subst, arith}
use Rattle.std.specs.Prelude.{slice_get}
use Rattle.std.proofs.{lemmas.Bool.cases_eq, lemmas.Bool.cases_Bool, lemmas.List.get_or-set_other, lemmas.Option.slice_get_within}
use Rattle.dma_engine.specs.Object.{Object, ChannelState, after, channel, with_channel, finished}
use Rattle.dma_engine.specs.Answer.{Extends, KeepsOutcomes, AreAnswers, CallAnswers, Remembers, checkpoint_fault, checkpointed, is_checkpoint}
use Rattle.dma_engine.specs.{declared.entry.Entry.Entry, declared.outcome.Outcome.Outcome, History.object_after}
use Rattle.dma_engine.specs.{View.View, View.object_of, declared.call.Reply.Reply, declared.call.Reply.TheVariants.Done, View.state_at}
use Rattle.dma_engine.proofs.{Boards.with_channel_at, Histories.object_after_append, Queues.slice_get_longer, CallLists.answers_extend, Checkpoint.accepted}
use Rattle.dma_engine.proofs.{Checkpoint.forgotten_at}
use Rattle.dma_mem.specs.{declared.call.Call.Call, declared.call.Call.TheVariants.Checkpoint}

-- each outcome of the first channel is one of the second, at its place
record Keeps (c d : ChannelState) : Type 0 where
  forgotten : d.forgotten ≡ c.forgotten
  outcomes : (k : ℕ) (x : Outcome) → slice_get c.outcomes k ≡ Some x → slice_get d.outcomes k ≡ Some x

keeps_all_law : (c : ChannelState) → Keeps c c
keeps_all_law c = record { forgotten = refl; outcomes = λ k x g. g }

keeps_with : (o : Object) (ch : ℕ) (c : ChannelState) → Keeps (channel o ch) c → (d : ℕ) → Keeps (channel o d) (channel (with_channel o ch c) d)
keeps_with o ch c h d = grind (arith, cases_eq, with_channel_at, keeps_all_law, get_or-set_other)

keeps_after : (o : Object) (e : Entry) (d : ℕ) → Keeps (channel o d) (channel (after o e) d)
keeps_after o e d = grind (arith, keeps_with, slice_get_longer, keeps_all_law)

keeps_object : (o : Object) (es : List Entry) (d : ℕ) → Keeps (channel o d) (channel (object_after o es) d)
keeps_object o [] d = keeps_all_law (channel o d)
keeps_object o (e ∷ es) d =
    let first = keeps_after o e d in
    let rest = keeps_object (after o e) es d in
    record { forgotten = rest.forgotten ∙ first.forgotten; outcomes = λ k x g. rest.outcomes k x (first.outcomes k x g) }

-- what is forgotten stays so
pub forgotten_stays : (o : Object) (es : List Entry) (ch : ℕ) → (channel (object_after o es) ch).forgotten ≡ (channel o ch).forgotten
forgotten_stays o es ch = (keeps_object o es ch).forgotten

pub kept : (old new : View) → Extends old new → KeepsOutcomes old new
kept old new h = grind (arith, object_after_append, keeps_object)

pub extends_forgotten : (old new : View) → Extends old new → (ch : ℕ) → (state_at new ch).forgotten ≡ (state_at old ch).forgotten
extends_forgotten old new h ch = grind (arith, object_after_append, forgotten_stays)

-- ---- after calls, checkpoints included

-- After a call, each outcome is remembered or forgotten, and what was forgotten stays forgotten.
record RemembersOn (v w : View) : Type 0 where
  remembers : Remembers v w
  rises : (ch : ℕ) → (state_at v ch).forgotten ≤ (state_at w ch).forgotten

-- an accepted checkpoint forgets the finished cookies
forgotten_next : (v w : View) (ch : ℕ) → w ≡ checkpointed v → (state_at w ch).forgotten ≡ finished (state_at v ch)
forgotten_next v w ch is = ap (λ (u : View). (state_at u ch).forgotten) is ∙ ap (λ (d : ChannelState). d.forgotten) (forgotten_at (object_of v) ch)

-- and an outcome, whose cookie is then among the forgotten ones
forgets : (v w : View) → w ≡ checkpointed v → Remembers v w
forgets v w is ch cookie x lost = grind (arith, forgotten_next, cases_Bool, slice_get_within)

then_remembers : (u v w : View) → Remembers u v → Remembers v w → ((ch : ℕ) → (state_at v ch).forgotten ≤ (state_at w ch).forgotten) → Remembers u w
then_remembers u v w a b rises ch cookie x is = grind arith

extends_keeps : (v w : View) → Extends v w → RemembersOn v w
extends_keeps v w h = record { remembers = λ ch cookie x is. inl (kept v w h ch cookie x is); rises = λ ch. omega (arith, extends_forgotten v w h ch) }

checkpoint_keeps : (v w : View) → w ≡ checkpointed v → RemembersOn v w
checkpoint_keeps v w is = record { remembers = forgets v w is; rises = λ ch. omega (arith, forgotten_next v w ch is) }

only_done : (call : Call) (reply : Reply) → is_checkpoint call reply ≡ true → (call ≡ Checkpoint) × (reply ≡ Done)
only_done call reply h = grind (arith)

-- one call, by whether it was an accepted checkpoint
by_test_law : (v w : View) (call : Call) (reply : Reply) (b : Bool) → is_checkpoint call reply ≡ b → CallAnswers v call reply w → RemembersOn v w
by_test_law v w call reply false e h = extends_keeps v w (answers_extend v w call reply e h)
by_test_law v w call reply true e h =
    let both = only_done call reply e in
    let lost : CallAnswers v Checkpoint Done w = grind (arith) in
    checkpoint_keeps v w (accepted (checkpoint_fault v) v w (checkpointed v) lost)

call_keeps_law : (v w : View) (call : Call) (reply : Reply) → CallAnswers v call reply w → RemembersOn v w
call_keeps_law v w call reply h = by_test_law v w call reply (is_checkpoint call reply) refl h

chain_keeps : (v w : View) (calls : List Call) (replies : List Reply) → AreAnswers v calls replies w → RemembersOn v w
chain_keeps v w [] [] h = subst (RemembersOn v) (sym h) (record { remembers = λ ch cookie x is. inl is; rises = λ ch. omega arith })
chain_keeps v w [] (r ∷ rs) h = absurd h
chain_keeps v w (c ∷ cs) [] h = absurd h
chain_keeps v w (c ∷ cs) (r ∷ rs) h =
    let first = call_keeps_law v h.0 c r h.1 in
    let rest = chain_keeps h.0 w cs rs h.2 in
    record {
      remembers = then_remembers v h.0 w first.remembers rest.remembers rest.rises;
      rises = λ ch. omega (arith, first.rises ch, rest.rises ch);
    }

pub chain_remembers : (v w : View) (calls : List Call) (replies : List Reply) → AreAnswers v calls replies w → Remembers v w
chain_remembers v w calls replies h = (chain_keeps v w calls replies h).remembers

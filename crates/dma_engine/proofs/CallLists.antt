-- Calls one after another.
use Rattle.std.proofs.Common.{arith}
use Rattle.std.proofs.Common.{inl, inr, ◌≡◌, ℕ, ◌+◌, ◌-◌, List, [], ◌∷◌, ◌++◌, length, take, drop, Option, Some, None, true, false, refl, ap, sym, ◌∙◌, subst}
use Rattle.std.proofs.Common.{append-nil, append_assoc}
use Rattle.std.proofs.lemmas.Bool.{or_parts, true≢false}
use Rattle.dma_chan.specs.Traffic.{stored_after}
use Rattle.dma_mem.specs.declared.call.Call.{Call}
use Rattle.dma_mem.specs.declared.call.Call.TheVariants.{Write, Read, Submit, Issue, Pause, Resume, Terminate, Step, Mark, Unmark, Raise, Checkpoint}
use Rattle.dma_engine.specs.declared.call.Reply.TheVariants.{Done, Bytes, Cookie, Count}
use Rattle.dma_engine.specs.declared.entry.Entry.TheVariants.{Wrote, ReadBack, Submitted, Issued, Passed, Signalled, Finished, Terminated, Marked, Unmarked}
use Rattle.dma_engine.specs.Answer.{CallAnswers, AreAnswers, Extends, answer, unless, write_fault, read_fault, submit_fault, channel_fault, mark_fault}
use Rattle.dma_engine.specs.Answer.{raise_fault, with_pause, terminated, done_on, checkpoint_fault, checkpointed, is_checkpoint, has_checkpoint}
use Rattle.dma_engine.specs.{declared.call.Reply.Reply, declared.entry.Entry.Entry, declared.entry.Signaller.TheVariants.Channel, View.state_at}
use Rattle.dma_engine.specs.{declared.entry.Signaller.TheVariants.Host, declared.fault.EngineFault.EngineFault, Object.used, Object.unfinished}
use Rattle.dma_engine.specs.{View.View, View.object_of, Turn.turn, Turn.with_entry, Laws.IsQuiet}
use Rattle.dma_engine.proofs.{AnswerCounts.answered, Turns.answer_is, Turns.turn_cases}

-- ---- the chain of answers

pub AreAnswers_push : (v w x : View) (calls : List Call) (replies : List Reply) (call : Call) (reply : Reply) → AreAnswers v calls replies w
    → CallAnswers w call reply x → AreAnswers v (calls ++ call ∷ []) (replies ++ reply ∷ []) x
AreAnswers_push v w x [] [] call reply h a = (x, subst (λ (u : View). CallAnswers u call reply x) h a, refl)
AreAnswers_push v w x [] (r ∷ rs) call reply h a = absurd h
AreAnswers_push v w x (c ∷ cs) [] call reply h a = absurd h
AreAnswers_push v w x (c ∷ cs) (r ∷ rs) call reply h a = (h.0, h.1, AreAnswers_push h.0 w x cs rs call reply h.2 a)

-- ---- histories that begin with the one before

pub extends_same : (v w : View) → w ≡ v → Extends v w
extends_same v w is = (ap (λ (u : View). u.base) is, ([], ap (λ (u : View). u.history) is ∙ sym (append-nil v.history)))

pub extends_trans : (u v w : View) → Extends u v → Extends v w → Extends u w
extends_trans u v w a b = grind (arith, append_assoc)

unless_extends : (v : View) (f : Option EngineFault) (x : Reply × View) → Extends v x.1 → Extends v (unless f v x).1
unless_extends v None x h = h
unless_extends v (Some fault) x h = extends_same v v refl

-- by what is said of a base and a history alone
still : (v : View) → (v.base ≡ v.base) × ((more : List Entry) × (v.history ≡ v.history ++ more))
still v = (refl, ([], sym (append-nil v.history)))

one : (v : View) (e : Entry) → (v.base ≡ v.base) × ((more : List Entry) × (v.history ++ e ∷ [] ≡ v.history ++ more))
one v e = (refl, (e ∷ [], refl))

turn_extends : (v : View) (ch : ℕ) → Extends v (turn v ch).1
turn_extends v ch = turn_cases v ch (λ s. Extends v s.1) (record {
  idle = (still v, still v, still v, still v, still v, λ _. still v, λ _. still v);
  starts = λ _ _. still v;
  moves = λ _ _. still v;
  passes = λ _ n event. one v (Passed ch event);
  signals = λ _ n event. one v (Signalled (Channel ch) event);
  ends = λ _ n t how. one v (Finished ch how (stored_after t n));
})

refused_still : (v : View) (f : Option EngineFault) (x : Reply × View) (reply : Reply) (w : View) → (reply, w) ≡ unless f v x → (f ≡ None → ⊥) → Extends v w
refused_still v None x reply w is h = absurd (h refl)
refused_still v (Some fault) x reply w is h = extends_same v w (ap (λ (y : Reply × View). y.1) is)

-- a checkpoint with a reply other than Done was not accepted
checkpoint_extends : (v w : View) (reply : Reply) → (reply, w) ≡ answer v Checkpoint → is_checkpoint Checkpoint reply ≡ false → Extends v w
checkpoint_extends v w reply is other =
    refused_still v (checkpoint_fault v) (Done, checkpointed v) reply w is (λ e.
    let done : (reply, w) ≡ (Done, checkpointed v) = is ∙ ap (λ f. unless f v (Done, checkpointed v)) e in
    let same : reply ≡ Done = ap (λ (y : Reply × View). y.0) done in
    true≢false (sym (ap (is_checkpoint Checkpoint) same) ∙ other))

abbrev IsOther : Call → Type 0
IsOther Checkpoint = ⊥
IsOther _ = Unit {0}

answer_extends : (v : View) (call : Call) → IsOther call → Extends v (answer v call).1
answer_extends v (Write addr bytes) o = unless_extends v (write_fault v addr (length bytes)) (Done, with_entry v (Wrote addr bytes)) (one v (Wrote addr bytes))
answer_extends v (Read addr len) o =
    let bytes = take len (drop addr (object_of v).image) in
    unless_extends v (read_fault v addr len) (Bytes bytes, with_entry v (ReadBack addr bytes)) (one v (ReadBack addr bytes))
answer_extends v (Submit ch t) o =
    let cookie = used (state_at v ch) + 1 in
    unless_extends v (submit_fault v ch t) (Cookie cookie, with_entry v (Submitted ch t cookie)) (one v (Submitted ch t cookie))
answer_extends v (Issue ch) o =
    let c = state_at v ch in
    unless_extends v (channel_fault v ch) (Count (used c - c.issued), with_entry v (Issued ch)) (one v (Issued ch))
answer_extends v (Pause ch) o = unless_extends v (channel_fault v ch) (Done, with_pause v ch true) (still v)
answer_extends v (Resume ch) o = unless_extends v (channel_fault v ch) (Done, with_pause v ch false) (still v)
answer_extends v (Terminate ch) o =
    let count = unfinished (state_at v ch) in
    unless_extends v (channel_fault v ch) (Count count, terminated v ch) (one v (Terminated ch (done_on v ch) count))
answer_extends v (Step ch) o = turn_extends v ch
answer_extends v (Mark kind segment) o = unless_extends v (mark_fault segment) (Done, with_entry v (Marked kind segment)) (one v (Marked kind segment))
answer_extends v Unmark o = one v Unmarked
answer_extends v (Raise event) o = unless_extends v (raise_fault event) (Done, with_entry v (Signalled Host event)) (one v (Signalled Host event))
answer_extends v Checkpoint o = absurd o
answer_extends v call o = still v

pub answers_extend : (v w : View) (call : Call) (reply : Reply) → is_checkpoint call reply ≡ false → CallAnswers v call reply w → Extends v w
answers_extend v w Checkpoint reply n h = elim (answer_is v w Checkpoint reply h) [
  | inl none ↦ extends_same v w none.1
  | inr is ↦ checkpoint_extends v w reply is n
]
answers_extend v w call reply n h = answered v w call reply (λ (u : View). Extends v u) (still v) (answer_extends v call tt) h

pub chain_extends : (v w : View) (calls : List Call) (replies : List Reply) → has_checkpoint calls replies ≡ false → AreAnswers v calls replies w → Extends v w
chain_extends v w [] [] n h = extends_same v w h
chain_extends v w [] (r ∷ rs) n h = absurd h
chain_extends v w (c ∷ cs) [] n h = absurd h
chain_extends v w (c ∷ cs) (r ∷ rs) n h =
    let both = or_parts (is_checkpoint c r) (has_checkpoint cs rs) n in
    extends_trans v h.0 w (answers_extend v h.0 c r both.0 h.1) (chain_extends h.0 w cs rs both.1 h.2)

-- ---- calls that are no checkpoint

pub quiet_extends : (call : Call) (reply : Reply) → IsQuiet call → is_checkpoint call reply ≡ false
quiet_extends call reply h = grind (arith)

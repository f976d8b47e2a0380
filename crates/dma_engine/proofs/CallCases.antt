-- From the checks of a call to its answer.
use Rattle.std.proofs.Common.{◌≡◌, ℕ, ◌+◌, ◌-◌, ◌<◌, ◌≤◌, List, [], ◌∷◌, ◌++◌, length, take, drop, Option, Some, None, Bool, true, false, refl, ap, sym, ◌∙◌}
use Rattle.std.proofs.Common.{arith, length-take}
use Rattle.std.specs.{Prelude.IsErrAnd, Prelude.Result, Prelude.nat_lt, Prelude.nat_le, Prelude.Ok, Prelude.Err, Prelude.if◌then◌else◌}
use Rattle.std.proofs.lemmas.Bool.{lt-ltb, le-ltb, le-leb, lt-leb, leb-false, or_right, not-false, ltb-false}
use Rattle.std.proofs.{lemmas.List.length_push, lemmas.List.length-drop, lemmas.Option.some_pair_parts}
use Rattle.dma_mem.specs.declared.call.Call.TheVariants.{Write, Read, Submit, Issue, Pause, Resume, Terminate, Checkpoint}
use Rattle.dma_mem.specs.{Places.Descriptor, Places.lies_below, declared.call.Call.Call, declared.segment.Segment.Segment}
use Rattle.dma_engine.specs.declared.call.Reply.TheVariants.{Done, Bytes, Cookie, Count, Refused}
use Rattle.dma_engine.specs.declared.entry.Entry.TheVariants.{Wrote, ReadBack, Submitted, Issued, Terminated}
use Rattle.dma_engine.specs.declared.fault.EngineFault.TheVariants.{OutOfMemoryRange, Busy, Running, NoChannel, CookiesSpent, NoMemory}
use Rattle.dma_engine.specs.Object.{used, unfinished, last_cookie, Allows}
use Rattle.dma_engine.specs.View.{View, RunningTransfer, object_of, size, channels, state_at}
use Rattle.dma_engine.specs.Answer.{CallAnswers, answer, reply_of, checkpointed, write_fault, read_fault, range_fault, channel_fault}
use Rattle.dma_engine.specs.Answer.{submit_fault, cause, checked, busy, first_running, with_pause, terminated, done_on}
use Rattle.dma_engine.specs.{declared.call.Reply.Reply, declared.entry.Entry.Entry, declared.fault.EngineFault.EngineFault, Turn.with_entry}
use Rattle.dma_engine.specs.{inner.Accesses.named}
use Rattle.dma_engine.proofs.JoinedCalls.{answers_so}

-- ---- out of memory

pub starved : (v : View) (call : Call) (reply : Reply) (w : View) (e : Entry) → answer v call ≡ (reply, w) → w.history ≡ v.history ++ e ∷ []
    → CallAnswers v call (Refused NoMemory) v
starved v call reply w e is more = grind (arith, lt-ltb, length_push, or_right)

-- The result is an error with this fault, so the call is refused with it.
pub refusal : {T : Type 0} (reply : T → Reply) (v w : View) (call : Call) (fault : EngineFault) (r : Result T EngineFault) → IsErrAnd r (λ e. e ≡ fault)
    → CallAnswers v call (Refused fault) w → CallAnswers v call (reply_of reply r) w
refusal reply v w call fault r h h2 = grind (arith)

-- ---- a running transfer that conflicts

-- What holds for each running transfer with its channel and cookie holds for the one that these name.
pub named_by : (x : Option RunningTransfer) (ch cookie : ℕ) (P : Option RunningTransfer → ℕ → ℕ → Type 0) → ((r : RunningTransfer) → P (Some r) r.ch r.cookie)
    → Some (ch, cookie) ≡ named x → P x ch cookie
named_by x ch cookie P h h2 = grind (arith, some_pair_parts)

pub named_none : (x : Option RunningTransfer) → None ≡ named x → x ≡ None
named_none x h = grind (arith)

-- ---- the range of a write or a read

-- It ends above the memory.
pub range_out : (v : View) (addr n : ℕ) (test : Segment → Descriptor → Bool) → size v < addr + n → range_fault v addr n test ≡ Some OutOfMemoryRange
range_out v addr n test h = let e : nat_lt (size v) (addr + n) ≡ true = lt-ltb _ _ h in rw e refl

-- It lies in the memory, and a running transfer conflicts with it.
pub range_busy : (v : View) (addr n : ℕ) (test : Segment → Descriptor → Bool) (ch cookie : ℕ) → addr + n ≤ size v
    → Some (ch, cookie) ≡ named (first_running v (test (record { addr = addr; len = n }))) → range_fault v addr n test ≡ Some (Busy ch cookie)
range_busy v addr n test ch cookie within h = grind (arith, le-ltb)

-- It lies in the memory, and no running transfer conflicts with it.
pub range_free : (v : View) (addr n : ℕ) (test : Segment → Descriptor → Bool) → addr + n ≤ size v
    → None ≡ named (first_running v (test (record { addr = addr; len = n }))) → range_fault v addr n test ≡ None
range_free v addr n test within h = grind (arith, le-ltb, named_none)

pub cause_none : (b : Bool) (fault : EngineFault) (others : Option EngineFault) → cause b fault others ≡ None → (b ≡ false) × (others ≡ None)
cause_none b fault others h = grind (arith)

none_busy : (x : Option RunningTransfer) → busy x ≡ None → x ≡ None
none_busy x h = grind (arith)

-- If nothing refuses it, both hold.
pub range_open : (v : View) (addr n : ℕ) (test : Segment → Descriptor → Bool) → range_fault v addr n test ≡ None → (addr + n ≤ size v)
    × (first_running v (test (record { addr = addr; len = n })) ≡ None)
range_open v addr n test h = grind (arith, cause_none, ltb-false, none_busy)

-- ---- write

pub write_answer : (v : View) (addr : ℕ) (bytes : List ℕ) → write_fault v addr (length bytes) ≡ None
    → answer v (Write addr bytes) ≡ (Done, with_entry v (Wrote addr bytes))
write_answer v addr bytes free = rw free refl

pub write_starved : (v : View) (addr : ℕ) (bytes : List ℕ) → write_fault v addr (length bytes) ≡ None → CallAnswers v (Write addr bytes) (Refused NoMemory) v
write_starved v addr bytes free = starved v (Write addr bytes) Done _ (Wrote addr bytes) (write_answer v addr bytes free) refl

pub write_done : (v w : View) (addr : ℕ) (bytes : List ℕ) → write_fault v addr (length bytes) ≡ None → w ≡ with_entry v (Wrote addr bytes)
    → CallAnswers v (Write addr bytes) Done w
write_done v w addr bytes free is = ap (λ x. (Done, x)) is ∙ sym (write_answer v addr bytes free)

-- ---- read

pub read_answer : (v : View) (addr n : ℕ) → read_fault v addr n ≡ None → let bytes = take n (drop addr (object_of v).image) in
    answer v (Read addr n) ≡ (Bytes bytes, with_entry v (ReadBack addr bytes))
read_answer v addr n free = rw free refl

pub read_starved : (v : View) (addr n : ℕ) → read_fault v addr n ≡ None → CallAnswers v (Read addr n) (Refused NoMemory) v
read_starved v addr n free =
    let bytes = take n (drop addr (object_of v).image) in
    starved v (Read addr n) (Bytes bytes) _ (ReadBack addr bytes) (read_answer v addr n free) refl

pub read_done : (v w : View) (addr n : ℕ) (bytes : List ℕ) → read_fault v addr n ≡ None → bytes ≡ take n (drop addr (object_of v).image)
    → w ≡ with_entry v (ReadBack addr bytes) → CallAnswers v (Read addr n) (Bytes bytes) w
read_done v w addr n bytes free read is = grind (arith, read_answer)

-- The history may have the entry of a read that nothing refuses.
pub read_entry : (v : View) (addr n : ℕ) (bytes : List ℕ) → read_fault v addr n ≡ None → bytes ≡ take n (drop addr (object_of v).image)
    → Allows (object_of v) (ReadBack addr bytes)
read_entry v addr n bytes free is = grind (arith, range_open, length-take, length-drop)

-- ---- channels

pub channel_gone : (v : View) (ch : ℕ) → channels v ≤ ch → channel_fault v ch ≡ Some NoChannel
channel_gone v ch h = let e : nat_le (channels v) ch ≡ true = le-leb _ _ h in rw e refl

pub channel_there : (v : View) (ch : ℕ) → ch < channels v → channel_fault v ch ≡ None
channel_there v ch h = let e : nat_le (channels v) ch ≡ false = lt-leb _ _ h in rw e refl

pub channel_open : (v : View) (ch : ℕ) → channel_fault v ch ≡ None → ch < channels v
channel_open v ch none = leb-false _ _ (cause_none (nat_le (channels v) ch) NoChannel None none).0

pub issue_answer : (v : View) (ch : ℕ) → ch < channels v → let c = state_at v ch in answer v (Issue ch) ≡ (Count (used c - c.issued), with_entry v (Issued ch))
issue_answer v ch h = rw (channel_there v ch h) refl

pub issue_starved : (v : View) (ch : ℕ) → ch < channels v → CallAnswers v (Issue ch) (Refused NoMemory) v
issue_starved v ch h = starved v (Issue ch) _ _ (Issued ch) (issue_answer v ch h) refl

pub issue_done : (v w : View) (ch count : ℕ) → ch < channels v → count ≡ used (state_at v ch) - (state_at v ch).issued
    → w ≡ with_entry v (Issued ch) → CallAnswers v (Issue ch) (Count count) w
issue_done v w ch count h n is = ap (λ x. (Count count, x)) is ∙ ap (λ k. (Count k, with_entry v (Issued ch))) n ∙ sym (issue_answer v ch h)

pub paused_gone : (v : View) (ch : ℕ) (paused : Bool) → channels v ≤ ch → CallAnswers v (if paused then Pause ch else Resume ch) (Refused NoChannel) v
paused_gone v ch paused h = grind (arith, channel_gone)

pub paused_done : (v w : View) (ch : ℕ) (paused : Bool) → ch < channels v → w ≡ with_pause v ch paused
    → CallAnswers v (if paused then Pause ch else Resume ch) Done w
paused_done v w ch paused h h2 = grind (arith, channel_there)

pub terminate_answer : (v : View) (ch : ℕ) → ch < channels v → answer v (Terminate ch) ≡ (Count (unfinished (state_at v ch)), terminated v ch)
terminate_answer v ch h = rw (channel_there v ch h) refl

pub terminate_starved : (v : View) (ch : ℕ) → ch < channels v → CallAnswers v (Terminate ch) (Refused NoMemory) v
terminate_starved v ch h = starved v (Terminate ch) _ _ (Terminated ch (done_on v ch) (unfinished (state_at v ch))) (terminate_answer v ch h) refl

pub terminate_done : (v w : View) (ch count : ℕ) → ch < channels v → count ≡ unfinished (state_at v ch) → w ≡ terminated v ch
    → CallAnswers v (Terminate ch) (Count count) w
terminate_done v w ch count h n is = ap (λ x. (Count count, x)) is ∙ ap (λ k. (Count k, terminated v ch)) n ∙ sym (terminate_answer v ch h)

-- ---- submit

pub submit_done : (v w : View) (ch cookie : ℕ) (t : Descriptor) → submit_fault v ch t ≡ None → cookie ≡ used (state_at v ch) + 1
    → w ≡ with_entry v (Submitted ch t cookie) → CallAnswers v (Submit ch t) (Cookie cookie) w
submit_done v w ch cookie t none number is = grind arith

-- If nothing refuses a submit, its channel exists, the transfer lies in the memory, and a cookie is left.
pub submit_open : (v : View) (ch : ℕ) (t : Descriptor) → submit_fault v ch t ≡ None → (ch < channels v) × (lies_below t (size v) ≡ true)
    × (used (state_at v ch) < last_cookie)
submit_open v ch t none = grind (arith, cause_none, leb-false, not-false)

-- ---- a submit that is checked first

pub check_out : (v : View) (ch n : ℕ) (t : Descriptor) → ch < channels v → lies_below t (size v) ≡ false
    → Err OutOfMemoryRange ≡ checked (submit_fault v ch t) n
check_out v ch n t h out = let e : nat_le (channels v) ch ≡ false = lt-leb _ _ h in rw (e, out) refl

pub check_spent : (v : View) (ch n : ℕ) (t : Descriptor) → ch < channels v → lies_below t (size v) ≡ true → last_cookie ≤ used (state_at v ch)
    → Err CookiesSpent ≡ checked (submit_fault v ch t) n
check_spent v ch n t h below spent = grind (arith, lt-leb, le-leb)

pub check_fine : (v : View) (ch n : ℕ) (t : Descriptor) → ch < channels v → lies_below t (size v) ≡ true → used (state_at v ch) < last_cookie
    → Ok n ≡ checked (submit_fault v ch t) n
check_fine v ch n t h below few = grind (arith, lt-leb)

pub checked_none : (x : Option EngineFault) (n k : ℕ) → Ok k ≡ checked x n → x ≡ None
checked_none x n k h = grind (arith)

checked_some : (x : Option EngineFault) (n : ℕ) (fault : EngineFault) → Err fault ≡ checked x n → x ≡ Some fault
checked_some x n fault h = grind (arith)

pub submit_checked : (v : View) (ch n : ℕ) (t : Descriptor) (fault : EngineFault) → Err fault ≡ checked (submit_fault v ch t) n
    → CallAnswers v (Submit ch t) (Refused fault) v
submit_checked v ch n t fault h = let is = checked_some (submit_fault v ch t) n fault h in answers_so v v (Submit ch t) (Refused fault) (rw is refl)

pub checked_cookie : (x : Option EngineFault) (n k : ℕ) → Ok k ≡ checked x n → k ≡ n
checked_cookie x n k h = grind (arith)

-- ---- checkpoint

pub checkpoint_refused : (v : View) (ch cookie : ℕ) → Some (ch, cookie) ≡ named (first_running v (λ _. true))
    → CallAnswers v Checkpoint (Refused (Running ch cookie)) v
checkpoint_refused v ch cookie h = grind arith

pub checkpoint_starved : (v : View) → first_running v (λ _. true) ≡ None → CallAnswers v Checkpoint (Refused NoMemory) v
checkpoint_starved v h = (rw h refl, refl)

pub checkpoint_done : (v w : View) → first_running v (λ _. true) ≡ None → w ≡ checkpointed v → CallAnswers v Checkpoint Done w
checkpoint_done v w h is = grind arith

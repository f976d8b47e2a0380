-- The steps of a copy end: after each step that goes on, one instruction less remains.
use Rattle.std.proofs.Common.{◌≡◌, ◌≢◌, ◌⊎◌, ℕ, ◌+◌, ◌<◌, ◌≤◌, Bool, true, false, List, [], ◌∷◌, ◌++◌, length, Option, Some, None, refl, ap}
use Rattle.std.proofs.Common.{sym, subst, ◌∙◌, inl, inr, zero, suc, arith}
use Rattle.std.specs.Prelude.{slice_get, nat_le, not, ◌==◌}
use Rattle.std.proofs.lemmas.Bool.{cases_lt, cond_both, false≢true, leb-false, lt-leb, ltb-false}
use Rattle.std.proofs.lemmas.List.{length-set, get_or-set_same, get_or_past}
use Rattle.dma_insn.specs.declared.chip.ChipInsn.{ChipInsn}
use Rattle.dma_insn.specs.declared.chip.ChipInsn.TheVariants.{Ld, St, End, Sev, Wfe}
use Rattle.dma_mem.specs.{Places.Descriptor, Places.lies_below, Rules.IsTransfer, declared.marks.MarkKind.TheVariants.Reading}
use Rattle.dma_mem.specs.{declared.marks.MarkKind.TheVariants.Writing, Marking.meets_mark}
use Rattle.dma_chan.specs.{Compiled.cost, Layer.HasShape, Traffic.member, Traffic.read_places, Traffic.written_places}
use Rattle.dma_chan.proofs.{TreeCosts.cost_is, ShapeLaws.shape_is}
use Rattle.dma_engine.specs.declared.call.Reply.TheVariants.{Turned, Cookie}
use Rattle.dma_engine.specs.declared.entry.Entry.TheVariants.{Passed, Signalled, Submitted, Issued}
use Rattle.dma_engine.specs.declared.fault.EngineFault.TheVariants.{NoChannel, OutOfMemoryRange, CookiesSpent}
use Rattle.dma_engine.specs.Object.{Object, ChannelState, after, channel, finished, used, issued_front, is_set, last_cookie}
use Rattle.dma_engine.specs.Object.{with_channel, with_transfer}
use Rattle.dma_engine.specs.View.{View, RunningTransfer, channels, idle, object_of, schedule_at, size}
use Rattle.dma_engine.specs.Turn.{Stepped, front_turn, first_conflicting, insn_turn, last_step, next_moved, start_turn, turn, with_entry, with_taken}
use Rattle.dma_engine.specs.Answer.{answer, cause, reply_of, unless}
use Rattle.dma_engine.specs.{declared.entry.Entry.Entry, declared.entry.Signaller.TheVariants.Channel, Advance.goes_on}
use Rattle.dma_engine.proofs.{Boards.with_channel_at, Histories.object_after_append}
use Rattle.dma_commands.specs.Run.{most_copy_steps, CopiesEnd, is_in_use, stepped_to_end, steps_before_last}
use Rattle.dma_commands.proofs.CopyLemmas.{before_last_on, before_last_stops, on_after}
use Rattle.dma_mem.specs.declared.call.Call.TheVariants as calls

-- ---- a view in which channel 0 runs a transfer

-- channel 0's front is issued, and has executed k instructions
record At (v : View) (t : Descriptor) (k : ℕ) : Type 0 where
  there : 0 < length v.schedule
  front : issued_front (channel (object_of v) 0) ≡ Some t
  taken : (schedule_at v 0).taken ≡ Some k

-- if the copy goes on after this, one instruction more was executed, and not the last
abbrev GoesOn : Descriptor → ℕ → Stepped → Type 0
GoesOn t k s = goes_on (reply_of Turned s.0) ≡ true → (k + 1 < cost t) × At s.1 t (k + 1)

taken_at : (u : View) (k : Option ℕ) → 0 < length u.schedule → (schedule_at (with_taken u 0 k) 0).taken ≡ k
taken_at u k there = ap (λ s. s.taken) (get_or-set_same u.schedule 0 (record (schedule_at u 0) { taken = k }) idle there)

moved_on_law : (u : View) (t : Descriptor) (k : ℕ) → 0 < length u.schedule → issued_front (channel (object_of u) 0) ≡ Some t → k + 1 < cost t
    → GoesOn t k (next_moved u 0 k)
moved_on_law u t k there front less = grind (arith, length-set, taken_at)

-- ---- the front after an entry

entry_is : (v : View) (e : Entry) → object_of (with_entry v e) ≡ after (object_of v) e
entry_is v e = object_after_append v.base v.history (e ∷ [])

same_front : (o : Object) (c : ChannelState) → issued_front c ≡ issued_front (channel o 0)
    → issued_front (channel (with_channel o 0 c) 0) ≡ issued_front (channel o 0)
same_front o c same = grind (arith, with_channel_at)

passed_front : (v : View) (event : ℕ) → issued_front (channel (object_of (with_entry v (Passed 0 event))) 0) ≡ issued_front (channel (object_of v) 0)
passed_front v event = grind (arith, entry_is, same_front)

signalled_front : (v : View) (event : ℕ)
    → issued_front (channel (object_of (with_entry v (Signalled (Channel 0) event))) 0) ≡ issued_front (channel (object_of v) 0)
signalled_front v event = grind (arith, entry_is, same_front)

-- ---- one step

insn_goes : (v : View) (t : Descriptor) (k : ℕ) → At v t k → (i : ChipInsn) → (i ≢ End → k + 1 < cost t) → GoesOn t k (insn_turn v 0 t k i)
insn_goes v t k at (Wfe event invalid) less =
    cond_both {A = Stepped} (is_set (object_of v) event) _ _ (GoesOn t k)
    (λ _. moved_on_law (with_entry v (Passed 0 event)) t k at.there (passed_front v event ∙ at.front) (less (λ e. absurd cc)))
    (λ _ e. absurd cc)
insn_goes v t k at (Sev event) less =
    moved_on_law (with_entry v (Signalled (Channel 0) event)) t k at.there (signalled_front v event ∙ at.front) (less (λ e. absurd cc))
insn_goes v t k at End less = λ e. absurd cc
insn_goes v t k at Ld less =
    cond_both {A = Stepped} (meets_mark Reading (object_of v).marks (read_places t k)) _ _ (GoesOn t k) (λ _ e. absurd cc)
    (λ _. moved_on_law v t k at.there at.front (less (λ e. absurd cc)))
insn_goes v t k at St less =
    cond_both {A = Stepped} (meets_mark Writing (object_of v).marks (written_places t k)) _ _ (GoesOn t k) (λ _ e. absurd cc)
    (λ _. moved_on_law v t k at.there at.front (less (λ e. absurd cc)))
insn_goes v t k at i less = moved_on_law v t k at.there at.front (less (λ e. absurd cc))

-- an instruction that is the last one, or would be after it, is the end
member_late : (t : Descriptor) (k : ℕ) → HasShape t → cost t ≤ k + 1 → member t k ≡ End
unfolding member
member_late t k shape late = grind (arith, cases_lt, get_or_past)

member_less : (t : Descriptor) (k : ℕ) → HasShape t → member t k ≢ End → k + 1 < cost t
member_less t k shape other = grind (arith, cases_lt, member_late)

front_goes : (v : View) (t : Descriptor) (k : ℕ) → IsTransfer t → At v t k → GoesOn t k (front_turn v 0 (Some t) (Some k))
front_goes v t k rules at =
    cond_both {A = Stepped} (v.steps == last_step) _ _ (GoesOn t k) (λ _ e. absurd cc)
    (λ _. insn_goes v t k at (member t k) (member_less t k (shape_is t rules)))

-- a property of each step that ends the copy, and of the front's step, is one of what a step does
stepped_by : (P : Stepped → Type 0) (v : View) (x : Option Descriptor) (taken : Option ℕ) → ((s : Stepped) → goes_on (reply_of Turned s.0) ≡ false → P s)
    → issued_front (channel (object_of v) 0) ≡ x → (schedule_at v 0).taken ≡ taken → P (front_turn v 0 x taken) → P (turn v 0)
stepped_by P v x taken quiet front is h = grind (arith, cond_both)

step_goes : (v : View) (t : Descriptor) (k : ℕ) → IsTransfer t → At v t k → GoesOn t k (turn v 0)
step_goes v t k rules at =
    stepped_by (GoesOn t k) v (Some t) (Some k) (λ s off on. absurd (false≢true (sym off ∙ on))) at.front at.taken (front_goes v t k rules at)

-- ---- all steps

never : (b : Bool) → (b ≡ true → ⊥) → b ≡ false
never b h = grind (arith)

-- not all of the first n + 1 steps go on
abbrev Ends : ℕ → View → Type 0
Ends n v = ((k : ℕ) → k ≤ n → on_after v k ≡ true) → ⊥

ends_now : (n : ℕ) (v : View) → on_after v 0 ≡ false → Ends n v
ends_now n v off = λ on. false≢true (sym off ∙ on 0 (omega arith))

ends_next : (n : ℕ) (v : View) → (on_after v 0 ≡ true → Ends n (turn v 0).1) → Ends (suc n) v
ends_next n v more = λ on. more (on 0 (omega arith)) (λ k few. on (suc k) (omega (arith, few)))

-- a transfer that runs ends within the instructions that are left
runs_out : (n : ℕ) (v : View) (t : Descriptor) (k : ℕ) → IsTransfer t → At v t k → cost t ≤ n + k + 1 → Ends n v
runs_out zero v t k rules at left =
    λ on. let next = step_goes v t k rules at (on 0 (omega arith)) in omega (arith, next.0, left)
runs_out (suc n) v t k rules at left =
    ends_next n v (λ on.
    let next = step_goes v t k rules at on in
    runs_out n (turn v 0).1 t (k + 1) rules next.1 (omega (arith, left)))

-- ---- from the start

-- nothing goes on where no front is issued
none_ends : (n : ℕ) (v : View) → issued_front (channel (object_of v) 0) ≡ None → Ends n v
none_ends n v none = ends_now n v (stepped_by (λ s. goes_on (reply_of Turned s.0) ≡ false) v None _ (λ s h. h) none refl refl)

-- if the copy goes on after this, the front has started
abbrev Starts : Descriptor → Stepped → Type 0
Starts t s = goes_on (reply_of Turned s.0) ≡ true → At s.1 t 0

start_goes : (v : View) (t : Descriptor) (x : Option RunningTransfer) → 0 < length v.schedule → issued_front (channel (object_of v) 0) ≡ Some t
    → Starts t (start_turn v 0 x)
start_goes v t x h h2 = grind (arith, length-set, taken_at)

-- a transfer ends that hasn't started, within one step more than its instructions
idle_ends : (n : ℕ) (v : View) (t : Descriptor) → IsTransfer t → 0 < length v.schedule → issued_front (channel (object_of v) 0) ≡ Some t
    → (schedule_at v 0).taken ≡ None → cost t ≤ n → Ends n v
idle_ends zero v t rules there front taken left = absurd (omega (arith, (shape_is t rules).some, left))
idle_ends (suc n) v t rules there front taken left =
    let starts : Starts t (turn v 0) =
    stepped_by (Starts t) v (Some t) None (λ s off on. absurd (false≢true (sym off ∙ on))) front taken
    (start_goes v t (first_conflicting v t) there front) in
    ends_next n v (λ on. runs_out n (turn v 0).1 t 0 rules (starts on) (omega (arith, left)))

front_ends : (n : ℕ) (v : View) (t : Descriptor) → IsTransfer t → 0 < length v.schedule → issued_front (channel (object_of v) 0) ≡ Some t → cost t ≤ n
    → Ends n v
front_ends n v t rules there front left =
    let by : (taken : Option ℕ) → (schedule_at v 0).taken ≡ taken → Ends n v = λ taken. elim taken as (λ taken. (schedule_at v 0).taken ≡ taken → Ends n v) [
      | None ↦ λ is. idle_ends n v t rules there front is left
      | Some k ↦ λ is. runs_out n v t k rules (record { there = there; front = front; taken = is }) (omega (arith, left))
    ] in
    by _ refl

-- ---- from the submission

-- an index at or past the end of the first list finds the appended element, or none
pushed_at : (xs : List Descriptor) (t : Descriptor) (f : ℕ) → length xs ≤ f → (slice_get (xs ++ t ∷ []) f ≡ Some t) ⊎ (slice_get (xs ++ t ∷ []) f ≡ None)
pushed_at [] t zero h = inl refl
pushed_at [] t (suc f) h = inr refl
pushed_at (x ∷ xs) t zero h = absurd (omega (arith, h))
pushed_at (x ∷ xs) t (suc f) h = pushed_at xs t f (omega (arith, h))

abbrev all_issued : ChannelState → ChannelState
all_issued c = record c { issued = used c }

-- a transfer that was submitted and issued is the front, where none was unfinished before
issued_is : (c : ChannelState) (t : Descriptor) → used c ≤ finished c → (issued_front (all_issued (with_transfer c t)) ≡ Some t)
    ⊎ (issued_front (all_issued (with_transfer c t)) ≡ None)
issued_is c t none = grind (arith, pushed_at)

-- what is known of a submission that was answered by a cookie
accepted : (a b c : Bool) (v u w : View) (k cookie : ℕ)
    → unless (cause a NoChannel (cause b OutOfMemoryRange (cause c CookiesSpent None))) v (Cookie k, u) ≡ (Cookie cookie, w) → (a ≡ false) × (u ≡ w)
accepted a b c v u w k cookie h = grind (arith)

-- channel 0 isn't in use
free_none : (v : View) → is_in_use v ≡ false → used (channel (object_of v) 0) ≤ finished (channel (object_of v) 0)
free_none v free = grind (arith, ltb-false)

-- ---- the views after a submission to channel 0 and after its issue

abbrev with_submitted : View → Descriptor → View
with_submitted v t = with_entry v (Submitted 0 t (used (channel (object_of v) 0) + 1))

many_after : (v : View) (t : Descriptor) → channels (with_submitted v t) ≡ channels v
many_after v t = grind (arith, entry_is, length-set)

channel_submitted : (v : View) (t : Descriptor) → 0 < channels v → channel (object_of (with_submitted v t)) 0 ≡ with_transfer (channel (object_of v) 0) t
channel_submitted v t some = grind (arith, entry_is, get_or-set_same)

channel_issued : (v : View) → 0 < channels v → channel (object_of (with_entry v (Issued 0))) 0 ≡ all_issued (channel (object_of v) 0)
channel_issued v some = grind (arith, entry_is, get_or-set_same)

issue_after : (v : View) → 0 < channels v → (answer v (calls.Issue 0)).1 ≡ with_entry v (Issued 0)
issue_after v some = grind (arith, lt-leb)

-- The bound is wide enough. Nothing above names it, so that no number of its size is unfolded.
within : (t : Descriptor) → IsTransfer t → cost t ≤ most_copy_steps
within t rules = omega (arith, cost_is t rules)

-- what was submitted and issued ends
issued_ends : (n : ℕ) (v : View) (t : Descriptor) → IsTransfer t → 0 < length v.schedule → 0 < channels v
    → used (channel (object_of v) 0) ≤ finished (channel (object_of v) 0) → cost t ≤ n → Ends n (answer (with_submitted v t) (calls.Issue 0)).1
issued_ends n v t rules there some none left =
    let x = with_submitted v t in
    let y = with_entry x (Issued 0) in
    let still : 0 < channels x = omega (arith, some, many_after v t) in
    let front : issued_front (channel (object_of y) 0) ≡ issued_front (all_issued (with_transfer (channel (object_of v) 0) t)) =
    ap issued_front (channel_issued x still ∙ ap all_issued (channel_submitted v t some)) in
    let ends : Ends n y = elim (issued_is (channel (object_of v) 0) t none) [
      | inl is ↦ front_ends n y t rules there (front ∙ is) left
      | inr is ↦ none_ends n y (front ∙ is)
    ] in
    subst (Ends n) (sym (issue_after x still)) ends

-- a copy that ends within these steps isn't cut off
not_cut : (most : ℕ) (v : View) → Ends most v → goes_on (stepped_to_end most v).0 ≡ false
not_cut most v ends = elim (before_last_stops most v) [
  | inl all ↦ never (goes_on (stepped_to_end most v).0) (λ on. ends (λ k few. elim (cases_lt k most) [
    | inl less ↦ before_last_on most v k (omega (arith, all, less))
    | inr past ↦ let here : k ≡ steps_before_last most v = omega (arith, all, past, few) in ap (on_after v) here ∙ on
  ]))
  | inr off ↦ off
]

pub copies_end : CopiesEnd
copies_end v t cookie w sound rules free submit =
    let o = object_of v in
    let c = channel o 0 in
    let took = accepted (nat_le (channels v) 0) (not (lies_below t (size v))) (nat_le last_cookie (used c)) v (with_submitted v t) w (used c + 1) cookie
    submit in
    let some : 0 < channels v = leb-false (channels v) 0 took.0 in
    let there : 0 < length v.schedule = omega (arith, some, sound.fits.many) in
    let ends = issued_ends most_copy_steps v t rules there some (free_none v free) (within t rules) in
    subst (λ u. goes_on (stepped_to_end most_copy_steps (answer u (calls.Issue 0)).1).0 ≡ false) took.1
    (not_cut most_copy_steps (answer (with_submitted v t) (calls.Issue 0)).1 ends)

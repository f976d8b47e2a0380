-- How a call ends, and what may then be printed.
use Rattle.std.proofs.Common.{◌≡◌, ℕ, ◌<◌, inl, inr, List, ◌++◌, [], length, take, refl, ap, subst, sym, ◌∙◌, codes, Option, Some, None, IfSome, lit<, Result, Ok, Err}
use Rattle.std.specs.Result.{result_unwrap_or}
use Rattle.std.proofs.lemmas.Bool.{cases_lt}
use Rattle.std.specs.Io.KnownBytes.{Appends}
use Rattle.std.proofs.KnownBytes.{Appends-nil}
use Rattle.dma_io.specs.Command.{Printed, Ends, EndsUnread, Failures, Unfailed, Wrote, reader_failed, too_long, no_memory, complete, out_of_memory, input_fault, output_fault, MayAnswer, may_print_within, printed_text, refusal, longest_input}

-- Something may be printed for an input of any length.
within_some : (may : List ℕ → Printed → Type 0) → ((input : List ℕ) → (printed : Printed) × may input printed × (0 < length printed.groups)) → (input : List ℕ)
    → (printed : Printed) × may_print_within may input printed × (0 < length printed.groups)
within_some may some input = elim (cases_lt longest_input (length input)) [
  | inl long ↦ (refusal (codes "line 0: InputTooLong"), inl (long, refl), lit< tt)
  | inr short ↦ let one = some input in (one.0, inr (short, one.1), one.2)
]

-- A call that has no input to run.
pub unread : (known : Option (List ℕ)) (reader writer : Failures) (may : List ℕ → Printed → Type 0) (old new : Option (List ℕ)) (status : ℕ)
    → ((input : List ℕ) → (printed : Printed) × may input printed × (0 < length printed.groups)) → EndsUnread known reader writer old new status
    → IfSome known (λ input. Ends reader writer (may_print_within may input) old new status)
unread None reader writer may old new status some ends = tt
unread (Some input) reader writer may old new status some (reader_failed after (inl wrote)) = input_fault after wrote.1.1 wrote.1.0 wrote.0
unread (Some input) reader writer may old new status some (reader_failed after (inr failed)) = output_fault failed.1 failed.0
unread (Some input) reader writer may old new status some (too_long long kept (inl wrote)) =
    complete kept wrote.1.1 (refusal (codes "line 0: InputTooLong")) (inl (long, refl)) wrote.1.0 wrote.0
unread (Some input) reader writer may old new status some (too_long long kept (inr failed)) = output_fault failed.1 failed.0
unread (Some input) reader writer may old new status some (no_memory kept_reader kept_writer same three) =
    let one = within_some may some input in
    out_of_memory kept_reader kept_writer one.0 one.1 0 one.2 (subst (λ n. Appends old n []) (sym same) (Appends-nil old)) three

-- A call whose answer was built and sent.
pub answered : {E : Type 0} (reader writer : Failures) (may : Printed → Type 0) (old new : Option (List ℕ)) (before built sent : List ℕ)
    (answer : Result ℕ E) (status result : ℕ) → MayAnswer may answer before built → before ≡ [] → status ≡ result_unwrap_or answer 3 → sent ≡ built
    → Unfailed reader → Wrote writer old new sent status result → Ends reader writer may old new result
answered reader writer may old new before built sent answer status result a none exit same kept (inr failed) = output_fault failed.1 failed.0
answered reader writer may old new before built sent (Ok s) status result a none exit same kept (inl wrote) =
    let text = same ∙ a.answers.text ∙ ap (λ front. front ++ printed_text a.printed.groups) none in
    complete kept wrote.1.1 a.printed a.allowed (subst (Appends old new) text wrote.1.0) (wrote.0 ∙ exit ∙ a.answers.status)
answered reader writer may old new before built sent (Err x) status result a none exit same kept (inl wrote) =
    let first = a.answers.refused in
    let text = same ∙ first.whole ∙ ap (λ front. front ++ printed_text (take first.count a.printed.groups)) none in
    out_of_memory kept wrote.1.1 a.printed a.allowed first.count first.some_left (subst (Appends old new) text wrote.1.0) (wrote.0 ∙ exit)

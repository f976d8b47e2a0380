-- What the lines of a race script may print.
use Rattle.std.proofs.Common.{◌≡◌, ◌≢◌, ℕ, ◌<◌, List, [], ◌∷◌, ◌++◌, length, map, codes, suc, Result, Ok, Err, lit<, inl, refl, ap, sym, subst, ◌∙◌, arith}
use Rattle.std.proofs.Common.{append_assoc}
use Rattle.std.proofs.lemmas.List.{length-append, take-append-le, take_all}
use Rattle.std.proofs.{Math.Seq.take-append_seam, lemmas.Simd.map-map, lemmas.Result.on_ok_weaker}
use Rattle.std.specs.Prelude.{IsErr, OnOk}
use Rattle.dma_engine.specs.{Interleaved.Interleaves, Interleaved.rotation, Interleaved.turns_taken, View.View}
use Rattle.dma_work.specs.{Shift.channels_of_job, declared.job.Job.Job}
use Rattle.dma_io.specs.Command.{Answers, MayAnswer, Printed, printed_text, refusal}
use Rattle.dma_script.specs.{Interpreted.ActsInTurn, Interpreted.PrintsLine, Interpreted.PrintsLines, Interpreted.StopsAtALine, Lines.Gives}
use Rattle.dma_script.specs.{Printing.error_line, Printing.fault_line, declared.fault.ReadError.ReadError, Race.race_script_of, declared.fault.Fault.Fault}
use Rattle.dma_script.specs.{declared.race.JobLine.JobLine, declared.race.RaceScript.RaceScript, declared.statements.Statement.Statement}
use Rattle.dma_commands.specs.Raced.{EarlyPrints, RacePrints, channels_of_line, first_view, from_go, go_line, no_reader, race_may_print, race_prints_of}
use Rattle.dma_commands.specs.Raced.{raced_refused, raced_whole, whole}
use Rattle.dma_commands.specs.{Run.Answered, Run.line_answer, Run.lines_answered, inner.RunSteps.AnswersLine, inner.RunSteps.RunsLine}
use Rattle.dmasim.specs.inner.RaceSteps.{AreJobs, PrintsFirst, PrintsGo}
use Rattle.dmasim.proofs.SomeTurns.{some_turns}
use Rattle.dma_script.proofs.InterpretedLemmas.{text_after}
use Rattle.dma_commands.proofs.{PlanLemmas.nothing, RunLemmas.answers_after, RunLemmas.answers_none, RunLemmas.answers_some}
use Rattle.dma_script.specs.declared.fault.ReadError.TheVariants as script_errors

-- ---- what lines before `go` may print

each_some : (v : View) (statements : List Statement) → (groups : List (List (List ℕ))) × (w : View) × ActsInTurn EarlyPrints statements v groups w
each_some v [] = ([], v, refl)
each_some v (s ∷ rest) =
    let others = each_some (line_answer v s).1 rest in
    ((line_answer v s).0 ∷ others.0, others.1, ((line_answer v s).1, inl refl, others.2))

each_append : (u v w : View) (xs ys : List Statement) (front back : List (List (List ℕ))) → ActsInTurn EarlyPrints xs u front v
    → ActsInTurn EarlyPrints ys v back w → ActsInTurn EarlyPrints (xs ++ ys) u (front ++ back) w
each_append u v w [] ys [] back first others = subst (λ x. ActsInTurn EarlyPrints ys x back w) first others
each_append u v w [] ys (group ∷ front) back first others = absurd first
each_append u v w (s ∷ xs) ys [] back first others = absurd first
each_append u v w (s ∷ xs) ys (group ∷ front) back (next, one, rest) others = (next, one, each_append next v w xs ys front back rest others)

module _ {S : Type 0} (seen : S → View) where
  -- a line that ran as it does in `run`
  pub line_ran : {A E : Type 0} (found left : S) (s ran : Statement) (result : Result A E) (old new : List ℕ) → s ≡ ran
      → RunsLine (line_answer (seen found) ran) (seen left) result old new
      → OnOk result (PrintsLine (λ group x. EarlyPrints (seen found) s group (seen x)) left old new)
  line_ran found left s ran result old new is runs =
      let v = seen found in
      on_ok_weaker result
      (λ (one : AnswersLine (line_answer v ran) (seen left) old new). record {
        group = (line_answer v ran).0;
        acted = inl (ap (line_answer v) is ∙ ap {B = Answered} (λ w. ((line_answer v ran).0, w)) (sym one.acts));
        text = one.prints;
      }) runs.ok

  -- a line whose call ran
  pub call_ran : {A E : Type 0} (found left : S) (s ran : Statement) (result : Result A E) (old new : List ℕ) → s ≡ ran
      → OnOk result (PrintsLine (EarlyPrints (seen found) ran) (seen left) old new)
      → OnOk result (PrintsLine (λ group x. EarlyPrints (seen found) s group (seen x)) left old new)
  call_ran found left s ran result old new is prints =
      on_ok_weaker result
      (λ (one : PrintsLine (EarlyPrints (seen found) ran) (seen left) old new). record {
        group = one.group;
        acted = rw is one.acted;
        text = one.text;
      }) prints

  -- lines that are executed one after another, by the views
  seen_in_turn : (statements : List Statement) (found left : S) (groups : List (List (List ℕ)))
      → ActsInTurn (λ f s g x. EarlyPrints (seen f) s g (seen x)) statements found groups left
      → ActsInTurn EarlyPrints statements (seen found) groups (seen left)
  seen_in_turn [] found left [] done = ap seen done
  seen_in_turn [] found left (g ∷ groups) done = absurd done
  seen_in_turn (s ∷ statements) found left [] done = absurd done
  seen_in_turn (s ∷ statements) found left (g ∷ groups) (next, acted, rest) = (seen next, acted, seen_in_turn statements next left groups rest)

  -- All lines were executed.
  pub all_early : (found left : S) (statements : List Statement) (old new : List ℕ)
      → PrintsLines (λ f s g x. EarlyPrints (seen f) s g (seen x)) found statements left old new
      → PrintsLines EarlyPrints (seen found) statements (seen left) old new
  all_early found left statements old new done =
      record { groups = done.groups; acted = seen_in_turn statements found left done.groups done.acted; text = done.text }

  -- A line was out of memory: the lines before it printed what they may, and the others may print something.
  pub first_early : (is_refused : S → Statement → S → Type 0) (found left : S) (statements : List Statement) (old new : List ℕ)
      → StopsAtALine (λ f s g x. EarlyPrints (seen f) s g (seen x)) is_refused found statements left old new → PrintsFirst (seen found) statements old new
  first_early is_refused found left statements old new stop =
      let behind = stop.line ∷ stop.behind in
      let all = all_early found stop.between stop.before old new stop.printed in
      let others = each_some (seen stop.between) behind in
      record {
        early = all.groups ++ others.0;
        view = others.1;
        each = subst (λ xs. ActsInTurn EarlyPrints xs (seen found) (all.groups ++ others.0) others.1) (sym stop.split)
            (each_append (seen found) (seen stop.between) others.1 stop.before behind all.groups others.0 all.acted others.2);
        count = length all.groups;
        within = omega (arith, length-append all.groups others.0);
        text = all.text ∙ ap (λ e. old ++ printed_text e) (sym (take-append_seam all.groups others.0));
      }

pub all_then_none : (start : View) (statements : List Statement) (v : View) (old new : List ℕ) → PrintsLines EarlyPrints start statements v old new
    → PrintsFirst start statements old new
all_then_none start statements v old new all = record {
  early = all.groups;
  view = v;
  each = all.acted;
  count = length all.groups;
  within = omega arith;
  text = all.text ∙ ap (λ e. old ++ printed_text e) (sym (take_all (length all.groups) all.groups (omega arith)));
}

-- ---- jobs

channels_are : (lines : List JobLine) (jobs : List Job) → AreJobs lines jobs → map channels_of_job jobs ≡ map channels_of_line lines
channels_are lines jobs are =
    let channels : ℕ × ℕ × ℕ → List ℕ = λ j. rotation j.0 j.1 j.2 in
    sym (map-map channels (λ (job : Job). (job.first, job.last, job.turns)) jobs) ∙ ap (map channels) are
    ∙ map-map channels (λ (line : JobLine). (line.first, line.last, line.turns)) lines

-- ---- whole scripts

-- Something may be printed for each input.
pub race_some : (input : List ℕ) → (printed : Printed) × race_may_print input printed × (0 < length printed.groups)
race_some input = elim (race_script_of input) as (λ read. (printed : Printed) × race_prints_of read printed × (0 < length printed.groups)) [
  | Ok script ↦ (raced_refused (codes "NoReader"), no_reader refl, lit< tt)
  | Err fault ↦ (refusal (fault_line fault), refl, lit< tt)
]

-- A script that was not read.
pub race_refused : {E : Type 0} (input : List ℕ) (error : ReadError Fault) (result : Result ℕ E) (old new : List ℕ)
    → Gives (λ (script : RaceScript). script) (Err error) (race_script_of input) → Answers (refusal (error_line error)) result old new
    → OnOk result (error ≢ script_errors.NoMemory) → MayAnswer (race_may_print input) result old new
race_refused input (script_errors.Fault fault) result old new is answers printed =
    record { printed = refusal (fault_line fault); allowed = rw is refl; answers = answers }
race_refused input script_errors.NoMemory (Ok status) old new is answers printed = absurd (printed refl)
race_refused input script_errors.NoMemory (Err e) old new is answers printed =
    let one = race_some input in
    record { printed = one.0; allowed = one.1; answers = answers_none one.0 (Err e) old new refl one.2 (nothing _ old new answers.refused) }

module _ {E : Type 0} (script : RaceScript) (result : Result ℕ E) (old new : List ℕ) where
  -- Out of memory before anything was printed.
  pub none_answer : IsErr result → new ≡ old → MayAnswer (RacePrints script) result old new
  none_answer err same = record {
    printed = raced_refused (codes "NoReader");
    allowed = no_reader refl;
    answers = answers_none (raced_refused (codes "NoReader")) result old new err (lit< tt) same;
  }

  -- Out of memory before the line of `go` was printed.
  pub first_answer : IsErr result → PrintsFirst (first_view script) script.before.statements old new → MayAnswer (RacePrints script) result old new
  first_answer err first =
      let some = some_turns (map channels_of_line script.jobs) in
      let last = from_go first.view some.0 script.after in
      let printed = raced_whole first.early first.view some.0 script.after in
      record {
        printed = printed;
        allowed = whole first.early first.view first.each some.0 some.1 refl;
        answers = answers_some printed result old new err (record {
          count = suc first.count;
          some_left = omega (arith, first.within, length-append first.early last);
          whole = first.text ∙ ap (λ g. old ++ printed_text g) (sym (take-append-le first.count first.early last first.within));
        });
      }

  -- The lines after `go` were executed, or one was out of memory.
  pub whole_answer : (jobs : List Job) (v : View) (mid : List ℕ) → AreJobs script.jobs jobs
      → PrintsGo (first_view script) script.before.statements jobs v old mid
      → Answers (record { groups = lines_answered v script.after; status = 0 }) result mid new → MayAnswer (RacePrints script) result old new
  whole_answer jobs v mid are go a =
      let early = go.lines.groups in
      let turns = go.totals.turns in
      let line = go_line (turns_taken go.between turns).0 ∷ [] in
      let after = lines_answered v script.after in
      let text : mid ≡ old ++ printed_text (early ++ line ∷ []) = text_after old go.text mid early line go.lines.text go.totals.text in
      record {
        printed = raced_whole early go.between turns script.after;
        allowed = whole early go.between go.lines.acted turns (subst (λ l. Interleaves l turns) (channels_are script.jobs jobs are) go.totals.interleaved) refl;
        answers = subst (λ g. Answers (record { groups = [] ∷ g; status = 0 }) result old new)
            (append_assoc early (line ∷ []) after ∙ ap (λ w. early ++ line ∷ lines_answered w script.after) go.totals.leads)
            (answers_after ([] ∷ early ++ line ∷ []) after 0 result old mid new text a);
      }

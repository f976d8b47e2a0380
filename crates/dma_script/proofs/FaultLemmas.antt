-- Each reader reports the fault of the first faulty line of a whole script.
use Rattle.std.proofs.Common.{◌≡◌, ℕ, ◌+◌, Bool, true, false, ◌&&◌, ◌||◌, nat_lt, if◌then◌else◌, List, [], ◌∷◌, refl, ap, arith}
use Rattle.std.proofs.Common.{length-append, ◌∙◌, Option, Some, None, Result, Ok, Err, IfOk, is_some}
use Rattle.std.specs.{List.list_all, List.list_any, Option.ok_or, Option.option_map, Option.option_or, Str.Lines.lines}
use Rattle.std.proofs.lemmas.Result.{IfOk-weaker}
use Rattle.dma_script.specs.Lines.{after_line, after_lines, at_line, first_number, is_skipped}
use Rattle.dma_script.specs.Race.{RaceRead, next_race_line, nothing_read, race_script_of, race_step}
use Rattle.dma_script.specs.Statements.{next_line, run_script_of, run_step}
use Rattle.dma_script.specs.Causes.{RaceSide, after_command, at_start, behind_after, cause_reported, fault_reported, first_fault, is_go, is_taken, line_reported}
use Rattle.dma_script.specs.Causes.{no_go_fault, no_line_fault, plan_asks, race_after, race_asks, race_command_of, run_asks, side_of, FirstFaultsAreReported}
use Rattle.dma_script.specs.{Words.words_of, Words.is_plain, Plan.plan_step, Plan.plan_of, declared.fault.Cause.Cause}
use Rattle.dma_script.specs.{declared.fault.Fault.Fault, declared.transfer_line.PlanLine.PlanLine, declared.transfer_line.TransferLine.TransferLine}
use Rattle.dma_script.specs.{declared.statements.Keyword.Keyword, declared.statements.RunScript.RunScript, declared.statements.Statement.Statement}
use Rattle.dma_script.specs.{declared.race.JobLine.JobLine, declared.race.RaceKeyword.RaceKeyword, declared.race.RaceScript.RaceScript}
use Rattle.dma_text.specs.Results.{◌>>=◌}
use Rattle.dma_script.proofs.{CauseLemmas.run_line, CauseLemmas.race_line, CauseLemmas.plan_line, Within.bind_holds, Within.lined, Within.then_holds}
use Rattle.dma_script.specs.declared.fault.Cause.TheVariants as causes
use Rattle.dma_script.specs.declared.race.RaceKeyword.TheVariants as race_keywords

-- a fault of a line; 0 is no line
abbrev fault_in : ℕ → Cause → Fault
fault_in line cause = record { line = line; cause = cause }

-- One line, for which a fault is reported or not, and what follows it.
one_line : {S B : Type 0} (n : ℕ) (r : Result S Cause) (f : S → Result S Fault) (end : S → Result B Fault) (test : Option Cause) (rest at_end : Option Fault)
    → cause_reported r ≡ test → IfOk r (λ next. fault_reported (f next >>= end) ≡ option_or rest at_end)
    → fault_reported ((at_line n r >>= f) >>= end) ≡ option_or (option_or (option_map (fault_in n) test) rest) at_end
one_line n r f end test rest at_end h h2 = grind (arith)

module _
    {S K B : Type 0} (step : S → List (List ℕ) → Result S Cause) (side : S → K) (test : K → List ℕ → Option Cause) (after : K → List ℕ → K)
    (Keeps : S → Type 0) (end : S → Result B Fault) (at_end : K → List (List ℕ) → Option Fault)
  where
    -- A reader whose report on a line depends on the position in the script. `goes`: what it has read keeps a property, and
    -- its position after a line is that which the position before it and the line give. `at_end`: the fault at the end of
    -- the script, by the position and the lines that are left.
    record IsReader : Type 0 where
      reports : (read : S) (line : List ℕ) → cause_reported (after_line step read line) ≡ test (side read) line
      goes : (read : S) (line : List ℕ) → Keeps read → IfOk (after_line step read line) (λ next. (side next ≡ after (side read) line) × Keeps next)
      ends : (read : S) → Keeps read → fault_reported (end read) ≡ at_end (side read) []
      more : (k : K) (line : List ℕ) (rest : List (List ℕ)) → at_end (after k line) rest ≡ at_end k (line ∷ rest)

    -- The fault of some lines and the end behind them.
    lines_reported : IsReader → (n : ℕ) (read : S) (rest : List (List ℕ)) → Keeps read
        → fault_reported (after_lines step n read rest >>= end) ≡ option_or (first_fault test after (side read) n rest) (at_end (side read) rest)
    lines_reported is n read [] keeps = is.ends read keeps
    lines_reported is n read (line ∷ rest) keeps =
        one_line (n + 1) (after_line step read line) (λ next. after_lines step (n + 1) next rest) end (test (side read) line)
        (first_fault test after (after (side read) line) (n + 1) rest) (at_end (side read) (line ∷ rest)) (is.reports read line)
        (IfOk-weaker (after_line step read line) (λ next. (side next ≡ after (side read) line) × Keeps next) _ (λ next at.
        lines_reported is (n + 1) next rest at.1
        ∙ ap (λ k. option_or (first_fault test after k (n + 1) rest) (at_end k rest)) at.0
        ∙ ap (option_or (first_fault test after (after (side read) line) (n + 1) rest)) (is.more (side read) line rest)) (is.goes read line keeps))

abbrev IsSome : {A : Type 0} → Option A → Type 0
IsSome next = is_some next ≡ true

or_false : (b : Bool) → b ≡ (b || false)
or_false b = grind (arith)

or_true : (b : Bool) → true ≡ (b || true)
or_true b = grind (arith)

or_assoc : (a b c : Bool) → ((a || b) || c) ≡ (a || (b || c))
or_assoc a b c = grind (arith)

-- ---- run scripts and plan scripts

-- the fault at the end of a script, given whether it has a line
abbrev no_line : Bool → Option Fault
no_line some = if some then None else Some (fault_in 0 causes.First)

abbrev line_left : Bool → List (List ℕ) → Option Fault
line_left behind rest = no_line (behind || list_any is_taken rest)

line_more : (behind : Bool) (line : List ℕ) (rest : List (List ℕ)) → line_left (behind_after behind line) rest ≡ line_left behind (line ∷ rest)
line_more behind line rest = ap no_line (or_assoc behind (is_taken line) (list_any is_taken rest))

-- A line that is not skipped has been read.
some_read : {A : Type 0} (step : Option A → List (List ℕ) → Result (Option A) Cause)
    → ((read : Option A) (words : List (List ℕ)) → IfOk (step read words) IsSome) → (read : Option A) (line : List ℕ)
    → IfOk (after_line step read line) (λ next. (is_some next ≡ behind_after (is_some read) line) × Unit {0})
some_read step some read line = grind (arith, lined, is_some, or_false, IfOk-weaker, or_true)

none_ends : {A B : Type 0} (end : Option A → Result B Fault) → fault_reported (end None) ≡ Some (fault_in 0 causes.First)
    → ((a : A) → fault_reported (end (Some a)) ≡ None) → (read : Option A) → Unit {0} → fault_reported (end read) ≡ line_left (is_some read) []
none_ends end h h2 read h3 = grind (arith)

next_some : (read : Option RunScript) (keyword : Keyword) (words : List (List ℕ)) → IfOk (next_line read keyword words) IsSome
next_some read keyword words = grind (arith, bind_holds)

run_some : (read : Option RunScript) (words : List (List ℕ)) → IfOk (run_step read words) IsSome
run_some read words = grind (arith, bind_holds, next_some)

plan_some : (read : Option TransferLine) (words : List (List ℕ)) → IfOk (plan_step read words) IsSome
plan_some read words = grind (arith, bind_holds)

run_faults : (input : List ℕ)
    → fault_reported (run_script_of input) ≡ option_or (first_fault (λ behind line. line_reported (run_asks behind) line) behind_after false 0 (lines input))
    (no_line_fault input)
run_faults input =
    lines_reported run_step (λ read. is_some read) (λ behind line. line_reported (run_asks behind) line) behind_after (λ _. Unit {0})
    (λ script. ok_or script (fault_in 0 causes.First)) line_left (record {
      reports = run_line;
      goes = λ read line keeps. some_read run_step run_some read line;
      ends = none_ends (λ script. ok_or script (fault_in 0 causes.First)) refl (λ a. refl);
      more = line_more;
    }) 0 None (lines input) tt

plan_faults : (input : List ℕ)
    → fault_reported (plan_of input) ≡ option_or (first_fault (λ behind line. line_reported (plan_asks behind) line) behind_after false 0 (lines input))
    (no_line_fault input)
plan_faults input =
    let end = λ (read : Option TransferLine). ok_or read (fault_in 0 causes.First) >>=
    (λ line. let plan : PlanLine = record { line = first_number input; transfer = line } in Ok plan) in
    lines_reported plan_step (λ read. is_some read) (λ behind line. line_reported (plan_asks behind) line) behind_after (λ _. Unit {0}) end line_left (record {
      reports = plan_line;
      goes = λ read line keeps. some_read plan_step plan_some read line;
      ends = none_ends end refl (λ a. refl);
      more = line_more;
    }) 0 None (lines input) tt

-- ---- race scripts

-- what was read of a race script
abbrev race_read : Option RunScript → List JobLine → Option (List Statement) → RaceRead
race_read before jobs after = record { before = before; jobs = jobs; after = after }

-- Lines after `go` come after a memory line.
abbrev IsSound : RaceRead → Type 0
IsSound read = is_some read.after ≡ true → is_some read.before ≡ true

-- The state after a line with a command.
abbrev Moves : RaceRead → RaceKeyword → RaceRead → Type 0
Moves read keyword next = (side_of next ≡ after_command (side_of read) (Some keyword)) × IsSound next

early_moves : (before : Option RunScript) (jobs : List JobLine) (keyword : Keyword) (words : List (List ℕ)) (early : Bool)
    → IfOk (if early then (next_line before keyword words >>= (λ b. Ok (race_read b jobs None))) else Err causes.Command)
    (Moves (race_read before jobs None) (race_keywords.Line keyword))
early_moves before jobs keyword words early = grind (arith, then_holds, next_some)

race_moves : (before : Option RunScript) (jobs : List JobLine) (after : Option (List Statement)) (keyword : RaceKeyword) (words : List (List ℕ))
    → IsSound (race_read before jobs after)
    → IfOk (next_race_line (race_read before jobs after) keyword words) (Moves (race_read before jobs after) keyword)
race_moves before jobs None (race_keywords.Line keyword) words h = grind (arith, early_moves)
race_moves before jobs None race_keywords.Job words h = grind (arith, bind_holds, or_true, is_some, nat_lt, length-append)
race_moves before jobs None race_keywords.Go words h = grind (arith, bind_holds, or_true, is_some)
race_moves before jobs (Some after) (race_keywords.Line keyword) words h = grind (arith, bind_holds, or_true, is_some)
race_moves before jobs (Some after) race_keywords.Job words h = tt
race_moves before jobs (Some after) race_keywords.Go words h = tt

-- After a line of any words, what was read is sound. Its side is that after the command, if one was taken; else it
-- stays.
abbrev Goes : RaceRead → Option RaceKeyword → Bool → RaceRead → Type 0
Goes read found taken next = (side_of next ≡ (if taken then after_command (side_of read) found else side_of read)) × IsSound next

race_found : (read : RaceRead) (found : Option RaceKeyword) (words : List (List ℕ)) → IsSound read
    → IfOk (ok_or found causes.Command >>= (λ keyword. next_race_line read keyword words)) (Goes read found true)
race_found read None words sound = tt
race_found read (Some keyword) words sound = race_moves read.before read.jobs read.after keyword words sound

race_stepped : (read : RaceRead) (words : List (List ℕ)) → IsSound read → IfOk (race_step read words) (Goes read (race_command_of words) true)
race_stepped read words h = grind (arith, race_found)

-- a line that is `go`
abbrev go_line : List ℕ → Bool
go_line line = is_taken line && is_go (race_command_of (words_of line))

-- the fault at the end of a race script, given whether it has a memory line, and `go`
abbrev end_fault : Bool → Bool → Option Fault
end_fault some go = option_or (no_line some) (if go then None else Some (fault_in 0 causes.Go))

abbrev go_left : RaceSide → List (List ℕ) → Option Fault
go_left side rest = end_fault (side.behind || list_any is_taken rest) (side.after_go || list_any go_line rest)

go_more : (side : RaceSide) (taken : Bool) (found : Option RaceKeyword) (some go : Bool)
    → (let next : RaceSide = if taken then after_command side found else side in end_fault (next.behind || some) (next.after_go || go))
    ≡ end_fault (side.behind || (taken || some)) (side.after_go || ((taken && is_go found) || go))
go_more side taken found some go = grind (arith, or_true, or_assoc)

-- the end of a race script that was read
abbrev race_ended : RaceRead → Result RaceScript Fault
race_ended read =
    ok_or read.before (fault_in 0 causes.First) >>= (λ before. ok_or read.after (fault_in 0 causes.Go) >>=
    (λ after. let script : RaceScript = record { before = before; jobs = read.jobs; after = after } in Ok script))

race_ends : (jobs : List JobLine) (before : Option RunScript) (after : Option (List Statement)) → IsSound (race_read before jobs after)
    → fault_reported (race_ended (race_read before jobs after)) ≡ go_left (side_of (race_read before jobs after)) []
race_ends jobs before after h = grind (arith)

race_faults : (input : List ℕ)
    → fault_reported (race_script_of input) ≡ option_or (first_fault (λ side line. line_reported (race_asks side) line) race_after at_start 0 (lines input))
    (option_or (no_line_fault input) (no_go_fault input))
race_faults input =
    lines_reported race_step side_of (λ side line. line_reported (race_asks side) line) race_after IsSound race_ended go_left (record {
      reports = race_line;
      goes = λ read line sound. lined (Goes read (race_command_of (words_of line))) (is_skipped (words_of line)) (list_all is_plain line) read
          (race_step read (words_of line)) (refl, sound) (race_stepped read (words_of line) sound);
      ends = λ read. race_ends read.jobs read.before read.after;
      more = λ side line rest. go_more side (is_taken line) (race_command_of (words_of line)) (list_any is_taken rest) (list_any go_line rest);
    }) 0 nothing_read (lines input) (λ after. after)

-- For each kind of script, the fault of the first faulty line is reported.
pub first_faults_are_reported : FirstFaultsAreReported
first_faults_are_reported = record { run = run_faults; race = race_faults; plan = plan_faults }

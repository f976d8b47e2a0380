-- Each reader reports the first cause of the table, line by line.
use Rattle.std.proofs.Common.{arith}
use Rattle.std.proofs.Common.{◌≡◌, ℕ, Bool, true, not, ◌&&◌, nat_le, nat_lt, if◌then◌else◌, List, [], ◌∷◌, length, refl, ◌∙◌, sym, Option, Some}
use Rattle.std.proofs.Common.{None, Result, Ok, Err, is_ok, is_some}
use Rattle.std.specs.{Option.ok_or}
use Rattle.dma_mem.specs.Limits.{last_channel}
use Rattle.dma_script.specs.Arguments.{first_reported, makes, meaning, Operand, operands, Shape, unless, where_not, words_cause}
use Rattle.dma_script.specs.Plan.{transfer, transfer_line, plan_step}
use Rattle.dma_script.specs.Statements.{memory, first_line, later_line, next_line, run_step}
use Rattle.dma_script.specs.Race.{RaceRead, where_holds, job, job_line, next_race_line, no_words, race_step}
use Rattle.dma_script.specs.Causes.{cause_reported, is_memory, Asked, line_reported, operands_of, no_command, run_asked, run_asks, plan_asks, job_in_range}
use Rattle.dma_script.specs.Causes.{race_asked, race_asks, side_of, FirstCausesAreReported}
use Rattle.dma_script.specs.{Lines.after_line, declared.fault.Cause.Cause}
use Rattle.dma_script.specs.{declared.transfer_line.TransferLine.TransferLine, declared.statements.Keyword.Keyword, declared.statements.RunScript.RunScript}
use Rattle.dma_script.specs.{declared.statements.Statement.Statement, declared.race.JobLine.JobLine, declared.race.RaceKeyword.RaceKeyword}
use Rattle.dma_text.specs.Results.{◌>>=◌}
use Rattle.dma_script.proofs.{Agreement.map_reported, Agreement.meaning_reported, Agreement.or_none, Reading.job_of}
use Rattle.dma_script.specs.declared.fault.Cause.TheVariants as causes
use Rattle.dma_script.specs.declared.race.RaceKeyword.TheVariants as race_keywords

-- ---- a line by its command

-- the tests of the words after a command
abbrev word_tests : Option (List Operand) → Bool → List (Option Cause)
word_tests operands in_range = words_cause operands ∷ where_not in_range causes.Range ∷ []

-- what words make, or their first cause
made_reported : {A : Type 0} (shape : Shape A) (words : List (List ℕ))
    → cause_reported (meaning shape words) ≡ first_reported (word_tests (operands shape words) true)
made_reported shape words = meaning_reported shape words ∙ sym (or_none (words_cause (operands shape words)))

-- the first line
first_line_reported : (keyword : Keyword) (words : List (List ℕ))
    → cause_reported (first_line keyword words) ≡ first_reported (where_not (is_memory keyword) causes.First ∷ word_tests (operands_of keyword words) true)
first_line_reported keyword words = grind (arith, made_reported)

shape_reported : (shape : Result (Shape Statement) Cause) (words : List (List ℕ)) → is_ok shape ≡ true
    → cause_reported (shape >>= (λ shape. meaning shape words)) ≡ first_reported
    (word_tests (elim shape [ Err cause ↦ operands memory words | Ok shape ↦ operands shape words ]) true)
shape_reported shape words h = grind (arith, made_reported)

-- a line after the first
later_reported : (keyword : Keyword) (words : List (List ℕ))
    → cause_reported (later_line keyword words) ≡ first_reported
    (where_not (not (is_memory keyword)) causes.First ∷ word_tests (operands_of keyword words) true)
later_reported keyword words = grind (arith, shape_reported)

-- a line of a run script, by its command
next_reported : (before : Option RunScript) (keyword : Keyword) (words : List (List ℕ))
    → cause_reported (next_line before keyword words) ≡ first_reported
    (where_not (if is_some before then not (is_memory keyword) else is_memory keyword) causes.First ∷ word_tests (operands_of keyword words) true)
next_reported before keyword words = grind (arith, map_reported, first_line_reported, later_reported)

-- ---- a whole line

-- the tests after the first, of the bytes
abbrev after_bytes : Asked → List (Option Cause)
after_bytes asked = where_not asked.command causes.Command ∷ where_not asked.first causes.First ∷ word_tests asked.operands asked.in_range

whole_line : {S : Type 0} (skipped plain : Bool) (read : S) (stepped : Result S Cause) (rest : List (Option Cause))
    → cause_reported stepped ≡ first_reported rest
    → cause_reported (if skipped then Ok read else (if plain then stepped else Err causes.Byte)) ≡
    (if skipped then None else first_reported (where_not plain causes.Byte ∷ rest))
whole_line skipped plain read stepped rest h = grind (arith)

-- A line by its words.
line_is : {S : Type 0} (step : S → List (List ℕ) → Result S Cause) (asks : List (List ℕ) → Asked) (read : S)
    → ((words : List (List ℕ)) → cause_reported (step read words) ≡ first_reported (after_bytes (asks words))) → (line : List ℕ)
    → cause_reported (after_line step read line) ≡ line_reported asks line
line_is step asks read same line = grind (arith, whole_line)

run_command : (read : Option RunScript) (found : Option Keyword) (words : List (List ℕ))
    → cause_reported (ok_or found causes.Command >>= (λ keyword. next_line read keyword words)) ≡ first_reported
    (after_bytes (elim found [ None ↦ no_command | Some keyword ↦ run_asked (is_some read) keyword words ]))
run_command read found words = grind (arith, next_reported)

run_words : (read : Option RunScript) (words : List (List ℕ))
    → cause_reported (run_step read words) ≡ first_reported (after_bytes (run_asks (is_some read) words))
run_words read words = grind (arith, run_command)

pub run_line : (read : Option RunScript) (line : List ℕ) → cause_reported (after_line run_step read line) ≡ line_reported (run_asks (is_some read)) line
run_line read = line_is run_step (run_asks (is_some read)) read (run_words read)

plan_words : (read : Option TransferLine) (words : List (List ℕ))
    → cause_reported (plan_step read words) ≡ first_reported (after_bytes (plan_asks (is_some read) words))
plan_words None words = map_reported (transfer_line words) (λ line. Some line) ∙ made_reported (transfer makes) words
plan_words (Some line) words = refl

pub plan_line : (read : Option TransferLine) (line : List ℕ) → cause_reported (after_line plan_step read line) ≡ line_reported (plan_asks (is_some read)) line
plan_line read = line_is plan_step (plan_asks (is_some read)) read (plan_words read)

-- ---- a line of a race script

early_reported : {B : Type 0} (early : Bool) (r : Result (Option RunScript) Cause) (f : Option RunScript → B) (rest : List (Option Cause))
    → cause_reported r ≡ first_reported rest
    → cause_reported (if early then (r >>= (λ before. Ok (f before))) else Err causes.Command) ≡ first_reported (where_not early causes.Command ∷ rest)
early_reported early r f rest h = grind (arith, map_reported)

-- a job, one too many or not
job_tests : {B : Type 0} (cause : Option Cause) (few : Bool) (found : JobLine) (f : JobLine → B)
    → cause_reported (((unless cause >>= (λ none. Ok found)) >>= job_of) >>= (λ job. where_holds few causes.Range >>= (λ few. Ok (f job)))) ≡ first_reported
    (cause ∷ where_not ((nat_le found.first found.last && nat_le found.last last_channel) && few) causes.Range ∷ [])
job_tests cause few found f = grind (arith)

job_words : {B : Type 0} (words : List (List ℕ)) (few : Bool) (f : JobLine → B)
    → cause_reported (job_line words >>= (λ job. where_holds few causes.Range >>= (λ few. Ok (f job)))) ≡ first_reported
    (word_tests (operands job words) (job_in_range words && few))
job_words words few f = grind (arith, job_tests)

go_words : {B : Type 0} (words : List (List ℕ)) (x : B)
    → cause_reported (no_words words >>= (λ bare. Ok x)) ≡ first_reported (word_tests (operands {A = Unit {0}} (makes tt) words) true)
go_words words x = grind (arith)

race_command : (before : Option RunScript) (jobs : List JobLine) (after : Option (List Statement)) (keyword : RaceKeyword) (words : List (List ℕ))
    → cause_reported (next_race_line (record { before = before; jobs = jobs; after = after }) keyword words) ≡ first_reported
    (after_bytes (race_asked (side_of (record { before = before; jobs = jobs; after = after })) keyword words))
race_command None jobs None (race_keywords.Line keyword) words = grind (arith, early_reported, next_reported)
race_command (Some script) jobs None (race_keywords.Line keyword) words = grind (arith, early_reported, next_reported)
race_command None jobs (Some after) (race_keywords.Line keyword) words = map_reported (later_line keyword words) _ ∙ later_reported keyword words
race_command (Some script) jobs (Some after) (race_keywords.Line keyword) words = map_reported (later_line keyword words) _ ∙ later_reported keyword words
race_command (Some script) jobs None race_keywords.Job words = job_words words (nat_lt (length jobs) 16) _
race_command (Some script) jobs None race_keywords.Go words = go_words words _
race_command _ jobs _ _ words = refl

race_found : (read : RaceRead) (found : Option RaceKeyword) (words : List (List ℕ))
    → cause_reported (ok_or found causes.Command >>= (λ keyword. next_race_line read keyword words)) ≡ first_reported
    (after_bytes (elim found [ None ↦ no_command | Some keyword ↦ race_asked (side_of read) keyword words ]))
race_found read None words = refl
race_found read (Some keyword) words = race_command read.before read.jobs read.after keyword words

race_words : (read : RaceRead) (words : List (List ℕ)) → cause_reported (race_step read words) ≡ first_reported (after_bytes (race_asks (side_of read) words))
race_words read words = grind (arith, race_found)

pub race_line : (read : RaceRead) (line : List ℕ) → cause_reported (after_line race_step read line) ≡ line_reported (race_asks (side_of read)) line
race_line read = line_is race_step (race_asks (side_of read)) read (race_words read)

-- Each reader reports the first cause of the table.
pub first_causes_are_reported : FirstCausesAreReported
first_causes_are_reported = record { run = run_line; race = race_line; plan = plan_line }

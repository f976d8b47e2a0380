-- What holds of each script that is read.
use Rattle.std.proofs.Common.{◌≡◌, ℕ, ◌+◌, ◌≤◌, Bool, true, false, not, ◌&&◌, nat_le, nat_lt, if◌then◌else◌, List, [], ◌∷◌, length, length-append, map, refl}
use Rattle.std.proofs.Common.{arith, Option, Some, None, IfSome, Result, Ok, Err, IfOk, codes, unwrap_or}
use Rattle.std.specs.{List.All, List.list_all, Option.ok_or, Str.bytes_eq, Str.Lines.lines}
use Rattle.std.proofs.{lemmas.Bool.and_parts, lemmas.Bool.leb-true, lemmas.Bool.ltb-true, lemmas.List.Elements.All-push, lemmas.List.Elements.All-nil}
use Rattle.dma_mem.specs.declared.marks.MarkKind.TheVariants.{Reading, Writing}
use Rattle.dma_mem.specs.{declared.marks.MarkKind.MarkKind, declared.segment.Segment.Segment, Limits.last_channel}
use Rattle.dma_script.specs.Lines.{Gives, after_line, after_lines, at_line, is_skipped}
use Rattle.dma_script.specs.Arguments.{any_list, any_number, any_segment, behind, bytes, digits, event, fixed, kind, list, makes, meaning, most_line_steps}
use Rattle.dma_script.specs.Arguments.{number, number_or_zero, number_within, Operand, ranged, segment, Shape, source, Spelled, spelled, steps, unless, within}
use Rattle.dma_script.specs.Arguments.{words_cause}
use Rattle.dma_script.specs.Statements.{IsWithin, keyword_of, memory, first_line, later_line, next_line, run_step, run_script_of, statement}
use Rattle.dma_script.specs.Race.{IsEarly, IsJob, IsRace, RaceRead, behind_memory, is_early, job, job_line, line_after_go, line_beside_go, most_jobs, no_words}
use Rattle.dma_script.specs.Race.{nothing_read, race_step, race_script_of, where_holds}
use Rattle.dma_script.specs.{Words.is_plain, Words.list_of, Words.words_of, declared.fault.Cause.Cause, declared.fault.Cause.TheVariants.Command}
use Rattle.dma_script.specs.{declared.fault.Cause.TheVariants.Byte, declared.fault.Cause.TheVariants.Range, declared.fault.Cause.TheVariants.Words, declared.fault.ReadError.ReadError}
use Rattle.dma_script.specs.{declared.transfer_line.Origin.Origin, declared.statements.Keyword.Keyword, declared.statements.RunScript.RunScript}
use Rattle.dma_script.specs.{declared.statements.Statement.Statement, declared.race.RaceKeyword.RaceKeyword, declared.race.RaceKeyword.TheVariants.Line}
use Rattle.dma_script.specs.{declared.race.RaceKeyword.TheVariants.Job, declared.race.RaceKeyword.TheVariants.Go}
use Rattle.dma_text.specs.Results.{◌>>=◌}
use Rattle.dma_mem.specs.declared.call.Call.TheVariants as calls
use Rattle.dma_script.specs.declared.transfer_line.Origin.TheVariants as origins
use Rattle.dma_script.specs.declared.statements.Keyword.TheVariants as keywords
use Rattle.dma_script.specs.declared.statements.Statement.TheVariants as statements

-- ---- what holds of each value of a result

pub then_holds : {A B E : Type 0} (Q : A → Type 0) (P : B → Type 0) (r : Result A E) (f : A → Result B E) → IfOk r Q → ((a : A) → Q a → IfOk (f a) P)
    → IfOk (r >>= f) P
then_holds Q P r f h h2 = grind (arith)

pub bind_holds : {A B E : Type 0} (P : B → Type 0) (r : Result A E) (f : A → Result B E) → ((a : A) → IfOk (f a) P) → IfOk (r >>= f) P
bind_holds P r f h = grind (arith)

some_holds : {A E : Type 0} (P : A → Type 0) (o : Option A) (e : E) → IfSome o P → IfOk (ok_or o e) P
some_holds P o e h = grind (arith)

where_true : (b : Bool) (cause : Cause) → IfOk (where_holds b cause) (λ _. b ≡ true)
where_true b cause = grind (arith)

-- What holds of the value that a function has to give holds of the value that it returned.
pub given_holds : {A E : Type 0} (P : A → Type 0) (result : Result A (ReadError E)) (gives : Result A E) → Gives (λ a. a) result gives → IfOk gives P
    → IfOk result P
given_holds P result gives h h2 = grind (arith)

-- ---- what a shape makes

-- What holds of everything that words of a shape make, whatever the values of the words.
abbrev Makes : {A : Type 0} → (A → Type 0) → Shape A → Type 0
Makes P (makes a) = P a
Makes P (number next) = (n : ℕ) → Makes P (next n)
Makes P (within low high cause next) = (low ≤ high) × ((n : ℕ) → low ≤ n → n ≤ high → Makes P (next n))
Makes P (segment next) = (s : Segment) → Makes P (next s)
Makes P (list next) = (l : List Segment) → Makes P (next l)
Makes P (steps next) = (n : ℕ) → Makes P (next n)
Makes P (bytes next) = (b : List ℕ) → Makes P (next b)
Makes P (fixed text rest) = Makes P rest
Makes P (event name next) = (e : Option ℕ) → Makes P (next e)
Makes P (source next) = (o : Origin) → Makes P (next o)
Makes P (kind next) = (k : MarkKind) → Makes P (next k)

-- what holds of what was made of words
abbrev IsMade : {A : Type 0} → (A → Type 0) → Option (Spelled A) → Type 0
IsMade P found = IfSome found (λ found. P found.made)

behind_holds : {A : Type 0} (P : A → Type 0) (operands : List Operand) (found : Option (Spelled A)) → IsMade P found → IsMade P (behind operands found)
behind_holds P operands found h = grind (arith)

if_holds : {A : Type 0} (P : A → Type 0) (test : Bool) (x y : Option (Spelled A)) → IsMade P x → IsMade P y → IsMade P (if test then x else y)
if_holds P test x y h h2 = grind (arith)

fits_within : (low high n : ℕ) (a b : Bool) → low ≤ high → nat_le low n ≡ a → nat_le n high ≡ b → let found = if a && b then n else low in (low ≤ found)
    × (found ≤ high)
fits_within low high n a b h h2 h3 = grind (arith, leb-true)

number_lies : (low high : ℕ) (word : List ℕ) → low ≤ high → (low ≤ number_within low high word) × (number_within low high word ≤ high)
number_lies low high word some =
    fits_within low high (number_or_zero word) (nat_le low (number_or_zero word)) (nat_le (number_or_zero word) high) some refl refl

spelled_holds : {A : Type 0} (P : A → Type 0) (shape : Shape A) (words : List (List ℕ)) → Makes P shape → IsMade P (spelled shape words)
spelled_holds P (makes a) [] h = h
spelled_holds P (number next) (word ∷ words) h = behind_holds P (any_number word ∷ []) _ (spelled_holds P (next _) words (h _))
spelled_holds P (within low high cause next) (word ∷ words) h = let lies = number_lies low high word h.0 in
    behind_holds P (ranged low high cause word ∷ []) _ (spelled_holds P (next _) words (h.1 _ lies.0 lies.1))
spelled_holds P (segment next) (word ∷ words) h = behind_holds P (any_segment word ∷ []) _ (spelled_holds P (next _) words (h _))
spelled_holds P (list next) (word ∷ words) h = behind_holds P (any_list word ∷ []) _ (spelled_holds P (next _) words (h _))
spelled_holds P (steps next) [] h = spelled_holds P (next 1) [] (h 1)
spelled_holds P (steps next) (word ∷ words) h = behind_holds P (ranged 1 most_line_steps Range word ∷ []) _ (spelled_holds P (next _) words (h _))
spelled_holds P (bytes next) (word ∷ words) h = behind_holds P (map digits (word ∷ words)) _ (spelled_holds P (next _) [] (h _))
spelled_holds P (fixed text rest) (word ∷ words) h = if_holds P (bytes_eq word text) _ None (spelled_holds P rest words h) tt
spelled_holds P (event name next) [] h = spelled_holds P (next None) [] (h None)
spelled_holds P (event name next) (word ∷ []) h = if_holds P (bytes_eq word name) None _ tt (spelled_holds P (next None) (word ∷ []) (h None))
spelled_holds P (event name next) (word ∷ e ∷ words) h =
    if_holds P (bytes_eq word name) _ _ (behind_holds P (ranged 0 255 Range e ∷ []) _ (spelled_holds P (next (Some _)) words (h _)))
    (spelled_holds P (next None) (word ∷ e ∷ words) (h None))
spelled_holds P (source next) (word ∷ []) h =
    if_holds P (bytes_eq word (codes "fill")) None _ tt (behind_holds P (any_list word ∷ []) _ (spelled_holds P (next _) [] (h _)))
spelled_holds P (source next) (word ∷ addr ∷ words) h =
    if_holds P (bytes_eq word (codes "fill")) _ _ (behind_holds P (any_number addr ∷ []) _ (spelled_holds P (next _) words (h _)))
    (behind_holds P (any_list word ∷ []) _ (spelled_holds P (next (origins.List (unwrap_or (list_of word) []))) (addr ∷ words) (h _)))
spelled_holds P (kind next) (word ∷ words) h =
    if_holds P (bytes_eq word (codes "read")) _ _ (spelled_holds P (next Reading) words (h Reading))
    (if_holds P (bytes_eq word (codes "write")) _ None (spelled_holds P (next Writing) words (h Writing)) tt)
spelled_holds P _ words h = tt

made_holds : {A : Type 0} (P : A → Type 0) (found : Option (Spelled A)) → IsMade P found
    → IfOk (elim found [ None ↦ Err Words | Some found ↦ unless (words_cause (Some found.operands)) >>= (λ none. Ok found.made) ]) P
made_holds P found h = grind (arith, bind_holds)

meaning_holds : {A : Type 0} (P : A → Type 0) (shape : Shape A) (words : List (List ℕ)) → Makes P shape → IfOk (meaning shape words) P
meaning_holds P shape words h = made_holds P (spelled shape words) (spelled_holds P shape words h)

shape_holds : {A : Type 0} (P : A → Type 0) (shape : Result (Shape A) Cause) (words : List (List ℕ)) → IfOk shape (Makes P)
    → IfOk (shape >>= (λ shape. meaning shape words)) P
shape_holds P shape words h = grind (arith, meaning_holds)

-- ---- the lines of a script

-- A line that is skipped or not, by what then holds.
pub lined : {S : Type 0} (P : Bool → S → Type 0) (skipped plain : Bool) (read : S) (stepped : Result S Cause) → P false read → IfOk stepped (P true)
    → IfOk (if skipped then Ok read else (if plain then stepped else Err Byte)) (P (not skipped))
lined P skipped plain read stepped h h2 = grind (arith)

at_holds : {S : Type 0} (P : S → Type 0) (n : ℕ) (r : Result S Cause) → IfOk r P → IfOk (at_line n r) P
at_holds P n r h = grind (arith)

-- What each step keeps holds of what the lines of a script give.
lines_hold : {S : Type 0} (step : S → List (List ℕ) → Result S Cause) (P : S → Type 0)
    → ((read : S) (words : List (List ℕ)) → P read → IfOk (step read words) P) → (n : ℕ) (read : S) (rest : List (List ℕ)) → P read
    → IfOk (after_lines step n read rest) P
lines_hold step P more n read [] h = h
lines_hold step P more n read (line ∷ rest) h =
    then_holds P P (at_line (n + 1) (after_line step read line)) (λ next. after_lines step (n + 1) next rest)
    (at_holds P (n + 1) (after_line step read line)
    (lined (λ _. P) (is_skipped (words_of line)) (list_all is_plain line) read (step read (words_of line)) h (more read (words_of line) h)))
    (λ next is. lines_hold step P more (n + 1) next rest is)

-- ---- run scripts

-- what holds of a script, given what holds of each of its statements
abbrev pub IsBefore : (Statement → Type 0) → RunScript → Type 0
IsBefore P script = IsWithin script × All P script.statements

first_holds : (P : Statement → Type 0) (keyword : Keyword) (words : List (List ℕ)) → IfOk (first_line keyword words) (IsBefore P)
first_holds P keywords.Memory words =
    meaning_holds (IsBefore P) memory words (omega arith, λ size low high. (omega arith, λ channels some few. ((low, high, some, few), All-nil P)))
first_holds P _ words = tt

abbrev ReadBefore : (Statement → Type 0) → Option RunScript → Type 0
ReadBefore P read = IfSome read (IsBefore P)

next_holds : (P : Statement → Type 0) (keyword : Keyword) (words : List (List ℕ)) (read : Option RunScript) → IfOk (later_line keyword words) P
    → ReadBefore P read → IfOk (next_line read keyword words) (ReadBefore P)
next_holds P keyword words None later h =
    then_holds (IsBefore P) (ReadBefore P) (first_line keyword words) (λ script. Ok (Some script)) (first_holds P keyword words) (λ script is. is)
next_holds P keyword words (Some script) later h =
    then_holds P (ReadBefore P) (later_line keyword words) _ later (λ statement is. (h.0, All-push P script.statements statement h.1 is))

-- a statement that submits no transfer whose rules were not tested
abbrev pub IsNoSubmit : Statement → Type 0
IsNoSubmit (statements.Call (calls.Submit ch transfer)) = ⊥
IsNoSubmit _ = Unit {0}

makes_no_submit : (keyword : Keyword) → IfOk (statement keyword) (Makes IsNoSubmit)
makes_no_submit keyword = grind (arith)

run_holds : (read : Option RunScript) (words : List (List ℕ)) → ReadBefore IsNoSubmit read → IfOk (run_step read words) (ReadBefore IsNoSubmit)
run_holds read [] h = tt
run_holds read (word ∷ words) h =
    bind_holds (ReadBefore IsNoSubmit) (ok_or (keyword_of word) _) _
    (λ keyword. next_holds IsNoSubmit keyword words read (shape_holds IsNoSubmit (statement keyword) words (makes_no_submit keyword)) h)

-- The memory line of a run script is in range, and its statements submit only transfers whose rules are tested.
pub run_script_within : (input : List ℕ) → IfOk (run_script_of input) (IsBefore IsNoSubmit)
run_script_within input =
    then_holds (ReadBefore IsNoSubmit) (IsBefore IsNoSubmit) (after_lines run_step 0 None (lines input)) _
    (lines_hold run_step (ReadBefore IsNoSubmit) run_holds 0 None (lines input) tt) (λ read h. some_holds (IsBefore IsNoSubmit) read _ h)

-- ---- race scripts

-- A line whose keyword is allowed before `go` is a statement that is allowed there.
makes_early : (keyword : Keyword) → is_early keyword ≡ true → IfOk (statement keyword) (Makes IsEarly)
makes_early keyword h = grind (arith)

-- what holds of a race script that was read so far
abbrev IsRead : RaceRead → Type 0
IsRead read = IfSome read.before (IsBefore IsEarly) × All IsJob read.jobs × (length read.jobs ≤ most_jobs)

early_holds : (read : RaceRead) (keyword : Keyword) (words : List (List ℕ)) (early : Bool) → is_early keyword ≡ early → IsRead read
    → IfOk (if early then (next_line read.before keyword words >>= (λ before. let next : RaceRead = record read { before = before } in Ok next)) else Err
    Command) IsRead
early_holds read keyword words true early h =
    then_holds (ReadBefore IsEarly) IsRead (next_line read.before keyword words) _
    (next_holds IsEarly keyword words read.before (shape_holds IsEarly (statement keyword) words (makes_early keyword early)) h.0) (λ before is. (is, h.1, h.2))
early_holds read keyword words false early h = tt

is_job : (first last turns : ℕ) → (nat_le first last && nat_le last last_channel) ≡ true → IsJob (record { first = first; last = last; turns = turns })
is_job first last turns is = let parts = and_parts (nat_le first last) (nat_le last last_channel) is in
    (leb-true first last parts.0, leb-true last last_channel parts.1)

job_holds : (words : List (List ℕ)) → IfOk (job_line words) IsJob
job_holds words =
    bind_holds IsJob (meaning job words) _ (λ found.
    then_holds (λ _. (nat_le found.first found.last && nat_le found.last last_channel) ≡ true) IsJob
    (where_holds (nat_le found.first found.last && nat_le found.last last_channel) _) _
    (where_true (nat_le found.first found.last && nat_le found.last last_channel) _)
    (λ u is. is_job found.first found.last found.turns is))

beside_holds : (after : Option (List Statement)) (read : RaceRead) (keyword : RaceKeyword) (words : List (List ℕ)) → IsRead read
    → IfOk (line_beside_go after read keyword words) IsRead
beside_holds None read (Line keyword) words h = early_holds read keyword words (is_early keyword) refl h
beside_holds None read Job words h =
    bind_holds IsRead (behind_memory read.before) _ (λ behind. then_holds IsJob IsRead (job_line words) _ (job_holds words) (λ job is.
    then_holds (λ _. nat_lt (length read.jobs) most_jobs ≡ true) IsRead (where_holds (nat_lt (length read.jobs) most_jobs) _) _
    (where_true (nat_lt (length read.jobs) most_jobs) _) (λ u few.
    (h.0, All-push IsJob read.jobs job h.1 is, omega (arith, length-append read.jobs (job ∷ []), ltb-true (length read.jobs) most_jobs few)))))
beside_holds None read Go words h = bind_holds IsRead (behind_memory read.before) _ (λ behind. bind_holds IsRead (no_words words) _ (λ bare. h))
beside_holds (Some after) read keyword words h = bind_holds IsRead (line_after_go keyword words) _ (λ statement. h)

race_holds : (read : RaceRead) (words : List (List ℕ)) → IsRead read → IfOk (race_step read words) IsRead
race_holds read words h = grind (arith, bind_holds, beside_holds)

-- A race script is as `IsRace` says.
pub race_script_within : (input : List ℕ) → IfOk (race_script_of input) IsRace
race_script_within input =
    then_holds IsRead IsRace (after_lines race_step 0 nothing_read (lines input)) _
    (lines_hold race_step IsRead race_holds 0 nothing_read (lines input) (tt, All-nil IsJob, omega arith)) (λ read h.
    then_holds (IsBefore IsEarly) IsRace (ok_or read.before _) _ (some_holds (IsBefore IsEarly) read.before _ h.0) (λ before is.
    bind_holds IsRace (ok_or read.after _) _ (λ after. record { memory = is.0; early = is.1; jobs = h.1; few = h.2 })))

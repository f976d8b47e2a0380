-- The script of `run` of a race is read as the lines of the race, with its turns as step lines.
use Rattle.std.proofs.Common.{◌≡◌, ℕ, zero, suc, ◌+◌, ◌≤◌, true, false, List, [], ◌∷◌, ◌++◌, codes, Option, Some, None, Result, Ok, Err, refl, ap, sym, ◌∙◌}
use Rattle.std.proofs.Common.{subst, arith, append_assoc, append-nil, inl, inr, map}
use Rattle.std.specs.Prelude.{◌⊎◌, decimal, flat_map, if◌then◌else◌, slice_index, ◌==◌, IfOk, nat_lt, length}
use Rattle.std.specs.{List.list_all, Option.ok_or, Option.option_map, Str.bytes_eq, Str.Lines.lines}
use Rattle.std.proofs.{lemmas.Bool.cases_Bool, lemmas.Fmt.decimal_digit, lemmas.List.Concat.flat_map-append, lemmas.Result.IfOk-at_ok, lemmas.Result.IfOk-weaker}
use Rattle.dma_io.specs.Command.{text_of}
use Rattle.dma_text.specs.Results.{◌>>=◌}
use Rattle.dma_script.specs.Lines.{after_line, after_lines, at_line, is_skipped}
use Rattle.dma_script.specs.Race.{IsRace, RaceRead, behind_memory, is_early, job_line, most_jobs, no_words, nothing_read, race_script_of, race_step}
use Rattle.dma_script.specs.Race.{where_holds}
use Rattle.dma_script.specs.Statements.{keyword_of, later_line, next_line, run_script_of, run_step}
use Rattle.dma_script.specs.{Words.is_plain, Words.words_of, declared.fault.Cause.Cause, declared.race.JobLine.JobLine, declared.race.RaceScript.RaceScript}
use Rattle.dma_script.specs.{declared.statements.Keyword.Keyword, declared.statements.RunScript.RunScript, declared.statements.Statement.Statement}
use Rattle.dma_script.proofs.Within.{race_script_within}
use Rattle.dma_engine.specs.Interleaved.{JobTurn}
use Rattle.dma_seeds.specs.{Script.ScriptsAreRead, Script.as_run, Script.script_text_of, Script.text_for, Script.turn_line, Turns.turns_of_seed}
use Rattle.dma_seeds.proofs.TextLemmas.{ArePlain, lines_text, plain_append}
use Rattle.dma_seeds.proofs.TurnLemmas.{AreLow, seeds_low}
use Rattle.dma_script.specs.declared.fault.Cause.TheVariants as causes
use Rattle.dma_script.specs.declared.statements.Statement.TheVariants as statements

-- ---- results

-- What holds of each value of a step after another, which succeeded.
bind_eq : {A B E : Type 0} (P : B → Type 0) (r : Result A E) (f : A → Result B E) → ((a : A) → r ≡ Ok a → IfOk (f a) P) → IfOk (r >>= f) P
bind_eq P r f h = grind (arith)

from_line : {S : Type 0} (n : ℕ) (r : Result S Cause) (y : S) → at_line n r ≡ Ok y → r ≡ Ok y
from_line n r y h = grind (arith)

pub option_cases : {A : Type 0} (o : Option A) → (o ≡ None) ⊎ ((a : A) × (o ≡ Some a))
option_cases None = inl refl
option_cases (Some a) = inr (a, refl)

-- ---- lines that are read one after another

-- Lines of a run script are read without a fault, from one state to another.
abbrev Reads : Option RunScript → List (List ℕ) → Option RunScript → Type 0
Reads r [] s = s ≡ r
Reads r (line ∷ rest) s = (next : Option RunScript) × (after_line run_step r line ≡ Ok next) × Reads next rest s

reads_append : (r s t : Option RunScript) (xs ys : List (List ℕ)) → Reads r xs s → Reads s ys t → Reads r (xs ++ ys) t
reads_append r s t [] ys first rest = subst (λ x. Reads x ys t) first rest
reads_append r s t (x ∷ xs) ys (next, one, more) rest = (next, one, reads_append next s t xs ys more rest)

reads_lines : (n : ℕ) (r s : Option RunScript) (ls : List (List ℕ)) → Reads r ls s → after_lines run_step n r ls ≡ Ok s
reads_lines n r s [] same = ap Ok (sym same)
reads_lines n r s (line ∷ rest) (next, one, more) = rw one (reads_lines (n + 1) next s rest more)

-- ---- the state of a run script for that of a race script

-- the lines before `go`; after `go`, with the steps of the turns and the lines after it
abbrev state : List Statement → Option RunScript → Option (List Statement) → Option RunScript
state steps before None = before
state steps before (Some after) = option_map (λ (b : RunScript). record b { statements = (b.statements ++ steps) ++ after }) before

-- `go` comes after the memory line
abbrev Begun : Option RunScript → Option (List Statement) → Type 0
Begun before None = Unit {0}
Begun before (Some after) = (b : RunScript) × (before ≡ Some b)

-- the lines that replace a line, given its words
abbrev lines_for : List (List ℕ) → List ℕ → List (List ℕ) → List (List ℕ)
lines_for turns line [] = []
lines_for turns line (word ∷ words) =
    if slice_index word 0 == 35 then [] else (
    if bytes_eq word (codes "job") then [] else (
    if bytes_eq word (codes "go") then turns else line ∷ []))

-- turns are read as steps
abbrev ReadAsSteps : List (List ℕ) → List Statement → Type 0
ReadAsSteps turns steps =
    (b : RunScript) → Reads (Some b) turns (Some (record b { statements = b.statements ++ steps }))

-- What a line of a race script does to the run script.
pub record Follows (steps : List Statement) (before : Option RunScript) (after : Option (List Statement)) (ls : List (List ℕ)) (next : RaceRead) : Type 0 where
  pub read : Reads (state steps before after) ls (state steps next.before next.after)
  pub begun : Begun next.before next.after
  pub plain : ArePlain ls

memory_there : (before : Option RunScript) (u : Unit {0}) → behind_memory before ≡ Ok u → (b : RunScript) × (before ≡ Some b)
memory_there before u h = grind (arith)

module _ (turns : List (List ℕ)) (steps : List Statement) (as_steps : ReadAsSteps turns steps) (turns_plain : ArePlain turns) where
  go_read : (before : Option RunScript) (b : RunScript) → before ≡ Some b → Reads before turns (state steps before (Some []))
  go_read before b there = grind (arith, append-nil)

  later_read : (b : RunScript) (after : List Statement) (st : Statement) (line : List ℕ)
      → after_line run_step (state steps (Some b) (Some after)) line ≡ Ok (Some (record b { statements = ((b.statements ++ steps) ++ after) ++ st ∷ [] }))
      → Reads (state steps (Some b) (Some after)) (line ∷ []) (state steps (Some b) (Some (after ++ st ∷ [])))
  later_read b after st line one = grind (arith, append_assoc)

  -- a line that is not skipped
  module _ (line word : List ℕ) (words : List (List ℕ)) (are : words_of line ≡ word ∷ words) (kept : (slice_index word 0 == 35) ≡ false)
      (plain : list_all is_plain line ≡ true) where
    one_line : (k : Keyword) → keyword_of word ≡ Some k → (r s : Option RunScript) → next_line r k words ≡ Ok s → after_line run_step r line ≡ Ok s
    one_line k spelled r s is = rw (are, kept, plain, spelled) is

    step_follows : (before : Option RunScript) (jobs : List JobLine) (after : Option (List Statement)) → Begun before after
        → IfOk (race_step (record { before = before; jobs = jobs; after = after }) (word ∷ words))
        (λ next. Follows steps before after (if bytes_eq word (codes "job") then [] else (if bytes_eq word (codes "go") then turns else line ∷ [])) next)
    step_follows before jobs None begun = elim (cases_Bool (bytes_eq word (codes "job"))) [
      | inl job ↦
          let P = λ (next : RaceRead). Follows steps before None [] next in
          rw job
          (bind_eq P (behind_memory before) _
          (λ u there. bind_eq P (job_line words) _ (λ j spelled. bind_eq P (where_holds (nat_lt (length jobs) most_jobs) causes.Range) _ (λ w few.
          record { read = refl; begun = tt; plain = tt }))))
      | inr other_word ↦ rw other_word (elim (cases_Bool (bytes_eq word (codes "go"))) [
        | inl go ↦
            let P = λ (next : RaceRead). Follows steps before None turns next in
            rw go
            (bind_eq P (behind_memory before) _ (λ u there. bind_eq P (no_words words) _ (λ w bare.
            let b = memory_there before u there in
            record { read = go_read before b.0 b.1; begun = b; plain = turns_plain })))
        | inr other ↦ rw other (elim (option_cases (keyword_of word)) [
          | inl none ↦ rw none tt
          | inr (k, spelled) ↦ rw spelled (elim (cases_Bool (is_early k)) [
            | inl early ↦
                let P = λ (next : RaceRead). Follows steps before None (line ∷ []) next in
                rw early
                (bind_eq P (next_line before k words) _ (λ b is.
                record { read = (b, one_line k spelled before b is, refl); begun = tt; plain = (plain, tt) }))
            | inr late ↦ rw late tt
          ])
        ])
      ])
    ]
    step_follows before jobs (Some after) (b, there) = elim (cases_Bool (bytes_eq word (codes "job"))) [
      | inl job ↦ rw job tt
      | inr other_word ↦ rw other_word (elim (cases_Bool (bytes_eq word (codes "go"))) [
        | inl go ↦ rw go tt
        | inr other ↦ rw other (elim (option_cases (keyword_of word)) [
          | inl none ↦ rw none tt
          | inr (k, spelled) ↦
              let P = λ (next : RaceRead). Follows steps before (Some after) (line ∷ []) next in
              rw spelled
              (bind_eq P (later_line k words) _ (λ st is.
              let whole = record b { statements = (b.statements ++ steps) ++ after } in
              let later : next_line (Some whole) k words ≡ Ok (Some (record b { statements = ((b.statements ++ steps) ++ after) ++ st ∷ [] })) = rw is refl in
              record {
                read = subst (λ x. Reads (state steps x (Some after)) (line ∷ []) (state steps x (Some (after ++ st ∷ [])))) (sym there)
                    (later_read b after st line (one_line k spelled (Some whole) _ later));
                begun = (b, there);
                plain = (plain, tt);
              }))
        ])
      ])
    ]

  words_follow : (read : RaceRead) (line : List ℕ) (words : List (List ℕ)) → words_of line ≡ words → Begun read.before read.after
      → IfOk (if is_skipped words then Ok read else (if list_all is_plain line then race_step read words else Err causes.Byte))
      (λ next. Follows steps read.before read.after (lines_for turns line words) next)
  words_follow read line [] are begun = record { read = refl; begun = begun; plain = tt }
  words_follow read line (word ∷ words) are begun = elim (cases_Bool (slice_index word 0 == 35)) [
    | inl skip ↦ rw skip (record { read = refl; begun = begun; plain = tt })
    | inr kept ↦ rw kept (elim (cases_Bool (list_all is_plain line)) [
      | inl plain ↦ rw plain (step_follows line word words are kept plain read.before read.jobs read.after begun)
      | inr odd ↦ rw odd tt
    ])
  ]

  lines_follow : (n : ℕ) (ls : List (List ℕ)) (read : RaceRead) → Begun read.before read.after
      → IfOk (after_lines race_step n read ls)
      (λ final. Follows steps read.before read.after (flat_map (λ line. lines_for turns line (words_of line)) ls) final)
  lines_follow n [] read begun = record { read = refl; begun = begun; plain = tt }
  lines_follow n (line ∷ rest) read begun =
      let here = lines_for turns line (words_of line) in
      let others = flat_map (λ l. lines_for turns l (words_of l)) rest in
      bind_eq (λ final. Follows steps read.before read.after (here ++ others) final) (at_line (n + 1) (after_line race_step read line)) _ (λ next is.
      let first = IfOk-at_ok (λ x. Follows steps read.before read.after here x) (from_line (n + 1) (after_line race_step read line) next is)
      (words_follow read line (words_of line) refl begun) in
      IfOk-weaker (after_lines race_step (n + 1) next rest) (λ final. Follows steps next.before next.after others final)
      (λ final. Follows steps read.before read.after (here ++ others) final)
      (λ final more. record {
        read = reads_append (state steps read.before read.after) (state steps next.before next.after) (state steps final.before final.after) here others
            first.read more.read;
        begun = more.begun;
        plain = plain_append here others first.plain more.plain;
      }) (lines_follow (n + 1) rest next first.begun))

-- ---- step lines

abbrev step_of : JobTurn → Statement
step_of turn = statements.Step turn.channel 1

-- a step of one of the first eight channels
digit_read : (ch : ℕ) → ch ≤ 7 → (b : RunScript)
    → (after_line run_step (Some b) (codes "step " ++ (48 + ch) ∷ []) ≡ Ok (Some (record b { statements = b.statements ++ statements.Step ch 1 ∷ [] })))
    × (list_all is_plain (codes "step " ++ (48 + ch) ∷ []) ≡ true)
digit_read zero low b = (refl, refl)
digit_read (suc zero) low b = (refl, refl)
digit_read (suc (suc zero)) low b = (refl, refl)
digit_read (suc (suc (suc zero))) low b = (refl, refl)
digit_read (suc (suc (suc (suc zero)))) low b = (refl, refl)
digit_read (suc (suc (suc (suc (suc zero))))) low b = (refl, refl)
digit_read (suc (suc (suc (suc (suc (suc zero)))))) low b = (refl, refl)
digit_read (suc (suc (suc (suc (suc (suc (suc zero))))))) low b = (refl, refl)
digit_read (suc (suc (suc (suc (suc (suc (suc (suc n)))))))) low b = absurd (omega arith)

turn_read : (ch : ℕ) → ch ≤ 7 → (b : RunScript)
    → (after_line run_step (Some b) (codes "step " ++ decimal ch) ≡ Ok (Some (record b { statements = b.statements ++ statements.Step ch 1 ∷ [] })))
    × (list_all is_plain (codes "step " ++ decimal ch) ≡ true)
turn_read ch low b = grind (arith, decimal_digit, digit_read)

steps_read : (turns : List JobTurn) → AreLow turns → ReadAsSteps (map turn_line turns) (map step_of turns)
steps_read [] low b = ap (λ s. Some (record b { statements = s })) (append-nil b.statements)
steps_read (t ∷ turns) (low, rest) b =
    let one = record b { statements = b.statements ++ step_of t ∷ [] } in (
      Some one,
      (turn_read t.channel low b).0,
      subst (λ s. Reads (Some one) (map turn_line turns) (Some (record b { statements = s })))
          (append_assoc b.statements (step_of t ∷ []) (map step_of turns)) (steps_read turns rest one),
    )

steps_plain : (turns : List JobTurn) (b : RunScript) → AreLow turns → ArePlain (map turn_line turns)
steps_plain [] b low = tt
steps_plain (t ∷ turns) b (low, rest) = ((turn_read t.channel low b).1, steps_plain turns b rest)

-- ---- the text

text_is : (turns : List (List ℕ)) (line : List ℕ) (words : List (List ℕ)) → text_for (text_of turns) line words ≡ text_of (lines_for turns line words)
text_is turns line words = grind (arith, cases_Bool, append-nil)

texts_are : (turns : List (List ℕ)) (ls : List (List ℕ))
    → flat_map (λ line. text_for (text_of turns) line (words_of line)) ls ≡ text_of (flat_map (λ line. lines_for turns line (words_of line)) ls)
texts_are turns [] = refl
texts_are turns (line ∷ rest) = grind (arith, text_is, flat_map-append, texts_are turns rest)

-- ---- whole scripts

-- the parts of a script that was read
pub record ReadInParts (input : List ℕ) (script : RaceScript) : Type 0 where
  pub read : RaceRead
  pub lines_are : after_lines race_step 0 nothing_read (lines input) ≡ Ok read
  pub before : read.before ≡ Some script.before
  pub after : read.after ≡ Some script.after

from_some : {A E : Type 0} (o : Option A) (e : E) (a : A) → ok_or o e ≡ Ok a → o ≡ Some a
from_some o e a h = grind (arith)

parts_of : (input : List ℕ) → IfOk (race_script_of input) (ReadInParts input)
parts_of input = grind (arith, bind_eq, from_some)

pub scripts_are_read : ScriptsAreRead
scripts_are_read input script seed is =
    let turns = turns_of_seed script.jobs seed in
    let race = IfOk-at_ok IsRace is (race_script_within input) in
    let parts = IfOk-at_ok (ReadInParts input) is (parts_of input) in
    let low = seeds_low script.jobs seed race.jobs in
    let steps = map step_of turns in
    let ls = flat_map (λ line. lines_for (map turn_line turns) line (words_of line)) (lines input) in
    let follows = IfOk-at_ok (λ final. Follows steps None None ls final) parts.lines_are
    (lines_follow (map turn_line turns) steps (steps_read turns low) (steps_plain turns script.before low) 0 (lines input) nothing_read tt) in
    let text : script_text_of (race_script_of input) input seed ≡ text_of ls = ap (λ r. script_text_of r input seed) is
    ∙ texts_are (map turn_line turns) (lines input) in
    let read : after_lines run_step 0 None (lines (text_of ls)) ≡ Ok (Some (as_run script turns)) = grind (arith, lines_text, reads_lines) in
    ap run_script_of text ∙ rw read refl

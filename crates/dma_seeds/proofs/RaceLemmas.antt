-- What the lines and the turns of a race do.
use Rattle.std.proofs.Common.{◌≡◌, ℕ, ◌+◌, ◌≤◌, List, [], ◌∷◌, ◌++◌, drop, length, length-append, map, Result, Ok, Err, inl, refl, ap, subst, ◌∙◌, arith}
use Rattle.std.proofs.Common.{append-nil, append_assoc}
use Rattle.std.specs.List.{sum, sum_by}
use Rattle.std.proofs.{Math.Seq.drop-append_seam, Math.Seq.take-append_seam, lemmas.List.map-append, lemmas.List.Sums.sum_by-cons}
use Rattle.dma_engine.specs.Turn.{finishes_in, steps_in, turn}
use Rattle.dma_engine.specs.{declared.fault.EngineFault.EngineFault, declared.turn.Turn.Turn}
use Rattle.dma_engine.specs.{Interleaved.JobTurn, Interleaved.turns_taken, View.View}
use Rattle.dma_io.specs.Command.{printed_text, text_of}
use Rattle.dma_script.specs.Interpreted.{ActsInTurn, PrintsLines}
use Rattle.dma_script.specs.{Race.race_script_of, declared.fault.Fault.Fault, declared.race.RaceScript.RaceScript, declared.statements.Statement.Statement}
use Rattle.dma_script.proofs.InterpretedLemmas.{printed_text_append}
use Rattle.dma_commands.specs.Raced.{EarlyPrints, first_view, from_go, go_line, race_prints_of, whole}
use Rattle.dma_commands.specs.{Left.lines_left, Left.view_after, Run.line_answer, Run.lines_answered}
use Rattle.dma_seeds.specs.{Race.SeedsAreRaces, Race.early_lines, Race.race_printed_of, Race.raced, Seeds.text_from_go, Turns.turns_of_seed}
use Rattle.dma_seeds.specs.{inner.Measured.Prints, inner.Measured.lengths_of, inner.Measured.pieces, inner.Started.RacedFrom}
use Rattle.dma_seeds.proofs.TurnLemmas.{seeds_interleave_law}

-- ---- lines that were measured

-- an interpreter with this view and these lengths executes a line as `run` does, and keeps the length of its text
abbrev pub MeasuresSeen : {S : Type 0} → (S → View) → (S → List ℕ) → S → Statement → List (List ℕ) → S → Type 0
MeasuresSeen seen lengths found line group left =
    (line_answer (seen found) line ≡ (group, seen left)) × (lengths left ≡ lengths found ++ length (text_of group) ∷ [])

-- what lines print that were executed one after another, the view after them, and the lengths
pub record Measured (v w : View) (lines : List Statement) (groups : List (List (List ℕ))) (lengths lengths' : List ℕ) : Type 0 where
  pub groups_are : groups ≡ lines_answered v lines
  pub left : w ≡ lines_left v lines
  pub lengths_are : lengths' ≡ lengths ++ lengths_of groups

pub measured_in_turn : {S : Type 0} (seen : S → View) (lengths : S → List ℕ) (lines : List Statement) (found left : S) (groups : List (List (List ℕ)))
    → ActsInTurn (MeasuresSeen seen lengths) lines found groups left → Measured (seen found) (seen left) lines groups (lengths found) (lengths left)
measured_in_turn seen lengths [] found left [] done = grind (arith, append-nil)
measured_in_turn seen lengths [] found left (g ∷ groups) done = absurd done
measured_in_turn seen lengths (line ∷ lines) found left [] done = absurd done
measured_in_turn seen lengths (line ∷ lines) found left (g ∷ groups) (next, (acts, longer), rest) =
    let more = measured_in_turn seen lengths lines next left groups rest in
    record {
      groups_are = rw acts (ap (λ l. g ∷ l) more.groups_are);
      left = rw acts more.left;
      lengths_are = more.lengths_are ∙ ap (λ l. l ++ lengths_of groups) longer ∙ append_assoc (lengths found) (length (text_of g) ∷ []) (lengths_of groups);
    }

-- measured lines print their answers
pub measured_prints : {S : Type 0} (seen : S → View) (lengths : S → List ℕ) (lines : List Statement) (found left : S) (old new : List ℕ)
    → PrintsLines (MeasuresSeen seen lengths) found lines left old new → Prints (lines_answered (seen found) lines) old new (lengths found) (lengths left)
measured_prints seen lengths lines found left old new done = grind (arith, measured_in_turn)

pub measured_left : {S : Type 0} (seen : S → View) (lengths : S → List ℕ) (lines : List Statement) (found left : S) (old new : List ℕ)
    → PrintsLines (MeasuresSeen seen lengths) found lines left old new → seen left ≡ lines_left (seen found) lines
measured_left seen lengths lines found left old new done = grind (arith, measured_in_turn)

-- ---- turns

-- The first turns were taken, from one view to another, and some are left. What all of them do is what the first did
-- and what the others will do.
pub record TookSome (v : View) (turns : List JobTurn) (w : View) (rest : List JobTurn) (steps finished : ℕ) : Type 0 where
  pub left : (turns_taken v turns).1 ≡ (turns_taken w rest).1
  pub steps_are : sum_by steps_in (turns_taken v turns).0 ≡ steps + sum_by steps_in (turns_taken w rest).0
  pub finished_are : sum_by finishes_in (turns_taken v turns).0 ≡ finished + sum_by finishes_in (turns_taken w rest).0
  pub few : steps + length rest ≤ length turns
  pub fewer : finished ≤ steps

-- a result counts at most one step, and a finish only with a step
counts : (r : Result Turn EngineFault) → (finishes_in r ≤ steps_in r) × (steps_in r ≤ 1)
counts r = grind (arith)

abbrev Taken : Type 0
Taken = List (Result Turn EngineFault) × View

one_more : (w x : View) (t : JobTurn) (left : List JobTurn) (r : Result Turn EngineFault) → (r, x) ≡ turn w t.channel
    → turns_taken w (t ∷ left) ≡ (r ∷ (turns_taken x left).0, (turns_taken x left).1)
one_more w x t left r is = grind arith

pub took_none : (v : View) (turns : List JobTurn) → TookSome v turns v turns 0 0
took_none v turns = record { left = refl; steps_are = omega arith; finished_are = omega arith; few = omega arith; fewer = omega arith }

pub took_more : (v w x : View) (turns rest left : List JobTurn) (t : JobTurn) (steps finished steps' finished' : ℕ) (r : Result Turn EngineFault)
    → TookSome v turns w rest steps finished → rest ≡ t ∷ left → (r, x) ≡ turn w t.channel → steps' ≡ steps + steps_in r → finished' ≡ finished + finishes_in r
    → TookSome v turns x left steps' finished'
took_more v w x turns rest left t steps finished steps' finished' r took split is more ends =
    let next = ap (turns_taken w) split ∙ one_more w x t left r is in
    let many = counts r in
    let after = (turns_taken x left).0 in
    record {
      left = took.left ∙ ap (λ (a : Taken). a.1) next;
      steps_are = omega (arith, took.steps_are, ap (λ (a : Taken). sum_by steps_in a.0) next, sum_by-cons steps_in r after, more);
      finished_are = omega (arith, took.finished_are, ap (λ (a : Taken). sum_by finishes_in a.0) next, sum_by-cons finishes_in r after, ends);
      few = omega (arith, took.few, ap length split, many.1, more);
      fewer = omega (arith, took.fewer, many.0, more, ends);
    }

-- ---- what is printed

-- first groups and others, as one
pub prints_both : (front back : List (List (List ℕ))) (a b c l m n : List ℕ) → Prints front a b l m → Prints back b c m n → Prints (front ++ back) a c l n
prints_both front back a b c l m n first last = grind (arith, append_assoc, printed_text_append, map-append)

-- the pieces of a text that was printed are the texts of its groups
pub pieces_are : (groups : List (List (List ℕ))) → pieces (lengths_of groups) (printed_text groups) ≡ map text_of groups
pieces_are [] = refl
pieces_are (g ∷ groups) = grind (arith, take-append_seam, drop-append_seam, pieces_are groups)

-- the lengths make up the text
pub lengths_add : (groups : List (List (List ℕ))) → sum (lengths_of groups) ≡ length (printed_text groups)
lengths_add [] = refl
lengths_add (g ∷ groups) =
    omega (arith, sum_by-cons (λ n. n) (length (text_of g)) (lengths_of groups), lengths_add groups, length-append (text_of g) (printed_text groups))

-- a text that was printed alone
pub pieces_printed : (groups : List (List (List ℕ))) (text lengths : List ℕ) → Prints groups [] text [] lengths → pieces lengths text ≡ map text_of groups
pieces_printed groups text lengths p = grind (arith, pieces_are)

pub lengths_fit : (groups : List (List (List ℕ))) (text lengths : List ℕ) → Prints groups [] text [] lengths → sum lengths ≤ length text
lengths_fit groups text lengths p = omega (arith, ap sum p.measured, ap length p.appended, lengths_add groups)

-- what a race printed: what its lines before `go` print, the line of `go`, and what the lines after it print
pub raced_from : (v w x : View) (script : RaceScript) (turns : List JobTurn) (a b c d l m n o : List ℕ) → w ≡ lines_left v script.before.statements
    → Prints (lines_answered v script.before.statements) a b l m → x ≡ (turns_taken w turns).1
    → Prints ((go_line (turns_taken w turns).0 ∷ []) ∷ []) b c m n → Prints (lines_answered x script.after) c d n o
    → RacedFrom v script turns (length b) a d l o
raced_from v w x script turns a b c d l m n o left first on went last =
    let behind = from_go (lines_left v script.before.statements) turns script.after in
    let rest : Prints behind b d m o = subst (λ (y : View). Prints (from_go y turns script.after) b d m o) left
    (prints_both _ _ b c d m n o went (subst (λ (y : View). Prints (lines_answered y script.after) c d n o) on last)) in
    record {
      all = prints_both _ behind a b d l m o first rest;
      within = omega (arith, ap length rest.appended, length-append b (printed_text behind));
      behind = ap (drop (length b)) rest.appended ∙ drop-append_seam b (printed_text behind);
    }

-- what one printed alone that began after its memory line, which prints nothing
pub raced_alone : (script : RaceScript) (seed early : ℕ) (v : View) (turns : List JobTurn) (a c l n : List ℕ) → v ≡ first_view script
    → turns ≡ turns_of_seed script.jobs seed → a ≡ [] → l ≡ 0 ∷ [] → RacedFrom v script turns early a c l n
    → Prints (raced script (turns_of_seed script.jobs seed)).groups [] c [] n × (drop early c ≡ text_from_go (Ok script) seed)
raced_alone script seed early v turns a c l n view order none first ran = grind arith

-- ---- what `dmasim race` may print

early_acts : (v : View) (statements : List Statement) → ActsInTurn EarlyPrints statements v (lines_answered v statements) (lines_left v statements)
early_acts v [] = refl
early_acts v (s ∷ statements) = ((line_answer v s).1, inl refl, early_acts (line_answer v s).1 statements)

may_print : (read : Result RaceScript Fault) (seed : ℕ) → race_prints_of read (race_printed_of read seed)
may_print (Ok script) seed =
    whole (early_lines script) (view_after script.before) (early_acts (first_view script) script.before.statements)
    (turns_of_seed script.jobs seed) (seeds_interleave_law script.jobs seed) refl
may_print (Err fault) seed = refl

pub seeds_are_races : SeedsAreRaces
seeds_are_races input seed = may_print (race_script_of input) seed

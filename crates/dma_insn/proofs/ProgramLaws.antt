-- The result of reading a text, line after line, compared with what its lines write.
use Rattle.std.proofs.Common.{◌≡◌, ℕ, ◌+◌, ◌<◌, ◌≤◌, Bool, true, false, List, [], ◌∷◌, ◌++◌, ◌≢◌, length, refl, sym, ap, ◌∙◌, subst, Option, Result}
use Rattle.std.proofs.Common.{Ok, Err, cond, leb, arith, append_assoc, append-nil, length-append, inl, inr, ◌⊎◌}
use Rattle.std.specs.{Prelude.MatchResult, Prelude.MatchBool, Prelude.IfOk, Prelude.IfErr, Prelude.IsOk, Option.ok_or, List.list_any, Str.bytes_eq}
use Rattle.std.proofs.lemmas.Bool.{leb-true, leb-false, le-leb, lt-leb, false≢true}
use Rattle.dma_insn.specs.declared.assembler.AsmCause.TheVariants.{Operand, Range}
use Rattle.dma_insn.specs.declared.assembler.AsmFault.TheVariants.{Line, ProgramTooLong, NoMemory}
use Rattle.dma_insn.specs.AssemblyText.{words_of, is_skipped, Statement}
use Rattle.dma_insn.specs.AssemblyText.{IsWritten, names, first_of, Writes, IsCause, HasCause, WritesFirst, WriteAll, joined, most_program_bytes}
use Rattle.dma_insn.specs.AssemblyText.{Assembles, IsLineAt, IsFirstFault}
use Rattle.dma_insn.specs.LineReading.{at_line, with_insn, line_in, after_line, after_lines, assembled, ReadingReports, ResultIsOrNoMemory}
use Rattle.dma_insn.specs.{Spelling.spelling, declared.insn.Insn.Insn, declared.assembler.AsmCause.AsmCause, declared.assembler.AsmFault.AsmFault}
use Rattle.dma_text.specs.{Lines.text_lines, Results.◌>>=◌}
use Rattle.dma_insn.proofs.LineLaws.{IsReported, line_in_reported, line_in_written}

not_operand : (o : Option Insn) → ok_or o Range ≡ Err Operand → ⊥
not_operand o h = grind (arith)

-- What the result of reading a line's words says about the line.
cause_reported : (line : List ℕ) (cause : AsmCause) → line_in (words_of line) ≡ Err cause → IsReported (words_of line) (Err cause) → IsCause line cause
cause_reported line cause h h2 = grind (arith, not_operand, line_in_written)

cause_of : (line : List ℕ) (cause : AsmCause) → line_in (words_of line) ≡ Err cause → IsCause line cause
cause_of line cause e = cause_reported line cause e (subst (IsReported (words_of line)) e (line_in_reported (words_of line)))

written_by : (line : List ℕ) (i : Insn) → is_skipped line ≡ false → line_in (words_of line) ≡ Ok i → Writes line i
written_by line i taken e = grind (arith, line_in_reported)

writes_read : (line : List ℕ) (i : Insn) → Writes line i → line_in (words_of line) ≡ Ok i
writes_read line i h = line_in_written (words_of line) h.statement h.words_are ∙ ap (λ (o : Option Insn). ok_or o Range) h.insn_is

-- The place of a line among lines that follow n others and a program.
pub record Place (n : ℕ) (program : List ℕ) (lines : List (List ℕ)) (line : List ℕ) (m : ℕ) (insns : List Insn) : Type 0 where
  pub before : List (List ℕ)
  pub after : List (List ℕ)
  pub lines_are : lines ≡ before ++ line ∷ after
  pub number : m ≡ n + (length before + 1)
  pub writes : WriteAll before insns
  pub fits : length (program ++ joined insns) ≤ most_program_bytes

pub record Whole (program : List ℕ) (lines : List (List ℕ)) (bytes : List ℕ) : Type 0 where
  pub insns : List Insn
  pub writes : WriteAll lines insns
  pub bytes_are : bytes ≡ program ++ joined insns
  pub fits : length bytes ≤ most_program_bytes

pub record Fails (n : ℕ) (program : List ℕ) (lines : List (List ℕ)) (m : ℕ) (cause : AsmCause) : Type 0 where
  pub line : List ℕ
  pub insns : List Insn
  pub place : Place n program lines line m insns
  pub cause_is : HasCause line cause

pub record Passes (n : ℕ) (program : List ℕ) (lines : List (List ℕ)) (m : ℕ) : Type 0 where
  pub line : List ℕ
  pub insns : List Insn
  pub insn : Insn
  pub place : Place n program lines line m insns
  pub writes : Writes line insn
  pub long : most_program_bytes < length (program ++ joined insns) + length (spelling insn)

abbrev pub FaultOf : ℕ → List ℕ → List (List ℕ) → AsmFault → Type 0
FaultOf n program lines (Line m cause) = Fails n program lines m cause
FaultOf n program lines (ProgramTooLong m) = Passes n program lines m
FaultOf n program lines NoMemory = ⊥

abbrev pub Outcome : ℕ → List ℕ → List (List ℕ) → Result (List ℕ) AsmFault → Type 0
Outcome n program lines r = MatchResult r (λ bytes. Whole program lines bytes) (λ fault. FaultOf n program lines fault)

-- a line in front that writes an instruction
pub write_more : (line : List ℕ) (lines : List (List ℕ)) (i : Insn) (is : List Insn) → Writes line i → WriteAll lines is → WriteAll (line ∷ lines) (i ∷ is)
write_more line lines i is w h = rw w.taken (record { first = i; rest = is; are = refl; writes = w; more = h })

-- What a line in front of others adds: instructions in front of theirs, and bytes behind a program.
record Adds (program next line : List ℕ) (front : List Insn) : Type 0 where
  writes : (lines : List (List ℕ)) (is : List Insn) → WriteAll lines is → WriteAll (line ∷ lines) (front ++ is)
  joins : (is : List Insn) → next ++ joined is ≡ program ++ joined (front ++ is)

place_behind : (n m : ℕ) (program next line at : List ℕ) (lines : List (List ℕ)) (front insns : List Insn) → Adds program next line front
    → Place (n + 1) next lines at m insns → Place n program (line ∷ lines) at m (front ++ insns)
place_behind n m program next line at lines front insns adds p = record {
  before = line ∷ p.before;
  after = p.after;
  lines_are = ap (λ (l : List (List ℕ)). line ∷ l) p.lines_are;
  number = let number = p.number in omega arith;
  writes = adds.writes p.before insns p.writes;
  fits = subst (λ (l : List ℕ). length l ≤ most_program_bytes) (adds.joins insns) p.fits;
}

place_here : (n : ℕ) (program line : List ℕ) (lines : List (List ℕ)) → length program ≤ most_program_bytes → Place n program (line ∷ lines) line (n + 1) []
place_here n program line lines small = record {
  before = [];
  after = lines;
  lines_are = refl;
  number = omega arith;
  writes = refl;
  fits = let same = length-append program [] in omega arith;
}

outcome_behind : (n : ℕ) (program next line : List ℕ) (lines : List (List ℕ)) (front : List Insn) (r : Result (List ℕ) AsmFault) → Adds program next line front
    → Outcome (n + 1) next lines r → Outcome n program (line ∷ lines) r
outcome_behind n program next line lines front (Ok bytes) adds h = grind arith
outcome_behind n program next line lines front (Err (Line m cause)) adds h =
    record {
      line = h.line;
      insns = front ++ h.insns;
      place = place_behind n m program next line h.line lines front h.insns adds h.place;
      cause_is =
          h.cause_is;
    }
outcome_behind n program next line lines front (Err (ProgramTooLong m)) adds h =
    record {
      line = h.line;
      insns = front ++ h.insns;
      insn = h.insn;
      place = place_behind n m program next line h.line lines front h.insns adds h.place;
      writes = h.writes;
      long = subst (λ (l : List ℕ). most_program_bytes < length l + length (spelling h.insn)) (adds.joins h.insns) h.long;
    }
outcome_behind n program next line lines front (Err NoMemory) adds h = h

-- the outcome of further lines, whatever program they follow
abbrev Further : ℕ → List (List ℕ) → Type 0
Further n lines = (next : List ℕ) → length next ≤ most_program_bytes → Outcome n next lines (after_lines n next lines)

-- a line that is not skipped, by what its words are read as, and whether there is room
outcome_room : (n : ℕ) (program line : List ℕ) (lines : List (List ℕ)) (i : Insn) (b : Bool) → leb (length program + length (spelling i)) most_program_bytes ≡ b
    → length program ≤ most_program_bytes → Writes line i → Further (n + 1) lines
    → Outcome n program (line ∷ lines) (cond b (Ok (program ++ spelling i)) (Err (ProgramTooLong (n + 1))) >>= λ next. after_lines (n + 1) next lines)
outcome_room n program line lines i true e small w more =
    let room : length program + length (spelling i) ≤ most_program_bytes = leb-true _ most_program_bytes e in
    let same = length-append program (spelling i) in
    outcome_behind n program (program ++ spelling i) line lines (i ∷ []) _
    (record { writes = λ ls is h. write_more line ls i is w h; joins = λ is. append_assoc program (spelling i) (joined is) })
    (more (program ++ spelling i) (omega arith))
outcome_room n program line lines i false e small w more =
    let none : most_program_bytes < length program + length (spelling i) = leb-false _ most_program_bytes e in
    let same = length-append program [] in
    record { line = line; insns = []; insn = i; place = place_here n program line lines small; writes = w; long = omega arith }

outcome_line : (n : ℕ) (program line : List ℕ) (lines : List (List ℕ)) (r : Result Insn AsmCause) → line_in (words_of line) ≡ r
    → length program ≤ most_program_bytes → is_skipped line ≡ false → Further (n + 1) lines
    → Outcome n program (line ∷ lines) ((at_line (n + 1) r >>= with_insn (n + 1) program) >>= λ next. after_lines (n + 1) next lines)
outcome_line n program line lines (Err cause) e small taken more = grind (arith, place_here, cause_of)
outcome_line n program line lines (Ok i) e small taken more =
    outcome_room n program line lines i (leb (length program + length (spelling i)) most_program_bytes) refl small (written_by line i taken e) more

outcome_by : (n : ℕ) (program line : List ℕ) (lines : List (List ℕ)) (b : Bool) → is_skipped line ≡ b → length program ≤ most_program_bytes
    → Further (n + 1) lines
    → Outcome n program (line ∷ lines)
    (cond b (Ok program) (at_line (n + 1) (line_in (words_of line)) >>= with_insn (n + 1) program) >>= λ next. after_lines (n + 1) next lines)
outcome_by n program line lines true e small more =
    outcome_behind n program program line lines [] _ (record { writes = λ ls is h. rw e h; joins = λ is. refl }) (more program small)
outcome_by n program line lines false e small more = outcome_line n program line lines (line_in (words_of line)) refl small e more

outcome : (lines : List (List ℕ)) (n : ℕ) (program : List ℕ) → length program ≤ most_program_bytes → Outcome n program lines (after_lines n program lines)
unfolding after_line
outcome [] n program small = grind (arith, length-append, append-nil)
outcome (line ∷ lines) n program small =
    outcome_by n program line lines (is_skipped line) refl small (λ next fits. outcome lines (n + 1) next fits)

-- The lines that write some instructions are read as them, if there is room.
read_room : (n : ℕ) (program : List ℕ) (line : List ℕ) (i : Insn) → is_skipped line ≡ false → line_in (words_of line) ≡ Ok i
    → length program + length (spelling i) ≤ most_program_bytes → after_line n program line ≡ Ok (program ++ spelling i)
unfolding after_line
read_room n program line i taken e room = rw (taken, e, le-leb _ most_program_bytes room) refl

read_skipped : (n : ℕ) (program line : List ℕ) → is_skipped line ≡ true → after_line n program line ≡ Ok program
unfolding after_line
read_skipped n program line e = rw e refl

read_fault : (n : ℕ) (program line : List ℕ) (cause : AsmCause) → is_skipped line ≡ false → line_in (words_of line) ≡ Err cause
    → after_line n program line ≡ Err (Line n cause)
unfolding after_line
read_fault n program line cause taken e = rw (taken, e) refl

read_long : (n : ℕ) (program line : List ℕ) (i : Insn) → is_skipped line ≡ false → line_in (words_of line) ≡ Ok i
    → most_program_bytes < length program + length (spelling i) → after_line n program line ≡ Err (ProgramTooLong n)
unfolding after_line
read_long n program line i taken e long = rw (taken, e, lt-leb _ most_program_bytes long) refl

-- Reading these lines appends the bytes of these instructions, if there is room. Then the further lines are read, of
-- which the first is line m + 1.
abbrev Again : List (List ℕ) → List (List ℕ) → ℕ → List ℕ → List Insn → Type 0
Again lines after n program is = (m : ℕ) → m ≡ n + length lines → length (program ++ joined is) ≤ most_program_bytes
    → after_lines n program (lines ++ after) ≡ after_lines m (program ++ joined is) after

again_by : (b : Bool) (line : List ℕ) (lines after : List (List ℕ)) (n : ℕ) (program : List ℕ) (is : List Insn) → is_skipped line ≡ b
    → MatchBool b (WriteAll lines is) (WritesFirst line is (λ rest. WriteAll lines rest))
    → ((next : List ℕ) (js : List Insn) → WriteAll lines js → Again lines after (n + 1) next js) → Again (line ∷ lines) after n program is
again_by true line lines after n program is e h more m at room = rw (read_skipped (n + 1) program line e) (more program is h m (omega arith) room)
again_by false line lines after n program is e h more m at room =
    let all : program ++ joined is ≡ (program ++ spelling h.first) ++ joined h.rest = ap (λ (js : List Insn). program ++ joined js) h.are
    ∙ sym (append_assoc program (spelling h.first) (joined h.rest)) in
    let size : length (program ++ joined is) ≡ length ((program ++ spelling h.first) ++ joined h.rest) = ap length all in
    let first = length-append program (spelling h.first) in
    let rest = length-append (program ++ spelling h.first) (joined h.rest) in
    rw (read_room (n + 1) program line h.first e (writes_read line h.first h.writes) (omega arith))
    (more (program ++ spelling h.first) h.rest h.more m (omega arith) (omega arith) ∙ ap (λ (p : List ℕ). after_lines m p after) (sym all))

again_before : (lines after : List (List ℕ)) (n : ℕ) (program : List ℕ) (is : List Insn) → WriteAll lines is → Again lines after n program is
again_before [] after n program is h m at room = grind (arith, append-nil)
again_before (line ∷ lines) after n program is h m at room =
    again_by (is_skipped line) line lines after n program is refl h (λ next js written. again_before lines after (n + 1) next js written) m at room

-- A text that assembles is read as its bytes.
pub assembled_again : (text bytes : List ℕ) → Assembles text bytes → assembled text ≡ Ok bytes
assembled_again text bytes h =
    let size : length bytes ≡ length (joined h.insns) = ap length h.bytes_are in
    let fits = h.fits in
    ap (after_lines 0 []) (sym (append-nil (text_lines text))) ∙ again_before (text_lines text) [] 0 [] h.insns h.text_is _ refl (omega arith)
    ∙ ap Ok (sym h.bytes_are)

-- The outcome of a whole text.
assembled_ok : (text bytes : List ℕ) → assembled text ≡ Ok bytes → Assembles text bytes
assembled_ok text bytes e =
    let w : Whole [] (text_lines text) bytes = subst (Outcome 0 [] (text_lines text)) e (outcome (text_lines text) 0 [] (omega arith)) in
    record { insns = w.insns; text_is = w.writes; bytes_are = w.bytes_are; fits = w.fits }

is_there : (text line : List ℕ) (m : ℕ) (insns : List Insn) → Place 0 [] (text_lines text) line m insns → IsLineAt text line m insns
is_there text line m insns p = grind arith

first_fault : (text : List ℕ) (fault : AsmFault) → FaultOf 0 [] (text_lines text) fault → IsFirstFault text fault
first_fault text fault h = grind (arith, is_there)

assembled_err : (text : List ℕ) (fault : AsmFault) → assembled text ≡ Err fault → IsFirstFault text fault
assembled_err text fault e =
    first_fault text fault (subst (Outcome 0 [] (text_lines text)) e (outcome (text_lines text) 0 [] (omega arith)))

some_bytes : (text : List ℕ) (r : Result (List ℕ) AsmFault) → assembled text ≡ r → IsOk r → IsFirstFault text NoMemory
some_bytes text (Ok bytes) e ok = (bytes, assembled_ok text bytes e)
some_bytes text (Err fault) e ok = absurd (false≢true ok)

-- The clauses of `assemble`, by what reading the text gives.
pub if_program : {X : Type 0} (view : X → List ℕ) (text : List ℕ) (r : Result X AsmFault) → ResultIsOrNoMemory view r (assembled text)
    → IfOk r (λ x. Assembles text (view x))
if_program view text r h = grind (arith, assembled_ok)

fault_by : (text : List ℕ) (fault : AsmFault) → ((assembled text ≡ Err fault) ⊎ ((fault ≡ NoMemory) × IsOk (assembled text))) → IsFirstFault text fault
fault_by text fault (inl e) = assembled_err text fault e
fault_by text fault (inr h) = subst (IsFirstFault text) (sym h.0) (some_bytes text (assembled text) refl h.1)

pub if_fault : {X : Type 0} (view : X → List ℕ) (text : List ℕ) (r : Result X AsmFault) → ResultIsOrNoMemory view r (assembled text)
    → IfErr r (λ fault. IsFirstFault text fault)
if_fault view text r h = grind (arith, fault_by)

ok_same : (r : Result (List ℕ) AsmFault) (a b : List ℕ) → r ≡ Ok a → r ≡ Ok b → a ≡ b
ok_same r a b p q = cc

only_by : (text bytes : List ℕ) (fault : AsmFault) → assembled text ≡ Ok bytes → ((assembled text ≡ Err fault) ⊎ ((fault ≡ NoMemory) × IsOk (assembled text)))
    → fault ≡ NoMemory
only_by text bytes fault h h2 = grind (arith)

pub if_only : {X : Type 0} (view : X → List ℕ) (text : List ℕ) (r : Result X AsmFault) → ResultIsOrNoMemory view r (assembled text) → (bytes : List ℕ)
    → Assembles text bytes → MatchResult r (λ x. view x ≡ bytes) (λ fault. fault ≡ NoMemory)
if_only view text (Ok x) h bytes a = ok_same (assembled text) (view x) bytes h (assembled_again text bytes a)
if_only view text (Err fault) h bytes a = only_by text bytes fault (assembled_again text bytes a) h

-- A text assembles to one list of bytes.
pub assembles_once : (text p q : List ℕ) → Assembles text p → Assembles text q → p ≡ q
assembles_once text p q a b = ok_same (assembled text) p q (assembled_again text p a) (assembled_again text q b)

-- words of a statement begin with a name
written_name : (words : List (List ℕ)) (s : Statement) → IsWritten words s → list_any (λ name. bytes_eq (first_of words) name) names ≡ true
written_name words s h = grind (arith)

-- What a line with a cause is read as.
cause_by : (line : List ℕ) (cause : AsmCause) (r : Result Insn AsmCause) → line_in (words_of line) ≡ r → IsReported (words_of line) r → IsCause line cause
    → r ≡ Err cause
cause_by line cause r h h2 h3 = grind (arith, written_name, line_in_written)

cause_read : (line : List ℕ) (cause : AsmCause) → IsCause line cause → line_in (words_of line) ≡ Err cause
cause_read line cause h = cause_by line cause (line_in (words_of line)) refl (line_in_reported (words_of line)) h

-- The lines before a place are read as what they write.
read_before : (text line : List ℕ) (n : ℕ) (insns : List Insn) (at : IsLineAt text line n insns)
    → assembled text ≡ after_lines (length at.before) (joined insns) (line ∷ at.after)
read_before text line n insns at =
    ap (after_lines 0 []) at.lines_are ∙ again_before at.before (line ∷ at.after) 0 [] insns at.writes (length at.before) (omega arith) at.fits

-- The first fault of a text is what it is read as.
fault_read : (text : List ℕ) (fault : AsmFault) → fault ≢ NoMemory → IsFirstFault text fault → assembled text ≡ Err fault
fault_read text (Line n cause) other h =
    let at = h.2 in
    let here : after_line (length at.before + 1) (joined h.1) h.0 ≡ Err (Line (length at.before + 1) cause) =
    read_fault _ (joined h.1) h.0 cause h.3.taken (cause_read h.0 cause h.3.cause_is) in
    read_before text h.0 n h.1 at ∙ rw here (ap (λ (m : ℕ). Err (Line m cause)) (sym at.number))
fault_read text (ProgramTooLong n) other h =
    let at = h.3 in
    let here : after_line (length at.before + 1) (joined h.1) h.0 ≡ Err (ProgramTooLong (length at.before + 1)) =
    read_long _ (joined h.1) h.0 h.2 h.4.taken (writes_read h.0 h.2 h.4) h.5 in
    read_before text h.0 n h.1 at ∙ rw here (ap (λ (m : ℕ). Err (ProgramTooLong m)) (sym at.number))
fault_read text NoMemory other h = absurd (other refl)

-- Reading never gives `NoMemory`.
no_memory_never : (text : List ℕ) (fault : AsmFault) → assembled text ≡ Err fault → fault ≢ NoMemory
no_memory_never text fault e is =
    let bad : Outcome 0 [] (text_lines text) (Err NoMemory) =
    subst (Outcome 0 [] (text_lines text)) (e ∙ ap Err is) (outcome (text_lines text) 0 [] (omega arith)) in
    bad

pub reading_reports : ReadingReports
reading_reports = record {
  program = λ text bytes. (λ e. assembled_ok text bytes e, λ a. assembled_again text bytes a);
  fault = λ text fault. (λ e. (no_memory_never text fault e, assembled_err text fault e), λ h. fault_read text fault h.0 h.1);
}

-- What a request prints for its input (profile).
use Rattle.std.specs.Prelude.{◌≡◌, ℕ, Bool, true, false, ◌==◌, if◌then◌else◌, List, [], ◌++◌, Option, Some, None, Ok, Err, is_ok}
use Rattle.dma_explain.specs.declared.explain.known.Given.{Given}
use Rattle.dma_mem.specs.declared.regions.Region.{Region}
use Rattle.dma_io.specs.{Answer.Prints, Answer.under_name, Answer.with_note, Command.printed_text, Command.text_of, Printing.program_lines}
use Rattle.dma_manual.specs.Listing.{is_whole, listed, rest_text, stop_text}
use Rattle.dma_manual.specs.{Assembled.program_of, Assembled.read_text, Errors.assembled_err, Notes.end_warning, Notes.form_note, Notes.hint, Pasted.Program}
use Rattle.dma_manual.specs.{Pasted.pasted, Refusal.refusal, declared.forms.Form.Form, declared.pasted.Spelling.Spelling}
use Rattle.dma_seeds.specs.{RaceReplies.Races, RaceReplies.RacesSeeds, Faults.run_message}
use Rattle.dma_why.specs.{Laws.CirclesStayAfter, Why.why_printed}
use Rattle.dma_trace.specs.{declared.options.TraceOptions.TraceOptions, Explained.Appends, Found.ShowsRam}
use Rattle.dma330.specs.declared.command_line.Request.{Request}
use Rattle.dma330.specs.declared.command_line.Request.TheVariants.{Dis, Asm, Explain, Trace, Race, RaceSeeds, Why}

-- `dis` lists the program, and says on standard error where it is none.
abbrev pub Lists : ℕ → List ℕ → Prints → Type 0
Lists at program p =
    (p.out ≡ (listed at program).text ++ rest_text (listed at program).ending)
    × (p.err ≡ stop_text at (listed at program).ending)
    × (p.file ≡ []) × (p.succeeds ≡ is_whole (listed at program).ending)

-- `asm` prints the program's bytes in hexadecimal digits, or writes them to a file, with the first warning on standard
-- error; or it says there what the text's first fault is.
abbrev pub Assembles : Bool → List ℕ → Prints → Type 0
Assembles to_file text p =
    (p.out ≡ (if to_file then [] else text_of (program_lines (program_of text))))
    × (p.err ≡ assembled_err text (read_text text))
    × (p.file ≡ (if to_file then program_of text else [])) × (p.succeeds ≡ is_ok (read_text text))

-- `explain` prints what the program copies and sets to 0, or on standard error why nothing explains it, with warnings.
abbrev pub Explains : Given → ℕ → List ℕ → Prints → Type 0
Explains given most program p = Appends given program most p.succeeds [] [] p.out p.err × (p.file ≡ [])

-- `trace` prints the program's trace over RAM, and on standard error what ends it early, and writes its waveform.
-- If no RAM is given, it is zeros at the ranges that `explain` finds; if it finds none, standard error has why.
abbrev pub Traces : TraceOptions → List Region → List ℕ → Prints → Type 0
Traces options ram program p =
    (after : List Region) × ShowsRam options program ram after p.succeeds [] [] [] p.out p.err p.file

-- `why` prints why each channel is where it is after a script, and on standard error the fault of the script. No steps
-- after the script move a channel of a circle.
abbrev pub Reasons : List ℕ → Prints → Type 0
Reasons script p =
    (p.out ≡ printed_text (why_printed script).groups) × (p.err ≡ run_message script) × (p.file ≡ [])
    × (p.succeeds ≡ ((why_printed script).status == 0)) × CirclesStayAfter script

-- What a request prints for a program over RAM, without the name of the input.
abbrev pub Replies : Request → List Region → List ℕ → Prints → Type 0
Replies (Dis at) ram input = Lists at input
Replies (Asm to_file) ram input = Assembles to_file input
Replies (Explain given most) ram input = Explains given most input
Replies (Trace options) ram input = Traces options ram input
Replies (Race seed) ram input = Races seed input
Replies (RaceSeeds seeds) ram input = RacesSeeds seeds input
Replies Why ram input = Reasons input

-- whether a request takes a program
abbrev pub takes_program : Request → Bool
takes_program (Dis at) = true
takes_program (Asm to_file) = false
takes_program (Explain given most) = true
takes_program (Trace options) = true
takes_program (Race seed) = false
takes_program (RaceSeeds seeds) = false
takes_program Why = false

-- What a request prints for a program, with a warning if it begins with DMAEND, has more bytes and is taken without a
-- fault.
abbrev pub ProgramReplies : Request → List Region → List ℕ → Prints → Type 0
ProgramReplies request ram program p =
    (q : Prints) × Replies request ram program q
    × (p ≡ with_note q (end_warning (takes_program request) program q.succeeds))

-- What a request prints for a program that is read from text, with a note on its form if it is a dump.
abbrev pub FormReplies : Request → List Region → Option Form × List ℕ → Prints → Type 0
FormReplies request ram program p =
    (q : Prints) × ProgramReplies request ram program.1 q × (p ≡ with_note q (form_note program.0 q.err))

-- What a request prints for a text that was read: for its program, as in `FormReplies`, or for the text's first fault.
abbrev pub ReadReplies : Request → List Region → List ℕ → Program → Prints → Type 0
ReadReplies request ram text (Ok program) p = FormReplies request ram program p
ReadReplies request ram text (Err why) p = p ≡ refusal why text

-- What a request prints for a program in text.
abbrev pub TextReplies : Request → Spelling → List Region → List ℕ → Prints → Type 0
TextReplies request spelling ram text = ReadReplies request ram text (pasted spelling text)

-- What a request prints for an input that isn't read as text, without the name of the input.
abbrev pub RawReplies : Request → List Region → List ℕ → Prints → Type 0
RawReplies request ram input p =
    (q : Prints) × ProgramReplies request ram input q × (p ≡ with_note q (hint (takes_program request) input q.succeeds))

-- What a request prints for an input, without the name of the input.
abbrev pub InputReplies : Request → Option Spelling → List Region → List ℕ → Prints → Type 0
InputReplies request (Some spelling) ram input = TextReplies request spelling ram input
InputReplies request None ram input = RawReplies request ram input

-- What a call prints: the message on standard error begins with the name of the input.
abbrev pub Answers : Request → Option Spelling → List ℕ → List Region → List ℕ → Prints → Type 0
Answers request spelling name ram input p =
    (q : Prints) × InputReplies request spelling ram input q × (p ≡ under_name name q)

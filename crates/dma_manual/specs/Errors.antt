-- How the first fault of a text is printed, or the first warning about a text without a fault.
use Rattle.std.specs.Prelude.{◌≡◌, ℕ, ◌+◌, ◌-◌, Bool, true, false, ◌==◌, ◌||◌, if◌then◌else◌, List, [], ◌∷◌, ◌++◌, length, take, drop, map, min, nat_le, codes}
use Rattle.std.specs.Prelude.{decimal, Option, Some, None, Result, Ok, Err}
use Rattle.std.specs.Str.{bytes_eq}
use Rattle.dma_text.specs.Lines.{text_lines}
use Rattle.dma_manual.specs.{ManualText.end_name, Words.code_of, Words.has_sign, Words.plain_byte, Assembled.Read, Assembled.assembled, Assembled.label_in}
use Rattle.dma_manual.specs.{declared.assembler.AsmCause.AsmCause, declared.assembler.Field.Field, declared.assembler.Operand.Operand}
use Rattle.dma_manual.specs.{declared.assembler.Located.Located, declared.assembler.Place.Place, declared.errors.AsmError.AsmError, declared.errors.Note.Note}
use Rattle.dma_manual.specs.{declared.loops.LoopKind.LoopKind, declared.loops.LoopKind.TheVariants.Counted, declared.loops.LoopKind.TheVariants.Endless}
use Rattle.dma_manual.specs.{declared.loops.Stray.Stray, declared.manual.Side.Side, declared.manual.Side.TheVariants.Source}
use Rattle.dma_manual.specs.{declared.manual.Side.TheVariants.Destination}
use Rattle.dma_manual.specs.declared.assembler.AsmCause.TheVariants as causes
use Rattle.dma_manual.specs.declared.assembler.Field.TheVariants as field
use Rattle.dma_manual.specs.declared.assembler.Operand.TheVariants as operand
use Rattle.dma_manual.specs.declared.errors.AsmError.TheVariants as errors
use Rattle.dma_manual.specs.declared.errors.Note.TheVariants as notes

-- which operand an instruction lacks
abbrev pub missing_message : Operand → List ℕ
missing_message operand.Times = codes "lacks a number of rounds, 1 to 256"
missing_message operand.Event = codes "lacks an event, e0 to e31"
missing_message operand.Byte = codes "lacks a byte, 0 to 255"
missing_message operand.Word = codes "lacks a number of 32 bits"
missing_message operand.Register = codes "lacks a register, SAR, CCR or DAR"
missing_message operand.Address = codes "lacks an address"
missing_message operand.Fields = codes "lacks fields or a number"
missing_message operand.AddressRegister = codes "lacks a register, SAR or DAR"
missing_message operand.Halfword = codes "lacks a number, 0 to 65535"
missing_message operand.Peripheral = codes "lacks a peripheral, P0 to P31"
missing_message operand.Request = codes "lacks single, burst or periph"
missing_message operand.Channel = codes "lacks a channel, C0 to C7"

-- which words a field of an end can be
abbrev pub field_message : Side → Field → List ℕ
field_message Source field.Beats = codes "is not SB1 to SB16"
field_message Source field.Size = codes "is not SS8, SS16, SS32, SS64 or SS128"
field_message Source field.Address = codes "is not SAI or SAF"
field_message Source field.Protection = codes "is not SP0 to SP7"
field_message Source field.Cache = codes "is not SC0 to SC7"
field_message Destination field.Beats = codes "is not DB1 to DB16"
field_message Destination field.Size = codes "is not DS8, DS16, DS32, DS64 or DS128"
field_message Destination field.Address = codes "is not DAI or DAF"
field_message Destination field.Protection = codes "is not DP0 to DP7"
field_message Destination field.Cache = codes "is not DC0 to DC3 or DC8 to DC11"

-- what is wrong, after the word
abbrev pub message : AsmCause → List ℕ
message causes.Name = codes "is not the name of an instruction"
message (causes.Missing which) = missing_message which
message causes.Extra = codes "is one word too many"
message causes.Number = codes "is not a number"
message causes.Times = codes "is not 1 to 256"
message causes.Far = codes "jumps more than 255 bytes back"
message causes.Event = codes "is not an event, e0 to e31"
message causes.Byte = codes "is not 0 to 255"
message causes.Value = codes "has more than 32 bits"
message causes.Register = codes "is not SAR, CCR or DAR"
message causes.AddressRegister = codes "is not SAR or DAR"
message causes.Halfword = codes "is not 0 to 65535"
message causes.Counter = codes "is not lc0 or lc1"
message causes.Peripheral = codes "is not a peripheral, P0 to P31"
message causes.Request = codes "is not single, burst or periph"
message causes.Channel = codes "is not a channel, C0 to C7"
message causes.Field = codes "is no field of a control word: SB, SS, SA, SP, SC, DB, DS, DA, DP, DC or ES"
message (causes.FieldValue side which) = field_message side which
message causes.Swap = codes "asks for an endian swap, which this model refuses"
message causes.Twice = codes "is given twice"
message causes.Label = codes "is no label before this line"
message causes.NoLoop = codes "ends no open loop"
message causes.NoCounter = codes "is within two loops already"
message causes.Nested = codes "is within a loop of DMALPFE already"
message causes.Open = codes "has no DMALPEND"
message causes.TooLong = codes "makes the program longer than 8192 bytes"

-- a line by its number from 1; no bytes if there is none
abbrev pub line_of : List (List ℕ) → ℕ → List ℕ
line_of [] n = []
line_of (line ∷ lines) n = if nat_le n 1 then line else line_of lines (n - 1)

-- the word at a place of a line
abbrev pub word_at : List ℕ → Place → List ℕ
word_at line place =
    let from = drop (min (place.column - 1) (length line)) line in take (min place.len (length from)) from

-- whether a label, if there is one, has this name
abbrev pub label_is : Option (List ℕ × List ℕ) → List ℕ → Bool
label_is None name = false
label_is (Some w) name = bytes_eq w.0 name

-- whether a line in lower case without a comment begins with the label of this name
abbrev pub named_by : List ℕ → List ℕ → Bool
named_by line name = label_is (label_in line) name

-- whether a line begins with the label of this name
abbrev pub has_label : List ℕ → List ℕ → Bool
has_label line name = named_by (map plain_byte (code_of line)) name

-- the number of the first line that begins with the label of this name; the first of these lines is line n + 1
abbrev pub line_with : List ℕ → ℕ → List (List ℕ) → Option ℕ
line_with name n [] = None
line_with name n (line ∷ lines) = if has_label line name then Some (n + 1) else line_with name (n + 1) lines

-- what is said of a label, given the number of the first line that has it
abbrev pub label_note : Option ℕ → Note
label_note None = notes.NoLine
label_note (Some n) = notes.Line n

-- whether a number sign begins the comment of a line
abbrev pub sign_note : List ℕ → Note
sign_note line = if has_sign line then notes.Sign else notes.Nothing

-- What a text says about a fault of this cause, besides the word: of a missing operand, whether a number sign begins the
-- line's comment; of a label that no line before has, which line has it.
abbrev pub note_by : List ℕ → Located → List ℕ → AsmCause → Note
note_by text l word (causes.Missing which) = sign_note (line_of (text_lines text) l.place.line)
note_by text l word causes.Label = label_note (line_with (map plain_byte (code_of word)) 0 (text_lines text))
note_by text l word _ = notes.Nothing

-- what a text says about a fault, besides the word
abbrev pub note_of : List ℕ → Located → List ℕ → Note
note_of text l word = note_by text l word l.cause

-- how a note is printed
abbrev pub note_text : Note → List ℕ
note_text notes.Nothing = []
note_text notes.Sign = codes ": # begins a comment"
note_text notes.NoLine = codes ": no line has this label"
note_text (notes.Line n) = codes ": line " ++ decimal n ++ codes " has it"

-- `LINE:COLUMN: 'WORD' MESSAGE`, and after a colon what the text says besides
abbrev pub error_text : Located → List ℕ → Note → List ℕ
error_text l word note =
    decimal l.place.line ++ codes ":" ++ decimal l.place.column
    ++ (codes ": '" ++ word ++ codes "' " ++ (message l.cause ++ note_text note))

-- the word at a place of a text
abbrev pub word_in : List ℕ → Place → List ℕ
word_in text place = word_at (line_of (text_lines text) place.line) place

-- What `assemble` returns: the bytes of the text's program, or its first fault with the word, or out of memory.
abbrev pub IsAssembled : {X : Type 0} → (X → List ℕ) → List ℕ → Result X AsmError → Type 0
IsAssembled view text (Ok program) = assembled text ≡ Ok (view program)
IsAssembled view text (Err (errors.Wrong e)) =
    (assembled text ≡ Err e.located) × (e.word.now ≡ word_in text e.located.place)
    × (e.note ≡ note_of text e.located e.word.now)
IsAssembled view text (Err errors.NoMemory) = Unit {0}

-- whether a text has a DMAEND or a `DCB` of 0, or its program has no bytes
abbrev pub stops_or_empty : Read → Bool
stops_or_empty r = r.stops || length r.code == 0

-- the name of the instruction that begins a loop of a kind
abbrev pub start_name : LoopKind → List ℕ
start_name (Counted counter) = codes "DMALP"
start_name Endless = codes "DMALPFE"

-- The first warning about a program: a DMALPEND doesn't jump to the start of the open loop of its kind, or the text has
-- no DMAEND.
abbrev pub warning_text : Option Stray → Bool → List ℕ
warning_text (Some s) stops =
    decimal s.place.line ++ codes ":" ++ decimal s.place.column
    ++ (codes ": warning: '" ++ end_name s.condition
    ++ (codes "' does not jump to the instruction after its " ++ start_name s.kind ++ codes "\n"))
warning_text None true = []
warning_text None false = codes " warning: the text has no DMAEND\n"

-- what is written to standard error for a text: its first fault, or the first warning about its program
abbrev pub assembled_err : List ℕ → Result Read Located → List ℕ
assembled_err text (Ok r) = warning_text r.stray (stops_or_empty r)
assembled_err text (Err l) = error_text l (word_in text l.place) (note_of text l (word_in text l.place)) ++ codes "\n"

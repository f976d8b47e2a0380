-- Programs that are pasted as text (profile): digits, or a dump, which is read in the first form of a list that fits.
use Rattle.std.specs.Prelude.{ℕ, ◌+◌, Bool, true, false, not, ◌||◌, ◌&&◌, nat_le, nat_lt, if◌then◌else◌, List, [], ◌∷◌, ◌++◌, length, take, replicate, Option}
use Rattle.std.specs.Prelude.{Some, None, Result, Ok, Err}
use Rattle.std.specs.{Int.w64, Int.to_le_bytes, Str.bytes_eq}
use Rattle.dma_text.specs.Results.{◌>>=◌}
use Rattle.dma_manual.specs.Forms.{bytes_first, form, plain_forms, size_of, words_first}
use Rattle.dma_manual.specs.declared.forms.Column.TheVariants.{Colon, Array, Headed}
use Rattle.dma_manual.specs.declared.forms.Group.TheVariants.{Byte, Word}
use Rattle.dma_manual.specs.{Array.is_of_array, Dump.Step, Dump.next_of, declared.array.ArrayPlace.ArrayPlace, declared.array.ArrayPlace.TheVariants.Front}
use Rattle.dma_manual.specs.{declared.array.ArrayPlace.TheVariants.Rest, Notes.ends_at_once, declared.dump.Cause.Cause, declared.dump.Effect.Effect}
use Rattle.dma_manual.specs.{declared.doubts.Doubt.Doubt, declared.doubts.Doubt.TheVariants.Order, declared.doubts.Doubt.TheVariants.Radix}
use Rattle.dma_manual.specs.declared.doubts.Doubt.TheVariants.{Address as NoAddress}
use Rattle.dma_manual.specs.{declared.dump.Place.Place, declared.dump.Scan.Scan, declared.forms.Column.Column, declared.forms.Group.Group}
use Rattle.dma_manual.specs.{declared.forms.Form.Form, declared.pasted.Fault.Fault, declared.pasted.Refused.Refused, declared.pasted.Spelling.Spelling}
use Rattle.dma_manual.specs.{declared.pasted.Spelling.TheVariants.Digits, declared.pasted.Spelling.TheVariants.Dump}
use Rattle.dma_manual.specs.declared.hexadecimal.Notation.TheVariants.{Pairs, Words}
use Rattle.dma_manual.specs.{Hexadecimal.spelled, declared.hexadecimal.Notation.Notation}
use Rattle.dma_manual.specs.declared.dump.Cause.TheVariants.{Byte as BadByte, Address as BadAddress, Star, Long as TooLong}
use Rattle.dma_manual.specs.declared.dump.Effect.TheVariants.{Nothing, Number, Element as Ends, Cut}
use Rattle.dma_manual.specs.declared.dump.Place.TheVariants.{Start, Title, Array as InArray}
use Rattle.dma_manual.specs.declared.pasted.Refused.TheVariants.{Digits as BadDigits, Dump as BadDump, Unsure}

-- the bytes read so far, after what a byte of the text does to them
abbrev pub applied : Group → Effect → List ℕ → List ℕ
applied group Nothing bytes = bytes
applied group (Number w) bytes = bytes ++ take (size_of group) (to_le_bytes w64 w)
applied group (Ends v n) bytes = bytes ++ replicate n v
applied group (Cut n) bytes = take n bytes

abbrev pub start_of : Column → Place
start_of Array = InArray Front
start_of Headed = Title 0
start_of _ = Start

-- the scan before the first byte of a text
abbrev pub begun : Form → Scan
begun form = record { place = start_of form.column; first = None; before = 0; is_sure = false }

-- a scan and the bytes read so far, of which a dump has at most 1 MiB
abbrev pub within : Scan → List ℕ → ℕ → Result (Scan × List ℕ) Fault
within s bytes at =
    if nat_le (length bytes) 1048576 then Ok (s, bytes)
    else Err (record { cause = TooLong; at = at; is_dump = true })

-- the scan and the bytes after a step, or the fault at its offset
abbrev pub taken_by : Form → List ℕ → ℕ → Step → Result (Scan × List ℕ) Fault
taken_by form bytes at (Ok next) = within next.0 (applied form.group next.1 bytes) at
taken_by form bytes at (Err cause) =
    Err (record { cause = cause; at = at; is_dump = is_of_array cause || nat_lt 0 (length bytes) })

-- the scan and the bytes after the byte b at an offset, or its fault
abbrev pub taken : Form → Scan → List ℕ → ℕ → ℕ → Result (Scan × List ℕ) Fault
taken form s bytes at b = taken_by form bytes at (next_of form s bytes b)

-- whether an array may end here
abbrev pub is_rest : ArrayPlace → Bool
is_rest Rest = true
is_rest _ = false

-- whether a text may end after a line end at this place
abbrev pub is_whole : Place → Bool
is_whole (InArray p) = is_rest p
is_whole _ = true

-- The bytes at the end of a text, and whether it is surely a dump: an address is where bytes before it end, or a line
-- has its bytes as text.
abbrev pub ended : Scan → List ℕ → ℕ → Result (List ℕ × Bool) Fault
ended s bytes at =
    if is_whole s.place && nat_lt 0 (length bytes) then Ok (bytes, s.is_sure)
    else Err (record { cause = BadByte; at = at; is_dump = nat_lt 0 (length bytes) })

-- Reads the rest of a text, which begins at an offset, with a line end added to it. The result is that of `ended`, or
-- the first fault.
abbrev pub read_from : Form → Scan → List ℕ → ℕ → List ℕ → Result (List ℕ × Bool) Fault
read_from form s bytes at [] = do
  next ← taken form s bytes at 10
  ended next.0 next.1 at
read_from form s bytes at (b ∷ text) = do
  next ← taken form s bytes at b
  read_from form next.0 next.1 (at + 1) text

-- The bytes of a text that is read in a form, and whether it is surely a dump; or its first fault.
abbrev pub read_as : Form → List ℕ → Result (List ℕ × Bool) Fault
read_as form text = read_from form (begun form) [] 0 text

-- The fault that is reported: the second if bytes were read before it, and the first is nearer or has none before it.
abbrev pub further : Fault → Fault → Fault
further f g = if g.is_dump && (not f.is_dump || nat_lt f.at g.at) then g else f

-- the fault before a form is tried
abbrev pub nowhere : Fault
nowhere = record { cause = BadByte; at = 0; is_dump = false }

-- A dump: its form, its bytes, and whether it is surely one; or the furthest fault.
abbrev pub Read : Type 0
Read = Result (Form × List ℕ × Bool) Fault

-- a dump in a form, or what `next` returns for its fault
abbrev pub or_next : Form → Result (List ℕ × Bool) Fault → (Fault → Read) → Read
or_next form (Ok it) next = Ok (form, it.0, it.1)
or_next form (Err fault) next = next fault

-- a text as a dump in the first of these forms that fits, or the furthest of its faults and f
abbrev pub fit : List Form → Fault → List ℕ → Read
fit [] f text = Err f
fit (form ∷ forms) f text = or_next form (read_as form text) (λ g. fit forms (further f g) text)

-- The forms in the order in which they are tried for a notation.
abbrev pub forms_for : Notation → List Form
forms_for Pairs = bytes_first
forms_for Words = words_first

-- the form of a dump with colons whose groups are the numbers of a notation
abbrev pub colon_form : Notation → Form
colon_form Pairs = form Colon Byte
colon_form Words = form Colon Word

-- whether what was read is other than these bytes
abbrev pub differs : Result (List ℕ × Bool) Fault → List ℕ → Bool
differs (Ok it) bytes = not (bytes_eq it.0 bytes)
differs (Err fault) bytes = false

-- whether a text is a dump of other bytes in a form
abbrev pub is_other : Form → List ℕ → List ℕ → Bool
is_other form text bytes = differs (read_as form text) bytes

-- whether a text is a dump of other bytes in one of these forms
abbrev pub is_other_in : List Form → List ℕ → List ℕ → Bool
is_other_in [] text bytes = false
is_other_in (form ∷ forms) text bytes = is_other form text bytes || is_other_in forms text bytes

-- whether a colon or braces show that a text is no program in digits
abbrev pub is_marked : Column → Bool
is_marked Colon = true
is_marked Array = true
is_marked _ = false

-- what is doubtful of a dump that has other bytes in another form
abbrev pub other_doubt : Column → Doubt
other_doubt Colon = Order
other_doubt _ = Radix

-- What is doubtful of a dump with these bytes: whether it has other bytes in another of these forms; or whether it has
-- addresses at all, unless a colon, braces, a line after the first or a line's text shows them.
abbrev pub doubt_of : List Form → Column → Bool → List ℕ → List ℕ → Option Doubt
doubt_of forms column sure text bytes =
    if is_other_in forms text bytes then Some (other_doubt column) else (
    if sure || is_marked column then None else Some NoAddress)

-- A program that is read, with its form if it is a dump; or why a text is none.
abbrev pub Program : Type 0
Program = Result (Option Form × List ℕ) Refused

-- the program of a dump, given what is doubtful of it
abbrev pub settled_by : Option Doubt → Form × List ℕ × Bool → Program
settled_by (Some doubt) d = Err (Unsure doubt)
settled_by None d = Ok (Some d.0, d.1)

-- the program of a dump, if nothing of it is doubtful
abbrev pub settled : List Form → List ℕ → Form × List ℕ × Bool → Program
settled forms text d = settled_by (doubt_of forms d.0.column d.2 text d.1) d

-- the program of a text that is read as a dump
abbrev pub dump_of : List ℕ → Read → Program
dump_of text (Ok d) = settled words_first text d
dump_of text (Err fault) = Err (BadDump fault)

-- whether a dump lacks lines
abbrev pub lacks_lines : Fault → Bool
lacks_lines fault = fault.is_dump && is_gap fault.cause
  where
    is_gap : Cause → Bool
    is_gap BadAddress = true
    is_gap _ = false

-- The program of a text whose digits are these bytes: a dump without colons if it surely is one; but no program if the
-- bytes begin with DMAEND and the text is a dump that lacks lines.
abbrev pub plain_of : List ℕ → List ℕ → Read → Program
plain_of bytes text (Ok d) = if d.2 then settled plain_forms text d else Ok (None, bytes)
plain_of bytes text (Err fault) =
    if ends_at_once bytes && lacks_lines fault then Err (BadDump fault) else Ok (None, bytes)

-- The program of a text, given what it is as a dump with colons: no program if that lacks lines.
abbrev pub unless_gap : Result (List ℕ × Bool) Fault → Program → Program
unless_gap (Ok it) program = program
unless_gap (Err fault) program = if lacks_lines fault then Err (BadDump fault) else program

-- whether a fault of a dump says more than that of its digits at an offset: it is further in the text, or at a `*`
abbrev pub says_more : Fault → ℕ → Bool
says_more fault at = fault.is_dump && (nat_lt at fault.at || is_star fault.cause)
  where
    is_star : Cause → Bool
    is_star Star = true
    is_star _ = false

-- The program of a text whose digits have a fault at an offset: a dump, if it surely is one or has colons or braces; or
-- else the fault that says more.
abbrev pub other_of : Notation → ℕ → List ℕ → Read → Program
other_of notation at text (Ok d) =
    if d.2 || is_marked d.0.column then settled plain_forms text d else Err (BadDigits notation at)
other_of notation at text (Err fault) =
    if says_more fault at then Err (BadDump fault) else Err (BadDigits notation at)

-- the program of a text that spells these bytes, or has a fault at this offset
abbrev pub digits_of : Notation → List ℕ → Result (List ℕ) ℕ → Program
digits_of notation text (Ok bytes) =
    unless_gap (read_as (colon_form notation) text) (plain_of bytes text (fit plain_forms nowhere text))
digits_of notation text (Err at) = other_of notation at text (fit (forms_for notation) nowhere text)

-- The program that a text spells, or why it spells none.
abbrev pub pasted : Spelling → List ℕ → Program
pasted Dump text = dump_of text (fit words_first nowhere text)
pasted (Digits notation) text = digits_of notation text (spelled notation text)

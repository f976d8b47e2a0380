-- How the reader of a line goes through its words, one after another, for the contracts of private functions. Of each
-- of the three tests of words (their count, their form, and the ranges of numbers), the first fault is kept until the
-- end of the line. What a line means is in `Arguments`, `Plan`, `Statements` and `Race`.
use Rattle.std.specs.Prelude.{◌≡◌, ◌<◌, ◌≤◌, slice_index, ℕ, ◌&&◌, ◌||◌, Bool, true, false, not, if◌then◌else◌, List, [], ◌∷◌, ◌++◌, Option, Some, None, Result}
use Rattle.std.specs.Prelude.{Ok, unwrap_or, codes}
use Rattle.std.specs.{Option.option_or, Str.bytes_eq}
use Rattle.dma_mem.specs.declared.marks.MarkKind.TheVariants.{Reading, Writing}
use Rattle.dma_mem.specs.{declared.marks.MarkKind.MarkKind, declared.segment.Segment.Segment}
use Rattle.dma_text.specs.{Lines.is_blank, Results.◌>>=◌}
use Rattle.dma_script.specs.Arguments.{any_list, any_number, any_segment, bytes_at, is_between, most_line_steps, number_or_zero, or_empty, unless, where_not, Shape, makes, number, within}
use Rattle.dma_script.specs.Arguments.{segment, list, steps, bytes, fixed, event, source, kind}
use Rattle.dma_script.specs.{Words.segment_of, Words.list_of, Plan.transfer, Statements.later_line, Statements.statement}
use Rattle.dma_script.specs.{Causes.cause_reported, declared.fault.Cause.Cause, declared.transfer_line.Origin.Origin}
use Rattle.dma_script.specs.{declared.transfer_line.TransferLine.TransferLine, declared.statements.Keyword.Keyword, declared.statements.Statement.Statement}
use Rattle.dma_script.specs.declared.fault.Cause.TheVariants as causes
use Rattle.dma_script.specs.declared.transfer_line.Origin.TheVariants as origins

-- No byte is a blank from one place on up to another.
abbrev pub NoBlank : List ℕ → ℕ → ℕ → Type 0
NoBlank line start end = (k : ℕ) → start ≤ k → k < end → is_blank (slice_index line k) ≡ false

-- A line whose words are being read. `left`: the words not read yet. `misses`: a word is missing, or a fixed word is
-- wrong. `form`: `Number` or `Hex`, for the first word that is not in its form. `range`: the cause of the first number
-- that is outside its range.
pub record LineRead : Type 0 where
  pub left : List (List ℕ)
  pub misses : Bool
  pub form : Option Cause
  pub range : Option Cause

-- a line of which no word was read yet
abbrev pub unread : List (List ℕ) → LineRead
unread words = record { left = words; misses = false; form = None; range = None }

-- whether no word is left
abbrev pub no_words : List (List ℕ) → Bool
no_words [] = true
no_words (word ∷ words) = false

-- the next word; no bytes if there is none
abbrev pub next_of : List (List ℕ) → List ℕ
next_of [] = []
next_of (word ∷ words) = word

-- the words after the next one
abbrev pub rest_of : List (List ℕ) → List (List ℕ)
rest_of [] = []
rest_of (word ∷ words) = words

-- whether the next word is a text
abbrev pub begins : List ℕ → List (List ℕ) → Bool
begins text [] = false
begins text (word ∷ words) = bytes_eq word text

-- The first cause of a line whose last word should have been read. `Words` for a word that is missing, wrong or too
-- many; then the first word that is not in its form, and then the first number that is outside its range.
abbrev pub end_cause : LineRead → Option Cause
end_cause line = if not line.misses && no_words line.left then option_or line.form line.range else Some causes.Words

-- succeeds if a line has no cause
abbrev pub ended : LineRead → Result (Unit {0}) Cause
ended line = unless (end_cause line)

-- ---- one word, or one part of a line. Each function returns a value and the line after it. The value of a word that
-- is missing or faulty doesn't matter.

-- a word
abbrev pub after_word : LineRead → LineRead
after_word line = record line { left = rest_of line.left; misses = line.misses || no_words line.left }

-- a word that is known
abbrev pub skipped : LineRead → LineRead
skipped line = record line { left = rest_of line.left }

-- the fault of a word's form, if any
abbrev pub noted : Option Cause → LineRead → LineRead
noted fault line = record line { form = option_or line.form fault }

-- the word `text`, if it is the next
abbrev pub skip_from : List ℕ → LineRead → LineRead
skip_from text line = if begins text line.left then skipped line else line

-- the word `text`, or else a wrong word
abbrev pub fixed_from : List ℕ → LineRead → LineRead
fixed_from text line = if begins text line.left then skipped line else record line { misses = true }

-- a number
abbrev pub number_from : LineRead → ℕ × LineRead
number_from line = (number_or_zero (next_of line.left), noted (any_number (next_of line.left)).form (after_word line))

-- a number from `low` to `high`, or a cause
abbrev pub within_from : ℕ → ℕ → Cause → LineRead → ℕ × LineRead
within_from low high cause line =
    let found = number_from line in
    let fits = is_between low high found.0 in
    (if fits then found.0 else low, record found.1 { range = option_or found.1.range (where_not fits cause) })

-- a list of segments
abbrev pub list_from : LineRead → List Segment × LineRead
list_from line = (unwrap_or (list_of (next_of line.left)) [], noted (any_list (next_of line.left)).form (after_word line))

-- the event after its name, given whether that is the next word
abbrev pub event_from : Bool → LineRead → Option ℕ × LineRead
event_from is line =
    let found = within_from 0 255 causes.Range (skipped line) in
    if is then (Some found.0, found.1) else (None, line)

-- the source of a transfer, given whether `fill` is the next word
abbrev pub source_from : Bool → LineRead → Origin × LineRead
source_from is line =
    let addr = number_from (skipped line) in
    let places = list_from line in
    if is then (origins.Place addr.0, addr.1) else (origins.List places.0, places.1)

-- the kind of a mark, given whether `read` is the next word, and whether `write` is
abbrev pub kind_from : Bool → Bool → LineRead → MarkKind × LineRead
kind_from reads writes line =
    if reads then (Reading, skipped line) else (Writing, if writes then skipped line else record line { misses = true })

-- what a shape makes of a line's words, one after another, and the line after them
abbrev pub read : {A : Type 0} → Shape A → LineRead → A × LineRead
read (makes a) line = (a, line)
read (number next) line = let found = number_from line in read (next found.0) found.1
read (within low high cause next) line = let found = within_from low high cause line in read (next found.0) found.1
read (segment next) line =
    let word = next_of line.left in
    read (next (unwrap_or (segment_of word) (record { addr = 0; len = 0 }))) (noted (any_segment word).form (after_word line))
read (list next) line = let found = list_from line in read (next found.0) found.1
read (steps next) line =
    let found = if no_words line.left then (1, line) else within_from 1 most_line_steps causes.Range line in
    read (next found.0) found.1
read (bytes next) line =
    let after = record line { left = []; misses = line.misses || no_words line.left } in
    read (next (or_empty (bytes_at line.left))) (noted (cause_reported (bytes_at line.left)) after)
read (fixed text rest) line = read rest (fixed_from text line)
read (event name next) line = let found = event_from (begins name line.left) line in read (next found.0) found.1
read (source next) line = let found = source_from (begins (codes "fill") line.left) line in read (next found.0) found.1
read (kind next) line =
    let found = kind_from (begins (codes "read") line.left) (begins (codes "write") line.left) line in
    read (next found.0) found.1

-- `LIST to LIST [wait E] [signal E]` or `fill ADDR to LIST [wait E] [signal E]`
abbrev pub transfer_from : LineRead → TransferLine × LineRead
transfer_from line = read (transfer makes) line

-- statements and one more, and the line after it
abbrev pub added_to : List Statement → Statement × LineRead → Result (List Statement × LineRead) Cause
added_to before read = Ok (before ++ read.0 ∷ [], read.1)

-- statements and one more, which a keyword and the words after it spell, and the line after them: `First` for the
-- memory line
abbrev pub statement_added : Keyword → List Statement → LineRead → Result (List Statement × LineRead) Cause
statement_added keyword before line = do
  shape ← statement keyword
  added_to before (read shape line)

-- statements and that of a line after the first, by its keyword and the words after it
abbrev pub line_added : Keyword → List Statement → List (List ℕ) → Result (List Statement) Cause
line_added keyword before words = do
  statement ← later_line keyword words
  Ok (before ++ statement ∷ [])

-- What the words after the first of a line have to be, and what they make (profile). The words are read by a shape.
-- Where no word is missing, wrong or too many, each word that is not fixed gives the causes that apply to it, and a
-- value. All words are read, from the left, before any number is compared with its range.
use Rattle.std.specs.Prelude.{ℕ, ◌&&◌, Bool, nat_le, if◌then◌else◌, List, [], ◌∷◌, ◌++◌, map, Option, Some, None, Result, Ok, Err, is_some, unwrap_or, codes}
use Rattle.std.specs.{Option.ok_or, Option.option_map, Option.option_or, Str.bytes_eq}
use Rattle.dma_mem.specs.declared.marks.MarkKind.TheVariants.{Reading, Writing}
use Rattle.dma_mem.specs.{declared.marks.MarkKind.MarkKind, declared.segment.Segment.Segment}
use Rattle.dma_script.specs.{Words.number_of, Words.segment_of, Words.list_of, Words.bytes_in, declared.fault.Cause.Cause, declared.transfer_line.Origin.Origin}
use Rattle.dma_text.specs.Results.{◌>>=◌}
use Rattle.dma_script.specs.declared.fault.Cause.TheVariants as causes
use Rattle.dma_script.specs.declared.transfer_line.Origin.TheVariants as origins

-- ---- causes

-- no cause if a test holds, else this cause
abbrev pub where_not : Bool → Cause → Option Cause
where_not holds cause = if holds then None else Some cause

-- the first cause of a list of tests, each of which gives a cause or none
abbrev pub first_reported : List (Option Cause) → Option Cause
first_reported [] = None
first_reported (test ∷ tests) = option_or test (first_reported tests)

-- succeeds, unless there is a cause
abbrev pub unless : Option Cause → Result (Unit {0}) Cause
unless None = Ok tt
unless (Some cause) = Err cause

-- ---- one word

-- The causes of a word. `form`: `Number`, or `Hex` for hexadecimal digits, if it is not in its form. `range`: the cause
-- of a number that is outside its range.
pub record Operand : Type 0 where
  pub form : Option Cause
  pub range : Option Cause

-- the number that a word spells, or 0 if it spells none
abbrev pub number_or_zero : List ℕ → ℕ
number_or_zero word = unwrap_or (number_of word) 0

-- whether a number is at least `low` and at most `high`
abbrev pub is_between : ℕ → ℕ → ℕ → Bool
is_between low high n = nat_le low n && nat_le n high

-- the number that a word spells, or `low` if it is outside its range
abbrev pub number_within : ℕ → ℕ → List ℕ → ℕ
number_within low high word = if is_between low high (number_or_zero word) then number_or_zero word else low

-- a word that has to be a number
abbrev pub any_number : List ℕ → Operand
any_number word = record { form = where_not (is_some (number_of word)) causes.Number; range = None }

-- a word that has to be a number from `low` to `high`
abbrev pub ranged : ℕ → ℕ → Cause → List ℕ → Operand
ranged low high cause word = record (any_number word) { range = where_not (is_between low high (number_or_zero word)) cause }

-- a word that has to be a segment
abbrev pub any_segment : List ℕ → Operand
any_segment word = record { form = where_not (is_some (segment_of word)) causes.Number; range = None }

-- a word that has to be a list of segments
abbrev pub any_list : List ℕ → Operand
any_list word = record { form = where_not (is_some (list_of word)) causes.Number; range = None }

-- a word that has to be hexadecimal digits
abbrev pub digits : List ℕ → Operand
digits word = record { form = where_not (is_some (bytes_in word)) causes.Hex; range = None }

-- the joined bytes of hexadecimal words; `Hex` if one of them is not
abbrev pub bytes_at : List (List ℕ) → Result (List ℕ) Cause
bytes_at [] = Ok []
bytes_at (word ∷ words) = do
  front ← ok_or (bytes_in word) causes.Hex
  rest ← bytes_at words
  Ok (front ++ rest)

-- the value of a result, or an empty list
abbrev pub or_empty : Result (List ℕ) Cause → List ℕ
or_empty (Ok bytes) = bytes
or_empty (Err cause) = []

-- ---- several words

-- the most steps of a step line (profile)
abbrev pub most_line_steps : ℕ
most_line_steps = 1000000

-- What words have to be, from the left, and what they make, given the value of each. `makes`: no word is left.
-- `number`, `within`, `segment`, `list`: one such word. `steps`: a number of steps, or no word for 1. `bytes`: all
-- words that are left, at least one, in hexadecimal digits. `fixed`: the word `text`. `event`: a name and the number of
-- an event, or another word or none. `source`: `fill ADDR`, or a list. `kind`: `read` or `write`.
pub data Shape (A : Type 0) : Type 0 where
  makes : A → Shape A
  number : (ℕ → Shape A) → Shape A
  within : ℕ → ℕ → Cause → (ℕ → Shape A) → Shape A
  segment : (Segment → Shape A) → Shape A
  list : (List Segment → Shape A) → Shape A
  steps : (ℕ → Shape A) → Shape A
  bytes : (List ℕ → Shape A) → Shape A
  fixed : List ℕ → Shape A → Shape A
  event : List ℕ → (Option ℕ → Shape A) → Shape A
  source : (Origin → Shape A) → Shape A
  kind : (MarkKind → Shape A) → Shape A

-- a number of at most 255, such as that of a channel or an event; `Range` above 255
abbrev pub byte : {A : Type 0} → (ℕ → Shape A) → Shape A
byte next = within 0 255 causes.Range next

-- the operands of words, and what the words make if no cause applies
pub record Spelled (A : Type 0) : Type 0 where
  pub operands : List Operand
  pub made : A

-- further operands in front
abbrev pub behind : {A : Type 0} → List Operand → Option (Spelled A) → Option (Spelled A)
behind operands None = None
behind operands (Some found) = Some (record found { operands = operands ++ found.operands })

-- What words of a shape spell; `None` if a word is missing, one is too many, or a fixed one is wrong.
abbrev pub spelled : {A : Type 0} → Shape A → List (List ℕ) → Option (Spelled A)
spelled (makes a) [] = Some (record { operands = []; made = a })
spelled (number next) (word ∷ words) = behind (any_number word ∷ []) (spelled (next (number_or_zero word)) words)
spelled (within low high cause next) (word ∷ words) =
    behind (ranged low high cause word ∷ []) (spelled (next (number_within low high word)) words)
spelled (segment next) (word ∷ words) =
    behind (any_segment word ∷ []) (spelled (next (unwrap_or (segment_of word) (record { addr = 0; len = 0 }))) words)
spelled (list next) (word ∷ words) = behind (any_list word ∷ []) (spelled (next (unwrap_or (list_of word) [])) words)
spelled (steps next) [] = spelled (next 1) []
spelled (steps next) (word ∷ words) =
    behind (ranged 1 most_line_steps causes.Range word ∷ []) (spelled (next (number_within 1 most_line_steps word)) words)
spelled (bytes next) (word ∷ words) =
    behind (map digits (word ∷ words)) (spelled (next (or_empty (bytes_at (word ∷ words)))) [])
spelled (fixed text rest) (word ∷ words) = if bytes_eq word text then spelled rest words else None
spelled (event name next) [] = spelled (next None) []
spelled (event name next) (word ∷ []) = if bytes_eq word name then None else spelled (next None) (word ∷ [])
spelled (event name next) (word ∷ e ∷ words) =
    if bytes_eq word name then behind (ranged 0 255 causes.Range e ∷ []) (spelled (next (Some (number_within 0 255 e))) words)
    else spelled (next None) (word ∷ e ∷ words)
spelled (source next) (word ∷ []) =
    if bytes_eq word (codes "fill") then None
    else behind (any_list word ∷ []) (spelled (next (origins.List (unwrap_or (list_of word) []))) [])
spelled (source next) (word ∷ addr ∷ words) =
    if bytes_eq word (codes "fill")
    then behind (any_number addr ∷ []) (spelled (next (origins.Place (number_or_zero addr))) words)
    else behind (any_list word ∷ []) (spelled (next (origins.List (unwrap_or (list_of word) []))) (addr ∷ words))
spelled (kind next) (word ∷ words) =
    if bytes_eq word (codes "read") then spelled (next Reading) words else (
    if bytes_eq word (codes "write") then spelled (next Writing) words else None)
spelled _ words = None

-- the operands of words, if no word is missing, wrong or too many
abbrev pub operands : {A : Type 0} → Shape A → List (List ℕ) → Option (List Operand)
operands shape words = option_map (λ found. found.operands) (spelled shape words)

-- The first cause of words. `Words` if a word is missing, one is too many, or a fixed one is wrong; then the first of a
-- word that is not in its form; and then the first of a number that is outside its range.
abbrev pub words_cause : Option (List Operand) → Option Cause
words_cause None = Some causes.Words
words_cause (Some operands) =
    option_or (first_reported (map (λ operand. operand.form) operands)) (first_reported (map (λ operand. operand.range) operands))

-- what words make if no cause applies, or else their first cause
abbrev pub meaning : {A : Type 0} → Shape A → List (List ℕ) → Result A Cause
meaning shape words = elim (spelled shape words) [
  | None ↦ Err causes.Words
  | Some found ↦ unless (words_cause (Some found.operands)) >>= (λ none. Ok found.made)
]

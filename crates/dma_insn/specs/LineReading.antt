-- Reading assembly text, as functions of the bytes. `AssemblyText` defines the meaning of a text; the law
-- `ReadingReports` is that `assembled` agrees with it on every text.
use Rattle.std.specs.Prelude.{◌≡◌, ◌≢◌, ◌↔◌, ℕ, ◌+◌, ◌-◌, ◌*◌, Bool, true, false, ◌==◌, ◌&&◌, if◌then◌else◌, List, [], ◌∷◌, ◌++◌, length, Option, Some, None}
use Rattle.std.specs.Prelude.{Result, Ok, Err, IsOk, ◌⊎◌, codes, nat_le, min}
use Rattle.std.specs.{Option.option_and_then, Option.ok_or, Str.bytes_eq}
use Rattle.dma_text.specs.{Results.◌>>=◌, Lines.text_lines}
use Rattle.dma_insn.specs.AssemblyText.{words_of, is_skipped, counter_of, most_program_bytes, Assembles, IsFirstFault}
use Rattle.dma_insn.specs.declared.insn.Reg.TheVariants.{Sar, Ccr, Dar}
use Rattle.dma_insn.specs.declared.insn.Insn.TheVariants.{Mov, Ld, St, Rmb, Wmb, Nop, End, Lp, LpEnd, Sev, Wfe}
use Rattle.dma_insn.specs.declared.assembler.AsmCause.TheVariants.{Mnemonic, Operand, Range}
use Rattle.dma_insn.specs.declared.assembler.AsmFault.TheVariants.{Line, ProgramTooLong, NoMemory}
use Rattle.dma_insn.specs.{Spelling.spelling, declared.insn.Reg.Reg, declared.insn.Counter.Counter, declared.insn.Insn.Insn}
use Rattle.dma_insn.specs.{declared.assembler.AsmCause.AsmCause, declared.assembler.AsmFault.AsmFault}

-- The result that a function returned, with `view` applied to a value, equals `read`.
abbrev pub ResultIs : {X Y E : Type 0} → (X → Y) → Result X E → Result Y E → Type 0
ResultIs view (Ok x) read = read ≡ Ok (view x)
ResultIs view (Err fault) read = read ≡ Err fault

-- the words after a word, given the rest of the line: none if it is empty, else those after its first byte, a space
abbrev pub words_after : List ℕ → List (List ℕ)
words_after [] = []
words_after (space ∷ bytes) = words_of bytes

-- succeeds without words, else fails with `Operand`
abbrev pub no_word : List (List ℕ) → Result (Unit {0}) AsmCause
no_word [] = Ok tt
no_word (a ∷ rest) = Err Operand

-- the only word; `Operand` if there is not exactly one
abbrev pub one_word : List (List ℕ) → Result (List ℕ) AsmCause
one_word (a ∷ []) = Ok a
one_word _ = Err Operand

-- the only two words; `Operand` if there are not exactly two
abbrev pub two_words : List (List ℕ) → Result (List ℕ × List ℕ) AsmCause
two_words (a ∷ b ∷ []) = Ok (a, b)
two_words _ = Err Operand

-- the value of a decimal digit
abbrev pub digit_of : ℕ → Option ℕ
digit_of c = if nat_le 48 c && nat_le c 57 then Some (c - 48) else None

-- a number, capped at 65,535
abbrev pub capped : ℕ → ℕ
capped n = min n 65535

-- a value continued by decimal digits, capped at 65,535 after each; `None` if a byte is not a digit
abbrev pub digits_from : ℕ → List ℕ → Option ℕ
digits_from value [] = Some value
digits_from value (c ∷ rest) = option_and_then (λ d. digits_from (capped (value * 10 + d)) rest) (digit_of c)

-- the number that decimal digits without leading zeros spell, capped at 65,535; `None` for any other word
abbrev pub number_of : List ℕ → Option ℕ
number_of [] = None
number_of (c ∷ []) = digits_from 0 (c ∷ [])
number_of (c ∷ d ∷ rest) = if c == 48 then None else digits_from 0 (c ∷ d ∷ rest)

-- Reads a number in decimal digits without leading zeros, capped at 65,535. For any other word the cause is `Operand`.
abbrev pub number_at : List ℕ → Result ℕ AsmCause
number_at word = ok_or (number_of word) Operand

-- the value of a hexadecimal digit in capitals
abbrev pub hex_digit_of : ℕ → Option ℕ
hex_digit_of c =
    if nat_le 48 c && nat_le c 57 then Some (c - 48) else (if nat_le 65 c && nat_le c 70 then Some (c - 55) else None)

-- a value continued by hexadecimal digits; `None` if a byte is not a digit
abbrev pub hex_from : ℕ → List ℕ → Option ℕ
hex_from value [] = Some value
hex_from value (c ∷ rest) = option_and_then (λ d. hex_from (value * 16 + d) rest) (hex_digit_of c)

-- the value of a word of 0x and eight hexadecimal digits; `None` for any other word
abbrev pub value_of : List ℕ → Option ℕ
value_of (a ∷ b ∷ digits) = if (a == 48) && ((b == 120) && (length digits == 8)) then hex_from 0 digits else None
value_of _ = None

-- Reads the value of a word of 0x and eight hexadecimal digits. For any other word the cause is `Operand`.
abbrev pub value_at : List ℕ → Result ℕ AsmCause
value_at word = ok_or (value_of word) Operand

-- the register of a name
abbrev pub register_of : List ℕ → Option Reg
register_of word =
    if bytes_eq word (codes "SAR") then Some Sar else (
    if bytes_eq word (codes "CCR") then Some Ccr else (
    if bytes_eq word (codes "DAR") then Some Dar else None))

-- Reads the name of a register: SAR, CCR or DAR. For any other word the cause is `Operand`.
abbrev pub register_at : List ℕ → Result Reg AsmCause
register_at word = ok_or (register_of word) Operand

-- the loop counter of a number; `Range` above 1
abbrev pub counter_at : ℕ → Result Counter AsmCause
counter_at c = ok_or (counter_of c) Range

-- the number of times that a loop runs; `Range` if it is not 1 to 256
abbrev pub times_at : ℕ → Result ℕ AsmCause
times_at n = if nat_le 1 n && nat_le n 256 then Ok n else Err Range

-- the number of bytes of a jump back; `Range` above 255
abbrev pub back_at : ℕ → Result ℕ AsmCause
back_at b = if nat_le b 255 then Ok b else Err Range

-- the number of an event; `Range` above 31
abbrev pub event_at : ℕ → Result ℕ AsmCause
event_at e = if nat_le e 31 then Ok e else Err Range

-- the two numbers of exactly two words, capped at 65,535 and not yet tested against their ranges; `Operand` for any
-- other words
abbrev pub two_numbers : List (List ℕ) → Result (ℕ × ℕ) AsmCause
two_numbers words = do
  w ← two_words words
  a ← number_at w.0
  b ← number_at w.1
  Ok (a, b)

-- the instruction of the words after DMALP
abbrev pub loop_line : List (List ℕ) → Result Insn AsmCause
loop_line words = do
  n ← two_numbers words
  counter ← counter_at n.0
  times ← times_at n.1
  Ok (Lp counter times)

-- the instruction of the words after DMALPEND
abbrev pub loop_end_line : List (List ℕ) → Result Insn AsmCause
loop_end_line words = do
  n ← two_numbers words
  counter ← counter_at n.0
  back ← back_at n.1
  Ok (LpEnd counter back)

-- the instruction of the word after DMASEV
abbrev pub signal_line : List (List ℕ) → Result Insn AsmCause
signal_line words = do
  word ← one_word words
  number ← number_at word
  event ← event_at number
  Ok (Sev event)

-- the word of an event, and whether the word `invalid` follows it; `Operand` for any other words
abbrev pub wait_words : List (List ℕ) → Result (List ℕ × Bool) AsmCause
wait_words (a ∷ []) = Ok (a, false)
wait_words (a ∷ b ∷ []) = if bytes_eq b (codes "invalid") then Ok (a, true) else Err Operand
wait_words _ = Err Operand

-- the instruction of the words after DMAWFE
abbrev pub wait_line : List (List ℕ) → Result Insn AsmCause
wait_line words = do
  w ← wait_words words
  number ← number_at w.0
  event ← event_at number
  Ok (Wfe event w.1)

-- the instruction of the words after DMAMOV
abbrev pub set_line : List (List ℕ) → Result Insn AsmCause
set_line words = do
  w ← two_words words
  register ← register_at w.0
  value ← value_at w.1
  Ok (Mov register value)

-- an instruction that takes no words; `Operand` if there is a word
abbrev pub bare_line : Insn → List (List ℕ) → Result Insn AsmCause
bare_line i words = do
  done ← no_word words
  Ok i

-- the instruction of a name and the words after it, or the first cause that applies
abbrev pub line_by : List ℕ → List (List ℕ) → Result Insn AsmCause
line_by name words =
    if bytes_eq name (codes "DMAEND") then bare_line End words else (
    if bytes_eq name (codes "DMALD") then bare_line Ld words else (
    if bytes_eq name (codes "DMAST") then bare_line St words else (
    if bytes_eq name (codes "DMARMB") then bare_line Rmb words else (
    if bytes_eq name (codes "DMAWMB") then bare_line Wmb words else (
    if bytes_eq name (codes "DMANOP") then bare_line Nop words else (
    if bytes_eq name (codes "DMALP") then loop_line words else (
    if bytes_eq name (codes "DMALPEND") then loop_end_line words else (
    if bytes_eq name (codes "DMASEV") then signal_line words else (
    if bytes_eq name (codes "DMAWFE") then wait_line words else (
    if bytes_eq name (codes "DMAMOV") then set_line words else Err Mnemonic))))))))))

-- the instruction of a line, by its words, or the first cause that applies
unfoldable pub line_in : List (List ℕ) → Result Insn AsmCause
line_in [] = Err Mnemonic
line_in (name ∷ words) = line_by name words

-- the result of line n, with the line's number added to a cause
abbrev pub at_line : {A : Type 0} → ℕ → Result A AsmCause → Result A AsmFault
at_line n (Ok x) = Ok x
at_line n (Err cause) = Err (Line n cause)

-- the bytes of a program with one more instruction, of line n; `ProgramTooLong` if they are more than 8,192
abbrev pub with_insn : ℕ → List ℕ → Insn → Result (List ℕ) AsmFault
with_insn n program i =
    if nat_le (length program + length (spelling i)) most_program_bytes then Ok (program ++ spelling i) else Err (ProgramTooLong n)

-- the bytes of a program after line n, or the fault of the line; a skipped line adds nothing
unfoldable pub after_line : ℕ → List ℕ → List ℕ → Result (List ℕ) AsmFault
after_line n program line =
    if is_skipped line then Ok program else (at_line n (line_in (words_of line)) >>= with_insn n program)

-- the bytes of a program after the lines that follow line n, or their first fault
abbrev pub after_lines : ℕ → List ℕ → List (List ℕ) → Result (List ℕ) AsmFault
after_lines n program [] = Ok program
after_lines n program (line ∷ lines) = do
  next ← after_line (n + 1) program line
  after_lines (n + 1) next lines

-- the bytes to which a text assembles, or its first fault
abbrev pub assembled : List ℕ → Result (List ℕ) AsmFault
assembled text = after_lines 0 [] (text_lines text)

-- For every text, `assembled` gives bytes exactly if the text assembles to them, and a fault exactly if it is the
-- text's first fault and is not `NoMemory`.
pub record ReadingReports : Type 0 where
  pub program : (text bytes : List ℕ) → (assembled text ≡ Ok bytes) ↔ Assembles text bytes
  pub fault : (text : List ℕ) (fault : AsmFault)
      → (assembled text ≡ Err fault) ↔ ((fault ≢ NoMemory) × IsFirstFault text fault)

-- The result that a function returned, with `view` applied to a value, equals `read`; or it is `NoMemory`, and `read`
-- is bytes.
abbrev pub ResultIsOrNoMemory : {X : Type 0} → (X → List ℕ) → Result X AsmFault → Result (List ℕ) AsmFault → Type 0
ResultIsOrNoMemory view (Ok x) read = read ≡ Ok (view x)
ResultIsOrNoMemory view (Err fault) read = (read ≡ Err fault) ⊎ ((fault ≡ NoMemory) × IsOk read)

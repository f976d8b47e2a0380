-- The text of channel programs (profile; the names of instructions and registers are those of the PL330 manual), as a
-- relation between lines and instructions. The relation doesn't depend on how text is read or written.
use Rattle.std.specs.Prelude.{◌≡◌, ℕ, ◌+◌, ◌^◌, ◌<◌, ◌≤◌, Bool, true, false, ◌==◌, ◌||◌, ◌&&◌, if◌then◌else◌, List, [], ◌∷◌, ◌++◌, length, slice_index}
use Rattle.std.specs.Prelude.{flat_map, Option, Some, None, codes, nat_le, MatchBool}
use Rattle.std.specs.{List.list_any, List.slice_split, Option.option_and_then, Str.all_ascii_digits, Str.bytes_eq, Str.Parse.digits_value}
use Rattle.dma_text.specs.{Digits.hex_digits, Lines.is_all_spaces, Lines.text_lines}
use Rattle.dma_insn.specs.declared.insn.Reg.TheVariants.{Sar, Ccr, Dar}
use Rattle.dma_insn.specs.declared.insn.Counter.TheVariants.{Lc0, Lc1}
use Rattle.dma_insn.specs.declared.insn.Insn.TheVariants.{Mov, Ld, St, Rmb, Wmb, Nop, End, Lp, LpEnd, Sev, Wfe}
use Rattle.dma_insn.specs.declared.assembler.AsmCause.TheVariants.{Mnemonic, Operand, Range}
use Rattle.dma_insn.specs.{Spelling.spelling, declared.insn.Reg.Reg, declared.insn.Counter.Counter, declared.insn.Insn.Insn}
use Rattle.dma_insn.specs.{declared.assembler.AsmCause.AsmCause, declared.assembler.AsmFault.AsmFault}
use Rattle.dma_insn.specs.declared.assembler.AsmFault.TheVariants as faults

-- the words of a line: the parts between its spaces, which may be empty
abbrev pub words_of : List ℕ → List (List ℕ)
words_of line = slice_split (λ b. b == 32) line

-- whether a line is skipped: it is empty, has only spaces, or its first byte is #
abbrev pub is_skipped : List ℕ → Bool
is_skipped line = is_all_spaces line || (slice_index line 0 == 35)

-- The word is the number n in decimal digits, one or more, without leading zeros.
pub record IsDecimal (word : List ℕ) (n : ℕ) : Type 0 where
  pub some : 0 < length word
  pub digits : all_ascii_digits word ≡ true
  pub no_zeros : slice_index word 0 ≡ 48 → length word ≡ 1
  pub value_is : n ≡ digits_value 10 word

-- 0x and the eight hexadecimal digits of a number
abbrev pub value_word : ℕ → List ℕ
value_word v = codes "0x" ++ hex_digits v

-- the name of a register
abbrev pub register_word : Reg → List ℕ
register_word Sar = codes "SAR"
register_word Ccr = codes "CCR"
register_word Dar = codes "DAR"

-- What a line says, before its decimal numbers are tested against their ranges. `dmalp` has a loop counter and a number
-- of times, `dmalpend` a loop counter and a jump, `dmasev` an event, `dmawfe` an event and whether the invalid flag is
-- set, `dmamov` a register and its value.
pub data Statement : Type 0 where
  dmaend : Statement
  dmald : Statement
  dmast : Statement
  dmarmb : Statement
  dmawmb : Statement
  dmanop : Statement
  dmalp : ℕ → ℕ → Statement
  dmalpend : ℕ → ℕ → Statement
  dmasev : ℕ → Statement
  dmawfe : ℕ → Bool → Statement
  dmamov : Reg → ℕ → Statement

-- The words are a name, the number n in decimal, and the words `more`.
pub record HasNumber (words : List (List ℕ)) (name : List ℕ) (n : ℕ) (more : List (List ℕ)) : Type 0 where
  pub word : List ℕ
  pub words_are : words ≡ name ∷ word ∷ more
  pub number : IsDecimal word n

-- The words are a name and the numbers m and n in decimal.
pub record HasTwoNumbers (words : List (List ℕ)) (name : List ℕ) (m n : ℕ) : Type 0 where
  pub first : List ℕ
  pub second : List ℕ
  pub words_are : words ≡ name ∷ first ∷ second ∷ []
  pub first_number : IsDecimal first m
  pub second_number : IsDecimal second n

-- The words are DMAMOV, the register r and the value v, which is below 2 ^ 32.
pub record HasValue (words : List (List ℕ)) (r : Reg) (v : ℕ) : Type 0 where
  pub words_are : words ≡ codes "DMAMOV" ∷ register_word r ∷ value_word v ∷ []
  pub in_range : v < 2 ^ 32

-- The words are those of a line with this statement.
abbrev pub IsWritten : List (List ℕ) → Statement → Type 0
IsWritten words dmaend = words ≡ codes "DMAEND" ∷ []
IsWritten words dmald = words ≡ codes "DMALD" ∷ []
IsWritten words dmast = words ≡ codes "DMAST" ∷ []
IsWritten words dmarmb = words ≡ codes "DMARMB" ∷ []
IsWritten words dmawmb = words ≡ codes "DMAWMB" ∷ []
IsWritten words dmanop = words ≡ codes "DMANOP" ∷ []
IsWritten words (dmalp c n) = HasTwoNumbers words (codes "DMALP") c n
IsWritten words (dmalpend c b) = HasTwoNumbers words (codes "DMALPEND") c b
IsWritten words (dmasev e) = HasNumber words (codes "DMASEV") e []
IsWritten words (dmawfe e false) = HasNumber words (codes "DMAWFE") e []
IsWritten words (dmawfe e true) = HasNumber words (codes "DMAWFE") e (codes "invalid" ∷ [])
IsWritten words (dmamov r v) = HasValue words r v

-- the loop counter of a number: of 0 and 1 only
abbrev pub counter_of : ℕ → Option Counter
counter_of c = if c == 0 then Some Lc0 else (if c == 1 then Some Lc1 else None)

-- the instruction of a statement, if each of its decimal numbers is in range
abbrev pub insn_of : Statement → Option Insn
insn_of dmaend = Some End
insn_of dmald = Some Ld
insn_of dmast = Some St
insn_of dmarmb = Some Rmb
insn_of dmawmb = Some Wmb
insn_of dmanop = Some Nop
insn_of (dmalp c n) = option_and_then (λ k. if nat_le 1 n && nat_le n 256 then Some (Lp k n) else None) (counter_of c)
insn_of (dmalpend c b) = option_and_then (λ k. if nat_le b 255 then Some (LpEnd k b) else None) (counter_of c)
insn_of (dmasev e) = if nat_le e 31 then Some (Sev e) else None
insn_of (dmawfe e v) = if nat_le e 31 then Some (Wfe e v) else None
insn_of (dmamov r v) = Some (Mov r v)

-- A line writes the instruction i: it is not skipped, and its words are those of a statement with the instruction i.
pub record Writes (line : List ℕ) (i : Insn) : Type 0 where
  pub taken : is_skipped line ≡ false
  pub statement : Statement
  pub words_are : IsWritten (words_of line) statement
  pub insn_is : insn_of statement ≡ Some i

-- the names of the instructions
abbrev pub names : List (List ℕ)
names =
    codes "DMAEND" ∷ codes "DMALD" ∷ codes "DMAST" ∷ codes "DMARMB" ∷ codes "DMAWMB" ∷ codes "DMANOP"
    ∷ codes "DMALP" ∷ codes "DMALPEND" ∷ codes "DMASEV" ∷ codes "DMAWFE" ∷ codes "DMAMOV" ∷ []

-- the first word; an empty one if there are no words
abbrev pub first_of : List (List ℕ) → List ℕ
first_of [] = []
first_of (word ∷ words) = word

-- whether the first word of a line is the name of an instruction
abbrev pub begins_with_name : List ℕ → Bool
begins_with_name line = list_any (λ name. bytes_eq (first_of (words_of line)) name) names

-- Why the words of a line write no instruction. `Mnemonic`: the first word is not a name. `Operand`: the first word is
-- a name, and the words are not those of a statement. `Range`: the words are those of a statement, and a number of it
-- is out of range.
abbrev pub IsCause : List ℕ → AsmCause → Type 0
IsCause line Mnemonic = begins_with_name line ≡ false
IsCause line Operand = (begins_with_name line ≡ true) × ((s : Statement) → IsWritten (words_of line) s → ⊥)
IsCause line Range = (s : Statement) × IsWritten (words_of line) s × (insn_of s ≡ None)

-- The line is not skipped, and the cause applies to it.
pub record HasCause (line : List ℕ) (cause : AsmCause) : Type 0 where
  pub taken : is_skipped line ≡ false
  pub cause_is : IsCause line cause

-- The line writes the first of the instructions, and `Rest` holds of the others.
pub record WritesFirst (line : List ℕ) (is : List Insn) (Rest : List Insn → Type 0) : Type 0 where
  pub first : Insn
  pub rest : List Insn
  pub are : is ≡ first ∷ rest
  pub writes : Writes line first
  pub more : Rest rest

-- The lines write the instructions, in order: each line is skipped or writes one instruction.
abbrev pub WriteAll : List (List ℕ) → List Insn → Type 0
WriteAll [] is = is ≡ []
WriteAll (line ∷ lines) is =
    MatchBool (is_skipped line) (WriteAll lines is) (WritesFirst line is (λ rest. WriteAll lines rest))

-- The lines of the text write the instructions.
abbrev pub ProgramText : List ℕ → List Insn → Type 0
ProgramText text is = WriteAll (text_lines text) is

-- the bytes of a program
abbrev pub joined : List Insn → List ℕ
joined is = flat_map spelling is

-- the most bytes that a program has
abbrev pub most_program_bytes : ℕ
most_program_bytes = 8192

-- The text assembles to the bytes: its lines write instructions with these bytes, of which there are at most 8,192.
pub record Assembles (text bytes : List ℕ) : Type 0 where
  pub insns : List Insn
  pub text_is : ProgramText text insns
  pub bytes_are : bytes ≡ joined insns
  pub fits : length bytes ≤ most_program_bytes

-- The line is line n of the text, and the lines before it write the instructions, which have at most 8,192 bytes.
pub record IsLineAt (text line : List ℕ) (n : ℕ) (insns : List Insn) : Type 0 where
  pub before : List (List ℕ)
  pub after : List (List ℕ)
  pub lines_are : text_lines text ≡ before ++ line ∷ after
  pub number : n ≡ length before + 1
  pub writes : WriteAll before insns
  pub fits : length (joined insns) ≤ most_program_bytes

-- The first fault of a text. `Line`: line n has the cause, and the lines before it have no fault. `ProgramTooLong`:
-- line n writes an instruction with which the program has more than 8,192 bytes, and the lines before it have no fault.
-- `NoMemory`: the text assembles, so it has no fault.
abbrev pub IsFirstFault : List ℕ → AsmFault → Type 0
IsFirstFault text (faults.Line n cause) =
    (line : List ℕ) × (insns : List Insn) × IsLineAt text line n insns × HasCause line cause
IsFirstFault text (faults.ProgramTooLong n) =
    (line : List ℕ) × (insns : List Insn) × (i : Insn) × IsLineAt text line n insns × Writes line i
    × (most_program_bytes < length (joined insns) + length (spelling i))
IsFirstFault text faults.NoMemory = (bytes : List ℕ) × Assembles text bytes

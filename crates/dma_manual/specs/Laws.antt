-- What the assembler makes of the texts of instructions and of programs.
use Rattle.std.specs.Prelude.{◌≡◌, ℕ, ◌-◌, ◌<◌, ◌≤◌, ◌++◌, Bool, List, Option, length, take, slice_index, Ok}
use Rattle.std.specs.List.{All}
use Rattle.dma_insn.specs.AssemblyText.{most_program_bytes}
use Rattle.dma_manual.specs.Listing.{Ending, follow, stop, blanks_behind, indented, listed, rest_text, widest}
use Rattle.dma_manual.specs.{Forms.words_first, Pasted.pasted, Pasted.read_as, declared.forms.Form.Form, declared.pasted.Spelling.TheVariants.Dump}
use Rattle.dma_manual.specs.{Insns.HasRanges, Insns.spelling, declared.insns.ManualInsn.ManualInsn, ManualText.insn_text, Assembled.assembled}

-- The text of each instruction assembles to the instruction's bytes.
abbrev pub TextsAssemble : Type 0
TextsAssemble = (i : ManualInsn) → HasRanges i → assembled (insn_text i) ≡ Ok (spelling i)

-- The number of bytes that a listing shows: all but those that follow DMAEND, or those before what is no instruction.
abbrev pub shown : List ℕ → Ending → ℕ
shown program (follow n) = length program - n
shown program (stop o fault bytes) = o

-- What `disassemble` appends to `out` for a program assembles to the bytes that it shows, if they are at most 8,192.
abbrev pub ListingsAssemble : Type 0
ListingsAssemble =
    (at : ℕ) (program : List ℕ) → ((k : ℕ) → slice_index program k < 256)
    → let l = listed at program in shown program l.ending ≤ most_program_bytes
    → assembled (l.text ++ rest_text l.ending) ≡ Ok (take (shown program l.ending) program)

-- In a listing the comments of all instructions begin in the same column.
abbrev pub CommentsStandInColumns : Type 0
CommentsStandInColumns =
    (labels : List ℕ) (o : ℕ) (i : ManualInsn) → HasRanges i
    → let text = indented labels o i in length (text ++ blanks_behind (length text)) ≡ widest

-- If a text is a dump of some bytes in this form, no other bytes are read from it as a dump.
abbrev pub ReadsNoOther : List ℕ → Form → Type 0
ReadsNoOther text form =
    (bytes found : List ℕ) (sure : Bool) (read : Option Form) → read_as form text ≡ Ok (bytes, sure)
    → pasted Dump text ≡ Ok (read, found) → found ≡ bytes

-- Whatever bytes a text is a dump of, in whichever form: these bytes are read from it, or it is refused.
abbrev pub DumpsAreReadOneWay : Type 0
DumpsAreReadOneWay = (text : List ℕ) → All (ReadsNoOther text) words_first

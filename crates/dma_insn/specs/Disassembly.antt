-- The text to which a program's bytes are disassembled (profile).
use Rattle.std.specs.Prelude.{◌≡◌, ℕ, ◌<◌, ◌≤◌, true, false, ◌⊎◌, List, [], ◌∷◌, ◌++◌, length, slice_index, flat_map, codes, decimal, Err}
use Rattle.std.specs.List.{concat, list_any}
use Rattle.dma_insn.specs.Spelling.{HasRanges, IsSpelledAt, IsRefusedFor}
use Rattle.dma_insn.specs.AssemblyText.{register_word, value_word, is_skipped, ProgramText, joined, most_program_bytes, Assembles}
use Rattle.dma_insn.specs.declared.insn.Insn.TheVariants.{Mov, Ld, St, Rmb, Wmb, Nop, End, Lp, LpEnd, Sev, Wfe}
use Rattle.dma_insn.specs.{Decoding.decoded, declared.insn.Counter.Counter, declared.insn.Counter.TheVariants.Lc0, declared.insn.Counter.TheVariants.Lc1}
use Rattle.dma_insn.specs.{declared.insn.Insn.Insn, declared.codec.DecodeFault.DecodeFault, declared.disassembler.DisFault.DisFault}
use Rattle.dma_insn.specs.{declared.disassembler.DisFault.TheVariants.Decode, declared.disassembler.DisFault.TheVariants.NoMemory}
use Rattle.dma_text.specs.Lines.{text_lines}

-- All instructions have their fields in range.
abbrev pub AllInRange : List Insn → Type 0
AllInRange [] = Unit {0}
AllInRange (i ∷ is) = HasRanges i × AllInRange is

-- the number of a loop counter
abbrev pub counter_number : Counter → ℕ
counter_number Lc0 = 0
counter_number Lc1 = 1

-- the line of an instruction, without its line feed
abbrev pub insn_text : Insn → List ℕ
insn_text End = codes "DMAEND"
insn_text Ld = codes "DMALD"
insn_text St = codes "DMAST"
insn_text Rmb = codes "DMARMB"
insn_text Wmb = codes "DMAWMB"
insn_text Nop = codes "DMANOP"
insn_text (Lp c n) = concat (codes "DMALP " ∷ decimal (counter_number c) ∷ codes " " ∷ decimal n ∷ [])
insn_text (LpEnd c b) = concat (codes "DMALPEND " ∷ decimal (counter_number c) ∷ codes " " ∷ decimal b ∷ [])
insn_text (Sev e) = concat (codes "DMASEV " ∷ decimal e ∷ [])
insn_text (Wfe e false) = concat (codes "DMAWFE " ∷ decimal e ∷ [])
insn_text (Wfe e true) = concat (codes "DMAWFE " ∷ decimal e ∷ codes " invalid" ∷ [])
insn_text (Mov r v) = concat (codes "DMAMOV " ∷ register_word r ∷ codes " " ∷ value_word v ∷ [])

-- the line of an instruction, which a line feed ends
abbrev pub line_of : Insn → List ℕ
line_of i = insn_text i ++ 10 ∷ []

-- the text of a program: a line for each instruction, each ended by a line feed, and no other line
abbrev pub text_of : List Insn → List ℕ
text_of is = flat_map (λ i. line_of i) is

-- The bytes are the joined encodings of some instructions in range.
pub record AreSpelled (bytes : List ℕ) : Type 0 where
  pub insns : List Insn
  pub in_range : AllInRange insns
  pub bytes_are : bytes ≡ joined insns

-- The bytes, of any number, are the joined encodings of some instructions in range. The lines of the text write these
-- instructions, no line is skipped, and a line feed ends each line; the text is `text_of` these instructions.
pub record Disassembles (bytes text : List ℕ) : Type 0 where
  pub insns : List Insn
  pub in_range : AllInRange insns
  pub bytes_are : bytes ≡ joined insns
  pub program : ProgramText text insns
  pub none_skipped : list_any is_skipped (text_lines text) ≡ false
  pub all_ended : text ≡ flat_map (λ line. line ++ 10 ∷ []) (text_lines text)
  pub text_is : text ≡ text_of insns

-- The first `offset` bytes are the longest front that is the joined encodings of some instructions in range. Bytes
-- follow it, no instruction begins with them, and decoding them fails with the fault.
pub record StopsAt (bytes : List ℕ) (offset : ℕ) (fault : DecodeFault) : Type 0 where
  pub insns : List Insn
  pub rest : List ℕ
  pub in_range : AllInRange insns
  pub bytes_are : bytes ≡ joined insns ++ rest
  pub offset_is : offset ≡ length (joined insns)
  pub some : 0 < length rest
  pub fault_is : decoded rest ≡ Err fault
  pub refused : IsRefusedFor rest fault
  pub none : (i : Insn) (n : ℕ) → IsSpelledAt rest i n → ⊥
  pub longest : (others : List Insn) (more : List ℕ) → AllInRange others → bytes ≡ joined others ++ more
      → length (joined others) ≤ offset

-- Why bytes are not disassembled. `Decode`: no instruction begins at the offset, right after the longest front of
-- encoded instructions. `NoMemory`: the bytes have a text.
abbrev pub IsDisFault : List ℕ → DisFault → Type 0
IsDisFault bytes (Decode offset fault) = StopsAt bytes offset fault
IsDisFault bytes NoMemory = (text : List ℕ) × Disassembles bytes text

-- The disassembly of a program of at most 8,192 bytes assembles to the same bytes, and to no others.
abbrev pub DisassemblyAssembles : Type 0
DisassemblyAssembles =
    (bytes text : List ℕ) → length bytes ≤ most_program_bytes → Disassembles bytes text
    → Assembles text bytes × ((others : List ℕ) → Assembles text others → others ≡ bytes)

-- Each list of bytes has a text, or an offset at which no instruction begins, right after the longest front of encoded
-- instructions; no list has both, or two texts. A text whose lines write instructions in range, with no line skipped
-- and each ended by a line feed, is `text_of` these instructions.
pub record DisassemblyReports : Type 0 where
  pub one : (bytes : List ℕ) → ((i : ℕ) → slice_index bytes i < 256)
      → ((text : List ℕ) × Disassembles bytes text) ⊎ ((offset : ℕ) × (fault : DecodeFault) × StopsAt bytes offset fault)
  pub not_both : (bytes text : List ℕ) (offset : ℕ) (fault : DecodeFault) → Disassembles bytes text
      → StopsAt bytes offset fault → ⊥
  pub one_text : (bytes text other : List ℕ) → Disassembles bytes text → Disassembles bytes other → text ≡ other
  pub one_way : (text : List ℕ) (insns : List Insn) → AllInRange insns → ProgramText text insns
      → list_any is_skipped (text_lines text) ≡ false → text ≡ flat_map (λ line. line ++ 10 ∷ []) (text_lines text)
      → text ≡ text_of insns

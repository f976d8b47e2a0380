-- What `dmasim dis` prints for an input.
use Rattle.std.specs.Prelude.{◌≡◌, ◌⊎◌, ℕ, ◌+◌, ◌-◌, ◌++◌, ◌∷◌, [], List, Result, Ok, Err, suc, zero, codes, decimal}
use Rattle.dma_insn.specs.declared.codec.DecodeFault.TheVariants.{Cut, Unknown, BadField}
use Rattle.dma_insn.specs.Disassembly.{insn_text, Disassembles, StopsAt}
use Rattle.dma_insn.specs.{declared.codec.DecodeFault.DecodeFault, Decoding.Decoded, Decoding.decoded}
use Rattle.dma_io.specs.Command.{Printed, refusal, text_of}
use Rattle.dma_text.specs.Digits.{hex_pair}
use Rattle.dma_script.specs.{Pairs.pairs_of, Printing.fault_line, declared.fault.Fault.Fault}

-- the lines with this line before them; a fault stays as it is
abbrev pub with_line : List ℕ → Result (List (List ℕ)) (ℕ × DecodeFault) → Result (List (List ℕ)) (ℕ × DecodeFault)
with_line line (Ok lines) = Ok (line ∷ lines)
with_line line (Err fault) = Err fault

-- the line of the decoded instruction, followed by the lines that `more` gives for its number of bytes; or the
-- decoding fault with its offset
abbrev pub first_line :
    ℕ → Decoded → (ℕ → Result (List (List ℕ)) (ℕ × DecodeFault)) → Result (List (List ℕ)) (ℕ × DecodeFault)
first_line offset (Ok found) more = with_line (insn_text found.0) (more found.1)
first_line offset (Err fault) more = Err (offset, fault)

-- The lines of the instructions that these bytes encode one after another, or the first decoding fault with its
-- offset. `offset` is the offset of the first byte. The first `skipped` bytes belong to the previous instruction and
-- are not decoded.
abbrev pub lines_from : ℕ → ℕ → List ℕ → Result (List (List ℕ)) (ℕ × DecodeFault)
lines_from offset skipped [] = Ok []
lines_from offset (suc skipped) (byte ∷ rest) = lines_from (offset + 1) skipped rest
lines_from offset zero (byte ∷ rest) =
    first_line offset (decoded (byte ∷ rest)) (λ count. lines_from (offset + 1) (count - 1) rest)

-- the line of a fault
abbrev pub decode_fault_line : ℕ → DecodeFault → List ℕ
decode_fault_line offset Cut = codes "offset " ++ decimal offset ++ codes ": Cut"
decode_fault_line offset (Unknown byte) = codes "offset " ++ decimal offset ++ codes ": Unknown " ++ hex_pair byte
decode_fault_line offset BadField = codes "offset " ++ decimal offset ++ codes ": BadField"

-- what is printed for these lines, with status 0, or for a fault, as a refusal
abbrev pub lines_printed : Result (List (List ℕ)) (ℕ × DecodeFault) → Printed
lines_printed (Ok lines) = record { groups = lines ∷ []; status = 0 }
lines_printed (Err fault) = refusal (decode_fault_line fault.0 fault.1)

-- What is printed for the bytes that the pairs of digits spell: their disassembled lines or their first decoding
-- fault. An input that isn't pairs of digits prints the fault with the line of its first wrong byte.
abbrev pub dis_printed_of : Result (List ℕ) Fault → Printed
dis_printed_of (Ok bytes) = lines_printed (lines_from 0 0 bytes)
dis_printed_of (Err fault) = refusal (fault_line fault)

-- What is printed for an input.
abbrev pub dis_printed : List ℕ → Printed
dis_printed input = dis_printed_of (pairs_of input)

-- What is printed for pairs of digits, stated with the relations between bytes and texts alone. The bytes either have
-- a text, which is printed with status 0, or decoding stops at an offset with a fault, whose line is printed as a
-- refusal.
pub record DisPrints : Type 0 where
  pub one : (input bytes : List ℕ) → pairs_of input ≡ Ok bytes
      → ((text : List ℕ) × Disassembles bytes text) ⊎ ((offset : ℕ) × (fault : DecodeFault) × StopsAt bytes offset fault)
  pub text : (input bytes text : List ℕ) → pairs_of input ≡ Ok bytes → Disassembles bytes text
      → (lines : List (List ℕ)) × (dis_printed input ≡ record { groups = lines ∷ []; status = 0 }) × (text_of lines ≡ text)
  pub fault : (input bytes : List ℕ) (offset : ℕ) (fault : DecodeFault) → pairs_of input ≡ Ok bytes
      → StopsAt bytes offset fault
      → dis_printed input ≡ refusal (decode_fault_line offset fault)

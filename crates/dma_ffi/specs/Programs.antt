-- What calls from C without a controller return and write: running a program alone, assembling a text, disassembling
-- bytes, planning a transfer.
use Rattle.std.specs.Prelude.{◌≡◌, ℕ, ◌<◌, ◌≤◌, ◌⊎◌, Bool, true, false, if◌then◌else◌, nat_le, ℤ, Option, None, Some, unwrap_or, List, [], ◌∷◌, ◌++◌, length}
use Rattle.std.specs.Prelude.{drop, codes}
use Rattle.dma_mem.specs.{Image.is_size, Places.Descriptor, Refusals.refusal_of}
use Rattle.dma_insn.specs.AssemblyText.{Assembles, IsFirstFault, most_program_bytes}
use Rattle.dma_insn.specs.{Disassembly.Disassembles, Disassembly.IsDisFault, declared.assembler.AsmCause.AsmCause, declared.codec.DecodeFault.DecodeFault}
use Rattle.dma_chan.specs.{Compiled.compiled_on, declared.bus.Bus.Bus, declared.run.RunEnd.RunEnd, Run.RunsAlone}
use Rattle.dma_ffi.specs.Codes.{ok_code, no_memory, bad_config, buffer_too_small, size_out_of_range, program_too_long, cause_code, decode_code, transfer_code}
use Rattle.dma_ffi.specs.{declared.reports.DmaRunEnd.DmaRunEnd, Reports.end_of}
use Rattle.dma_mem.specs.declared.transfer.TransferFault.TheVariants as transfers
use Rattle.dma_insn.specs.declared.assembler.AsmFault.TheVariants as texts
use Rattle.dma_insn.specs.declared.disassembler.DisFault.TheVariants as programs

-- ---- bytes written to a buffer

-- whether a buffer has room for these bytes
abbrev pub has_room : List ℕ → List ℕ → Bool
has_room bytes buffer = nat_le (length bytes) (length buffer)

-- the buffer with these bytes at its front, if it has room; bytes behind them are unchanged, and so is a buffer
-- without room
abbrev pub laid_into : List ℕ → List ℕ → List ℕ
laid_into bytes buffer = if has_room bytes buffer then bytes ++ drop (length bytes) buffer else buffer

-- the code of a call that writes these bytes to a buffer: `buffer_too_small` if it has no room, else `ok_code`
abbrev pub room_code : List ℕ → List ℕ → ℤ
room_code bytes buffer = if has_room bytes buffer then ok_code else buffer_too_small

-- the number if the buffer has room for the bytes, else the former value
abbrev pub where_fits : List ℕ → List ℕ → ℕ → ℕ → ℕ
where_fits bytes buffer number before = if has_room bytes buffer then number else before

-- the version's text, ended by a zero byte
abbrev pub version_text : List ℕ
version_text = codes "dilkwafam 1.0" ++ 0 ∷ []

-- ---- texts and programs

-- What a call that makes these bytes returns and writes: its code, the buffer before and after, and the number of its
-- written bytes before and after.
pub record Writes (bytes : List ℕ) (code : ℤ) (buffer out : List ℕ) (len written : ℕ) : Type 0 where
  pub code_is : code ≡ room_code bytes buffer
  pub out_is : out ≡ laid_into bytes buffer
  pub len_is : written ≡ where_fits bytes buffer (length bytes) len

-- What a call that assembles a text returns and writes; `before` and `place` are the place of a fault before and after.
-- It makes the text's program, or names the line of the text's first fault, or is out of memory.
abbrev pub AssemblesText : List ℕ → ℤ → List ℕ → List ℕ → ℕ → ℕ → ℕ → ℕ → Type 0
AssemblesText text code buffer out len written before place =
    ((program : List ℕ) × Assembles text program × Writes program code buffer out len written × (place ≡ before))
    ⊎ ((out ≡ buffer) × (written ≡ len)
    × (((cause : AsmCause) × IsFirstFault text (texts.Line place cause) × (code ≡ cause_code cause))
    ⊎ ((IsFirstFault text (texts.ProgramTooLong place) × (code ≡ program_too_long))
    ⊎ (IsFirstFault text texts.NoMemory × (code ≡ no_memory) × (place ≡ before)))))

-- What a call that disassembles bytes returns and writes. It makes their text, or names the offset of their fault
-- (`IsDisFault`), or is out of memory.
abbrev pub DisassemblesProgram : List ℕ → ℤ → List ℕ → List ℕ → ℕ → ℕ → ℕ → ℕ → Type 0
DisassemblesProgram program code buffer out len written before place =
    ((text : List ℕ) × Disassembles program text × Writes text code buffer out len written × (place ≡ before))
    ⊎ ((out ≡ buffer) × (written ≡ len)
    × (((fault : DecodeFault) × IsDisFault program (programs.Decode place fault) × (code ≡ decode_code fault))
    ⊎ (IsDisFault program programs.NoMemory × (code ≡ no_memory) × (place ≡ before))))

-- ---- the program of a transfer

-- What a call that plans a transfer returns and writes, for a bus, if there is one: the bytes of the transfer's
-- program, at most 8,192, and their number. Else it writes nothing, with `bad_config`. Fails with the first rule that
-- the transfer breaks, or out of memory if it breaks none, and then writes nothing too.
abbrev pub PlansTransfer : Descriptor → Option Bus → ℤ → List ℕ → List ℕ → ℕ → ℕ → Type 0
PlansTransfer t None code buffer out len written = (code ≡ bad_config) × (out ≡ buffer) × (written ≡ len)
PlansTransfer t (Some bus) code buffer out len written =
    ((refusal_of t ≡ None) × Writes (compiled_on bus t).bytes code buffer out len written
    × (length (compiled_on bus t).bytes ≤ most_program_bytes))
    ⊎ ((code ≡ transfer_code (unwrap_or (refusal_of t) transfers.NoMemory)) × (out ≡ buffer) × (written ≡ len))

-- ---- a program run alone

-- What a call that runs a program alone returns and writes: the code, the memory before and after, and the program's
-- end before and after. It isn't run, and nothing changes, with `size_out_of_range` if a memory can't have this size;
-- else with `program_too_long` above 8,192 bytes; else with `no_memory`.
abbrev pub RunsProgram : List ℕ → ℕ → ℤ → List ℕ → List ℕ → DmaRunEnd → DmaRunEnd → Type 0
RunsProgram program limit code image left before ended =
    ((code ≡ size_out_of_range) × (is_size (length image) ≡ false) × (left ≡ image) × (ended ≡ before))
    ⊎ ((is_size (length image) ≡ true)
    × (((code ≡ ok_code) × (length program ≤ most_program_bytes)
    × ((how : RunEnd) × RunsAlone program image limit how left × (ended ≡ end_of how)))
    ⊎ (((code ≡ program_too_long) × (most_program_bytes < length program) × (left ≡ image) × (ended ≡ before))
    ⊎ ((code ≡ no_memory) × (length program ≤ most_program_bytes) × (left ≡ image) × (ended ≡ before)))))

-- What a line of assembly text says (profile; names and operands are the manual's).
use Rattle.std.specs.Prelude.{ℕ, Bool, true, false, ◌&&◌, if◌then◌else◌, List, [], ◌∷◌, drop, nat_eq, nat_le, codes, Option, Some, None, Result, Ok, Err, ok_or}
use Rattle.std.specs.{List.starts_with, Str.bytes_eq}
use Rattle.dma_text.specs.Results.{◌>>=◌}
use Rattle.dma_insn.specs.declared.insn.Reg.TheVariants.{Sar, Ccr, Dar}
use Rattle.dma_insn.specs.declared.chip.ChipInsn.TheVariants.{Mov, Ld, St, Rmb, Wmb, Nop, End, Sev, Wfe, StoreZeros, AddHalfword}
use Rattle.dma_insn.specs.{declared.insn.Reg.Reg, declared.insn.Counter.Counter, declared.insn.Counter.TheVariants.Lc0, declared.insn.Counter.TheVariants.Lc1}
use Rattle.dma_insn.specs.{declared.chip.Address.Address, declared.chip.Address.TheVariants.Source, declared.chip.Address.TheVariants.Destination}
use Rattle.dma_manual.specs.Operands.{channel_at, event_at, fault_at, flag_at, no_more, number_at, peripheral_at, word_after}
use Rattle.dma_manual.specs.declared.insns.OtherInsn.TheVariants.{Kill, LdIf, StIf, OfPeripheral, Go}
use Rattle.dma_manual.specs.{Words.next_of, Fields.fields_at, declared.assembler.Fault.Fault, declared.insns.Action.Action, declared.insns.Awaited.Awaited}
use Rattle.dma_manual.specs.{declared.insns.ManualInsn.TheVariants.Chip, declared.insns.ManualInsn.TheVariants.Other, declared.insns.Request.Request}
use Rattle.dma_manual.specs.{declared.insns.Request.TheVariants.Single, declared.insns.Request.TheVariants.Burst, declared.statements.Again.Again}
use Rattle.dma_manual.specs.{declared.statements.Again.TheVariants.Always, declared.statements.Again.TheVariants.If, declared.statements.Named.Named}
use Rattle.dma_manual.specs.{declared.statements.Statement.Statement}
use Rattle.dma_manual.specs.declared.assembler.AsmCause.TheVariants as causes
use Rattle.dma_manual.specs.declared.assembler.Operand.TheVariants as operand
use Rattle.dma_manual.specs.declared.insns.Action.TheVariants as action
use Rattle.dma_manual.specs.declared.insns.Awaited.TheVariants as awaited
use Rattle.dma_manual.specs.declared.statements.End.{End as LoopTo}
use Rattle.dma_manual.specs.declared.statements.End.TheVariants as ends
use Rattle.dma_manual.specs.declared.statements.Statement.TheVariants as says

-- a label: its name and its offset
abbrev pub Label : Type 0
Label = List ℕ × ℕ

abbrev pub label_view : Named → Label
label_view l = (l.name.items, l.offset)

-- the offset of the first label with a name
abbrev pub label_of : List Label → List ℕ → Option ℕ
label_of [] name = None
label_of (l ∷ labels) name = if bytes_eq l.0 name then Some l.1 else label_of labels name

-- a statement without operands
abbrev pub bare : Statement → List ℕ → Result Statement Fault
bare s rest = do
  done ← no_more rest
  Ok s

-- the loop counter that a word names
abbrev pub counter_of : List ℕ → Option Counter
counter_of word = if bytes_eq word (codes "lc0") then Some Lc0 else (if bytes_eq word (codes "lc1") then Some Lc1 else None)

-- the last word of a DMALP: the number of times
abbrev pub times_line : Option Counter → List ℕ → List ℕ → Result Statement Fault
times_line counter word rest = do
  n ← number_at causes.Times 1 256 word word rest
  done ← no_more rest
  Ok (says.Loop counter n)

-- the words after a DMALP, by whether the first is a counter
abbrev pub loop_by : Option Counter → List ℕ → List ℕ → Fault → Result Statement Fault
loop_by None word after missing = times_line None word after
loop_by (Some counter) word after missing = do
  w ← word_after after missing
  times_line (Some counter) w.0 w.1

-- the words after DMALP: a counter, which may be left out, and the number of times
abbrev pub loop_line : List ℕ → List ℕ → Result Statement Fault
loop_line name rest = do
  w ← word_after rest (fault_at (causes.Missing operand.Times) name rest)
  loop_by (counter_of w.0) w.0 w.1 (fault_at (causes.Missing operand.Times) name rest)

-- where a DMALPEND jumps to: the number of bytes after a minus, or a label
abbrev pub end_at : List Label → Counter → List ℕ → List ℕ → Result LoopTo Fault
end_at labels counter word rest =
    if starts_with nat_eq word (codes "-") then (number_at causes.Far 0 255 (drop 1 word) word rest >>= λ b. Ok (ends.Back counter b))
    else (ok_or (label_of labels word) (fault_at causes.Label word rest) >>= λ o. Ok (ends.To counter o))

-- the words after a DMALPEND and a counter
abbrev pub loop_end_to : List Label → Option Request → Counter → Option (List ℕ × List ℕ) → Result Statement Fault
loop_end_to labels condition counter None = Ok (says.LoopEnd condition (ends.Of counter))
loop_end_to labels condition counter (Some w) = do
  end ← end_at labels counter w.0 w.1
  done ← no_more w.1
  Ok (says.LoopEnd condition end)

-- what follows the jump of the DMALPEND of a DMALPFE: nothing, with which its bit lc is set, or the bit as `lc0` or `lc1`
abbrev pub again_by : Option (List ℕ × List ℕ) → Result Counter Fault
again_by None = Ok Lc1
again_by (Some w) = do
  counter ← ok_or (counter_of w.0) (fault_at causes.Extra w.0 w.1)
  done ← no_more w.1
  Ok counter

-- What follows the jump of a DMALPEND that closes a DMALPFE: nothing, if it is for a kind of request, else as in
-- `again_by`.
abbrev pub again_at : Option Request → List ℕ → Result Again Fault
again_at None rest = do
  counter ← again_by (next_of rest)
  Ok (Always counter)
again_at (Some request) rest = do
  done ← no_more rest
  Ok (If request)

-- the words after a DMALPEND that begin with the number of bytes after a minus
abbrev pub again_line : Option Request → List ℕ → List ℕ → Result Statement Fault
again_line condition word rest = do
  back ← number_at causes.Far 0 255 (drop 1 word) word rest
  again ← again_at condition rest
  Ok (says.LoopAgain again back)

-- the words after a DMALPEND: none, or a jump, or a counter and what follows it
abbrev pub loop_end_by : List Label → Option Request → Option (List ℕ × List ℕ) → Result Statement Fault
loop_end_by labels condition None = Ok (says.LoopEnd condition ends.Innermost)
loop_end_by labels condition (Some w) =
    if starts_with nat_eq w.0 (codes "-") then again_line condition w.0 w.1
    else (ok_or (counter_of w.0) (fault_at causes.Counter w.0 w.1) >>= λ counter. loop_end_to labels condition counter (next_of w.1))

-- The rest of a line after DMALPEND has no word, or a jump, or a counter and what follows it.
abbrev pub loop_end_line : List Label → Option Request → List ℕ → Result Statement Fault
loop_end_line labels condition rest = loop_end_by labels condition (next_of rest)

-- the word after DMASEV: an event
abbrev pub event_line : List ℕ → List ℕ → Result Statement Fault
event_line name rest = do
  w ← word_after rest (fault_at (causes.Missing operand.Event) name rest)
  e ← event_at w.0 w.1
  done ← no_more w.1
  Ok (says.Plain (Chip (Sev e)))

-- the words after DMAWFE: an event, and optionally `invalid`
abbrev pub wait_line : List ℕ → List ℕ → Result Statement Fault
wait_line name rest = do
  w ← word_after rest (fault_at (causes.Missing operand.Event) name rest)
  e ← event_at w.0 w.1
  invalid ← flag_at (codes "invalid") w.1
  Ok (says.Plain (Chip (Wfe e invalid)))

-- the word after DCB: a byte
abbrev pub byte_line : List ℕ → List ℕ → Result Statement Fault
byte_line name rest = do
  w ← word_after rest (fault_at (causes.Missing operand.Byte) name rest)
  b ← number_at causes.Byte 0 255 w.0 w.0 w.1
  done ← no_more w.1
  Ok (says.Byte b)

-- the word after DCD: a number of 32 bits
abbrev pub word_line : List ℕ → List ℕ → Result Statement Fault
word_line name rest = do
  w ← word_after rest (fault_at (causes.Missing operand.Word) name rest)
  v ← number_at causes.Value 0 0xffffffff w.0 w.0 w.1
  done ← no_more w.1
  Ok (says.Word v)

-- the last word of a DMAMOV: a value of 32 bits
abbrev pub set_value : Reg → List ℕ → List ℕ → Result Statement Fault
set_value reg word rest = do
  v ← number_at causes.Value 0 0xffffffff word word rest
  done ← no_more rest
  Ok (says.Plain (Chip (Mov reg v)))

-- whether a word begins with a decimal digit
abbrev pub is_numeral : List ℕ → Bool
is_numeral [] = false
is_numeral (c ∷ word) = nat_le 48 c && nat_le c 57

-- the words after DMAMOV CCR: the value, or fields
abbrev pub control_line : List ℕ → List ℕ → Result Statement Fault
control_line name rest = do
  w ← word_after rest (fault_at (causes.Missing operand.Fields) name rest)
  if is_numeral w.0 then set_value Ccr w.0 w.1 else (fields_at rest >>= λ v. Ok (says.Plain (Chip (Mov Ccr v))))

-- the word after DMAMOV SAR or DAR: an address
abbrev pub address_line : Reg → List ℕ → List ℕ → Result Statement Fault
address_line reg name rest = do
  w ← word_after rest (fault_at (causes.Missing operand.Address) name rest)
  set_value reg w.0 w.1

-- the words after DMAMOV: a register and what it is set to
abbrev pub set_by : List ℕ → List ℕ → Result Statement Fault
set_by word rest =
    if bytes_eq word (codes "sar") then address_line Sar word rest else (
    if bytes_eq word (codes "dar") then address_line Dar word rest else (
    if bytes_eq word (codes "ccr") then control_line word rest else Err (fault_at causes.Register word rest)))

abbrev pub set_line : List ℕ → List ℕ → Result Statement Fault
set_line name rest = do
  w ← word_after rest (fault_at (causes.Missing operand.Register) name rest)
  set_by w.0 w.1

-- the address register that a word names
abbrev pub address_of : List ℕ → Option Address
address_of word =
    if bytes_eq word (codes "sar") then Some Source else (if bytes_eq word (codes "dar") then Some Destination else None)

-- the words after DMAADDH or DMAADNH: SAR or DAR, and a number of 16 bits
abbrev pub add_line : Bool → List ℕ → List ℕ → Result Statement Fault
add_line negative name rest = do
  w ← word_after rest (fault_at (causes.Missing operand.AddressRegister) name rest)
  address ← ok_or (address_of w.0) (fault_at causes.AddressRegister w.0 w.1)
  n ← word_after w.1 (fault_at (causes.Missing operand.Halfword) w.0 w.1)
  half ← number_at causes.Halfword 0 0xffff n.0 n.0 n.1
  done ← no_more n.1
  Ok (says.Plain (Chip (AddHalfword address half negative)))

-- the word after the name of an instruction with a peripheral
abbrev pub peripheral_line : Action → List ℕ → List ℕ → Result Statement Fault
peripheral_line action name rest = do
  w ← word_after rest (fault_at (causes.Missing operand.Peripheral) name rest)
  p ← peripheral_at w.0 w.1
  done ← no_more w.1
  Ok (says.Plain (Other (OfPeripheral action p)))

-- which requests a word names
abbrev pub awaited_of : List ℕ → Option Awaited
awaited_of word =
    if bytes_eq word (codes "single") then Some awaited.Single else (
    if bytes_eq word (codes "burst") then Some awaited.Burst else (
    if bytes_eq word (codes "periph") then Some awaited.Either else None))

-- the words after DMAWFP: a peripheral, and which requests it waits for
abbrev pub await_line : List ℕ → List ℕ → Result Statement Fault
await_line name rest = do
  w ← word_after rest (fault_at (causes.Missing operand.Peripheral) name rest)
  p ← peripheral_at w.0 w.1
  k ← word_after w.1 (fault_at (causes.Missing operand.Request) w.0 w.1)
  requests ← ok_or (awaited_of k.0) (fault_at causes.Request k.0 k.1)
  done ← no_more k.1
  Ok (says.Plain (Other (OfPeripheral (action.Wait requests) p)))

-- the words after DMAGO: a channel, an address, and optionally `ns`
abbrev pub go_line : List ℕ → List ℕ → Result Statement Fault
go_line name rest = do
  w ← word_after rest (fault_at (causes.Missing operand.Channel) name rest)
  c ← channel_at w.0 w.1
  n ← word_after w.1 (fault_at (causes.Missing operand.Address) w.0 w.1)
  a ← number_at causes.Value 0 0xffffffff n.0 n.0 n.1
  ns ← flag_at (codes "ns") n.1
  Ok (says.Plain (Other (Go c a ns)))

-- the statement of the name of an instruction that no channel executes, and the words after it
unfoldable pub by_other_name : List Label → List ℕ → List ℕ → Result Statement Fault
by_other_name labels name rest =
    if bytes_eq name (codes "dmakill") then bare (says.Plain (Other Kill)) rest else (
    if bytes_eq name (codes "dmalds") then bare (says.Plain (Other (LdIf Single))) rest else (
    if bytes_eq name (codes "dmaldb") then bare (says.Plain (Other (LdIf Burst))) rest else (
    if bytes_eq name (codes "dmasts") then bare (says.Plain (Other (StIf Single))) rest else (
    if bytes_eq name (codes "dmastb") then bare (says.Plain (Other (StIf Burst))) rest else (
    if bytes_eq name (codes "dmaldps") then peripheral_line (action.Ld Single) name rest else (
    if bytes_eq name (codes "dmaldpb") then peripheral_line (action.Ld Burst) name rest else (
    if bytes_eq name (codes "dmastps") then peripheral_line (action.St Single) name rest else (
    if bytes_eq name (codes "dmastpb") then peripheral_line (action.St Burst) name rest else (
    if bytes_eq name (codes "dmaflushp") then peripheral_line action.Flush name rest else (
    if bytes_eq name (codes "dmawfp") then await_line name rest else (
    if bytes_eq name (codes "dmalpends") then loop_end_line labels (Some Single) rest else (
    if bytes_eq name (codes "dmalpendb") then loop_end_line labels (Some Burst) rest else (
    if bytes_eq name (codes "dmago") then go_line name rest else Err (fault_at causes.Name name rest))))))))))))))

-- the statement of an instruction's name and the words after it
unfoldable pub by_name : List Label → List ℕ → List ℕ → Result Statement Fault
by_name labels name rest =
    if bytes_eq name (codes "dmaend") then bare (says.Plain (Chip End)) rest else (
    if bytes_eq name (codes "dmald") then bare (says.Plain (Chip Ld)) rest else (
    if bytes_eq name (codes "dmast") then bare (says.Plain (Chip St)) rest else (
    if bytes_eq name (codes "dmarmb") then bare (says.Plain (Chip Rmb)) rest else (
    if bytes_eq name (codes "dmawmb") then bare (says.Plain (Chip Wmb)) rest else (
    if bytes_eq name (codes "dmanop") then bare (says.Plain (Chip Nop)) rest else (
    if bytes_eq name (codes "dmalp") then loop_line name rest else (
    if bytes_eq name (codes "dmalpend") then loop_end_line labels None rest else (
    if bytes_eq name (codes "dmasev") then event_line name rest else (
    if bytes_eq name (codes "dmawfe") then wait_line name rest else (
    if bytes_eq name (codes "dmamov") then set_line name rest else (
    if bytes_eq name (codes "dmastz") then bare (says.Plain (Chip StoreZeros)) rest else (
    if bytes_eq name (codes "dmaaddh") then add_line false name rest else (
    if bytes_eq name (codes "dmaadnh") then add_line true name rest else (
    if bytes_eq name (codes "dmalpfe") then bare says.Endless rest else (
    if bytes_eq name (codes "dcb") then byte_line name rest else (
    if bytes_eq name (codes "dcd") then word_line name rest else by_other_name labels name rest))))))))))))))))

-- what the words after a label say
abbrev pub statement_by : List Label → Option (List ℕ × List ℕ) → Result Statement Fault
statement_by labels None = Ok says.Nothing
statement_by labels (Some w) = by_name labels w.0 w.1

abbrev pub statement_at : List Label → List ℕ → Result Statement Fault
statement_at labels rest = statement_by labels (next_of rest)

-- The printed lines of faults, without their line feeds (profile).
use Rattle.std.specs.Prelude.{ℕ, ◌++◌, List, [], codes, decimal}
use Rattle.dma_script.specs.declared.fault.Cause.TheVariants.{Byte, Command, First, Words, Number, Hex, Range, SizeOutOfRange, BadChannels, Go}
use Rattle.dma_script.specs.declared.fault.ReadError.TheVariants.{Fault, NoMemory}
use Rattle.dma_script.specs.{declared.fault.Cause.Cause, declared.fault.ReadError.ReadError}
use Rattle.dma_script.specs.declared.fault.Fault.{Fault as ScriptFault}

-- the name of a cause
abbrev pub cause_name : Cause → List ℕ
cause_name Byte = codes "Byte"
cause_name Command = codes "Command"
cause_name First = codes "First"
cause_name Words = codes "Words"
cause_name Number = codes "Number"
cause_name Hex = codes "Hex"
cause_name Range = codes "Range"
cause_name SizeOutOfRange = codes "SizeOutOfRange"
cause_name BadChannels = codes "BadChannels"
cause_name Go = codes "Go"

-- the printed line of a fault of a script
abbrev pub fault_line : ScriptFault → List ℕ
fault_line fault = codes "line " ++ decimal fault.line ++ codes ": " ++ cause_name fault.cause

-- the printed line of a script that was not read; `NoMemory` has none, so this is the empty list
abbrev pub error_line : ReadError ScriptFault → List ℕ
error_line (Fault fault) = fault_line fault
error_line NoMemory = []

-- What is printed for a text that spells no program (profile).
use Rattle.std.specs.Prelude.{ℕ, false, if◌then◌else◌, List, [], ◌++◌, Option, Some, codes, slice_get}
use Rattle.dma_text.specs.Digits.{hex_pair}
use Rattle.dma_io.specs.{Answer.Prints}
use Rattle.dma_manual.specs.{DigitFaults.fault_message, DigitFaults.place_text}
use Rattle.dma_manual.specs.declared.pasted.Refused.TheVariants.{Digits, Dump, Unsure}
use Rattle.dma_manual.specs.{declared.dump.Cause.Cause, declared.doubts.Doubt.Doubt, declared.pasted.Fault.Fault, declared.pasted.Refused.Refused}
use Rattle.dma_manual.specs.declared.doubts.Doubt.TheVariants as doubts
use Rattle.dma_manual.specs.declared.dump.Cause.TheVariants.{Byte as BadByte, Address, Text, Star, Large, Elided, Count, Long}

-- what is wrong with a dump, if it isn't a byte
abbrev pub cause_message : Cause → List ℕ
cause_message BadByte = codes "the dump ends too early\n"
cause_message Address = codes "the address is not where the line before ends\n"
cause_message Text = codes "the text is not that of the line's bytes\n"
cause_message Star = codes "'*' is in place of lines: with -v, hexdump and od print them\n"
cause_message Large = codes "a third digit: an array has bytes\n"
cause_message Elided = codes "the array is cut: after 'set print elements 0', gdb prints all of it\n"
cause_message Count = codes "a count is at most 65529\n"
cause_message Long = codes "a dump has at most 1048576 bytes\n"

-- what is wrong with the byte of a dump at its fault, if there is one
abbrev pub at_fault : Cause → Option ℕ → List ℕ
at_fault BadByte (Some b) = codes "byte 0x" ++ hex_pair b ++ codes " is no part of the dump here\n"
at_fault cause b = cause_message cause

-- what is wrong with a dump
abbrev pub dump_message : List ℕ → Fault → List ℕ
dump_message text fault =
    if fault.is_dump then place_text text fault.at ++ at_fault fault.cause (slice_get text fault.at)
    else codes " no dump is found: each line has an address, or the bytes are in braces\n"

-- what a dump may be besides what it looks like, and what to add
abbrev pub doubt_message : Doubt → List ℕ
doubt_message doubts.Order =
    codes " the groups may be bytes in this order, as xxd prints them (--hex), or words, as md does (--words)\n"
doubt_message doubts.Radix =
    codes " the addresses fit in two radices, with other bytes in each: print single bytes (hexdump -C, od -t x1)\n"
doubt_message doubts.Address =
    codes " nothing shows that the line begins with an address: add the line after it, or a colon to the address\n"

-- why a text spells no program
abbrev pub why_text : Refused → List ℕ → List ℕ
why_text (Digits notation at) text = place_text text at ++ fault_message notation (slice_get text at)
why_text (Dump fault) text = dump_message text fault
why_text (Unsure doubt) text = doubt_message doubt

-- what is printed for a text that spells no program
abbrev pub refusal : Refused → List ℕ → Prints
refusal why text = record { out = []; err = why_text why text; file = []; succeeds = false }

-- The message for the first fault of a script (profile): the number of its line, the cause, and the line.
use Rattle.std.specs.Prelude.{ℕ, ◌-◌, ◌==◌, ◌&&◌, nat_le, nat_lt, length, if◌then◌else◌, List, [], ◌∷◌, ◌++◌, map, take, slice_index_or, Result, Ok, Err, codes}
use Rattle.std.specs.Prelude.{decimal, false}
use Rattle.std.specs.Str.Lines.{lines}
use Rattle.dma_io.specs.{Answer.Prints, Command.text_of}
use Rattle.dma_script.specs.{Printing.cause_name, Printing.fault_line, Race.race_script_of, Statements.run_script_of, declared.fault.Cause.Cause}
use Rattle.dma_script.specs.{declared.fault.Cause.TheVariants.Go, declared.fault.Fault.Fault}
use Rattle.dma_seeds.specs.Expect.{without_expects}

-- the byte that is shown for a byte of a line: itself if it is printable ASCII, a space for a tab, else a question mark
abbrev pub shown_byte : ℕ → ℕ
shown_byte b = if nat_le 32 b && nat_le b 126 then b else (if b == 9 then 32 else 63)

-- the most bytes of a line that are shown
abbrev pub most_shown : ℕ
most_shown = 60

-- `LINE'`, the rest of a text that begins with a quote; of a line above 60 bytes the first 60, and two dots behind them
abbrev pub shown_line : List ℕ → List ℕ
shown_line line =
    if nat_lt most_shown (length line) then map shown_byte (take most_shown line) ++ codes "'..\n"
    else map shown_byte line ++ codes "'\n"

-- the line with this number, from 1, or no bytes if there is none
abbrev pub line_at : List ℕ → ℕ → List ℕ
line_at input n = slice_index_or (lines input) (n - 1) []

-- which line is missing, if a fault is in no line
abbrev pub missing_message : Cause → List ℕ
missing_message Go = codes ": the line 'go' is missing\n"
missing_message _ = codes ": the line 'memory SIZE CHANNELS' is missing\n"

-- `N: CAUSE: 'LINE'` for a fault in line N, and ` CAUSE: the line .. is missing` for one in no line
abbrev pub fault_text : List ℕ → Fault → List ℕ
fault_text input fault =
    let name = cause_name fault.cause in
    if fault.line == 0 then codes " " ++ name ++ missing_message fault.cause
    else (decimal fault.line ++ codes ": " ++ name ++ codes ": '") ++ shown_line (line_at input fault.line)

-- the message for what was read of an input: none without a fault
abbrev pub message_of : {A : Type 0} → List ℕ → Result A Fault → List ℕ
message_of input (Ok script) = []
message_of input (Err fault) = fault_text input fault

-- what a call prints for a script with this first fault: its line, and on standard error the message for it
abbrev pub refused : List ℕ → Fault → Prints
refused input fault = record { out = text_of (fault_line fault ∷ []); err = fault_text input fault; file = []; succeeds = false }

-- The message for a race script, which may have expect lines.
abbrev pub race_message : List ℕ → List ℕ
race_message input = message_of input (race_script_of (without_expects input))

-- The message for a script of `run`.
abbrev pub run_message : List ℕ → List ℕ
run_message input = message_of input (run_script_of input)

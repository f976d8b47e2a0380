-- The lines of a run script (profile).
use Rattle.std.specs.Prelude.{ℕ, ◌≤◌, if◌then◌else◌, List, [], ◌∷◌, ◌++◌, Option, Some, None, Result, Ok, Err, codes}
use Rattle.std.specs.{Option.ok_or, Str.bytes_eq}
use Rattle.dma_mem.specs.Limits.{largest_size, most_channels}
use Rattle.dma_text.specs.Results.{◌>>=◌}
use Rattle.dma_script.specs.Arguments.{Shape, makes, number, within, byte, segment, list, steps, bytes, fixed, kind, meaning}
use Rattle.dma_script.specs.{Lines.after_script, Plan.plain, Plan.transfer, declared.fault.Cause.Cause, declared.fault.Fault.Fault}
use Rattle.dma_script.specs.{declared.statements.Keyword.Keyword, declared.statements.Statement.Statement, declared.statements.RunScript.RunScript}
use Rattle.dma_mem.specs.declared.call.Call.TheVariants as calls
use Rattle.dma_script.specs.declared.fault.Cause.TheVariants as causes
use Rattle.dma_script.specs.declared.transfer_line.Origin.TheVariants as origins
use Rattle.dma_script.specs.declared.statements.Keyword.TheVariants as keywords
use Rattle.dma_script.specs.declared.statements.Statement.TheVariants as statements

-- the command that a word spells
abbrev pub keyword_of : List ℕ → Option Keyword
keyword_of word =
    if bytes_eq word (codes "memory") then Some keywords.Memory else (
    if bytes_eq word (codes "write") then Some keywords.Write else (
    if bytes_eq word (codes "read") then Some keywords.Read else (
    if bytes_eq word (codes "copy") then Some keywords.Copy else (
    if bytes_eq word (codes "fill") then Some keywords.Fill else (
    if bytes_eq word (codes "submit") then Some keywords.Submit else (
    if bytes_eq word (codes "issue") then Some keywords.Issue else (
    if bytes_eq word (codes "pause") then Some keywords.Pause else (
    if bytes_eq word (codes "resume") then Some keywords.Resume else (
    if bytes_eq word (codes "terminate") then Some keywords.Terminate else (
    if bytes_eq word (codes "step") then Some keywords.Step else (
    if bytes_eq word (codes "status") then Some keywords.Status else (
    if bytes_eq word (codes "result") then Some keywords.Result else (
    if bytes_eq word (codes "mark") then Some keywords.Mark else (
    if bytes_eq word (codes "unmark") then Some keywords.Unmark else (
    if bytes_eq word (codes "raise") then Some keywords.Raise else (
    if bytes_eq word (codes "checkpoint") then Some keywords.Checkpoint else (
    if bytes_eq word (codes "totals") then Some keywords.Totals else None)))))))))))))))))

-- `memory SIZE CHANNELS`: a script with no line after it yet
abbrev pub memory : Shape RunScript
memory =
    within 1 largest_size causes.SizeOutOfRange λ size. within 1 most_channels causes.BadChannels λ channels.
    makes (record { size = size; channels = channels; statements = [] })

-- the ranges of a memory line
abbrev pub IsWithin : RunScript → Type 0
IsWithin script = (1 ≤ script.size) × (script.size ≤ largest_size) × (1 ≤ script.channels) × (script.channels ≤ most_channels)

-- The first line, by its keyword and the words after it: the memory line, or `First` for any other.
abbrev pub first_line : Keyword → List (List ℕ) → Result RunScript Cause
first_line keywords.Memory words = meaning memory words
first_line _ words = Err causes.First

-- The table: the words after each keyword, and the statement that they make. `First` for the memory line.
abbrev pub statement : Keyword → Result (Shape Statement) Cause
statement keywords.Memory = Err causes.First
statement keywords.Write = Ok (number λ addr. bytes λ bytes. makes (statements.Call (calls.Write addr bytes)))
statement keywords.Read = Ok (segment λ s. makes (statements.Call (calls.Read s.addr s.len)))
statement keywords.Copy =
    Ok (list λ src. fixed (codes "to") (list λ dst. makes (statements.Copy (plain (origins.List src) dst))))
statement keywords.Fill =
    Ok (number λ src. fixed (codes "to") (list λ dst. makes (statements.Copy (plain (origins.Place src) dst))))
statement keywords.Submit = Ok (byte λ ch. transfer λ transfer. makes (statements.Submit ch transfer))
statement keywords.Issue = Ok (byte λ ch. makes (statements.Call (calls.Issue ch)))
statement keywords.Pause = Ok (byte λ ch. makes (statements.Call (calls.Pause ch)))
statement keywords.Resume = Ok (byte λ ch. makes (statements.Call (calls.Resume ch)))
statement keywords.Terminate = Ok (byte λ ch. makes (statements.Call (calls.Terminate ch)))
statement keywords.Step = Ok (byte λ ch. steps λ count. makes (statements.Step ch count))
statement keywords.Status = Ok (byte λ ch. number λ cookie. makes (statements.Call (calls.Status ch cookie)))
statement keywords.Result = Ok (byte λ ch. number λ cookie. makes (statements.Call (calls.Result ch cookie)))
statement keywords.Mark = Ok (kind λ kind. segment λ segment. makes (statements.Call (calls.Mark kind segment)))
statement keywords.Unmark = Ok (makes (statements.Call calls.Unmark))
statement keywords.Raise = Ok (byte λ event. makes (statements.Call (calls.Raise event)))
statement keywords.Checkpoint = Ok (makes (statements.Call calls.Checkpoint))
statement keywords.Totals = Ok (makes statements.Totals)

-- A line after the first, by its keyword and the words after it: `First` for the memory line.
abbrev pub later_line : Keyword → List (List ℕ) → Result Statement Cause
later_line keyword words = do
  shape ← statement keyword
  meaning shape words

-- The next line of a run script: its first line, if nothing was read before, or else a line after that.
abbrev pub next_line : Option RunScript → Keyword → List (List ℕ) → Result (Option RunScript) Cause
next_line None keyword words = do
  script ← first_line keyword words
  Ok (Some script)
next_line (Some script) keyword words = do
  statement ← later_line keyword words
  Ok (Some (record script { statements = script.statements ++ statement ∷ [] }))

-- the next line of a run script, by its words
abbrev pub run_step : Option RunScript → List (List ℕ) → Result (Option RunScript) Cause
run_step before [] = Err causes.Command
run_step before (word ∷ words) = do
  keyword ← ok_or (keyword_of word) causes.Command
  next_line before keyword words

-- A whole run script, or its first fault. A script without a line fails with `First` in line 0.
abbrev pub run_script_of : List ℕ → Result RunScript Fault
run_script_of input = do
  script ← after_script run_step None input
  ok_or script (record { line = 0; cause = causes.First })

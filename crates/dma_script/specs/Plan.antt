-- The words of a transfer with its events, which are the line of a plan script (profile).
use Rattle.std.specs.{Prelude.ℕ, Prelude.List, Prelude.Option, Prelude.Some, Prelude.None, Prelude.Result, Prelude.Ok, Prelude.Err, Prelude.codes, Option.ok_or}
use Rattle.dma_mem.specs.declared.segment.Segment.{Segment}
use Rattle.dma_text.specs.Results.{◌>>=◌}
use Rattle.dma_script.specs.Arguments.{Shape, makes, fixed, list, event, source, meaning}
use Rattle.dma_script.specs.{Lines.after_script, Lines.first_number, declared.fault.Cause.Cause, declared.fault.Fault.Fault}
use Rattle.dma_script.specs.{declared.transfer_line.Origin.Origin, declared.transfer_line.TransferLine.TransferLine, declared.transfer_line.PlanLine.PlanLine}
use Rattle.dma_script.specs.declared.fault.Cause.TheVariants as causes

-- a transfer without events
abbrev pub plain : Origin → List Segment → TransferLine
plain src dst = record { src = src; dst = dst; wait = None; signal = None }

-- `LIST to LIST [wait E] [signal E]` or `fill ADDR to LIST [wait E] [signal E]`, and what more words there are
abbrev pub transfer : {A : Type 0} → (TransferLine → Shape A) → Shape A
transfer next =
    source λ src. fixed (codes "to") (list λ dst. event (codes "wait") λ wait. event (codes "signal") λ signal.
    next (record { src = src; dst = dst; wait = wait; signal = signal }))

-- a line that has only a transfer
abbrev pub transfer_line : List (List ℕ) → Result TransferLine Cause
transfer_line words = meaning (transfer makes) words

-- The next line of a plan script, which has only one: a second line fails with `Words`.
abbrev pub plan_step : Option TransferLine → List (List ℕ) → Result (Option TransferLine) Cause
plan_step None words = do
  line ← transfer_line words
  Ok (Some line)
plan_step (Some line) words = Err causes.Words

-- A whole plan script, with the number of its line, or its first fault. A script without a line fails with `First` in
-- line 0.
abbrev pub plan_of : List ℕ → Result PlanLine Fault
plan_of input = do
  read ← after_script plan_step None input
  line ← ok_or read (record { line = 0; cause = causes.First })
  Ok (record { line = first_number input; transfer = line })

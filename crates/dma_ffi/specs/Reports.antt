-- The structs that calls from C write: how a cookie finished, what a call conflicts with, what steps did, and how a
-- program ended.
use Rattle.std.specs.Prelude.{ℕ, Option, None, Some, Result, Err}
use Rattle.dma_chan.specs.declared.run.RunEnd.{RunEnd}
use Rattle.dma_engine.specs.declared.turn.Turn.TheVariants.{Nothing, Held, Started, Moved, Waiting, Paused, Halted, Finished}
use Rattle.dma_engine.specs.{declared.fault.EngineFault.EngineFault, declared.outcome.Outcome.Outcome, declared.turn.Turn.Turn}
use Rattle.dma_ffi.specs.{declared.reports.DmaOutcome.DmaOutcome, declared.reports.DmaConflict.DmaConflict, declared.reports.DmaReport.DmaReport}
use Rattle.dma_ffi.specs.Codes.{kind_number, no_step, result_number, step_finished, step_halted, step_held, step_moved, step_nothing, step_paused, step_started, step_waits}
use Rattle.dma_ffi.specs.{declared.reports.DmaRunEnd.DmaRunEnd}
use Rattle.dma_chan.specs.declared.run.RunEnd.TheVariants as ends
use Rattle.dma_engine.specs.declared.fault.EngineFault.TheVariants.{Busy, Running as RunningOn}

-- how a cookie finished
abbrev pub outcome_of : Outcome → DmaOutcome
outcome_of o = record { result = result_number o.result; residue = o.residue }

-- the transfer that a `Busy` or `Running` refusal names, or the former value for any other answer
abbrev pub conflict_of : {A : Type 0} → Result A EngineFault → DmaConflict → DmaConflict
conflict_of (Err (Busy ch cookie)) before = record { channel = ch; cookie = cookie }
conflict_of (Err (RunningOn ch cookie)) before = record { channel = ch; cookie = cookie }
conflict_of _ before = before

-- a report of `taken` steps, the last of which did this; all other fields are 0
abbrev pub did : ℕ → ℕ → DmaReport
did taken last = record { taken = taken; last = last; channel = 0; cookie = 0; event = 0; result = 0; residue = 0 }

-- the report of `taken` steps and of what the last one did, if any; fields that don't belong to this are 0
abbrev pub report_of : ℕ → Option Turn → DmaReport
report_of taken None = did taken no_step
report_of taken (Some (Started cookie)) = record (did taken step_started) { cookie = cookie }
report_of taken (Some Moved) = did taken step_moved
report_of taken (Some Nothing) = did taken step_nothing
report_of taken (Some (Held ch cookie)) = record (did taken step_held) { channel = ch; cookie = cookie }
report_of taken (Some (Waiting event)) = record (did taken step_waits) { event = event }
report_of taken (Some Paused) = did taken step_paused
report_of taken (Some Halted) = did taken step_halted
report_of taken (Some (Finished cookie how residue)) =
    record (did taken step_finished) { cookie = cookie; result = result_number how; residue = residue }

-- an end with this number; all other fields are 0
abbrev pub ended : ℕ → DmaRunEnd
ended how = record { end = how; steps = 0; event = 0; fault = 0; pc = 0 }

-- how a program ended; fields that don't belong to this end are 0
abbrev pub end_of : RunEnd → DmaRunEnd
end_of (ends.Ended turns) = record (ended 1) { steps = turns }
end_of ends.OutOfTurns = ended 0
end_of (ends.Waiting event) = record (ended 2) { event = event }
end_of (ends.Fault kind pc) = record (ended 3) { fault = kind_number kind; pc = pc }

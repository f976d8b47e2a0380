-- The answer to a program that is explained, or not.
use Rattle.std.specs.Prelude.{◌≡◌, ◌≢◌, ◌⊎◌, ℤ, Result, Ok, Err}
use Rattle.dma_explain.specs.declared.explain.Cause.TheVariants.{TooLong, NoMemory}
use Rattle.dma_explain.specs.{declared.explain.Explained.Explained, declared.explain.Unexplained.Unexplained}
use Rattle.dma_device.specs.declared.device.explain.ExplainFault.{ExplainFault}
use Rattle.dma_ffi.specs.Codes.{no_channel, no_memory, no_program, program_too_long, unexplained}
use Rattle.dma_ffi.specs.Explaining.{Outputs, WritesFound, with_cause}
use Rattle.dma_device.specs.declared.device.explain.ExplainFault.TheVariants as faults

-- What was found is written, or the cause, except of a program that is too long and if memory ran out; the code says
-- which.
abbrev pub AnswersProgram : Result Explained Unexplained → ℤ → Outputs → Outputs → Type 0
AnswersProgram (Ok x) code before after = WritesFound x code before after
AnswersProgram (Err u) code before after =
    ((u.cause ≡ TooLong) × (code ≡ program_too_long) × (after ≡ before))
    ⊎ (((u.cause ≡ NoMemory) × (code ≡ no_memory) × (after ≡ before))
    ⊎ ((u.cause ≢ TooLong) × (u.cause ≢ NoMemory) × (code ≡ unexplained) × (after ≡ with_cause u before)))

-- A device's channel is answered as its program is. If the channel doesn't exist, or has no program, then the code says
-- so, and nothing is written.
abbrev pub AnswersDevice : Result Explained ExplainFault → ℤ → Outputs → Outputs → Type 0
AnswersDevice (Ok x) code before after = WritesFound x code before after
AnswersDevice (Err (faults.Unexplained u)) code before after = AnswersProgram (Err u) code before after
AnswersDevice (Err faults.NoChannel) code before after = (code ≡ no_channel) × (after ≡ before)
AnswersDevice (Err faults.NoProgram) code before after = (code ≡ no_program) × (after ≡ before)

-- Why a program that is run alone isn't run to its end: it is too long, or an allocation fails.
use Rattle.std.specs.Prelude.{◌≡◌, ℕ, ◌<◌, ◌≤◌, false, List, length}
use Rattle.dma_insn.specs.AssemblyText.{most_program_bytes}
use Rattle.dma_mem.specs.{Marking.MarkList, Pages.Paged}
use Rattle.dma_chan.specs.{declared.run.RunFault.RunFault, declared.run.RunFault.TheVariants.ProgramTooLong, declared.run.RunFault.TheVariants.PageRefused}
use Rattle.dma_chan.specs.{declared.run.RunFault.TheVariants.NoMemory, Exec.State, Run.state_after, Run.opening, Run.GoesOnFor, Ready.next_is_ready}

-- The first `turns` instructions of a program, fewer than the limit, were executed from a state. The memory has the
-- image after them, and the next instruction writes a page that isn't made.
pub record NeedsPage (marks : MarkList) (program : List ℕ) (s : State) (limit turns : ℕ) (new : Paged) : Type 0 where
  pub below_limit : turns < limit
  pub goes_on : GoesOnFor marks program s turns
  pub ends_at : (state_after marks program s turns).image ≡ new.image
  pub not_ready : next_is_ready program (state_after marks program s turns) new ≡ false

-- Why a program isn't run to its end with these marks, and the memory before and after. Either it is too long, or an
-- allocation failed before any instruction was executed; then nothing has changed, including the pages. Or a page that
-- the store after `turns` instructions writes could not be allocated.
abbrev pub RunFails : MarkList → List ℕ → Paged → ℕ → RunFault → Paged → Type 0
RunFails marks program old limit ProgramTooLong new = (most_program_bytes < length program) × (new ≡ old)
RunFails marks program old limit (PageRefused turns) new =
    (length program ≤ most_program_bytes) × NeedsPage marks program (opening old.image) limit turns new
RunFails marks program old limit NoMemory new = (length program ≤ most_program_bytes) × (new ≡ old)

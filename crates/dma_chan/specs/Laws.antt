-- What a transfer's program does when it is run alone.
use Rattle.std.specs.Prelude.{◌≡◌, ℕ, ◌≤◌, ◌<◌, true, false, length, None, Result, Ok, Err, IfOk, IfErr}
use Rattle.dma_mem.specs.{Image.laid, Marking.MarkList, Marking.meets_mark, Pages.Paged, Rules.IsTransfer, Places.Descriptor}
use Rattle.dma_mem.specs.Places.{sources, destinations, lies_below, size_of}
use Rattle.dma_mem.specs.{declared.marks.MarkKind.TheVariants.Reading, declared.marks.MarkKind.TheVariants.Writing}
use Rattle.dma_chan.specs.{Compiled.compiled, Compiled.cost, Fails.RunFails, Run.RunsOver, Traffic.stored_after}
use Rattle.dma_chan.specs.declared.run.RunFault.TheVariants.{ProgramTooLong, PageRefused, NoMemory}
use Rattle.dma_chan.specs.{declared.run.RunEnd.RunEnd, declared.run.RunEnd.TheVariants.Ended, declared.run.RunFault.RunFault}

-- No mark lies where a transfer reads or writes.
abbrev pub IsUnmarked : MarkList → Descriptor → Type 0
IsUnmarked marks t = (meets_mark Reading marks (sources t) ≡ false) × (meets_mark Writing marks (destinations t) ≡ false)

-- What a run of a transfer's program with this result has done to a memory. It has ended with exactly as many
-- instructions as the transfer costs, and has made one simultaneous copy of all its bytes. Or memory ran out: for a
-- page, after fewer instructions, which have copied the bytes that they store; or before any, and nothing has changed.
abbrev pub CopiesAll : Descriptor → Paged → Result RunEnd RunFault → Paged → Type 0
CopiesAll t old (Ok how) new = (how ≡ Ended (cost t)) × (new.image ≡ laid old.image t (size_of t))
CopiesAll t old (Err (PageRefused turns)) new =
    (turns < cost t) × (new.image ≡ laid old.image t (stored_after t turns))
CopiesAll t old (Err NoMemory) new = new ≡ old
CopiesAll t old (Err ProgramTooLong) new = ⊥

-- A transfer that doesn't wait, and a memory that has its ranges, without a gap or a mark in them. If a run of the
-- transfer's program alone, with a limit of at least its cost, has this result (the clauses `ok` and `err` of
-- `run_program`), then it copies all bytes of the transfer, unless memory ran out.
abbrev pub CompiledCopiesAlone : Type 0
CompiledCopiesAlone =
    (t : Descriptor) (marks : MarkList) (old new : Paged) (limit : ℕ) (result : Result RunEnd RunFault) →
    IsTransfer t → t.wait ≡ None → lies_below t (length old.image) ≡ true → IsUnmarked marks t → cost t ≤ limit →
    IfOk result (λ how. RunsOver marks (compiled t).bytes old.image limit how new.image) →
    IfErr result (λ fault. RunFails marks (compiled t).bytes old limit fault new) → CopiesAll t old result new

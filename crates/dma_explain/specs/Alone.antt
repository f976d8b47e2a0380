-- A program that copies, run alone.
use Rattle.std.specs.Prelude.{◌≡◌, ℕ, ◌+◌, ◌<◌, List, true, length}
use Rattle.dma_mem.specs.{Image.laid, Places.Descriptor, Places.lies_below, Places.size_of}
use Rattle.dma_chan.specs.{declared.bus.Bus.TheVariants.Ideal, declared.run.RunEnd.RunEnd, Exec.start_on, Run.RunsAlone}
use Rattle.dma_explain.specs.Explains.{Explains, IsWait, only}
use Rattle.dma_chan.specs.declared.run.RunEnd.TheVariants as ends

-- A program that a copy explains and that has no DMAWFE, run alone over a memory that contains the copy's ranges and
-- with a limit above the number of instructions before DMAEND, ends after as many instructions and DMAEND, and the
-- memory is then the result of one simultaneous copy of all its bytes.
abbrev pub ExplainedCopiesAlone : Type 0
ExplainedCopiesAlone =
    (program : List ℕ) (t : Descriptor) (n : ℕ) (image after : List ℕ) (limit : ℕ) (how : RunEnd) →
    Explains (start_on Ideal) program (only t) n → ((e : ℕ) → ¬ IsWait (start_on Ideal) program n e) →
    lies_below t (length image) ≡ true → n < limit →
    RunsAlone program image limit how after → (how ≡ ends.Ended (n + 1)) × (after ≡ laid image t (size_of t))

-- How an explanation is begun.
use Rattle.std.specs.Prelude.{◌≡◌, ℕ, ◌-◌, ◌++◌, Bool, false, List, All, Option, Some, None, map}
use Rattle.dma_chan.specs.declared.exec.Registers.{Registers}
use Rattle.dma_explain.specs.{declared.explain.Explained.Explained, declared.explain.known.Given.Given, Explains.bursts_in, Late.late_in, Known.FindsFrom, Known.MayBegin}
use Rattle.dma_mem.specs.{declared.regions.Region.Region, declared.segment.Segment.Segment, Regions.pieces_of}
use Rattle.dma_trace.specs.{declared.options.TraceOptions.TraceOptions, Explained.Prints, Found.zero_piece, Traced.Shows}

-- what is found of a program, or what is printed if nothing explains it
abbrev pub Found : Given → List ℕ → ℕ → Option Explained → List ℕ → List ℕ → Type 0
Found given program most (Some x) err new_err =
    FindsFrom given program most x
    × ((start : Registers) → MayBegin given start → x.bursts ≡ bursts_in start program (x.steps - 1))
    × (new_err ≡ err)
    × ((start : Registers) → MayBegin given start → x.late ≡ late_in start program (x.steps - 1))
Found given program most None err new_err = (printed : List ℕ) × Prints given program most false printed × (new_err ≡ err ++ printed)

-- a trace over RAM at these ranges
pub record ShowsOver (o : TraceOptions) (program : List ℕ) (ranges : List Segment) (good : Bool) (out err wave new_out new_err new_wave : List ℕ) : Type 0 where
  pub regions : List Region
  pub zeros : pieces_of regions ≡ map zero_piece ranges
  pub writable : All (λ r. r.read_only ≡ 0) regions
  pub new : List Region
  pub shows : Shows o program regions new good out err wave new_out new_err new_wave

-- What `trace` prints if no RAM is given to it (profile).
use Rattle.std.specs.Prelude.{◌≡◌, ℕ, ◌++◌, ◌⊎◌, nat_lt, Bool, false, List, [], ◌∷◌, length, map, max, replicate, All, IsTrue, if◌then◌else◌, codes}
use Rattle.dma_insn.specs.AssemblyText.{most_program_bytes}
use Rattle.dma_mem.specs.Regions.{Piece, in_order, pieces_of}
use Rattle.dma_mem.specs.{declared.regions.Region.Region, declared.segment.Segment.Segment, Lent.lies_in_any}
use Rattle.dma_explain.specs.{declared.explain.Explained.Explained, Explains.Finds, Known.all_given}
use Rattle.dma_chan.specs.Exec.{start_on}
use Rattle.dma_trace.specs.{declared.options.TraceOptions.TraceOptions, Explained.Prints, Traced.Shows}

-- the ranges that a program reads, writes and sets to 0, by what `explain` finds
abbrev pub ranges_of : Explained → List Segment
ranges_of x = map (λ r. record { addr = r.addr; len = r.len }) x.src.items ++ x.dst.items ++ x.zeros.items

-- zeros at a range
abbrev pub zero_piece : Segment → Piece
zero_piece s = record { addr = s.addr; bytes = replicate s.len 0 }

-- Regions are RAM for a program: they are in order, have the addresses of the ranges that `explain` finds and no
-- others, may be written, and all their bytes are 0.
pub record IsRam (x : Explained) (regions : List Region) : Type 0 where
  pub ranges : List Segment
  pub zeros : pieces_of regions ≡ map zero_piece ranges
  pub writable : All (λ r. r.read_only ≡ 0) regions
  pub order : IsTrue (in_order (pieces_of regions))
  pub places : (a : ℕ) → lies_in_any ranges a ≡ lies_in_any (ranges_of x) a

-- The ranges are found within 10,000,000 instructions, as by `explain` alone, or the trace's limit if it is larger.
abbrev pub most_explained : TraceOptions → ℕ
most_explained o = max o.limit 10000000

-- A program is traced over RAM at the ranges that `explain` finds of it.
pub record ShowsFound (o : TraceOptions) (program : List ℕ) (good : Bool)
    (out err wave new_out new_err new_wave : List ℕ) : Type 0 where
  pub found : Explained
  pub finds : Finds (start_on o.bus) program (most_explained o) found
  pub regions : List Region
  pub ram : IsRam found regions
  pub new : List Region
  pub shows : Shows o program regions new good out err wave new_out new_err new_wave

-- The line after the message of `explain`: `--ram` is needed, and why. A program that is too long has none.
abbrev pub needs_ram : List ℕ → List ℕ
needs_ram program =
    if nat_lt most_program_bytes (length program) then []
    else codes "  (trace needs --ram here: without it, the RAM is the ranges that explain finds)\n"

-- If nothing explains the program from registers that are 0, the message of `explain` is appended to `err`, with a line
-- that `--ram` is needed.
pub record Needs (o : TraceOptions) (program : List ℕ) (good : Bool)
    (out err wave new_out new_err new_wave : List ℕ) : Type 0 where
  pub printed : List ℕ
  pub prints : Prints (all_given (start_on o.bus)) program (most_explained o) false printed
  pub fails : good ≡ false
  pub to_out : new_out ≡ out
  pub to_err : new_err ≡ err ++ printed ++ needs_ram program
  pub to_wave : new_wave ≡ wave

-- What `trace` appends if no RAM is given.
abbrev pub ShowsAlone : TraceOptions → List ℕ → Bool → List ℕ → List ℕ → List ℕ → List ℕ → List ℕ → List ℕ → Type 0
ShowsAlone o program good out err wave new_out new_err new_wave =
    ShowsFound o program good out err wave new_out new_err new_wave
    ⊎ Needs o program good out err wave new_out new_err new_wave

-- What `trace` appends over regions, which are the RAM, or none if no RAM is given.
abbrev pub ShowsRam : TraceOptions → List ℕ → List Region → List Region → Bool → List ℕ → List ℕ → List ℕ → List ℕ → List ℕ → List ℕ → Type 0
ShowsRam o program [] new good out err wave new_out new_err new_wave =
    ShowsAlone o program good out err wave new_out new_err new_wave
ShowsRam o program (r ∷ rest) new good out err wave new_out new_err new_wave =
    Shows o program (r ∷ rest) new good out err wave new_out new_err new_wave

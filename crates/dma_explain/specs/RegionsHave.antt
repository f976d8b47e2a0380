-- Regions that contain what a work uses.
use Rattle.std.specs.{Prelude.◌≡◌, Prelude.ℕ, Prelude.false, Prelude.List, Prelude.IsTrue, List.list_any, List.Contains}
use Rattle.dma_mem.specs.Regions.{has, in_order, pieces_of, read_only_of}
use Rattle.dma_mem.specs.{declared.regions.Region.Region, Marking.MarkList, Lent.lies_in_any}
use Rattle.dma_chan.specs.LentRegions.{with_gaps_of}
use Rattle.dma_explain.specs.{Explains.Work, Explains.written, Works.MissesAll, Works.Uses}

-- Each address that a program's work reads or writes lies in a region, and none that it writes in a read-only one.
pub record HaveAll (regions : List Region) (w : Work) : Type 0 where
  pub touched : (a : ℕ) → Uses w a → IsTrue (list_any (has a) (pieces_of regions))
  pub writable : (a : ℕ) → Contains (written w) a → lies_in_any (read_only_of regions) a ≡ false

-- If regions in order contain all addresses that a work uses, and those that it writes aren't read-only, and the given
-- marks miss the work, then it is also missed by the marks at which bursts over the regions fail.
abbrev pub GapsMiss : Type 0
GapsMiss =
    (regions : List Region) (marks : MarkList) (w : Work) → IsTrue (in_order (pieces_of regions)) →
    HaveAll regions w → MissesAll marks w → MissesAll (with_gaps_of regions marks) w

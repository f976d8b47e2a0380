-- The addresses of running transfers, as ranges.
use Rattle.std.specs.Prelude.{Option, Some, None}
use Rattle.dma_mem.specs.{Places.Descriptor, Ranges.HasSources, Ranges.SameAddresses}
use Rattle.dma_engine.specs.{declared.access.Ranges.Ranges, View.RunningTransfer}

-- The ranges have exactly the addresses that a transfer reads, and exactly those that it writes.
pub record HasRangesOf (r : Ranges) (t : Descriptor) : Type 0 where
  pub sources : HasSources r.sources t
  pub destinations : SameAddresses r.destinations t.dst

-- There are ranges exactly if something runs, and they have its addresses.
abbrev pub AreOfRunning : Option Ranges → Option RunningTransfer → Type 0
AreOfRunning None None = Unit {0}
AreOfRunning (Some r) (Some x) = HasRangesOf r x.transfer
AreOfRunning (Some r) None = ⊥
AreOfRunning None (Some x) = ⊥

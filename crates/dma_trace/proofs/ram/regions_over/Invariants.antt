-- The first regions are made, and the rest has the bytes of the others.
use Rattle.std.proofs.Common.{◌≡◌, drop, map, replicate, take}
use Rattle.std.specs.Prelude.{All}
use Rattle.dma_mem.specs.{declared.regions.Region.Region, Refusals.total, Regions.pieces_of}
use Rattle.dma_trace.specs.Found.{zero_piece}
use Rattle.dma_trace.proofs.ram.regions_over.Given as goal

abbrev pub invariant-loop-range : goal.invariant-loop-range
invariant-loop-range l = record {
  made : pieces_of l.regions.items ≡ map zero_piece (take l.range-index l.ranges);
  writable : All (λ (r : Region). r.read_only ≡ 0) l.regions.items;
  rest : l.rest ≡ replicate (total (drop l.range-index l.ranges)) 0;
}

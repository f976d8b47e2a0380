use Rattle.std.proofs.Common.{◌≡◌, ◌≤◌, drop}
use Rattle.dma_mem.specs.Regions.{in_order, pieces_of, rises_from}
use Rattle.dma_mem.proofs.regions.are_in_order.Given as goal

abbrev pub invariant-loop-region : goal.invariant-loop-region
invariant-loop-region l = record {
  rest : in_order (pieces_of l.regions) ≡ rises_from l.end (drop l.region-index (pieces_of l.regions));
  most : l.end ≤ 4294967296;
}

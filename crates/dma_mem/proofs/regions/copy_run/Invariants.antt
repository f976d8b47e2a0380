use Rattle.std.proofs.Common.{◌≡◌, ◌-◌, ◌≤◌, ◌++◌, length, take, drop, vec_capacity}
use Rattle.dma_mem.specs.Regions.{pieces_of, run_from}
use Rattle.dma_mem.proofs.regions.copy_run.Given as goal

abbrev pub invariant-loop-region : goal.invariant-loop-region
invariant-loop-region l = record {
  few : length l.bytes.items ≤ l.most;
  room : l.most ≤ vec_capacity l.bytes;
  keeps : vec_capacity l.fn.bytes ≤ vec_capacity l.bytes;
  copied : l.bytes.items ++ take (l.most - length l.bytes.items) (run_from (pieces_of (drop l.region-index l.regions)) l.at) ≡ take l.most
      (run_from (pieces_of l.regions) l.addr);
}

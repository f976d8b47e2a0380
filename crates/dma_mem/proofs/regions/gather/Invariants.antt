use Rattle.std.proofs.Common.{◌≡◌, ℕ, ◌+◌, ◌<◌, get_or}
use Rattle.dma_mem.specs.Regions.{pieces_of, image_of}
use Rattle.dma_mem.proofs.regions.gather.Given as goal

abbrev pub invariant-loop-i : goal.invariant-loop-i
invariant-loop-i l = (k : ℕ) → k < l.i → get_or l.block k 0 ≡ get_or (image_of (pieces_of l.regions)) (l.addr + k) 0

use Rattle.std.proofs.Common.{◌≡◌, drop}
use Rattle.std.specs.List.{slice_get}
use Rattle.dma_mem.specs.Places.{places}
use Rattle.dma_mem.proofs.transfer.place_at.Given as goal

abbrev pub invariant-loop-s : goal.invariant-loop-s
invariant-loop-s l = slice_get (places (drop l.s-index l.list)) l.left ≡ slice_get (places l.list) l.position

use Rattle.std.proofs.Common.{◌≡◌, length}
use Rattle.dma_work.specs.inner.Published.{AreTaken, known_at}
use Rattle.dma_work.proofs.parts.places_of.Given as goal

abbrev pub invariant-loop-index : goal.invariant-loop-index
invariant-loop-index l = record {
  same : l.publisher ≡ l.fn.publisher;
  long : length l.places ≡ 8;
  taken : AreTaken (known_at l.fn.publisher) l.index l.places;
}

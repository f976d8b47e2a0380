use Rattle.std.proofs.Common.{◌≡◌, ◌≤◌, ℕ, length, None}
use Rattle.std.specs.{Prelude.slice_index_or, Prelude.vec_len, Prelude.vec_capacity, List.All}
use Rattle.dma_work.specs.{Known.Known, inner.Published.AreTaken}
use Rattle.dma_work.proofs.parts.listed.Given as goal

abbrev pub invariant-loop-index : goal.invariant-loop-index
invariant-loop-index l = record {
  few : vec_len l.readers ≤ l.index;
  room : l.count ≤ vec_capacity l.readers;
  long : length l.places ≡ 8;
  rest : (place : ℕ) → l.index ≤ place → slice_index_or l.places place None ≡ slice_index_or l.fn.places place None;
  all : (known : Known) → AreTaken known l.count l.fn.places
      → (vec_len l.readers ≡ l.index) × All (λ (s : Known). s ≡ known) l.readers.items;
}

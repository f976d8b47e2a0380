-- Reading the rest behind the bytes so far is reading the whole input, and there is room for a byte for each two.
use Rattle.std.proofs.Common.{◌≡◌, ◌+◌, ◌*◌, ◌/◌, ◌≤◌, length}
use Rattle.dma_script.specs.{Pairs.pairs_of, inner.Digits.pairs_after}
use Rattle.dma_script.proofs.pairs.read_pairs.Given as goal

abbrev pub invariant-loop-rest : goal.invariant-loop-rest
invariant-loop-rest l = record {
  counted : l.line + length l.rest ≤ length l.input + 1;
  room : 2 * length l.bytes.items + length l.rest ≤ length l.input;
  capacity : length l.input / 2 ≤ l.bytes.cap;
  reads : pairs_after l.bytes.items l.line l.rest ≡ pairs_of l.input;
}

abbrev pub decreases-loop-rest : goal.decreases-loop-rest
decreases-loop-rest l = length l.rest

-- Reading the rest behind the bytes so far is reading the whole text, and there is room for a byte for each two.
use Rattle.std.proofs.Common.{◌≡◌, ℕ, ◌+◌, ◌*◌, ◌≤◌, length}
use Rattle.dma_script.specs.{Words.words_of, inner.Digits.bytes_after, inner.Digits.pairs_after}
use Rattle.dma_script.proofs.pairs.spaced_pairs.Given as goal

abbrev pub invariant-loop-rest : goal.invariant-loop-rest
invariant-loop-rest l = record {
  words : bytes_after l.read.items (words_of l.rest) ≡ bytes_after l.initial.read.items (words_of l.text);
  pairs : (line : ℕ) → pairs_after l.read.items line l.rest ≡ pairs_after l.initial.read.items line l.text;
  room : 2 * length l.read.items + length l.rest ≤ 2 * length l.initial.read.items + length l.text;
  within : length l.rest ≤ length l.text;
  capacity : l.read.cap ≡ l.initial.read.cap;
}

abbrev pub decreases-loop-rest : goal.decreases-loop-rest
decreases-loop-rest l = length l.rest

-- Reading the rest behind the bytes so far is reading the whole line, and there is room for a byte for each two.
use Rattle.std.proofs.Common.{◌≡◌, ◌+◌, ◌*◌, ◌/◌, ◌≤◌, length}
use Rattle.dma_script.specs.{Words.words_of, Arguments.bytes_at, inner.Digits.bytes_after}
use Rattle.dma_script.proofs.arguments.read_hex.Given as goal

abbrev pub invariant-loop-rest : goal.invariant-loop-rest
invariant-loop-rest l = record {
  room : 2 * length l.bytes.items + length l.rest ≤ length l.line;
  capacity : length l.line / 2 ≤ l.bytes.cap;
  reads : bytes_after l.bytes.items (words_of l.rest) ≡ bytes_at (words_of l.line);
}

abbrev pub decreases-loop-rest : goal.decreases-loop-rest
decreases-loop-rest l = length l.rest

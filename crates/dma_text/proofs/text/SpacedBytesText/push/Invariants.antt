-- The text of the bytes so far follows the old text, and there is room for the others.
use Rattle.std.proofs.Common.{◌≡◌, ◌≤◌, ◌+◌, ◌-◌, ◌*◌, ◌++◌, length, take}
use Rattle.dma_text.specs.Digits.{spaced_bytes}
use Rattle.dma_text.proofs.text.SpacedBytesText.push.Given as goal

abbrev pub invariant-loop-byte : goal.invariant-loop-byte
invariant-loop-byte l = record {
  text : l.text.items ≡ l.initial.text.items ++ spaced_bytes (take l.byte-index l.bytes);
  room : length l.text.items + 3 * (length l.bytes - l.byte-index) ≤ l.text.cap;
}

use Rattle.std.proofs.Common.{◌≡◌, ◌<◌, drop}
use Rattle.dma_chan.specs.Saved.{adler, adler_prime}
use Rattle.dma_chan.proofs.save.checksum_of.Given as goal

abbrev pub invariant-loop-byte : goal.invariant-loop-byte
invariant-loop-byte l = record {
  low_sum : l.low < adler_prime;
  high_sum : l.high < adler_prime;
  others : adler l.low l.high (drop l.byte-index l.bytes) ≡ adler 1 0 l.bytes;
}

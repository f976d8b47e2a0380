-- What the digits from here on spell is what they all spell.
use Rattle.std.proofs.Common.{◌≡◌, ◌<◌, ◌^◌, false}
use Rattle.dma_script.specs.inner.Digits.{digits_before}
use Rattle.dma_script.proofs.SegmentLemmas.{digits_at}
use Rattle.dma_script.proofs.words.digits_before.Given as goal

abbrev pub invariant-loop-place : goal.invariant-loop-place
invariant-loop-place l = record {
  small : l.value < 2 ^ 32;
  reads : digits_at l.radix l.stop l.digits l.place l.value ≡ digits_before l.radix l.stop false 0 l.digits;
}

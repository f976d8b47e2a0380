use Rattle.std.proofs.Common.{◌≡◌, drop}
use Rattle.dma_manual.specs.Addresses.{closes_symbol}
use Rattle.dma_manual.proofs.addresses.closes_symbol.Given as goal

abbrev pub invariant-loop-byte : goal.invariant-loop-byte
invariant-loop-byte l = closes_symbol l.before (drop l.byte-index l.text) ≡ closes_symbol 60 l.text

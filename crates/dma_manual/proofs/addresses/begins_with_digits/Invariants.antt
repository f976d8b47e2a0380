use Rattle.std.proofs.Common.{◌≡◌, drop}
use Rattle.dma_manual.specs.Addresses.{is_address_after}
use Rattle.dma_manual.proofs.addresses.begins_with_digits.Given as goal

abbrev pub invariant-loop-count : goal.invariant-loop-count
invariant-loop-count l = is_address_after l.count (drop l.count l.text) ≡ is_address_after 0 l.text

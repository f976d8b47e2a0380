-- The bytes so far and those of the rest are the whole text.
use Rattle.std.proofs.Common.{◌≡◌, ◌++◌, drop, length}
use Rattle.dma_manual.specs.Addresses.{blanked, without_addresses}
use Rattle.dma_manual.proofs.addresses.without_addresses.Given as goal

abbrev pub invariant-loop-at : goal.invariant-loop-at
invariant-loop-at l =
    (l.blanked.items ++ blanked l.in_address (drop l.at l.text) ≡ without_addresses l.text)
    × (length l.blanked.items ≡ l.at)

use Rattle.std.proofs.Common.{arith, nat_eq}
use Rattle.std.proofs.lemmas.Nat.Bits.{shr_and_one}
use Rattle.dma_mem.proofs.FlagBits.{get_or_flags_of}
use Rattle.dma_mem.proofs.events.Events.is_set.Goals as goal

pub returns-clause-flag : goal.returns-clause-flag
returns-clause-flag c = grind (arith, nat_eq, shr_and_one, get_or_flags_of)

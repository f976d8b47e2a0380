-- Control words: rows computed from the definition of `dma_insn`, which has no rows of its own.
use Rattle.std.proofs.Common.{◌≡◌, Bool, true, false, [], ◌∷◌, map, Ok, Err, refl}
use Rattle.dma_insn.specs.declared.control.ControlFault.TheVariants.{ReservedSize, Swap, Bit31}
use Rattle.dma_insn.specs.{ControlWord.control_of, ControlWord.end_at, declared.control.BeatSize.TheVariants.Eight, declared.control.BurstEnd.BurstEnd}

-- 16 beats of eight bytes, with all bits of the protection and the cache
longest : Bool → BurstEnd
longest increments = record { increments = increments; size = Eight; beats = 16; protection = 7; cache = 7 }

-- 0x0ffdbff7: the fields of one end aren't those of the other
ends : control_of 268287991 ≡ Ok (record { src = longest true; dst = longest false })
unfolding control_of end_at longest
ends = refl

-- 0xf0038000, 0xc0000000 and 0x80000000: the order of the refusals
refusals : map control_of (4026761216 ∷ 3221225472 ∷ 2147483648 ∷ []) ≡ Err ReservedSize ∷ Err Swap ∷ Err Bit31 ∷ []
unfolding control_of end_at
refusals = refl

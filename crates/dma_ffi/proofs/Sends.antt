-- What a pointer that C keeps owns doesn't depend on the thread.
use base.Shift.{Keyless}
use base.Fraction.{full_share}
use mir.Raw.{raw}
use denote.Memory.{lone}
use denote.RattleType.{RattleType}
use denote.RawPtr.{Ptr, block_ptr, null_ptr}
use denote.Param.Send.{IsSend, part_keyless}
use Rattle.std.specs.Prelude.{Option, None, Some}
use Rattle.std.proofs.Crossing.{frees}
use Rattle.dma_ffi.specs.inner.Owned.{heap_handle, owned}

pub owned_keyless : (R : RattleType) → IsSend R → (p : Ptr) (value : Option R.Denot) → Keyless (owned R p value)
owned_keyless R sends p None = tt
owned_keyless R sends null_ptr (Some x) = (tt, frees.frees heap_handle (raw (lone R.mir)) null_ptr)
owned_keyless R sends (block_ptr b o) (Some x) = (part_keyless R sends full_share x b o, frees.frees heap_handle (raw (lone R.mir)) (block_ptr b o))

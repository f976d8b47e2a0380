-- The transfers of a channel's cookies.
use Rattle.std.specs.Prelude.{ℕ, ◌-◌, if◌then◌else◌, nat_le, Option, None, slice_get}
use Rattle.dma_mem.specs.Places.{Descriptor}
use Rattle.dma_engine.specs.Object.{Object, channel}

-- the transfer of a cookie, or None if no such cookie was given or it is forgotten
abbrev pub transfer_of : Object → ℕ → ℕ → Option Descriptor
transfer_of o ch cookie =
    let c = channel o ch in
    if nat_le cookie c.forgotten then None else slice_get c.submitted (cookie - c.forgotten - 1)

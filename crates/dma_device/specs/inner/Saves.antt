-- The ranges of what a save's head has.
use Rattle.std.specs.Prelude.{◌^◌, ◌<◌}
use Rattle.dma_device.specs.declared.save.head.Head.{Head}

-- The numbers of a head fit their numbers of bits.
pub record HasHeadRanges (h : Head) : Type 0 where
  pub fault : h.manager.fault < 2 ^ 32
  pub events : h.events < 2 ^ 32
  pub interrupts : h.interrupts < 2 ^ 32
  pub inten : h.inten < 2 ^ 32
  pub dbginst0 : h.dbginst0 < 2 ^ 32
  pub dbginst1 : h.dbginst1 < 2 ^ 32

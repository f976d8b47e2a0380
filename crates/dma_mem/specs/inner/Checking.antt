-- Which totals two lists may have.
use Rattle.std.specs.Prelude.{Bool, true, false}
use Rattle.dma_mem.specs.declared.transfer.rules.Totals.{Totals}
use Rattle.dma_mem.specs.declared.transfer.rules.Totals.TheVariants.{Same, Any}

-- whether the lists may have different totals, as those of a fill may
abbrev pub may_differ : Totals → Bool
may_differ Same = false
may_differ Any = true

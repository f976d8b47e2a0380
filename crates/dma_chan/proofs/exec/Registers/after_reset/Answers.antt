use Rattle.dma_chan.proofs.ControlWords.{reset_accepted}
use Rattle.std.proofs.lemmas.Bool.{true≢false}
use Rattle.std.proofs.Common.{sym, ◌∙◌}
use Rattle.dma_chan.proofs.exec.Registers.after_reset.Goals as goal

pub unreachable-requires : goal.unreachable-requires
unreachable-requires c = true≢false (sym reset_accepted ∙ sym c.in_default.ensures.accepted)

use Rattle.std.proofs.Common.{◌∙◌, ap, length, sym}
use Rattle.dma_seeds.proofs.TurnLemmas.{length_drawn}
use Rattle.dma_seeds.proofs.turns.Turns.len.Goals as goal

pub returns : goal.returns
returns c = sym (length_drawn c.self.inside.left c.self.inside.rng c.self.inside.jobs.items) ∙ ap length c.self.view_is

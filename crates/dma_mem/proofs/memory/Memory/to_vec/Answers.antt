use Rattle.std.proofs.lemmas.Result.{IfOk-weaker}
use Rattle.dma_mem.proofs.PageImages.{read_seen}
use Rattle.dma_mem.proofs.memory.Memory.to_vec.Goals as goal

pub returns : goal.returns
returns c =
    IfOk-weaker c.to_vec.result _ _ (λ list found.
    read_seen c.self.inside.size c.self.inside.table c.self.inside.flags c.args.self.now c.self.view_is c.args.addr c.args.len list.items found.0 c.requires
    found.1) c.to_vec.ensures

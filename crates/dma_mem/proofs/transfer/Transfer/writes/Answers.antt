use Rattle.std.proofs.Common.{◌∙◌, ◌≡◌, rules}
use Rattle.std.specs.List.{list_any}
use Rattle.dma_mem.specs.Meeting.{meets}
use Rattle.dma_mem.proofs.SharedPlaces.{share_places}
use Rattle.dma_mem.proofs.transfer.Transfer.writes.Goals as goal

pub returns : goal.returns
returns c =
    let e : c.meets_one.result ≡ list_any (meets c.args.segment) c.args.self.now.dst = search rules in
    e ∙ share_places _ _

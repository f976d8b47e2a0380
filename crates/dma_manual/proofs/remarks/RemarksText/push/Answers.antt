use Rattle.std.proofs.Common.{◌≡◌, ◌++◌, append_assoc, arith, refl}
use Rattle.std.proofs.lemmas.Grind.{common_steps}
use Rattle.dma_manual.specs.Listing.{target_text}
use Rattle.dma_manual.proofs.remarks.RemarksText.push.Goals as goal

pub returns-in_ok-push-2-clause-ok : goal.returns-in_ok-push-2-clause-ok
returns-in_ok-push-2-clause-ok c =
    let target : c.match-self.out.items ≡ c.args.out.now.items ++ target_text c.args.self.now.target = grind (arith, common_steps) in
    rw (c.in_ok-push-2.ensures.ok, target, c.if-not-self.true, append_assoc) refl

pub returns-else-not-self-clause-ok : goal.returns-else-not-self-clause-ok
returns-else-not-self-clause-ok c = grind (arith, common_steps)

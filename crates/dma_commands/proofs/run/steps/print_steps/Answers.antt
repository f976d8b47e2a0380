use Rattle.std.proofs.Common.{◌≡◌, ◌≤◌, ◌<◌, List, [], ◌∷◌, length, get_or, ap, sym, arith}
use Rattle.dma_engine.specs.declared.call.Reply.{Reply}
use Rattle.dma_commands.proofs.run.steps.print_steps.Goals as goal

-- a list of one reply
one_reply : (replies : List Reply) (reply : Reply) → 1 ≤ length replies → length replies < 2 → reply ≡ get_or replies 0 reply → replies ≡ reply ∷ []
one_reply [] reply some few is = absurd (omega arith)
one_reply (first ∷ []) reply some few is = ap (λ (r : Reply). r ∷ []) (sym is)
one_reply (first ∷ second ∷ rest) reply some few is = absurd (omega arith)

pub returns-in-len1-clause-ok : goal.returns-in-len1-clause-ok
returns-in-len1-clause-ok c =
    let one : c.args.replies.now ≡ c.reply-item.result ∷ [] = grind (arith, one_reply) in
    rw one c.print_step.ensures.ok

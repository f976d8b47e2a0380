use Rattle.std.proofs.Common.{sym, subst}
use Rattle.dma_work.specs.Desk.{Differ}
use Rattle.dma_work.proofs.shared.settle.Goals as goal

pub returns-in-Err-clause-missing : goal.returns-in-Err-clause-missing
returns-in-Err-clause-missing g c =
    let all = subst (λ tallies. Differ tallies c.in-Err.desk.book) c.as_slice.ensures.value c.in-Err.ensures.missing in
    subst (Differ c.args.tallies.items) (sym c.book.ensures) all

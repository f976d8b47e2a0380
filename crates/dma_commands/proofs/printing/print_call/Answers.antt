use Rattle.std.proofs.Common.{append_assoc, arith}
use Rattle.std.proofs.lemmas.Result.{on_ok_weaker}
use Rattle.dma_commands.proofs.printing.print_call.Goals as goal

pub returns-in-Read-Bytes-clause-ok : goal.returns-in-Read-Bytes-clause-ok
returns-in-Read-Bytes-clause-ok c =
    rw (c.in-Read-Bytes.is-0, c.in-Read-Bytes.is-1) (grind (arith, append_assoc, on_ok_weaker))

use Rattle.std.proofs.Common.{append_assoc, append-nil}
use Rattle.dma_insn.proofs.disassembler.InsnText.push.Goals as goal

pub returns-in-End-clause-ok : goal.returns-in-End-clause-ok
returns-in-End-clause-ok c = rw c.in-End.is c.push.ensures.ok

pub returns-in-Ld-clause-ok : goal.returns-in-Ld-clause-ok
returns-in-Ld-clause-ok c = rw c.in-Ld.is c.push-in-Ld.ensures.ok

pub returns-in-St-clause-ok : goal.returns-in-St-clause-ok
returns-in-St-clause-ok c = rw c.in-St.is c.push-in-St.ensures.ok

pub returns-in-Rmb-clause-ok : goal.returns-in-Rmb-clause-ok
returns-in-Rmb-clause-ok c = rw c.in-Rmb.is c.push-in-Rmb.ensures.ok

pub returns-in-Wmb-clause-ok : goal.returns-in-Wmb-clause-ok
returns-in-Wmb-clause-ok c = rw c.in-Wmb.is c.push-in-Wmb.ensures.ok

pub returns-in-Nop-clause-ok : goal.returns-in-Nop-clause-ok
returns-in-Nop-clause-ok c = rw c.in-Nop.is c.push-in-Nop.ensures.ok

pub returns-in-Sev-clause-ok : goal.returns-in-Sev-clause-ok
returns-in-Sev-clause-ok c = rw (c.in-Sev.is, append-nil, ← c.number-in-Sev.ensures.value) c.push-in-Sev.ensures.ok

pub returns-in-Mov-clause-ok : goal.returns-in-Mov-clause-ok
returns-in-Mov-clause-ok c = rw (c.in-Mov.is, append-nil, ← c.register_name.ensures) c.push-in-Mov.ensures.ok

pub returns-in-Lp-clause-ok : goal.returns-in-Lp-clause-ok
returns-in-Lp-clause-ok c =
    rw (c.in-Lp.is, append-nil, ← c.number_of.ensures, ← c.number.ensures.value, ← c.from.ensures) (rw append_assoc at c.push-in-Lp.ensures.ok)

pub returns-in-LpEnd-clause-ok : goal.returns-in-LpEnd-clause-ok
returns-in-LpEnd-clause-ok c = rw (c.in-LpEnd.is, append-nil, ← c.number_of-in-LpEnd.ensures) (rw append_assoc at c.push-in-LpEnd.ensures.ok)

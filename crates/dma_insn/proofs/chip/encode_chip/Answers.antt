use Rattle.dma_insn.proofs.chip.encode_chip.Goals as goal

pub returns-in-Lp : goal.returns-in-Lp
returns-in-Lp c = rw c.in-Lp.is c.encode-in-Lp.ensures

pub returns-in-LpEnd : goal.returns-in-LpEnd
returns-in-LpEnd c = rw c.in-LpEnd.is c.encode-in-LpEnd.ensures

pub returns-in-Sev : goal.returns-in-Sev
returns-in-Sev c = rw c.in-Sev.is c.encode-in-Sev.ensures

pub returns-in-Wfe : goal.returns-in-Wfe
returns-in-Wfe c = rw c.in-Wfe.is c.encode-in-Wfe.ensures

pub returns-in-Mov : goal.returns-in-Mov
returns-in-Mov c = rw c.in-Mov.is c.encode.ensures

pub returns-in-Ld : goal.returns-in-Ld
returns-in-Ld c = rw c.in-Ld.is c.encode-in-Ld.ensures

pub returns-in-St : goal.returns-in-St
returns-in-St c = rw c.in-St.is c.encode-in-St.ensures

pub returns-in-Rmb : goal.returns-in-Rmb
returns-in-Rmb c = rw c.in-Rmb.is c.encode-in-Rmb.ensures

pub returns-in-Wmb : goal.returns-in-Wmb
returns-in-Wmb c = rw c.in-Wmb.is c.encode-in-Wmb.ensures

pub returns-in-Nop : goal.returns-in-Nop
returns-in-Nop c = rw c.in-Nop.is c.encode-in-Nop.ensures

pub returns-in-End : goal.returns-in-End
returns-in-End c = rw c.in-End.is c.encode-in-End.ensures

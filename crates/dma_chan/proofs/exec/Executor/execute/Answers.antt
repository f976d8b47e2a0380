use Rattle.dma_mem.specs.Lent.{with_gaps}
use Rattle.dma_chan.proofs.exec.Executor.execute.Goals as goal

pub returns-in-Sev-clause-exact : goal.returns-in-Sev-clause-exact
returns-in-Sev-clause-exact g c =
    rw (← c.insn.ensures, c.in-Sev.is)
    (c.signal.ensures.exact (with_gaps (g.M.Ram.loan c.args.memory.now) c.args.marks.now) c.args.self.now.buffer (g.M.Ram.paged c.args.memory.now).image)

pub returns-in-Wfe-clause-exact : goal.returns-in-Wfe-clause-exact
returns-in-Wfe-clause-exact g c =
    rw (← c.insn.ensures, c.in-Wfe.is)
    (c.wait.ensures.exact (with_gaps (g.M.Ram.loan c.args.memory.now) c.args.marks.now) c.args.self.now.buffer (g.M.Ram.paged c.args.memory.now).image)

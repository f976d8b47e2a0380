use Rattle.dma_mem.specs.Lent.{with_gaps}
use Rattle.dma_chan.proofs.exec.Executor.execute_other.Goals as goal

pub returns-in-Mov-clause-exact : goal.returns-in-Mov-clause-exact
returns-in-Mov-clause-exact g c =
    λ flags. rw (← c.insn.ensures, c.in-Mov.is, c.keep.ensures.buffer, c.keep.ensures.registers)
    (c.set_register-turn.ensures.exact (with_gaps (g.M.Ram.loan c.args.memory.now) c.args.marks.now) c.args.self.now.buffer
    (g.M.Ram.paged c.args.memory.now).image flags)

pub returns-in-Lp-clause-exact : goal.returns-in-Lp-clause-exact
returns-in-Lp-clause-exact g c =
    λ flags. rw (← c.insn.ensures, c.in-Lp.is)
    (c.begin_loop.ensures.exact (with_gaps (g.M.Ram.loan c.args.memory.now) c.args.marks.now) c.args.self.now.buffer (g.M.Ram.paged c.args.memory.now).image
    flags)

pub returns-in-LpEnd-clause-exact : goal.returns-in-LpEnd-clause-exact
returns-in-LpEnd-clause-exact g c =
    λ flags. rw (← c.insn.ensures, c.in-LpEnd.is)
    (c.end_loop.ensures.exact (with_gaps (g.M.Ram.loan c.args.memory.now) c.args.marks.now) c.args.self.now.buffer (g.M.Ram.paged c.args.memory.now).image
    flags)

pub returns-in-AddHalfword-clause-exact : goal.returns-in-AddHalfword-clause-exact
returns-in-AddHalfword-clause-exact g c =
    λ flags. rw (← c.insn.ensures, c.in-AddHalfword.is, c.keep-in-AddHalfword.ensures.buffer, c.keep-in-AddHalfword.ensures.registers)
    (c.add_halfword-turn.ensures.exact (with_gaps (g.M.Ram.loan c.args.memory.now) c.args.marks.now) c.args.self.now.buffer
    (g.M.Ram.paged c.args.memory.now).image flags)

pub returns-in-LoopAgain-clause-exact : goal.returns-in-LoopAgain-clause-exact
returns-in-LoopAgain-clause-exact g c =
    λ flags. rw (← c.insn.ensures, c.in-LoopAgain.is)
    (c.loop_again.ensures.exact c.in-LoopAgain.counter (with_gaps (g.M.Ram.loan c.args.memory.now) c.args.marks.now) c.args.self.now.buffer
    (g.M.Ram.paged c.args.memory.now).image flags)

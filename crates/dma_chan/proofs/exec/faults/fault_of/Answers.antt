use Rattle.dma_mem.specs.Lent.{with_gaps}
use Rattle.dma_chan.proofs.exec.faults.fault_of.Goals as goal

pub returns-in-Mov : goal.returns-in-Mov
returns-in-Mov g c = λ flags. rw c.in-Mov.is
    (c.set_fault.ensures (with_gaps (g.M.Ram.loan c.args.memory.now) c.args.marks.now) c.args.executor.now.buffer (g.M.Ram.paged c.args.memory.now).image flags)

pub returns-in-LpEnd : goal.returns-in-LpEnd
returns-in-LpEnd g c = λ flags. rw c.in-LpEnd.is
    (c.jump_fault.ensures.fault (with_gaps (g.M.Ram.loan c.args.memory.now) c.args.marks.now) c.args.executor.now.buffer (g.M.Ram.paged c.args.memory.now).image
    flags)

pub returns-in-LoopAgain : goal.returns-in-LoopAgain
returns-in-LoopAgain g c =
    λ flags. rw c.in-LoopAgain.is
    (c.again_fault.ensures.fault c.in-LoopAgain.counter (with_gaps (g.M.Ram.loan c.args.memory.now) c.args.marks.now) c.args.executor.now.buffer
    (g.M.Ram.paged c.args.memory.now).image flags)

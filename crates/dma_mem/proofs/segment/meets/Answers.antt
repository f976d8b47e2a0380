use Rattle.std.proofs.Common.{arith}
use Rattle.dma_mem.proofs.SharedPlaces.{ranges_apart, ranges_past, ranges_tested, share_iff}
use Rattle.dma_mem.proofs.segment.meets.Goals as goal
use Rattle.dma_mem.proofs.segment.meets.Goals.{then-a-eq0-via-then-a-eq0, then-a-eq0-via-else-a-eq0+then-b-eq0}

pub returns-then-a-eq0-clause-value : goal.returns-then-a-eq0-clause-value
returns-then-a-eq0-clause-value c = grind (arith, then-a-eq0-via-then-a-eq0, ranges_apart)

pub returns-then-from-end-clause-value : goal.returns-then-from-end-clause-value
returns-then-from-end-clause-value c = grind (arith, ranges_tested)

pub returns-then-from-end-clause-fact : goal.returns-then-from-end-clause-fact
returns-then-from-end-clause-fact c = grind (arith, share_iff, returns-then-from-end-clause-value)

pub returns-else-from-end : goal.returns-else-from-end
returns-else-from-end c =
    let a = c.args.a in
    let b = c.args.b in
    let value = ranges_past a.addr a.len b.addr b.len c.from.result c.end.result (omega arith) (omega arith) (omega arith) in
    record { value = value; fact = share_iff _ _ _ value }

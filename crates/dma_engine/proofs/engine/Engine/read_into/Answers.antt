use Rattle.std.proofs.Common.{length, ◌∙◌, ap, arith, refl}
use Rattle.dma_mem.specs.{Places.writes}
use Rattle.dma_engine.specs.{inner.Inside.parts_of, View.size}
use Rattle.dma_engine.proofs.CallCases.{range_out}
use Rattle.dma_engine.proofs.{Sizes.size_is, Queues.seen}
use Rattle.dma_engine.proofs.engine.Engine.read_into.Goals as goal

pub returns-then-out-self-clause-answer : goal.returns-then-out-self-clause-answer
returns-then-out-self-clause-answer c =
    let end = size_is (parts_of c.self.inside) c.self.invariant ∙ ap size (seen c.self.view_is) in
    let out = range_out c.args.self.now.view c.args.addr (length c.args.out.now) (λ s t. writes t s) (omega (arith, end, c.if-out-self.true)) in
    rw out refl

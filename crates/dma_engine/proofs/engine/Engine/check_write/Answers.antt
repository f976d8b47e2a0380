use Rattle.std.proofs.Common.{◌∙◌, ap, arith, length, refl}
use Rattle.dma_mem.specs.Places.{touches}
use Rattle.dma_engine.specs.{inner.Inside.parts_of, View.size}
use Rattle.dma_engine.proofs.{CallCases.range_busy, CallCases.range_free, CallCases.range_out, Sizes.size_is, Queues.seen}
use Rattle.dma_engine.proofs.engine.Engine.check_write.Goals as goal

pub returns-then-addr-bytes : goal.returns-then-addr-bytes
returns-then-addr-bytes c =
    let end = size_is (parts_of c.self.inside) c.self.invariant ∙ ap size (seen c.self.view_is) in
    let out = range_out c.args.self.now.view c.args.addr (length c.args.bytes.now) (λ s t. touches t s) (omega (arith, end, c.if-addr-bytes.true)) in
    record { free = tt; err = rw out refl }

pub returns-in-Some : goal.returns-in-Some
returns-in-Some c =
    let end = size_is (parts_of c.self.inside) c.self.invariant ∙ ap size (seen c.self.view_is) in
    let busy = range_busy c.args.self.now.view c.args.addr (length c.args.bytes.now) (λ s t. touches t s) c.in-Some.ch c.in-Some.cookie
    (omega (arith, end, c.if-addr-bytes.false)) c.in-Some.ensures in
    record { free = tt; err = rw busy refl }

pub returns-in-None : goal.returns-in-None
returns-in-None c =
    let end = size_is (parts_of c.self.inside) c.self.invariant ∙ ap size (seen c.self.view_is) in
    record {
      free = range_free c.args.self.now.view c.args.addr (length c.args.bytes.now) (λ s t. touches t s) (omega (arith, end, c.if-addr-bytes.false))
          c.in-None.ensures;
      err = tt;
    }

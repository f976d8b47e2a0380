use Rattle.std.proofs.Common.{◌≡◌, ◌∙◌, ap, arith, ◌≤◌, ◌+◌, None, refl}
use Rattle.std.specs.Prelude.{IfErr, IsErrAnd, Result}
use Rattle.dma_mem.specs.Places.{writes}
use Rattle.dma_mem.specs.declared.call.Call.TheVariants.{Read}
use Rattle.dma_engine.specs.{Answer.CallAnswers, Answer.read_fault, inner.Inside.parts_of, View.View, View.size}
use Rattle.dma_engine.specs.{declared.call.Reply.TheVariants.Refused, declared.fault.EngineFault.EngineFault, declared.fault.EngineFault.TheVariants.NoMemory}
use Rattle.dma_mem.specs.declared.call.Call.{Call}
use Rattle.dma_engine.proofs.{CallCases.range_busy, CallCases.range_free, CallCases.range_out, Sizes.memory_size, Sizes.size_is, Queues.seen}
use Rattle.dma_engine.proofs.{CallCases.read_starved, Entries.read_seen}
use Rattle.dma_engine.proofs.engine.Engine.bytes_read.Goals.{In-None}
use Rattle.dma_engine.proofs.engine.Engine.bytes_read.Goals as goal

pub returns-then-addr-len : goal.returns-then-addr-len
returns-then-addr-len c =
    let end = size_is (parts_of c.self.inside) c.self.invariant ∙ ap size (seen c.self.view_is) in
    let out = range_out c.args.self.now.view c.args.addr c.args.len (λ s t. writes t s) (omega (arith, end, c.if-addr-len.true)) in
    record { free = tt; bytes = tt; err = rw out refl }

pub returns-in-Some : goal.returns-in-Some
returns-in-Some c =
    let end = size_is (parts_of c.self.inside) c.self.invariant ∙ ap size (seen c.self.view_is) in
    let busy = range_busy c.args.self.now.view c.args.addr c.args.len (λ s t. writes t s) c.in-Some.ch c.in-Some.cookie
    (omega (arith, end, c.if-addr-len.false)) c.in-Some.ensures in
    record { free = tt; bytes = tt; err = rw busy refl }

pub bytes_of-requires : goal.bytes_of-requires
bytes_of-requires c =
    let p = parts_of c.self.inside in
    omega (arith, memory_size p c.self.invariant, size_is p c.self.invariant, c.if-addr-len.false)

-- the range is free
free : (c : In-None) → read_fault c.args.self.now.view c.args.addr c.args.len ≡ None
free c =
    let end = size_is (parts_of c.self.inside) c.self.invariant ∙ ap size (seen c.self.view_is) in
    let within : c.args.addr + c.args.len ≤ size c.args.self.now.view = omega (arith, end, c.if-addr-len.false) in
    range_free c.args.self.now.view c.args.addr c.args.len (λ s t. writes t s) within c.in-None.ensures

refused : {T : Type 0} (v : View) (call : Call) (r : Result T EngineFault) → IsErrAnd r (λ e. e ≡ NoMemory) → CallAnswers v call (Refused NoMemory) v
    → IfErr r (λ fault. CallAnswers v call (Refused fault) v)
refused v call r h h2 = grind (arith)

pub returns-in_err-bytes_of-in-None-clause-err : goal.returns-in_err-bytes_of-in-None-clause-err
returns-in_err-bytes_of-in-None-clause-err c =
    let v = c.args.self.now.view in
    refused v (Read c.args.addr c.args.len) c.from_residual.result c.from_residual.ensures.1
    (read_starved v c.args.addr c.args.len (free (goal.at.returns-in_err-bytes_of-in-None-clause-err c).In-None))

pub returns-in_ok-bytes_of-in-None-clause-free : goal.returns-in_ok-bytes_of-in-None-clause-free
returns-in_ok-bytes_of-in-None-clause-free c = free (goal.at.returns-in_ok-bytes_of-in-None-clause-free c).In-None

pub returns-in_ok-bytes_of-in-None-clause-bytes : goal.returns-in_ok-bytes_of-in-None-clause-bytes
returns-in_ok-bytes_of-in-None-clause-bytes c =
    read_seen (parts_of c.self.inside) c.args.self.now.view c.args.addr c.args.len _ c.self.invariant (seen c.self.view_is)
    (free (goal.at.returns-in_ok-bytes_of-in-None-clause-bytes c).In-None) c.in_ok-bytes_of-in-None.ensures

use Rattle.std.proofs.Common.{◌≡◌, ◌++◌, List, ℕ, OnOk, subst}
use Rattle.dma_trace.specs.Front.{front_of}
use Rattle.dma_trace.proofs.Reached.{cause_printed, front_here}
use Rattle.dma_trace.proofs.explain.print_cause.Goals as goal

pub ahead-requires : goal.ahead-requires
ahead-requires g c = record { offset = c.in_ok-tracer.ensures.follows.pc; limit = c.requires.long }

pub returns-clause-ok : goal.returns-clause-ok
returns-clause-ok g c =
    let start = c.args.start in
    let program = c.args.program.now in
    let found = c.args.found in
    let x = c.in_ok-tracer.tracer in
    let P : List ℕ → Type 0 = λ xs. OnOk c.push.result (c.push.new.out.items ≡ c.args.err.now.items ++ xs) in
    subst P (cause_printed start program found (front_of x.registers x.held) c.first_byte-first.result c.ahead.result c.in_ok-tracer.touches
    (front_here start program found.steps x c.in_ok-tracer.ensures.follows) c.first_byte-first.ensures c.ahead.ensures c.in_ok-tracer.ensures.touches)
    c.push.ensures.ok

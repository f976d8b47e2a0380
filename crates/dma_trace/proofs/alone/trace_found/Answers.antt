use Rattle.std.proofs.Common.{ap, ◌∙◌, arith}
use Rattle.dma_text.proofs.Begun.{begun}
use Rattle.std.proofs.lemmas.Result.{IfOk-weaker}
use Rattle.dma_chan.specs.Exec.{start_on}
use Rattle.dma_explain.specs.Known.{all_given}
use Rattle.dma_trace.specs.Found.{most_explained}
use Rattle.dma_trace.proofs.{OverFound.found_ends, OverFound.shown_alone, Reached.found_from}
use Rattle.dma_trace.proofs.alone.trace_found.Goals as goal

pub ranges_found-requires : goal.ranges_found-requires
ranges_found-requires g c =
    let o = c.args.options.now in
    let found = rw (c.in-Some.is, c.max-most.ensures) at c.in_ok-found.ensures.ok in
    let zeros = c.all-given.ensures ∙ ap all_given c.start.ensures in
    found_ends (start_on o.bus) c.args.program.now (most_explained o) c.in-Some.found
    (found_from c.all-given.result (start_on o.bus) c.args.program.now (most_explained o) c.in-Some.found zeros found.0)

pub returns-in_ok-ranges-in-Some-clause-ok : goal.returns-in_ok-ranges-in-Some-clause-ok
returns-in_ok-ranges-in-Some-clause-ok g c =
    let o = c.args.options.now in
    let found = rw (c.in-Some.is, c.max-most.ensures) at c.in_ok-found.ensures.ok in
    let zeros = c.all-given.ensures ∙ ap all_given c.start.ensures in
    let finds = found_from c.all-given.result (start_on o.bus) c.args.program.now (most_explained o) c.in-Some.found zeros found.0 in
    IfOk-weaker c.trace_over.result _ _ (λ good. shown_alone o c.args.program.now c.in-Some.found c.in_ok-ranges-in-Some.ranges.items _ finds
    good _ _ _ _ _ _ _ c.deref.ensures.value c.in_ok-ranges-in-Some.ensures.order c.in_ok-ranges-in-Some.ensures.places found.2)
    c.trace_over.ensures.ok

pub returns-in_err-found-clause-begins : goal.returns-in_err-found-clause-begins
returns-in_err-found-clause-begins g c = grind (arith, begun)

pub returns-in_err-found-clause-begins_err : goal.returns-in_err-found-clause-begins_err
returns-in_err-found-clause-begins_err g c = grind (arith, begun)

pub returns-in_err-found-clause-begins_wave : goal.returns-in_err-found-clause-begins_wave
returns-in_err-found-clause-begins_wave g c = grind (arith, begun)

pub returns-in_err-push-in-None-clause-begins : goal.returns-in_err-push-in-None-clause-begins
returns-in_err-push-in-None-clause-begins g c = grind (arith, begun)

pub returns-in_err-push-in-None-clause-begins_err : goal.returns-in_err-push-in-None-clause-begins_err
returns-in_err-push-in-None-clause-begins_err g c = grind (arith, begun)

pub returns-in_err-push-in-None-clause-begins_wave : goal.returns-in_err-push-in-None-clause-begins_wave
returns-in_err-push-in-None-clause-begins_wave g c = grind (arith, begun)

pub returns-in_err-ranges-in-Some-clause-begins : goal.returns-in_err-ranges-in-Some-clause-begins
returns-in_err-ranges-in-Some-clause-begins g c = grind (arith, begun)

pub returns-in_err-ranges-in-Some-clause-begins_err : goal.returns-in_err-ranges-in-Some-clause-begins_err
returns-in_err-ranges-in-Some-clause-begins_err g c = grind (arith, begun)

pub returns-in_err-ranges-in-Some-clause-begins_wave : goal.returns-in_err-ranges-in-Some-clause-begins_wave
returns-in_err-ranges-in-Some-clause-begins_wave g c = grind (arith, begun)

pub returns-in_ok-push-in-None-clause-begins : goal.returns-in_ok-push-in-None-clause-begins
returns-in_ok-push-in-None-clause-begins g c = grind (arith, begun)

pub returns-in_ok-push-in-None-clause-begins_err : goal.returns-in_ok-push-in-None-clause-begins_err
returns-in_ok-push-in-None-clause-begins_err g c = grind (arith, begun)

pub returns-in_ok-push-in-None-clause-begins_wave : goal.returns-in_ok-push-in-None-clause-begins_wave
returns-in_ok-push-in-None-clause-begins_wave g c = grind (arith, begun)

pub returns-in_ok-ranges-in-Some-clause-begins : goal.returns-in_ok-ranges-in-Some-clause-begins
returns-in_ok-ranges-in-Some-clause-begins g c = grind (arith, begun)

pub returns-in_ok-ranges-in-Some-clause-begins_err : goal.returns-in_ok-ranges-in-Some-clause-begins_err
returns-in_ok-ranges-in-Some-clause-begins_err g c = grind (arith, begun)

pub returns-in_ok-ranges-in-Some-clause-begins_wave : goal.returns-in_ok-ranges-in-Some-clause-begins_wave
returns-in_ok-ranges-in-Some-clause-begins_wave g c = grind (arith, begun)

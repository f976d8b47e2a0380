use Rattle.std.proofs.Common.{◌<◌, ◌+◌, arith, drop, length, slice_index_or, subst, sym}
use Rattle.dma_io.specs.Command.{AppendsGroups}
use Rattle.dma_commands.specs.{Run.lines_answered, declared.run.call_list.Line.TheVariants.Call}
use Rattle.dma_commands.specs.inner.Listed.{IsWhole, Prints, statements_in}
use Rattle.dma_commands.proofs.ListLemmas.{from_place, next_prints, next_same, next_whole, on_err_always, stops_printed}
use Rattle.dma_commands.proofs.run.call_list.print_replies.Goals as goal

pub print_first-requires-clause-whole : goal.print_first-requires-clause-whole
print_first-requires-clause-whole c =
    let i = c.loop-line.line-index in
    let less : i < length c.args.lines.now = omega (arith, c.loop-line-test.true) in (
      drop (i + 1) c.args.lines.now,
      subst (λ r. IsWhole r c.loop-line.calls.now) (from_place c.args.lines.now i Call less) c.loop-line.invariant.whole,
    )

pub returns-in_err-own-clause-err : goal.returns-in_err-own-clause-err
returns-in_err-own-clause-err c =
    let i = c.loop-line.line-index in
    let less : i < length c.args.lines.now = omega (arith, c.loop-line-test.true) in
    let rest = drop (i + 1) c.args.lines.now in
    let line = slice_index_or c.args.lines.now i Call in
    let place = from_place c.args.lines.now i Call less in
    let all = statements_in c.args.lines.now c.args.calls.now in
    let old = c.args.out.now.items in
    let out = c.loop-line.out.items in
    on_err_always _ c.from_residual.result (λ v w a.
    subst (AppendsGroups (lines_answered v all) old) (sym c.in_err-own.ensures.err)
    (stops_printed v w all old line rest c.loop-line.calls.now c.loop-line.replies.now out
    (subst (λ r. IsWhole r c.loop-line.calls.now) place c.loop-line.invariant.whole)
    (subst (λ r. Prints v w all old r c.loop-line.calls.now c.loop-line.replies.now out) place (c.loop-line.invariant.printed v w a))))

pub loop-line-preserved : goal.loop-line-preserved
loop-line-preserved c =
    let i = c.loop-line.line-index in
    let less : i < length c.args.lines.now = omega (arith, c.loop-line-test.true) in
    let rest = drop (i + 1) c.args.lines.now in
    let place = from_place c.args.lines.now i Call less in
    let all = statements_in c.args.lines.now c.args.calls.now in
    let old = c.args.out.now.items in
    let calls = c.loop-line.calls.now in
    let replies = c.loop-line.replies.now in
    let own = c.in_ok-own.own in
    let whole = subst (λ r. IsWhole r calls) place c.loop-line.invariant.whole in
    record {
      whole = next_whole rest calls own (c.in_ok-own.ensures.rest rest whole);
      same = next_same calls replies own c.loop-line.invariant.same;
      printed = λ v w a. next_prints v w all old rest calls replies c.print_first.new.out.items own
          (c.in_ok-own.ensures.printed v w all old rest whole
          (subst (λ r. Prints v w all old r calls replies c.loop-line.out.items) place (c.loop-line.invariant.printed v w a)));
    }

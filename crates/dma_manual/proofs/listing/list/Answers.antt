use Rattle.dma_text.proofs.Begun.{begun}
use Rattle.std.proofs.Common.{arith, length, sym, ◌∙◌}
use Rattle.dma_text.proofs.Begun.{begins_more}
use Rattle.dma_manual.specs.Listing.{listed}
use Rattle.dma_manual.proofs.Listings.{listed_last, listed_step}
use Rattle.dma_manual.proofs.listing.list.Goals as goal

pub loop-rest-preserved : goal.loop-rest-preserved
loop-rest-preserved c =
    let step =
    listed_step c.args.at c.loop-rest.labels.items c.loop-rest.offset c.in-Ok.count c.loop-rest.rest.now c.in-Ok.insn c.loop-rest.out.items
    c.push_line.new.out.items c.deref.result.now (sym c.in-Ok.ensures.exact) c.in-Ok.ensures.within.0 c.in-Ok.ensures.within.1 c.deref.ensures.value
    c.in_ok-push_line-in-Ok.ensures.ok c.push_label.new.out.items c.split_at.result.1.now c.push_label.new.labels.items (sym c.if-is_end.ensures)
    c.in_ok-push_label-in-Ok.ensures.ok c.in_ok-push_label-in-Ok.ensures.labels c.split_at.ensures.back in
    record {
      counted = omega arith;
      text = step.0 ∙ c.loop-rest.invariant.text;
      ending = step.1 ∙ c.loop-rest.invariant.ending;
      err = c.loop-rest.invariant.err;
      begins = begins_more _ _ _ (begins_more _ _ _ c.loop-rest.invariant.begins c.push_line.ensures.begins) c.push_label.ensures.begins;
    }

pub returns-then-is_end-clause-out : goal.returns-then-is_end-clause-out
returns-then-is_end-clause-out c =
    listed_last c.args.at c.loop-rest.labels.items c.loop-rest.offset c.in-Ok.count c.loop-rest.rest.now c.in-Ok.insn c.loop-rest.out.items
    c.push_line.new.out.items c.deref.result.now (sym c.in-Ok.ensures.exact) c.in-Ok.ensures.within.0 c.in-Ok.ensures.within.1 c.deref.ensures.value
    c.in_ok-push_line-in-Ok.ensures.ok c.push_rest.new.out.items c.args.out.now.items (listed c.args.at c.args.program.now) (length c.split_at.result.1.now)
    (sym c.if-is_end.ensures) (omega (arith, c.split_at.ensures.back_len)) c.in_ok-push_rest-in-Ok.ensures.ok c.loop-rest.invariant.text
    c.loop-rest.invariant.ending

pub returns-clause-err_begins : goal.returns-clause-err_begins
returns-clause-err_begins c = grind (arith, begun)

pub returns-clause-out_begins : goal.returns-clause-out_begins
returns-clause-out_begins c = grind (arith, begun)

pub returns-in-Err-clause-err_begins : goal.returns-in-Err-clause-err_begins
returns-in-Err-clause-err_begins c = grind (arith, begun)

pub returns-in-Err-clause-out_begins : goal.returns-in-Err-clause-out_begins
returns-in-Err-clause-out_begins c = grind (arith, begun)

pub returns-in_err-push_label-in-Ok-clause-err_begins : goal.returns-in_err-push_label-in-Ok-clause-err_begins
returns-in_err-push_label-in-Ok-clause-err_begins c = grind (arith, begun)

pub returns-in_err-push_label-in-Ok-clause-out_begins : goal.returns-in_err-push_label-in-Ok-clause-out_begins
returns-in_err-push_label-in-Ok-clause-out_begins c = grind (arith, begun)

pub returns-in_err-push_line-in-Ok-clause-err_begins : goal.returns-in_err-push_line-in-Ok-clause-err_begins
returns-in_err-push_line-in-Ok-clause-err_begins c = grind (arith, begun)

pub returns-in_err-push_line-in-Ok-clause-out_begins : goal.returns-in_err-push_line-in-Ok-clause-out_begins
returns-in_err-push_line-in-Ok-clause-out_begins c = grind (arith, begun)

pub returns-in_err-push_rest-in-Ok-clause-err_begins : goal.returns-in_err-push_rest-in-Ok-clause-err_begins
returns-in_err-push_rest-in-Ok-clause-err_begins c = grind (arith, begun)

pub returns-in_err-push_rest-in-Ok-clause-out_begins : goal.returns-in_err-push_rest-in-Ok-clause-out_begins
returns-in_err-push_rest-in-Ok-clause-out_begins c = grind (arith, begun)

pub returns-in_err-push_stop-in-Err-clause-err_begins : goal.returns-in_err-push_stop-in-Err-clause-err_begins
returns-in_err-push_stop-in-Err-clause-err_begins c = grind (arith, begun)

pub returns-in_err-push_stop-in-Err-clause-out_begins : goal.returns-in_err-push_stop-in-Err-clause-out_begins
returns-in_err-push_stop-in-Err-clause-out_begins c = grind (arith, begun)

pub returns-then-is_end-clause-err_begins : goal.returns-then-is_end-clause-err_begins
returns-then-is_end-clause-err_begins c = grind (arith, begun)

pub returns-then-is_end-clause-out_begins : goal.returns-then-is_end-clause-out_begins
returns-then-is_end-clause-out_begins c = grind (arith, begun)

use Rattle.std.proofs.Common.{◌∙◌, None, Some, sym, append-nil, arith}
use Rattle.dma_engine.specs.{View.object_of}
use Rattle.dma_why.proofs.WaitLemmas.{held_all, held_more}
use Rattle.dma_why.proofs.waits.holders.Goals.{in-Some-holder_on+in_ok-push, in_default-holder_on}
use Rattle.dma_why.proofs.waits.holders.Goals as goal

pub loop-other-preserved : goal.loop-other-preserved
loop-other-preserved c =
    let v = c.args.engine.now.view in
    let found = c.loop-other.found.items in
    let ch = c.loop-other.other in
    let so_far = c.loop-other.invariant in
    elim c.match-holder_on.branch [
      | in-Some-holder_on+in_ok-push w ↦
          rw (w.found-is, w.in_ok-push.ensures.items)
          (held_more c.in-Some.transfer.now (object_of v) v.schedule ch found (Some w.in-Some-holder_on.cookie) so_far
          (sym w.in-Some-holder_on.is ∙ c.holder_on.ensures))
      | in_default-holder_on w ↦
          rw w.found-is (sym (append-nil found)
          ∙ held_more c.in-Some.transfer.now (object_of v) v.schedule ch found None so_far (sym w.in_default-holder_on.is ∙ c.holder_on.ensures))
    ]

pub returns : goal.returns
returns c = grind (arith, held_all)

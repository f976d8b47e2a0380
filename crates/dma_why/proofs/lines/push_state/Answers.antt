use Rattle.dma_engine.specs.declared.turn.Turn.TheVariants.{Held, Started, Moved, Waiting, Paused, Halted, Finished}
use Rattle.dma_why.proofs.LineLemmas.{ok_is, push_more}
use Rattle.dma_why.proofs.lines.push_state.Goals as goal

pub returns-in-Ok-Started : goal.returns-in-Ok-Started
returns-in-Ok-Started c =
    rw (ok_is c.args.turned c.in-Ok-Started.field-0 (Started c.in-Ok-Started.field-0-0) c.in-Ok-Started.is
    (rw c.in-Ok-Started.is at c.in-Ok-Started.field-0-is)) c.push-in-Ok-Started.ensures.ok

pub returns-in-Ok-Moved : goal.returns-in-Ok-Moved
returns-in-Ok-Moved c =
    rw (ok_is c.args.turned c.in-Ok-Moved.field-0 Moved c.in-Ok-Moved.is
    (rw c.in-Ok-Moved.is at c.in-Ok-Moved.field-0-is)) c.push-in-Ok-Moved.ensures.ok

pub returns-in-Ok-Waiting : goal.returns-in-Ok-Waiting
returns-in-Ok-Waiting c =
    rw (ok_is c.args.turned c.in-Ok-Waiting.field-0 (Waiting c.in-Ok-Waiting.event) c.in-Ok-Waiting.is
    (rw c.in-Ok-Waiting.is at c.in-Ok-Waiting.field-0-is)) c.push-in-Ok-Waiting.ensures.ok

pub returns-in-Ok-Paused : goal.returns-in-Ok-Paused
returns-in-Ok-Paused c =
    rw (ok_is c.args.turned c.in-Ok-Paused.field-0 Paused c.in-Ok-Paused.is
    (rw c.in-Ok-Paused.is at c.in-Ok-Paused.field-0-is)) c.push-in-Ok-Paused.ensures.ok

pub returns-in-Err : goal.returns-in-Err
returns-in-Err c = rw c.in-Err.is c.push-in-Err.ensures.ok

pub returns-in_ok-push-in-Ok-Halted : goal.returns-in_ok-push-in-Ok-Halted
returns-in_ok-push-in-Ok-Halted c =
    rw (ok_is c.args.turned c.in-Ok-Halted.field-0 Halted c.in-Ok-Halted.is
    (rw c.in-Ok-Halted.is at c.in-Ok-Halted.field-0-is))
    (push_more _ _ _ _ _ _ c.in_ok-push-in-Ok-Halted.ensures.ok c.push_last.ensures)

pub returns-in_ok-push-in-Ok-Finished : goal.returns-in_ok-push-in-Ok-Finished
returns-in_ok-push-in-Ok-Finished c =
    rw (ok_is c.args.turned c.in-Ok-Finished.field-0 (Finished c.in-Ok-Finished.cookie c.in-Ok-Finished.how c.in-Ok-Finished.residue) c.in-Ok-Finished.is
    (rw c.in-Ok-Finished.is at c.in-Ok-Finished.field-0-is))
    (push_more _ _ _ _ _ _ c.in_ok-push-in-Ok-Finished.ensures.ok c.push_ending.ensures)

pub returns-in_ok-push-in-Ok-Held : goal.returns-in_ok-push-in-Ok-Held
returns-in_ok-push-in-Ok-Held c =
    let pushed = rw (c.deref.ensures.value, c.in_ok-found-in-Ok-Held.ensures) at c.push_between.ensures in
    rw (ok_is c.args.turned c.in-Ok-Held.field-0 (Held c.in-Ok-Held.field-0-0 c.in-Ok-Held.field-0-1) c.in-Ok-Held.is
    (rw c.in-Ok-Held.is at c.in-Ok-Held.field-0-is))
    (push_more _ _ _ _ _ _ c.in_ok-push-in-Ok-Held.ensures.ok pushed)

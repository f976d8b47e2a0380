use Rattle.dma_manual.proofs.Readings.{fields_err, fields_more}
use Rattle.dma_manual.proofs.fields.fields_at.Goals as goal

pub loop-left-preserved : goal.loop-left-preserved
loop-left-preserved c =
    fields_more c.loop-left.left c.loop-left.fields c.set_field.new.fields c.loop-left.rest.now c.in-Some.word.now c.in-Some.after.now _ c.loop-left-test.true
    c.loop-left.invariant
    c.in-Some.ensures c.in-Ok.ensures

pub returns-in-Err : goal.returns-in-Err
returns-in-Err c =
    fields_err c.loop-left.left c.loop-left.fields c.loop-left.rest.now c.in-Some.word.now c.in-Some.after.now c.in-Err.fault _ c.loop-left-test.true
    c.loop-left.invariant
    c.in-Some.ensures c.in-Err.ensures

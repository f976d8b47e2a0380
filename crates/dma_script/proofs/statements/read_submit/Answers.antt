use Rattle.std.proofs.Common.{◌∙◌, ap, sym, Ok}
use Rattle.dma_script.proofs.Reading.{submit_read}
use Rattle.dma_script.proofs.statements.read_submit.Goals as goal

pub returns : goal.returns
returns c =
    submit_read c.args.statements.now c.args.words.now c.byte-ch.new.self c.transfer.new.words c.byte-ch.result c.in_ok-transfer.transfer c.byte-ch.ensures
    (ap (λ kept. (kept, c.transfer.new.words)) c.in_ok-transfer.ensures ∙ c.in_ok-read.ensures)
    ∙ ap (λ all. Ok (all, c.transfer.new.words)) (sym c.in_ok-push.ensures.ok)

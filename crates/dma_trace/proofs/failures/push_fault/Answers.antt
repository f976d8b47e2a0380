use Rattle.std.proofs.Common.{◌≡◌, ◌++◌, OnOk, subst}
use Rattle.std.specs.Prelude.{codes}
use Rattle.dma_chan.specs.declared.bursts.Burst.{Burst}
use Rattle.dma_explain.specs.declared.explain.Repeated.{Repeated}
use Rattle.dma_trace.specs.{Words.fault_words, Words.range_text, Words.span_text}
use Rattle.dma_trace.proofs.failures.push_fault.Goals as goal

pub returns-in-DataReadErr-clause-ok : goal.returns-in-DataReadErr-clause-ok
unfolding fault_words
returns-in-DataReadErr-clause-ok c =
    let P : Burst → Type 0 = λ b. OnOk c.push-in-DataReadErr.result
    (c.push-in-DataReadErr.new.out.items ≡ c.args.out.now.items ++ (codes "it can't load " ++ span_text b)) in
    let Q : Repeated → Type 0 = λ s. OnOk c.push-in-DataReadErr.result
    (c.push-in-DataReadErr.new.out.items ≡ c.args.out.now.items ++ (codes "it can't load " ++ range_text s.addr s.len s.times)) in
    rw c.in-DataReadErr.is (subst P c.source_burst-loads.ensures.value (subst Q c.read_of-in-DataReadErr.ensures c.push-in-DataReadErr.ensures.ok))

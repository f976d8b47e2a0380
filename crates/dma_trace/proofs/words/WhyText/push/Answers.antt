use Rattle.std.proofs.Common.{◌≡◌, ◌++◌, ℕ, OnOk, subst}
use Rattle.std.specs.Prelude.{codes}
use Rattle.dma_chan.specs.declared.bursts.Burst.{Burst}
use Rattle.dma_explain.specs.declared.explain.Repeated.{Repeated}
use Rattle.dma_trace.specs.{Words.bytes_text, Words.cause_text, Words.range_text, Words.span_text}
use Rattle.dma_trace.proofs.words.WhyText.push.Goals as goal

pub returns-in-LoadsPast-clause-ok : goal.returns-in-LoadsPast-clause-ok
unfolding cause_text
returns-in-LoadsPast-clause-ok c =
    let P : Burst → Type 0 = λ b. OnOk c.push-in-LoadsPast.result
    (c.push-in-LoadsPast.new.out.items ≡ c.args.out.now.items ++ (codes "the load ends above 2^32: " ++ span_text b)) in
    let Q : Repeated → Type 0 = λ s. OnOk c.push-in-LoadsPast.result
    (c.push-in-LoadsPast.new.out.items ≡ c.args.out.now.items ++ (codes "the load ends above 2^32: " ++ range_text s.addr s.len s.times)) in
    rw c.in-LoadsPast.is (subst P c.source_burst-loads.ensures.value (subst Q c.read_of.ensures c.push-in-LoadsPast.ensures.ok))

pub returns-in-StoresPast-clause-ok : goal.returns-in-StoresPast-clause-ok
unfolding cause_text
returns-in-StoresPast-clause-ok c =
    let P : Burst → Type 0 = λ b. OnOk c.push-in-StoresPast.result
    (c.push-in-StoresPast.new.out.items ≡ c.args.out.now.items ++ (codes "the store ends above 2^32: " ++ span_text b)) in
    let Q : Repeated → Type 0 = λ s. OnOk c.push-in-StoresPast.result
    (c.push-in-StoresPast.new.out.items ≡ c.args.out.now.items ++ (codes "the store ends above 2^32: " ++ range_text s.addr s.len s.times)) in
    rw c.in-StoresPast.is (subst P c.destination_burst-stores.ensures.value (subst Q c.read_of-in-StoresPast.ensures c.push-in-StoresPast.ensures.ok))

pub returns-in-StoresFixed-clause-ok : goal.returns-in-StoresFixed-clause-ok
unfolding cause_text
returns-in-StoresFixed-clause-ok c = rw c.in-StoresFixed.is c.push-in-StoresFixed.ensures.ok

pub returns-in-BytesLeft-clause-ok : goal.returns-in-BytesLeft-clause-ok
unfolding cause_text
returns-in-BytesLeft-clause-ok c =
    let P : ℕ → Type 0 = λ n. OnOk c.push-in-BytesLeft.result
    (c.push-in-BytesLeft.new.out.items ≡ c.args.out.now.items ++ (codes "left over in the buffer: " ++ bytes_text n)) in
    rw c.in-BytesLeft.is (subst P c.from.ensures c.push-in-BytesLeft.ensures.ok)

pub returns-in-UsesUnknown-clause-ok : goal.returns-in-UsesUnknown-clause-ok
unfolding cause_text
returns-in-UsesUnknown-clause-ok c = rw c.in-UsesUnknown.is c.push-in-UsesUnknown.ensures.ok

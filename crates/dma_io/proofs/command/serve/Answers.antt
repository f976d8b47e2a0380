use Rattle.std.proofs.Common.{◌≡◌, ◌≤◌, IfSome, inr, length, rules, subst}
use Rattle.std.proofs.lemmas.Option.{IfSome_then}
use Rattle.dma_io.specs.Command.{Wrote, failures, longest_input, may_print_within}
use Rattle.dma_io.proofs.EndLemmas.{answered, unread}
use Rattle.dma_io.proofs.command.serve.Goals as goal

pub returns-in-Err-clause-ends : goal.returns-in-Err-clause-ends
returns-in-Err-clause-ends g c =
    unread (g.R.Read.remaining c.args.reader.now) _ _ g.C.Command.may_print _ _ c.in-Err.status g.met.C.Command.some_print c.in-Err.ensures.unread

pub returns-clause-ends : goal.returns-clause-ends
returns-clause-ends g c =
    let wrote = subst
    (λ w. Wrote (failures g.W.Sink.has_failed w c.finish.new.writer) (g.W.Write.contents w) (g.W.Write.contents c.finish.new.writer) c.deref-2.result.now
    c.unwrap_or.result c.finish.result)
    c.in-Ok.ensures.unwritten c.finish.ensures in
    let input : IfSome (g.R.Read.remaining c.args.reader.now) (λ all. c.deref.result.now ≡ all) = rw c.deref.ensures.value c.in-Ok.ensures.input in
    let short : length c.deref.result.now ≤ longest_input = search rules in
    let a = c.answer-answered.ensures in
    IfSome_then (g.R.Read.remaining c.args.reader.now) input (λ all e. answered _ _ (may_print_within g.C.Command.may_print all) _ _ _ _ _ _ _ _
    (record { printed = a.printed; allowed = subst (λ i. may_print_within g.C.Command.may_print i a.printed) e (inr (short, a.allowed)); answers = a.answers })
    c.new-out.ensures.items c.unwrap_or.ensures c.deref-2.ensures.value c.in-Ok.ensures.unfailed wrote)

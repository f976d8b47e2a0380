use Rattle.dma_commands.proofs.ListLemmas.{one_call_printed, some_steps_printed}
use Rattle.dma_commands.proofs.run.call_list.print_first.Goals as goal

pub returns-in_ok-print_call-in-Call-clause-printed : goal.returns-in_ok-print_call-in-Call-clause-printed
returns-in_ok-print_call-in-Call-clause-printed c = λ v w all old rest.
    one_call_printed v w all old c.args.line rest c.args.calls.now c.args.replies.now c.args.out.now.items c.print_call.new.out.items c.index-calls-0.result
    c.index-replies-0.result c.in-Call.is c.requires.same c.index-calls-0.is c.index-replies-0.is c.in_ok-print_call-in-Call.ensures.printed
    c.in_ok-print_call-in-Call.ensures.ok

pub returns-in_ok-print_steps-in-Steps-clause-printed : goal.returns-in_ok-print_steps-in-Steps-clause-printed
returns-in_ok-print_steps-in-Steps-clause-printed c = λ v w all old rest.
    some_steps_printed v w all old c.args.line rest c.args.calls.now c.args.replies.now c.args.out.now.items c.print_steps.new.out.items c.in-Steps.ch
    c.in-Steps.count c.in-Steps.is c.in_ok-print_steps-in-Steps.ensures.printed c.in_ok-print_steps-in-Steps.ensures.ok

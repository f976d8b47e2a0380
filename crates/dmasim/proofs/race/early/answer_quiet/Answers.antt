use Rattle.dma_commands.proofs.RunLemmas.{call_runs}
use Rattle.dmasim.proofs.race.early.answer_quiet.Goals as goal

pub returns : goal.returns
returns g c =
    let print = c.print_line.ensures in
    call_runs c.args.desk.now.engine.view c.carry_out-reply.new.self.engine.view c.args.call c.carry_out-reply.result c.print_line.result c.args.out.now.items
    c.print_line.new.out.items
    c.carry_out-reply.ensures.answer print.printed print.ok print.err

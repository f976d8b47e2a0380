use Rattle.std.proofs.Common.{rules}
use Rattle.dmasim.proofs.command_line.serve_subcommand.Goals as goal

pub returns-in-Asm-clause-ends : goal.returns-in-Asm-clause-ends
returns-in-Asm-clause-ends g c = rw c.in-Asm.is (search rules)

pub returns-in-Dis-clause-ends : goal.returns-in-Dis-clause-ends
returns-in-Dis-clause-ends g c = rw c.in-Dis.is (search rules)

pub returns-in-Plan-clause-ends : goal.returns-in-Plan-clause-ends
returns-in-Plan-clause-ends g c = rw c.in-Plan.is (search rules)

pub returns-in-Run-clause-ends : goal.returns-in-Run-clause-ends
returns-in-Run-clause-ends g c = rw c.in-Run.is (search rules)

pub returns-in-Race-clause-ends : goal.returns-in-Race-clause-ends
returns-in-Race-clause-ends g c = rw c.in-Race.is (search rules)

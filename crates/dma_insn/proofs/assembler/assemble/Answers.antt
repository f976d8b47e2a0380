use Rattle.std.proofs.Common.{Ok, rules}
use Rattle.dma_insn.proofs.ProgramLaws.{if_program, if_fault, if_only}
use Rattle.dma_insn.proofs.assembler.assemble.Goals as goal

pub returns-clause-program : goal.returns-clause-program
returns-clause-program c = if_program (λ v. v.items) c.args.text.now (Ok c.in_ok-bytes.bytes) (search rules)

pub returns-clause-only : goal.returns-clause-only
returns-clause-only c = if_only (λ v. v.items) c.args.text.now (Ok c.in_ok-bytes.bytes) (search rules)

pub returns-in_err-program-clause-fault : goal.returns-in_err-program-clause-fault
returns-in_err-program-clause-fault c = if_fault (λ v. v.items) c.args.text.now c.from_residual.result (search rules)

pub returns-in_err-program-clause-only : goal.returns-in_err-program-clause-only
returns-in_err-program-clause-only c = if_only (λ v. v.items) c.args.text.now c.from_residual.result (search rules)

pub returns-in_err-bytes-clause-fault : goal.returns-in_err-bytes-clause-fault
returns-in_err-bytes-clause-fault c =
    if_fault (λ v. v.items) c.args.text.now c.from_residual-in_err-bytes.result (search rules)

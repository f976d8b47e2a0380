use Rattle.std.proofs.Common.{◌≡◌, ◌∙◌, ◌-◌, Err, ap, arith, drop, length, length-drop, sym, take}
use Rattle.std.proofs.lemmas.List.{take_all}
use Rattle.std.specs.Prelude.{List, ℕ}
use Rattle.dma_insn.specs.Decoding.{decoded}
use Rattle.dma_chan.specs.Next.{fetched}
use Rattle.dma_chan.specs.declared.turn.FaultKind.{FaultKind}
use Rattle.dma_chan.proofs.next.insn_at.Goals as goal

rest : (pc : ℕ) (program : List ℕ) → take (length program - pc) (drop pc program) ≡ drop pc program
rest pc program = take_all (length program - pc) (drop pc program) (omega (arith, length-drop pc program))

pub returns-in-Ok : goal.returns-in-Ok
returns-in-Ok c =
    sym (ap fetched (ap decoded (sym (rest c.args.pc c.args.program.now)) ∙ sym c.decode.ensures.exact ∙ c.in-Ok.is))

pub returns-in-Err : goal.returns-in-Err
returns-in-Err c =
    ap (λ (kind : FaultKind). Err kind) c.fetch_fault.ensures
    ∙ sym (ap fetched (ap decoded (sym (rest c.args.pc c.args.program.now)) ∙ sym c.decode.ensures.exact ∙ c.in-Err.is))

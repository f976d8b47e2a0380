use Rattle.std.proofs.Common.{◌≡◌, ◌++◌, ℕ, List, OnOk, refl, subst}
use Rattle.std.specs.Prelude.{codes}
use Rattle.dma_insn.specs.{declared.chip.ChipInsn.ChipInsn, declared.chip.ChipInsn.TheVariants.Mov, declared.insn.Reg.Reg}
use Rattle.dma_chan.specs.declared.bus.Bus.{Bus}
use Rattle.dma_trace.specs.Words.{operand_words}
use Rattle.dma_trace.proofs.failures.push_operand.Goals as goal

other : (i : ChipInsn) (bus : Bus) → ((reg : Reg) (v : ℕ) → i ≡ Mov reg v → ⊥) → codes "a field is outside its range" ≡ operand_words i bus
other (Mov reg v) bus no_mov = absurd (no_mov reg v refl)
other i bus no_mov = refl

pub returns-in_default : goal.returns-in_default
returns-in_default c = record {
  ok = subst (λ (xs : List ℕ). OnOk c.push.result (c.push.new.out.items ≡ c.args.out.now.items ++ xs))
      (other c.args.insn c.args.bus (λ reg v e. c.in_default.not-Mov reg v e)) c.push.ensures.ok;
  begins = c.push.ensures.begins;
}

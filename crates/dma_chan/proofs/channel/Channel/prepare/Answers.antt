use Rattle.std.proofs.Common.{◌≡◌, ◌∙◌, ◌⊎◌, List, ℕ, Ok, ap, inl, inr, subst, sym}
use Rattle.std.specs.Prelude.{Result}
use Rattle.dma_insn.specs.declared.chip.ChipInsn.{ChipInsn}
use Rattle.dma_insn.specs.declared.chip.ChipInsn.TheVariants.{St, StoreZeros}
use Rattle.dma_chan.specs.{Bursts.touched, Channel.ChannelValue, Channel.ahead_of, Exec.destination_of, NextWrites.written_by, NextWrites.written_next}
use Rattle.dma_chan.specs.declared.turn.FaultKind.{FaultKind}
use Rattle.dma_mem.specs.Pages.{MakesNoOther}
use Rattle.dma_chan.proofs.channel.Channel.prepare.Goals as goal

-- a store writes the addresses of its burst
written : (c : ChannelValue) (i : ChipInsn) → ahead_of c ≡ Ok i → (i ≡ St) ⊎ (i ≡ StoreZeros) → touched (destination_of c.registers) ≡ written_next c
written c i next is =
    let by = ap (λ (r : Result ChipInsn FaultKind). written_by r c.registers) next in
    elim is [
      | inl store ↦ sym (by ∙ ap (λ (j : ChipInsn). written_by (Ok j) c.registers) store)
      | inr zeros ↦ sym (by ∙ ap (λ (j : ChipInsn). written_by (Ok j) c.registers) zeros)
    ]

pub returns-in-St-clause-others : goal.returns-in-St-clause-others
returns-in-St-clause-others g c =
    let channel = c.self.view_is in
    subst (λ (places : List ℕ). MakesNoOther (g.M.Ram.paged c.args.memory.now) (g.M.Ram.paged c.prepare_store.new.memory) places)
    (ap (λ (v : ChannelValue). touched (destination_of v.registers)) channel
    ∙ written c.args.self.now c.args.next c.requires.next (rw c.insn.ensures at c.in-St.is))
    c.prepare_store.ensures.others

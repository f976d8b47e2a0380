-- The limits, as numbers, and a program worked out: rows computed from the definitions, and the code's own constants.
-- And what a law refuses.
use Rattle.std.proofs.Common.{◌≡◌, ℕ, zero, suc, ◌<◌, ap, ◌-◌, ◌≤◌, [], ◌∷◌, Some, None, refl, arith}
use Rattle.dma_mem.specs.{Places.Descriptor, Places.copying, Places.size_of, Rules.IsTransfer}
use Rattle.dma_mem.proofs.TransferRules.{size_of_some}
use Rattle.dma_insn.specs.declared.chip.ChipInsn.TheVariants.{StoreZeros}
use Rattle.dma_chan.specs.{declared.bus.Bus.Bus, declared.bus.Bus.TheVariants.Chip, declared.bus.BusWidth.TheVariants.Bits32, Bursts.burst_at}
use Rattle.dma_chan.specs.{declared.exec.Registers.Registers, Exec.start_on, Compiled.compiled_on, Compiled.cost_on}
use Rattle.dma_explain.specs.Explains.{Explains, GoesOn, Work, next_in, only, stop_of_insn, traced, untraced}
use Rattle.dma_explain.specs.{Changes.Call, Changes.HasCopied, declared.explain.Amounts.Amounts, declared.explain.Cause.TheVariants.StoresFixed}
use Rattle.dma_explain.proofs.{LowestPlaces.once_of, CompiledExplained.compiled_events}

-- ---- a program worked out

-- DMASTZ and DMAEND, begun with a burst of two bytes at address 1: the program sets these two bytes to 0
zeros_start : Registers
zeros_start = record (start_on (Chip Bits32)) { dar = 1; ccr = 0x44000 }

two_zeros : Work
two_zeros = record { copy = copying [] [] None None; zeros = record { addr = 1; len = 2 } ∷ [] }

zeros_go_on : (k : ℕ) → k < 1 → let x = traced zeros_start (0x0c ∷ 0 ∷ []) k in GoesOn (next_in (0x0c ∷ 0 ∷ []) x) x
unfolding burst_at zeros_start
zeros_go_on zero l = ((λ e. cc), refl)
zeros_go_on (suc k) l = absurd (omega (arith, l))

zeros_are_explained : Explains zeros_start (0x0c ∷ 0 ∷ []) two_zeros 1
unfolding burst_at zeros_start two_zeros
zeros_are_explained = record {
  goes = zeros_go_on;
  ends = refl;
  loads = refl;
  stores = refl;
  zeros = refl;
  few = omega arith;
  work = record { same_length = refl; once = once_of (1 ∷ 2 ∷ []) refl; apart = λ a i j. absurd (omega (arith, i.1)) };
}

-- with an address that stays the program is refused
zeros_of_one_address : stop_of_insn StoreZeros (untraced (record (start_on (Chip Bits32)) { ccr = 0x40000 })) ≡ Some StoresFixed
unfolding burst_at
zeros_of_one_address = refl

-- ---- what a law refuses

-- A channel that reports a signal of a compiled program before it has stored anything breaks the law of copies.
early_signal_is_refused : (bus : Bus) (t : Descriptor) (first memory : ℕ → ℕ) (call : Call) (e : ℕ) → IsTransfer t → call.signal ≡ Some e
    → call.left.channel.stored ≡ 0 → ¬ HasCopied (start_on bus) (compiled_on bus t).bytes (only t) (cost_on bus t - 1) first memory call
early_signal_is_refused bus t first memory call e h signals none copied =
    let at = (compiled_events (start_on bus) t h).signals e copied.done (copied.signals e signals) in
    let all : copied.done.copied ≡ size_of t = ap (λ (done : Amounts). done.copied) at.1 in
    let some : 1 ≤ size_of t = size_of_some t h in
    let count = copied.count in
    omega arith

use Rattle.std.proofs.Common.{◌≡◌, ◌∙◌, ℕ, suc, ◌+◌, ◌-◌, ◌*◌, ◌^◌, ◌<◌, ◌≤◌, List, length, drop, get_or, ap, arith, sym}
use Rattle.std.proofs.{lemmas.Grind.common_steps, Math.Seq.drop-cons}
use Rattle.dma_insn.specs.ControlWord.{flag}
use Rattle.dma_device.specs.{declared.thread.Thread.Thread, Device.faulting_bits, Thread.is_faulting}
use Rattle.dma_device.proofs.device.registers.faulting_bits.Goals as goal

bits_more : (ts : List Thread) (n : ℕ) (t : Thread) → 0 < n → n ≤ length ts → get_or ts (n - 1) t ≡ t
    → faulting_bits (drop (n - 1) ts) ≡ flag (is_faulting t) + 2 * faulting_bits (drop n ts)
bits_more ts n t some within is = grind (arith, common_steps, drop-cons)

room_more : (length n bits flag : ℕ) → 0 < n → n ≤ length → flag ≤ 1 → bits < 2 ^ (length - n) → flag + 2 * bits < 2 ^ (length - (n - 1))
room_more length n bits flag some within one few =
    let e : length - (n - 1) ≡ suc (length - n) = omega arith in
    rw e (omega arith)

pub loop-n-preserved : goal.loop-n-preserved
loop-n-preserved c = record {
  index = omega arith;
  bits = ap (λ (f : ℕ). f + 2 * c.loop-n.bits) (c.flag.ensures.value ∙ ap flag c.is_faulting.ensures)
      ∙ ap (λ (b : ℕ). flag (is_faulting c.index-threads-n.result) + 2 * b) c.loop-n.invariant.bits
      ∙ sym (bits_more c.args.threads.now c.loop-n.n c.index-threads-n.result (omega arith) c.loop-n.invariant.index (sym c.index-threads-n.is));
  few = room_more _ _ _ _ (omega arith) c.loop-n.invariant.index c.flag.ensures.few c.loop-n.invariant.few;
}

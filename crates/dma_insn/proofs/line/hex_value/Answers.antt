use Rattle.std.proofs.Common.{ℕ, ◌<◌, ◌≤◌, ◌+◌, ◌*◌, ◌^◌, arith}
use Rattle.std.proofs.{Math.Nat.pow-le-pow_right, lemmas.Grind.common_steps}
use Rattle.dma_insn.proofs.line.hex_value.Goals as goal

-- one more digit after at most seven
digit_fits : (value place : ℕ) → place < 8 → value < 16 ^ place → value * 16 + 16 ≤ 2 ^ 32
digit_fits value place few small = grind (arith, pow-le-pow_right)

pub overflow_mul-value : goal.overflow_mul-value
overflow_mul-value c =
    omega (arith, digit_fits c.loop-byte.value c.loop-byte.byte-index (omega arith) c.loop-byte.invariant.small)

pub overflow_add-value : goal.overflow_add-value
overflow_add-value c =
    omega (arith, digit_fits c.loop-byte.value c.loop-byte.byte-index (omega arith) c.loop-byte.invariant.small, c.in_ok-value.ensures.range)

pub loop-byte-preserved : goal.loop-byte-preserved
loop-byte-preserved c = grind (arith, common_steps)

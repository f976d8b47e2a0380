use Rattle.std.proofs.Common.{◌≡◌, ℕ, ◌+◌, ◌*◌, ◌%◌, ◌^◌, ◌<◌, ap, ◌∙◌, arith}
use Rattle.dma_insn.specs.{declared.control.Control.Control, ControlWord.control_of, ControlWord.bits_of, ControlWord.end_bits}
use Rattle.dma_insn.proofs.ControlLaws.{fields_of_bits, control_of_again}
use Rattle.dma_insn.proofs.control.Control.bits.Goals as goal

-- the sum of the bits of both ends is the word
word : (c : Control) (low high : ℕ) → low ≡ end_bits c.src → high ≡ end_bits c.dst → high < 2 ^ 14
    → low + high * 16384 % 4294967296 ≡ bits_of c
unfolding bits_of
word c low high l h small = omega arith

pub returns-clause-fields : goal.returns-clause-fields
returns-clause-fields c =
    rw (word c.args.self.now _ _ c.bits.ensures.value c.bits-2.ensures.value c.bits-2.ensures.range)
    (fields_of_bits c.args.self.now c.bits.ensures.in_range c.bits-2.ensures.in_range)

pub returns-clause-again : goal.returns-clause-again
returns-clause-again c =
    ap control_of (word c.args.self.now _ _ c.bits.ensures.value c.bits-2.ensures.value c.bits-2.ensures.range)
    ∙ control_of_again _ c.args.self.now (fields_of_bits c.args.self.now c.bits.ensures.in_range c.bits-2.ensures.in_range)

use Rattle.std.proofs.Common.{arith, ◌∙◌}
use Rattle.dma_insn.proofs.GrammarLaws.{decoded_at, none_spelled, right_err, right_ok, right_within}
use Rattle.dma_insn.proofs.ChipLaws.{core_at, decoded_right, decodes}
use Rattle.dma_insn.proofs.chip.decode_chip.Goals as goal

pub returns-clause-found : goal.returns-clause-found
returns-clause-found c =
    rw c.read_chip.ensures (right_ok decodes c.args.bytes.now _ (decoded_right c.args.bytes.now (λ i. omega (arith, c.type_inv.bytes i))))

pub returns-clause-only : goal.returns-clause-only
returns-clause-only c i n h = c.read_chip.ensures ∙ decoded_at decodes c.args.bytes.now i n h

pub returns-clause-core : goal.returns-clause-core
returns-clause-core c i n h = c.read_chip.ensures ∙ core_at c.args.bytes.now i n h

pub returns-clause-none : goal.returns-clause-none
returns-clause-none c = none_spelled decodes c.args.bytes.now c.read_chip.result c.read_chip.ensures

pub returns-clause-refused : goal.returns-clause-refused
returns-clause-refused c =
    rw c.read_chip.ensures (right_err decodes c.args.bytes.now _ (decoded_right c.args.bytes.now (λ i. omega (arith, c.type_inv.bytes i))))

pub returns-clause-within : goal.returns-clause-within
returns-clause-within c =
    rw c.read_chip.ensures (right_within decodes c.args.bytes.now _ (decoded_right c.args.bytes.now (λ i. omega (arith, c.type_inv.bytes i))))

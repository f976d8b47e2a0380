use Rattle.std.proofs.Common.{arith, ◌∙◌}
use Rattle.dma_insn.proofs.GrammarLaws.{decoded_at, right_err, right_ok, right_within}
use Rattle.dma_manual.proofs.InsnLaws.{decoded_right, decodes}
use Rattle.dma_manual.proofs.codec.decode.Goals as goal

pub returns-clause-found : goal.returns-clause-found
returns-clause-found c =
    rw c.read.ensures (right_ok decodes c.args.bytes.now _ (decoded_right c.args.bytes.now (λ i. omega (arith, c.type_inv.bytes i))))

pub returns-clause-within : goal.returns-clause-within
returns-clause-within c =
    rw c.read.ensures (right_within decodes c.args.bytes.now _ (decoded_right c.args.bytes.now (λ i. omega (arith, c.type_inv.bytes i))))

pub returns-clause-only : goal.returns-clause-only
returns-clause-only c i n h = c.read.ensures ∙ decoded_at decodes c.args.bytes.now i n h

pub returns-clause-refused : goal.returns-clause-refused
returns-clause-refused c =
    rw c.read.ensures (right_err decodes c.args.bytes.now _ (decoded_right c.args.bytes.now (λ i. omega (arith, c.type_inv.bytes i))))

use Rattle.std.proofs.Common.{arith}
use Rattle.std.proofs.Common.{◌≡◌, ℕ, ◌≢◌, Option, Some, None}
use Rattle.std.specs.Prelude.{is_some, unwrap_or}
use Rattle.dma_insn.specs.ControlWord.{flag}
use Rattle.dma_chan.proofs.save.head.cost_of.Goals as goal

some_cost : (b n : ℕ) (cost : Option ℕ) → b ≢ 0 → b ≡ flag (is_some cost) → n ≡ unwrap_or cost 0 → Some n ≡ cost
some_cost b n cost h h2 h3 = grind (arith)

no_cost : (b n : ℕ) (cost : Option ℕ) → b ≡ 0 → b ≡ flag (is_some cost) → n ≡ unwrap_or cost 0 → None ≡ cost
no_cost b n cost h h2 h3 = grind (arith)

pub returns-then-flag_byte-ne0 : goal.returns-then-flag_byte-ne0
returns-then-flag_byte-ne0 c cost e f = some_cost c.args.flag_byte c.args.number cost c.if-flag_byte-ne0.true e f

pub returns-else-flag_byte-ne0 : goal.returns-else-flag_byte-ne0
returns-else-flag_byte-ne0 c cost e f = no_cost c.args.flag_byte c.args.number cost c.if-flag_byte-ne0.false e f

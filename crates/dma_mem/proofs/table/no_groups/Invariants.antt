use Rattle.std.proofs.Common.{◌≡◌, ℕ, [], length, get_or}
use Rattle.dma_mem.proofs.table.no_groups.Given as goal

abbrev pub invariant-loop-group : goal.invariant-loop-group
invariant-loop-group l = record { long : length l.groups.items ≡ l._group; none : (g : ℕ) → get_or l.groups.items g [] ≡ [] }

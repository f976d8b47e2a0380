use Rattle.std.proofs.Common.{◌≡◌, ℕ, ◌<◌, ◌≤◌, true, false, get_or}
use Rattle.dma_mem.proofs.page_flags.PageFlags.are_set.Given as goal

abbrev pub invariant-loop-page : goal.invariant-loop-page
invariant-loop-page l = (p : ℕ) → l.first ≤ p → p < l.page → get_or l.self p false ≡ true

use Rattle.std.proofs.Common.{◌≡◌, ℕ, ◌<◌, ◌≤◌, ◌⊎◌, true, false, length, get_or}
use Rattle.dma_mem.proofs.page_flags.PageFlags.set.Given as goal

abbrev pub invariant-loop-page : goal.invariant-loop-page
invariant-loop-page l = record {
  long : length l.self-inside.flags.items ≡ length l.fn.self;
  inside : (p : ℕ) → l.first ≤ p → p < l.page → get_or l.self-inside.flags.items p false ≡ true;
  outside : (p : ℕ) → (p < l.first) ⊎ (l.page ≤ p) → get_or l.self-inside.flags.items p false ≡ get_or l.fn.self p false;
}

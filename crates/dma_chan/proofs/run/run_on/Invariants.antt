use Rattle.std.proofs.Common.{◌≡◌, ℕ, true, []}
use Rattle.std.specs.Prelude.{IfSome}
use Rattle.dma_mem.specs.{Pages.has_page, Lent.with_gaps}
use Rattle.dma_chan.specs.Run.{opening}
use Rattle.dma_chan.proofs.RunAlone.{HasRun, MadeFor}
use Rattle.dma_chan.proofs.run.run_on.Given as goal

abbrev pub invariant-loop-turn : goal.invariant-loop-turn
invariant-loop-turn g l = record {
  run : HasRun (with_gaps (g.M.Ram.loan l.fn.memory) []) l.fn.program.bytes (opening (g.M.Ram.paged l.fn.memory).image) l.turn l.channel
      (g.M.Ram.paged l.memory).image l.events;
  known : IfSome l.known (λ p. has_page (g.M.Ram.paged l.memory) p ≡ true);
  pages : (p : ℕ) → has_page (g.M.Ram.paged l.fn.memory) p ≡ true → has_page (g.M.Ram.paged l.memory) p ≡ true;
  made : MadeFor (with_gaps (g.M.Ram.loan l.fn.memory) []) l.fn.program.bytes l.turn (g.M.Ram.paged l.fn.memory) (g.M.Ram.paged l.memory);
  loan : g.M.Ram.loan l.memory ≡ g.M.Ram.loan l.fn.memory;
}

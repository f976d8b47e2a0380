use Rattle.std.proofs.Common.{◌≡◌, ◌++◌}
use Rattle.std.specs.{Prelude.replicate, List.flat_map}
use Rattle.dma_chan.proofs.bursts.put_rounds.Given as goal

abbrev pub invariant-loop-round : goal.invariant-loop-round
invariant-loop-round l = l.buffer ≡ l.fn.buffer ++ flat_map (λ xs. xs) (replicate l._round l.bytes)

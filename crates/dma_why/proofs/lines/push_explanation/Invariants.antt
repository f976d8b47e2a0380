-- The lines of the channels so far, and of the circles from them.
use Rattle.std.proofs.Common.{◌≡◌, ◌++◌}
use Rattle.std.specs.List.{flat_map, range_with_len}
use Rattle.dma_io.specs.Command.{text_of}
use Rattle.dma_why.specs.Why.{channel_lines, circle_lines}
use Rattle.dma_why.proofs.lines.push_explanation.Given as goal

abbrev pub invariant-loop-ch : goal.invariant-loop-ch
invariant-loop-ch l =
    l.out.items ≡ l.initial.out.items ++ text_of (flat_map (channel_lines l.engine.view) (range_with_len 0 l.ch))

abbrev pub invariant-loop-first : goal.invariant-loop-first
invariant-loop-first l =
    l.out.items ≡ l.initial.out.items ++ text_of (flat_map (circle_lines l.waits.items l.channels) (range_with_len 0 l.first))

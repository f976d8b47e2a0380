use Rattle.dma_engine.proofs.laws.ticks_add_up.Goals as goal
use Rattle.dma_engine.proofs.CookieCounts.{base_counts_bounded, boards_count, status_by_ticks, ticks_at_most_entries, ticks_name_channels}

pub returns : goal.returns
returns c = record { board = boards_count; status = status_by_ticks; opening = base_counts_bounded; there = ticks_name_channels; few = ticks_at_most_entries }

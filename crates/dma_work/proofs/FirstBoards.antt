-- The board with which a published list begins.
use Rattle.std.proofs.Common.{◌≡◌, ℕ, ◌+◌, ◌<◌, List, [], ◌∷◌, ◌++◌, take, length, ap, ◌∙◌, arith, inl, inr}
use Rattle.std.specs.Prelude.{slice_index_or}
use Rattle.std.proofs.{lemmas.Bool.cases_lt, lemmas.List.get_or_past, lemmas.List.take_more}
use Rattle.dma_engine.specs.{declared.entry.Entry.Entry, Ticks.ticks_of, View.View, View.IsSound}
use Rattle.dma_engine.proofs.{AnswerCounts.ticks_append, CookieCounts.base_counts_bounded}
use Rattle.dma_work.specs.{Laws.AreCounts, Ticks.base_of}
use Rattle.dma_work.proofs.Desks.{counts_eight}

-- the ticks of one entry more
pub ticks_more : (es : List Entry) (i : ℕ) (d : Entry) → i < length es
    → ticks_of (take (i + 1) es) ≡ ticks_of (take i es) ++ ticks_of (slice_index_or es i d ∷ [])
ticks_more es i d h = ap ticks_of (take_more es i d h) ∙ ticks_append (take i es) (slice_index_or es i d ∷ [])

-- an engine's history begins with counts of 32 bits
pub small_base : (v : View) → IsSound v → AreCounts (base_of v)
small_base v h ch = grind (arith, cases_lt, inl, counts_eight, base_counts_bounded, arith, ap, inr, get_or_past)

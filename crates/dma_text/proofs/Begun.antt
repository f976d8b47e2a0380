-- Lines that are begun at the end of a list, and then ended or removed.
use Rattle.std.proofs.Common.{◌≡◌, ℕ, List, ◌++◌, length, take, ap, ◌∙◌, arith, take_all}
use Rattle.std.proofs.{Math.Seq.take-append_seam, lemmas.List.length-take, lemmas.List.take-take}
use Rattle.dma_text.specs.Text.{Begins}

-- nothing was appended
pub begins_same : (old new : List ℕ) → new ≡ old → Begins new old
begins_same old new same = record { front_is = ap (take (length old)) same ∙ take_all (length old) old (omega arith) }

-- something was appended
pub begins_appended : (old new more : List ℕ) → new ≡ old ++ more → Begins new old
begins_appended old new more is = record { front_is = ap (take (length old)) is ∙ take-append_seam old more }

-- one more part was appended
pub begins_more : (old middle new : List ℕ) → Begins middle old → Begins new middle → Begins new old
begins_more old middle new first more = grind (arith, length-take, take-take)

-- why one list begins another
pub ruleset begun = (begins_same, begins_appended, begins_more)

-- The table of digits, entry by entry the value of a digit.
use Rattle.std.proofs.Common.{◌≡◌, ℕ, ◌<◌, List, map, refl, ap, ◌∙◌, sym, arith}
use Rattle.std.specs.{Prelude.slice_index_or, Char.digit_value, List.range_with_len}
use Rattle.std.proofs.lemmas.List.FromFn.{get_or-map-range_with_len}
use Rattle.dma_text.specs.declared.digits.TheConstants.{DIGIT_VALUES}

-- the whole table at once
table : map digit_value (range_with_len 0 256) ≡ DIGIT_VALUES
table = refl

-- one entry
pub looked_up : (b : ℕ) → b < 256 → digit_value b ≡ slice_index_or DIGIT_VALUES b 0
looked_up b h = sym (get_or-map-range_with_len digit_value 0 256 b b 0 h (omega arith)) ∙ ap (λ (l : List ℕ). slice_index_or l b 0) table

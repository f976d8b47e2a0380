-- The table of the two hexadecimal digits of each byte, entry by entry.
use Rattle.std.proofs.Common.{◌≡◌, ℕ, ◌+◌, ◌*◌, ◌/◌, ◌%◌, ◌<◌, List, [], ◌∷◌, map, true, eqb, refl, ap, ◌∙◌, sym, arith}
use Rattle.std.specs.{Prelude.slice_index_or, Prelude.if◌then◌else◌, Fmt.digit_glyph, List.range_with_len}
use Rattle.std.proofs.lemmas.List.FromFn.{get_or-map-range_with_len}
use Rattle.dma_text.specs.{Digits.hex_pair, declared.digits.TheConstants.PAIRS}

-- the digit at a place of the table
digit_at : ℕ → ℕ
digit_at k = digit_glyph true (if eqb (k % 2) 0 then k / 2 / 16 else k / 2 % 16)

-- the whole table at once
table : map digit_at (range_with_len 0 512) ≡ PAIRS
unfolding digit_at
table = refl

-- one entry
entry : (k : ℕ) → k < 512 → slice_index_or PAIRS k 0 ≡ digit_at k
entry k h = sym (ap (λ (l : List ℕ). slice_index_or l k 0) table) ∙ get_or-map-range_with_len digit_at 0 512 k k 0 h (omega arith)

-- the two digits of a byte
pub pair_at : (b : ℕ) → b < 256 → slice_index_or PAIRS (2 * b) 0 ∷ slice_index_or PAIRS (2 * b + 1) 0 ∷ [] ≡ hex_pair b
unfolding digit_at
pair_at b h =
    let even : 2 * b % 2 ≡ 0 = omega arith in
    let odd : (2 * b + 1) % 2 ≡ 1 = omega arith in
    let half : 2 * b / 2 ≡ b = omega arith in
    let low_half : (2 * b + 1) / 2 ≡ b = omega arith in
    rw (entry (2 * b) (omega arith), entry (2 * b + 1) (omega arith), even, half, odd, low_half) refl

-- Reading hexadecimal text from one byte to the next.
use Rattle.std.proofs.Common.{arith}
use Rattle.std.proofs.Common.{◌≡◌, sym, ◌∙◌, ℕ, ◌+◌, ◌<◌, List, ◌∷◌, ◌++◌, drop, length, slice_index_or, Option, Some, Result, Ok, Err}
use Rattle.std.proofs.lemmas.List.{append_assoc, at_drop_more}
use Rattle.dma_text.specs.Results.{◌>>=◌}
use Rattle.dma_manual.specs.Hexadecimal.{next_of, number_bytes, read_from}
use Rattle.dma_manual.specs.{declared.hexadecimal.Notation.Notation, declared.hexadecimal.Reading.Reading}

-- the bytes of a text behind these
abbrev pub followed : List ℕ → Result (List ℕ) ℕ → Result (List ℕ) ℕ
followed bytes (Ok more) = Ok (bytes ++ more)
followed bytes (Err at) = Err at

followed_more : (bytes w : List ℕ) (r : Result (List ℕ) ℕ) → followed (bytes ++ w) r ≡ followed bytes (r >>= (λ more. Ok (w ++ more)))
followed_more bytes w r = grind (arith, append_assoc)

read_next : (notation : Notation) (reading next : Reading) (w : Option ℕ) (at b : ℕ) (text bytes : List ℕ) → next_of notation reading b ≡ Some (next, w) →
    followed (bytes ++ number_bytes notation w) (read_from notation next (at + 1) text) ≡ followed bytes (read_from notation reading at (b ∷ text))
read_next notation reading next w at b text bytes is = grind (arith, followed_more)

-- the bytes so far and those of the rest, one byte later
pub read_step : (notation : Notation) (reading next : Reading) (w : Option ℕ) (at : ℕ) (text bytes : List ℕ) → at < length text →
    next_of notation reading (slice_index_or text at 0) ≡ Some (next, w) →
    followed (bytes ++ number_bytes notation w) (read_from notation next (at + 1) (drop (at + 1) text))
    ≡ followed bytes (read_from notation reading at (drop at text))
read_step notation reading next w at text bytes inside is =
    read_next notation reading next w at (slice_index_or text at 0) (drop (at + 1) text) bytes is
    ∙ sym (at_drop_more (λ rest. followed bytes (read_from notation reading at rest)) text at 0 inside)

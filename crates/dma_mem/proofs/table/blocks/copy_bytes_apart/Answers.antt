use Rattle.std.proofs.Common.{◌≡◌, ◌+◌, ◌≤◌, ◌++◌, List, ℕ, [], length, take, drop, arith, ap, sym, ◌∙◌, append-nil}
use Rattle.std.proofs.{Math.Seq.drop-append_seam, lemmas.List.length-take-le, lemmas.List.length-drop, lemmas.List.take-append-le, lemmas.List.drop-append-le}
use Rattle.dma_mem.specs.{Image.put, Image.bytes_at, inner.Blocks.copied}
use Rattle.dma_mem.proofs.PieceWrites.{put_middle}
use Rattle.dma_mem.proofs.table.blocks.copy_bytes_apart.Goals as goal

-- from the first of two parts to the second
copied_up : (all front back : List ℕ) (from to len : ℕ) → all ≡ front ++ back → length front ≡ to → from + len ≤ to → to + len ≤ length front + length back
    → front ++ put back (bytes_at 0 (take len (drop from front))) ≡ copied all from to len
copied_up all front back from to len is long before within =
    let part = take len (drop from front) in
    let some : len ≤ length (drop from front) = omega (arith, length-drop from front) in
    let size : length part ≡ len = length-take-le len (drop from front) some in
    let read : take len (drop from (front ++ back)) ≡ part = ap (take len) (drop-append-le from front back (omega arith))
    ∙ take-append-le len (drop from front) back some in
    let place : length front + 0 ≡ to = omega arith in
    ap (λ (xs : List ℕ). front ++ xs) (sym (append-nil (put back (bytes_at 0 part))))
    ∙ put_middle front back [] 0 part (omega (arith, size))
    ∙ ap (λ (xs : List ℕ). put (front ++ xs) (bytes_at (length front + 0) part)) (append-nil back)
    ∙ ap (λ (n : ℕ). put (front ++ back) (bytes_at n part)) place
    ∙ ap (λ (xs : List ℕ). put (front ++ back) (bytes_at to xs)) (sym read)
    ∙ ap (λ (xs : List ℕ). copied xs from to len) (sym is)

-- from the second to the first
copied_down : (all front back : List ℕ) (from to len : ℕ) → all ≡ front ++ back → length front ≡ from → to + len ≤ from → len ≤ length back
    → put front (bytes_at to (take len back)) ++ back ≡ copied all from to len
copied_down all front back from to len is long after within =
    let part = take len back in
    let size : length part ≡ len = length-take-le len back within in
    let read : drop from (front ++ back) ≡ back = ap (λ (n : ℕ). drop n (front ++ back)) (sym long) ∙ drop-append_seam front back in
    let place : 0 + to ≡ to = omega arith in
    put_middle [] front back to part (omega (arith, size))
    ∙ ap (λ (n : ℕ). put (front ++ back) (bytes_at n part)) place
    ∙ ap (λ (xs : List ℕ). put (front ++ back) (bytes_at to (take len xs))) (sym read)
    ∙ ap (λ (xs : List ℕ). copied xs from to len) (sym is)

pub returns-then-from-len : goal.returns-then-from-len
returns-then-from-len c = grind (arith, copied_up)

pub returns-else-from-len : goal.returns-else-from-len
returns-else-from-len c = grind (arith, copied_down)

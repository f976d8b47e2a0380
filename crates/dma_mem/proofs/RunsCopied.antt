-- Bytes that are copied region by region.
use Rattle.std.proofs.Common.{◌≡◌, ℕ, ◌+◌, ◌-◌, inl, inr, List, ◌∷◌, ◌++◌, length, min, take, drop, true, false, refl, ap, sym, ◌∙◌, arith, append_assoc}
use Rattle.std.proofs.lemmas.List.{length-append, length-take, take-append-le, take_all, append-nil}
use Rattle.std.proofs.{Math.Seq.take-append-add, lemmas.Bool.cases_lt}
use Rattle.dma_mem.specs.Regions.{Piece, end_of, has, run_from}

-- what is taken of two lists, part by part
take_parts : (n more : ℕ) (xs ys : List ℕ) → more ≡ min (length xs) n → take n (xs ++ ys) ≡ take more xs ++ take (n - more) ys
take_parts n more xs ys is = elim (cases_lt n (length xs)) [
  | inl less ↦
      let whole : more ≡ n = omega arith in
      let none : n - more ≡ 0 = omega arith in
      take-append-le n xs ys (omega arith)
      ∙ ap (λ (k : ℕ). take k xs) (sym whole)
      ∙ sym (append-nil (take more xs))
      ∙ ap (λ (k : ℕ). take more xs ++ take k ys) (sym none)
  | inr long ↦
      let all : more ≡ length xs = omega arith in
      let sum : n ≡ length xs + (n - more) = omega arith in
      ap (λ (k : ℕ). take k (xs ++ ys)) sum
      ∙ take-append-add xs ys (n - more)
      ∙ ap (λ (zs : List ℕ). zs ++ take (n - more) ys) (sym (take_all more xs (omega arith)))
]

-- the bytes so far and those still to be copied, after a piece that has the address was copied as far as there is room
pub run_copied : (p : Piece) (ps : List Piece) (at past most : ℕ) (bytes part next all : List ℕ) → has at p ≡ true → past ≡ end_of p
    → part ≡ take (min (length (drop (at - p.addr) p.bytes)) (most - length bytes)) (drop (at - p.addr) p.bytes) → next ≡ bytes ++ part
    → bytes ++ take (most - length bytes) (run_from (p ∷ ps) at) ≡ all → next ++ take (most - length next) (run_from ps past) ≡ all
run_copied p ps at past most bytes part next all here end is both so_far =
    let rest = drop (at - p.addr) p.bytes in
    let later = run_from ps (end_of p) in
    let room = most - length bytes in
    let more = min (length rest) room in
    let run : run_from (p ∷ ps) at ≡ rest ++ later = rw here refl in
    let left : most - length next ≡ room - more = omega (arith, ap length both, length-append bytes part, ap length is, length-take more rest) in
    ap (λ (k : ℕ). next ++ take (most - length next) (run_from ps k)) end
    ∙ ap (λ (k : ℕ). next ++ take k later) left
    ∙ ap (λ (xs : List ℕ). xs ++ take (room - more) later) (both ∙ ap (λ (xs : List ℕ). bytes ++ xs) is)
    ∙ append_assoc bytes (take more rest) (take (room - more) later)
    ∙ ap (λ (xs : List ℕ). bytes ++ xs) (sym (take_parts room more rest later refl) ∙ ap (take room) (sym run))
    ∙ so_far

pub run_past : (p : Piece) (ps : List Piece) (at : ℕ) → has at p ≡ false → run_from (p ∷ ps) at ≡ run_from ps at
run_past p ps at out = rw out refl

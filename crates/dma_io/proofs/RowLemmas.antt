-- The rows of a program, one after another.
use Rattle.std.proofs.Common.{◌≡◌, ℕ, ◌+◌, ◌*◌, ◌-◌, min, List, [], ◌∷◌, ◌++◌, length, map, take, drop, ap, ◌∙◌, sym, arith, inl, inr, take_all, append-nil}
use Rattle.std.proofs.Common.{length-append, length-drop}
use Rattle.std.specs.List.{range_with_len}
use Rattle.std.proofs.{Math.Seq.take-append_seam, Math.Seq.drop-append_seam, lemmas.Bool.cases_lt, lemmas.List.nil_from_length, lemmas.List.map_push}
use Rattle.std.proofs.{lemmas.List.drop-drop, lemmas.List.drop_all, lemmas.List.FromFn.map-range_with_len_more, lemmas.Grind.flat_map-append}
use Rattle.dma_io.specs.{Command.text_of, Printing.row_at, Printing.row_line}

-- The lines of the first rows, as text.
abbrev pub front_text : List ℕ → ℕ → List ℕ
front_text bytes count = text_of (map row_line (map (row_at bytes) (range_with_len 0 count)))

-- What the first piece of at most sixteen bytes is.
pub first_row : (all chunk rest : List ℕ) → all ≡ chunk ++ rest → length chunk ≡ min 16 (length all) → chunk ≡ take 16 all
first_row all chunk rest parts size =
    let sum = ap length parts ∙ length-append chunk rest in
    elim (cases_lt (length all) 16) [
      | inl short ↦
          let none : rest ≡ [] = nil_from_length rest (omega arith) in
          sym (take_all 16 all (omega arith) ∙ parts ∙ ap (λ r. chunk ++ r) none ∙ append-nil chunk)
      | inr long ↦
          let whole : 16 ≡ length chunk = omega arith in
          sym (ap (take 16) parts ∙ ap (λ n. take n (chunk ++ rest)) whole ∙ take-append_seam chunk rest)
    ]

-- The rest after it.
pub rest_after : (bytes chunk rest : List ℕ) (count : ℕ) → drop (16 * count) bytes ≡ chunk ++ rest → length chunk ≡ min 16 (length (drop (16 * count) bytes))
    → rest ≡ drop (16 * (count + 1)) bytes
rest_after bytes chunk rest count parts size =
    let all = drop (16 * count) bytes in
    let sum = ap length parts ∙ length-append chunk rest in
    let left : length all ≡ length bytes - 16 * count = length-drop (16 * count) bytes in
    elim (cases_lt (length all) 16) [
      | inl short ↦ nil_from_length rest (omega arith) ∙ sym (drop_all (16 * (count + 1)) bytes (omega arith))
      | inr long ↦
          let whole : length chunk ≡ 16 = omega arith in
          let next : 16 * count + 16 ≡ 16 * (count + 1) = omega arith in
          sym (drop-append_seam chunk rest) ∙ ap (λ n. drop n (chunk ++ rest)) whole ∙ ap (drop 16) (sym parts) ∙ drop-drop 16 (16 * count) bytes
          ∙ ap (λ n. drop n bytes) next
    ]

-- One more row.
pub front_text_more : (bytes chunk : List ℕ) (count : ℕ) (text : List ℕ) → chunk ≡ row_at bytes count → text ≡ front_text bytes count
    → text ++ text_of (row_line chunk ∷ []) ≡ front_text bytes (count + 1)
front_text_more bytes chunk count text at so_far =
    let more = map-range_with_len_more (row_at bytes) 0 count count (omega arith) in
    let lines = ap (map row_line) more ∙ map_push row_line (map (row_at bytes) (range_with_len 0 count)) (row_at bytes count) in
    rw (so_far, at) (sym (ap text_of lines
    ∙ flat_map-append _ (map row_line (map (row_at bytes) (range_with_len 0 count))) (row_line (row_at bytes count) ∷ [])))

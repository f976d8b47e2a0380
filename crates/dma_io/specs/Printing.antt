-- The printed lines of a program, without their line feeds (profile).
use Rattle.std.specs.Prelude.{ℕ, ◌+◌, ◌*◌, ◌/◌, List, length, map, take, drop}
use Rattle.std.specs.List.{range_with_len}
use Rattle.dma_text.specs.Digits.{spaced_bytes}

-- the bytes of one printed line: those of a row of the given number, from 0, sixteen to a row
abbrev pub row_at : List ℕ → ℕ → List ℕ
row_at bytes row = take 16 (drop (16 * row) bytes)

-- the rows of the bytes: the last one is shorter if their number is not a multiple of sixteen, and no bytes have no row
abbrev pub rows : List ℕ → List (List ℕ)
rows bytes = map (row_at bytes) (range_with_len 0 ((length bytes + 15) / 16))

-- the line of a row, with a space between two bytes
abbrev pub row_line : List ℕ → List ℕ
row_line row = drop 1 (spaced_bytes row)

-- the printed lines of a program
abbrev pub program_lines : List ℕ → List (List ℕ)
program_lines bytes = map row_line (rows bytes)

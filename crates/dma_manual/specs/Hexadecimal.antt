-- Bytes in hexadecimal text (profile): pairs of digits, each a byte, or 32-bit words of eight digits, the highest
-- first. A number may have a mark `0x` before it. Gaps and comments are between numbers; a comment is from a `#` that
-- is outside a number to the end of the line. Only after a pair without a mark may a number begin without a gap or a
-- comment. The lowest byte of a word comes first in memory.
use Rattle.std.specs.Prelude.{ℕ, ◌+◌, ◌*◌, ◌%◌, ◌^◌, Bool, true, false, not, ◌==◌, ◌||◌, ◌&&◌, nat_le, nat_lt, if◌then◌else◌, List, [], ◌∷◌, ◌++◌, take, Option}
use Rattle.std.specs.Prelude.{Some, None, Result, Ok, Err, count_by, fold}
use Rattle.std.specs.{Char.digit_value, Int.w32, Int.to_le_bytes, Option.ok_or}
use Rattle.dma_text.specs.Results.{◌>>=◌}
use Rattle.dma_manual.specs.declared.hexadecimal.Reading.TheVariants.{Between, Comment, Number}
use Rattle.dma_manual.specs.{Addresses.is_digit, Addresses.without_addresses, declared.hexadecimal.Notation.Notation}
use Rattle.dma_manual.specs.{declared.hexadecimal.Notation.TheVariants.Pairs, declared.hexadecimal.Notation.TheVariants.Words, declared.hexadecimal.Reading.Reading}

-- a space, a tab, a carriage return, a line feed or a comma
abbrev pub is_gap : ℕ → Bool
is_gap b = (b == 32 || b == 9) || ((b == 13 || b == 10) || b == 44)

-- how many bytes a number has; it has twice as many digits
abbrev pub size_of : Notation → ℕ
size_of Pairs = 1
size_of Words = 4

-- whether a number may begin right after another one, which has a mark or not
abbrev pub may_follow : Notation → Bool → Bool
may_follow Pairs marked = not marked
may_follow Words marked = false

-- A number with one more digit, and its value if that is the last. `v` is what the n digits before spell.
abbrev pub next_digit : Notation → Bool → ℕ → ℕ → ℕ → Option (Reading × Option ℕ)
next_digit notation marked n v b =
    let w = v % (2 ^ 28) * 16 + digit_value b in
    if is_digit b then Some (Number marked (n + 1) w, if n + 1 == 2 * size_of notation then Some w else None) else None

-- What a byte outside a number is a part of: a gap, a comment, or with `may_begin` a number.
abbrev pub between : Notation → Bool → ℕ → Option (Reading × Option ℕ)
between notation may_begin b =
    if is_gap b then Some (Between, None) else (
    if b == 35 then Some (Comment, None) else (
    if may_begin then next_digit notation false 0 0 b else None))

-- whether a byte is the letter of a mark, after a number's n digits that spell v
abbrev pub is_mark : Bool → ℕ → ℕ → ℕ → Bool
is_mark marked n v b = (not marked && (n == 1 && v == 0)) && (b == 120 || b == 88)

-- What the byte `b` is a part of, given that of the byte before it, and the number whose last digit it is, if any.
-- `None` if `b` can't be the next byte.
abbrev pub next_of : Notation → Reading → ℕ → Option (Reading × Option ℕ)
next_of notation Comment b = Some (if b == 10 then Between else Comment, None)
next_of notation Between b = between notation true b
next_of notation (Number marked n v) b =
    if is_mark marked n v b then Some (Number true 0 0, None) else (
    if nat_lt n (2 * size_of notation) then next_digit notation marked n v b
    else between notation (may_follow notation marked) b)

-- whether a text may end after a byte that is a part of this
abbrev pub is_whole : Notation → Reading → Bool
is_whole notation Between = true
is_whole notation Comment = true
is_whole notation (Number marked n v) = nat_le (2 * size_of notation) n

-- the bytes of a number, the lowest first; none if there is no number
abbrev pub number_bytes : Notation → Option ℕ → List ℕ
number_bytes notation None = []
number_bytes notation (Some w) = take (size_of notation) (to_le_bytes w32 w)

-- The bytes that a text spells, if the byte before it is a part of `reading`; or the offset of the first byte that
-- can't follow, or of the end if the text can't end there. The text begins at the offset `at`.
abbrev pub read_from : Notation → Reading → ℕ → List ℕ → Result (List ℕ) ℕ
read_from notation reading at [] = if is_whole notation reading then Ok [] else Err at
read_from notation reading at (b ∷ text) = do
  next ← ok_or (next_of notation reading b) at
  more ← read_from notation next.0 (at + 1) text
  Ok (number_bytes notation next.1 ++ more)

-- The bytes that a text spells, or the offset of its first fault. The addresses that its lines begin with are left out.
abbrev pub spelled : Notation → List ℕ → Result (List ℕ) ℕ
spelled notation text = read_from notation Between 0 (without_addresses text)

-- the line of an offset, counted from 1
abbrev pub line_of : List ℕ → ℕ → ℕ
line_of text at = count_by (λ b. b == 10) (take at text) + 1

-- the column of the byte after b, given that of b
abbrev pub column_after : ℕ → ℕ → ℕ
column_after column b = if b == 10 then 1 else column + 1

-- the column of an offset, counted from 1
abbrev pub column_of : List ℕ → ℕ → ℕ
column_of text at = fold column_after 1 (take at text)

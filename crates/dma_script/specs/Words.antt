-- The words of a line, and what a word spells: a number, a segment, a list of segments, bytes (profile).
use Rattle.std.specs.Prelude.{ℕ, ◌^◌, ◌+◌, ◌*◌, Bool, ◌==◌, ◌||◌, ◌&&◌, not, nat_eq, nat_lt, nat_le, if◌then◌else◌, List, [], ◌∷◌, length, map, filter, drop}
use Rattle.std.specs.Prelude.{Option, Some, None, codes}
use Rattle.std.specs.{List.slice_split, List.list_all, List.starts_with, Str.Parse.digits_value, Char.digit_value, Option.option_map, Option.option_and_then}
use Rattle.dma_text.specs.Lines.{is_blank}
use Rattle.dma_mem.specs.declared.segment.Segment.{Segment}

-- the parts between the separators
abbrev pub parts_at : ℕ → List ℕ → List (List ℕ)
parts_at separator bytes = slice_split (λ b. b == separator) bytes

-- whether a byte is printable ASCII, a space or a tab
abbrev pub is_plain : ℕ → Bool
is_plain b = b == 9 || (nat_le 32 b && nat_le b 126)

-- the words of a line: the parts between its blanks, without the empty ones
abbrev pub words_of : List ℕ → List (List ℕ)
words_of line = filter (λ word. not (length word == 0)) (slice_split is_blank line)

-- the number that one or more digits of a base spell, if it is below 2 ^ 32
abbrev pub number_in : ℕ → List ℕ → Option ℕ
number_in base digits =
    if not (length digits == 0) && list_all (λ c. nat_lt (digit_value c) base) digits
    && nat_lt (digits_value base digits) (2 ^ 32)
    then Some (digits_value base digits) else None

-- the number that a word spells: 0x and hexadecimal digits in either case, or decimal digits
abbrev pub number_of : List ℕ → Option ℕ
number_of word = if starts_with nat_eq word (codes "0x") then number_in 16 (drop 2 word) else number_in 10 word

-- the bytes before the first `stop`, or all if there is none
abbrev pub front : ℕ → List ℕ → List ℕ
front stop [] = []
front stop (b ∷ bytes) = if b == stop then [] else b ∷ front stop bytes

-- what follows the first `stop`, if there is one
abbrev pub behind : ℕ → List ℕ → Option (List ℕ)
behind stop [] = None
behind stop (b ∷ bytes) = if b == stop then Some bytes else behind stop bytes

-- the number before the first `stop`, and what follows it
abbrev pub number_before : ℕ → List ℕ → Option (ℕ × Option (List ℕ))
number_before stop word = option_map (λ n. (n, behind stop word)) (number_of (front stop word))

-- the segment that a word `ADDR+LEN` spells: a number before the first plus, and a number after it
abbrev pub segment_of : List ℕ → Option Segment
segment_of word =
    option_and_then (λ read. option_and_then (λ rest. option_map (λ len. record { addr = read.0; len = len }) (number_of rest)) read.1)
    (number_before 43 word)

-- the values of all items, if each item has one
abbrev pub each_of : {A : Type 0} → List (Option A) → Option (List A)
each_of [] = Some []
each_of (None ∷ rest) = None
each_of (Some a ∷ rest) = option_map (λ more. a ∷ more) (each_of rest)

-- the segments that a word spells: one or more, with commas between
abbrev pub list_of : List ℕ → Option (List Segment)
list_of word = each_of (map segment_of (parts_at 44 word))

-- the value of a hexadecimal digit in either case
abbrev pub hex_digit_of : ℕ → Option ℕ
hex_digit_of b = if nat_lt (digit_value b) 16 then Some (digit_value b) else None

-- the byte that two hexadecimal digits spell
abbrev pub hex_pair_of : ℕ → ℕ → Option ℕ
hex_pair_of a b = option_and_then (λ high. option_map (λ low. 16 * high + low) (hex_digit_of b)) (hex_digit_of a)

-- the bytes of a word of hexadecimal digits, two for each byte
abbrev pub bytes_in : List ℕ → Option (List ℕ)
bytes_in [] = Some []
bytes_in (a ∷ []) = None
bytes_in (a ∷ b ∷ rest) =
    option_and_then (λ high.
    option_and_then (λ low. option_map (λ more. (16 * high + low) ∷ more) (bytes_in rest)) (hex_digit_of b)) (hex_digit_of a)

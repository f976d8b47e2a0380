-- Bytes and numbers in hexadecimal digits, which are 0 to 9 and A to F.
use Rattle.std.specs.{Prelude.ℕ, Prelude.◌/◌, Prelude.◌%◌, Prelude.true, Prelude.List, Prelude.[], Prelude.◌∷◌, Prelude.map, Prelude.flat_map, Fmt.digit_glyph}

-- a byte in two digits
abbrev pub hex_pair : ℕ → List ℕ
hex_pair b = digit_glyph true (b / 16) ∷ digit_glyph true (b % 16) ∷ []

-- a number below 2 ^ 32 in eight digits
abbrev pub hex_digits : ℕ → List ℕ
hex_digits v =
    map (λ weight. digit_glyph true (v / weight % 16))
    (0x10000000 ∷ 0x1000000 ∷ 0x100000 ∷ 0x10000 ∷ 0x1000 ∷ 0x100 ∷ 0x10 ∷ 0x1 ∷ [])

-- bytes, each in two digits after a space
abbrev pub spaced_bytes : List ℕ → List ℕ
spaced_bytes bytes = flat_map (λ b. 32 ∷ hex_pair b) bytes

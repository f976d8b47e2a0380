-- The addresses of a dump (profile): a line may begin with an address and a colon, as debuggers print memory. The
-- address has at least four hexadecimal digits, perhaps `0x` before them, and perhaps a symbol's name in angle brackets
-- after them.
use Rattle.std.specs.Prelude.{ℕ, ◌+◌, Bool, false, ◌==◌, ◌&&◌, ◌||◌, nat_le, nat_lt, if◌then◌else◌, List, [], ◌∷◌}
use Rattle.std.specs.Char.{digit_value}

-- a hexadecimal digit in either case
abbrev pub is_digit : ℕ → Bool
is_digit b = nat_lt (digit_value b) 16

-- whether the first colon of a line, if it isn't in a comment, follows a `>`; `before` is the byte before the text
abbrev pub closes_symbol : ℕ → List ℕ → Bool
closes_symbol before [] = false
closes_symbol before (b ∷ text) =
    if b == 58 then before == 62 else (if b == 10 || b == 35 then false else closes_symbol b text)

-- whether a text that follows digits ends an address: with a colon, perhaps after a space and a name in angle brackets
abbrev pub ends_address : List ℕ → Bool
ends_address [] = false
ends_address (b ∷ []) = b == 58
ends_address (b ∷ c ∷ text) = b == 58 || (b == 32 && c == 60 && closes_symbol 60 text)

-- whether a text begins with an address, of whose digits n have been read
abbrev pub is_address_after : ℕ → List ℕ → Bool
is_address_after n [] = false
is_address_after n (b ∷ text) =
    if is_digit b then is_address_after (n + 1) text else nat_le 4 n && ends_address (b ∷ text)

-- whether a text begins with an address
abbrev pub is_address : List ℕ → Bool
is_address [] = false
is_address (b ∷ []) = false
is_address (b ∷ c ∷ text) =
    if b == 48 && c == 120 then is_address_after 0 text else is_address_after 0 (b ∷ c ∷ text)

-- whether the byte after b is in an address, given whether b is, and the text that follows b
abbrev pub stays_in_address : Bool → ℕ → List ℕ → Bool
stays_in_address inside b text = if b == 10 then is_address text else (if b == 58 then false else inside)

-- the text with spaces in place of addresses; `inside` is whether its first byte is in one
abbrev pub blanked : Bool → List ℕ → List ℕ
blanked inside [] = []
blanked inside (b ∷ text) = (if inside then 32 else b) ∷ blanked (stays_in_address inside b text) text

-- The text with spaces in place of the addresses that lines begin with, up to their colons. Each other byte keeps its
-- place.
abbrev pub without_addresses : List ℕ → List ℕ
without_addresses text = blanked (is_address text) text

-- The words of a line of assembly text (profile).
use Rattle.std.specs.Prelude.{ℕ, Bool, ◌==◌, ◌||◌, not, if◌then◌else◌, List, length, take, drop, min, nat_eq, position, codes, unwrap_or, Option, Some, None}
use Rattle.std.specs.{List.starts_with, Char.to_ascii_lowercase}

-- a byte in lower case; a tab, a carriage return and a comma as a space
abbrev pub plain_byte : ℕ → ℕ
plain_byte b = if b == 9 || b == 13 || b == 44 then 32 else to_ascii_lowercase b

-- the place, or the length of the bytes if there is none
abbrev pub place_or_len : Option ℕ → List ℕ → ℕ
place_or_len place bytes = min (unwrap_or place (length bytes)) (length bytes)

-- whether a byte begins a comment: a semicolon, a number sign or a slash
abbrev pub begins_comment : ℕ → Bool
begins_comment b = b == 59 || b == 35 || b == 47

-- a line without its comment
abbrev pub code_of : List ℕ → List ℕ
code_of line = take (place_or_len (position begins_comment line) line) line

-- the comment of a line, with the byte that begins it; no bytes without a comment
abbrev pub comment_of : List ℕ → List ℕ
comment_of line = drop (place_or_len (position begins_comment line) line) line

-- whether a number sign begins the comment of a line
abbrev pub has_sign : List ℕ → Bool
has_sign line = starts_with nat_eq (comment_of line) (codes "#")

-- whether a byte is no space
abbrev pub is_word_byte : ℕ → Bool
is_word_byte b = not (b == 32)

-- the word at the front of bytes that begin with no space, and what follows it
abbrev pub cut_at_gap : List ℕ → Option (List ℕ × List ℕ)
cut_at_gap bytes =
    if length bytes == 0 then None
    else (let end = place_or_len (position (λ b. b == 32) bytes) bytes in Some (take end bytes, drop end bytes))

-- the first word of a line and what follows it
abbrev pub next_of : List ℕ → Option (List ℕ × List ℕ)
next_of rest = cut_at_gap (drop (place_or_len (position is_word_byte rest) rest) rest)

-- What is printed for hexadecimal text with a fault (profile).
use Rattle.std.specs.Prelude.{ℕ, ◌==◌, ◌||◌, if◌then◌else◌, List, ◌++◌, Option, Some, None, codes, decimal}
use Rattle.dma_text.specs.Digits.{hex_pair}
use Rattle.dma_manual.specs.{Addresses.is_digit, Hexadecimal.column_of, Hexadecimal.is_gap, Hexadecimal.line_of, declared.hexadecimal.Notation.Notation}
use Rattle.dma_manual.specs.{declared.hexadecimal.Notation.TheVariants.Pairs, declared.hexadecimal.Notation.TheVariants.Words}

-- What is wrong with a byte of a text of pairs. A digit is refused only after a pair that has a mark.
abbrev pub pair_message : ℕ → List ℕ
pair_message b =
    if is_digit b
    then codes " is a third digit: a byte has two, an address at least four and a colon; --words reads 32-bit words\n"
    else codes " is not a hexadecimal digit here\n"

-- What is wrong with a byte of a text of words. A digit is refused only after a whole word, a gap only within one.
abbrev pub word_message : ℕ → List ℕ
word_message b =
    if is_digit b then codes " is a ninth digit: each word has eight, the highest first\n" else (
    if is_gap b then codes " ends a word of fewer than eight digits\n"
    else codes " is not a hexadecimal digit here\n")

-- what is wrong with a byte of a text; a colon ends an address, a vertical bar and a full stop are of a dump's text
abbrev pub byte_message : Notation → ℕ → List ℕ
byte_message notation b =
    if b == 58
    then codes " is a colon that ends no address: an address begins its line and has at least four digits\n" else (
    if b == 124 || b == 46 then codes " looks like a dump's text, which is left out only if each line has its address\n"
    else in_notation notation b)
  where
    in_notation : Notation → ℕ → List ℕ
    in_notation Pairs c = pair_message c
    in_notation Words c = word_message c

-- what is wrong with the end of a text
abbrev pub end_message : Notation → List ℕ
end_message Pairs = codes "the last byte lacks a digit\n"
end_message Words = codes "the last word has fewer than eight digits\n"

-- what is wrong with a byte of a text, or with its end
abbrev pub fault_message : Notation → Option ℕ → List ℕ
fault_message notation (Some b) = codes "byte 0x" ++ hex_pair b ++ byte_message notation b
fault_message notation None = end_message notation

-- the line and the column of an offset
abbrev pub place_text : List ℕ → ℕ → List ℕ
place_text text at = decimal (line_of text at) ++ codes ":" ++ decimal (column_of text at) ++ codes ": "

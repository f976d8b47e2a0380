-- The forms of dumps (profile): what tools print around the digits of memory. A form is how the columns of addresses
-- and of text look, and how a group of digits spells bytes. The lowest byte of a group comes first in memory.
use Rattle.std.specs.Prelude.{ℕ, ◌+◌, ◌*◌, ◌%◌, ◌^◌, Bool, true, false, not, ◌==◌, ◌||◌, ◌&&◌, nat_le, nat_lt, if◌then◌else◌, List, [], ◌∷◌}
use Rattle.std.specs.Char.{digit_value}
use Rattle.dma_manual.specs.declared.forms.Column.TheVariants.{Colon, Hex, Octal, Decimal, Headed, Array}
use Rattle.dma_manual.specs.{declared.forms.Column.Column, declared.forms.Form.Form, declared.forms.Group.Group}
use Rattle.dma_manual.specs.declared.forms.Group.TheVariants.{Byte, Half, Word, Long, Octal as Octals}

-- how many bytes a group has
abbrev pub size_of : Group → ℕ
size_of Byte = 1
size_of Half = 2
size_of Word = 4
size_of Long = 8
size_of Octals = 2

-- how many digits a group has
abbrev pub digits_of : Group → ℕ
digits_of Byte = 2
digits_of Half = 4
digits_of Word = 8
digits_of Long = 16
digits_of Octals = 6

-- whether the digits of a group are octal
abbrev pub is_octal : Group → Bool
is_octal Octals = true
is_octal other = false

-- the radix of addresses
abbrev pub radix_of : Column → ℕ
radix_of Octal = 8
radix_of Decimal = 10
radix_of other = 16

-- whether a byte is a digit of an address
abbrev pub has_address_digit : Column → ℕ → Bool
has_address_digit column b = nat_lt (digit_value b) (radix_of column)

-- the address of the digits that spell v with one more digit
abbrev pub with_address_digit : Column → ℕ → ℕ → ℕ
with_address_digit column v b = v % (2 ^ 60) * radix_of column + digit_value b

-- the least number of digits of an address
abbrev pub least_digits : Column → ℕ
least_digits Hex = 6
least_digits Octal = 6
least_digits Decimal = 6
least_digits other = 4

-- whether two spaces, not a bar, come before the text
abbrev pub has_spaced_text : Column → Bool
has_spaced_text Colon = true
has_spaced_text Headed = true
has_spaced_text other = false

-- whether a group of a line without an address could be taken for one: no colon or text is there to tell
abbrev pub has_long_groups : Form → Bool
has_long_groups form = not (has_spaced_text form.column) && nat_le (least_digits form.column) (digits_of form.group)

-- the letter of a mark `0x`
abbrev pub is_x : ℕ → Bool
is_x b = b == 120 || b == 88

-- whether a byte is an octal or a hexadecimal digit
abbrev pub is_digit_in : Bool → ℕ → Bool
is_digit_in octal b = nat_lt (digit_value b) (if octal then 8 else 16)

-- the number of the digits that spell v with one more digit
abbrev pub with_digit : Bool → ℕ → ℕ → ℕ
with_digit octal v b =
    if octal then v % (2 ^ 60) * 8 + digit_value b else v % (2 ^ 60) * 16 + digit_value b

-- a row of the table of forms
abbrev pub form : Column → Group → Form
form column group = record { column = column; group = group }

-- the forms without a colon
abbrev pub plain_forms : List Form
plain_forms =
    form Hex Byte ∷ form Hex Half ∷ form Hex Word ∷ form Hex Long ∷ form Hex Octals
    ∷ form Octal Byte ∷ form Octal Half ∷ form Octal Word ∷ form Octal Long ∷ form Octal Octals
    ∷ form Decimal Byte ∷ form Decimal Half ∷ form Decimal Word ∷ form Decimal Long ∷ form Decimal Octals
    ∷ form Headed Byte ∷ form Array Byte ∷ []

-- The forms in the order in which they are tried: after a colon, words come first.
abbrev pub words_first : List Form
words_first = form Colon Word ∷ form Colon Long ∷ form Colon Half ∷ form Colon Byte ∷ plain_forms

-- In this order of the forms, bytes after a colon are tried before all others.
abbrev pub bytes_first : List Form
bytes_first = form Colon Byte ∷ words_first

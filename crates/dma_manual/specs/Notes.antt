-- Notes and warnings that follow the message of an answer (profile).
use Rattle.std.specs.Prelude.{ℕ, Bool, false, ◌==◌, ◌||◌, ◌&&◌, not, nat_le, length, if◌then◌else◌, List, [], ◌∷◌, ◌++◌, Option, Some, None, codes}
use Rattle.std.specs.List.{list_all}
use Rattle.dma_manual.specs.declared.forms.Column.TheVariants.{Array, Decimal, Octal}
use Rattle.dma_manual.specs.{declared.forms.Column.Column, declared.forms.Group.Group, declared.forms.Form.Form}
use Rattle.dma_manual.specs.declared.forms.Group.TheVariants.{Byte, Half, Word, Long, Octal as Octals}

-- a printable byte, a tab or a line end
abbrev pub is_text_byte : ℕ → Bool
is_text_byte b = (nat_le 32 b && nat_le b 126) || (b == 9 || (b == 10 || b == 13))

-- whether all bytes of an input are text
abbrev pub is_text : List ℕ → Bool
is_text input = list_all is_text_byte input

-- the note for an input that is taken as a program, fails, has bytes, and is text
abbrev pub hint : Bool → List ℕ → Bool → List ℕ
hint is_program input succeeds =
    if is_program && (not succeeds && (not (length input == 0) && is_text input))
    then codes "  (these bytes are text; --hex reads hexadecimal digits and dumps, --words 32-bit words, asm instructions)\n" else []

-- whether a program begins with DMAEND, whose byte is 0, and has more bytes
abbrev pub ends_at_once : List ℕ → Bool
ends_at_once (b ∷ c ∷ rest) = b == 0
ends_at_once _ = false

-- the warning for an input that is taken as a program without a fault, begins with DMAEND and has more bytes
abbrev pub end_warning : Bool → List ℕ → Bool → List ℕ
end_warning is_program program succeeds =
    if is_program && (succeeds && ends_at_once program)
    then codes " warning: the first byte is DMAEND, so no byte after it is executed (an address in text needs a colon)\n"
    else []

-- what the groups of a dump are
abbrev pub units : Group → List ℕ
units Byte = codes "bytes"
units Half = codes "16-bit words, lowest byte first"
units Word = codes "32-bit words, lowest byte first"
units Long = codes "64-bit words, lowest byte first"
units Octals = codes "16-bit words in octal, lowest byte first"

-- what is left out of a dump
abbrev pub left_out : Column → List ℕ
left_out Array = codes "; what is outside the braces is left out"
left_out Octal = codes "; octal addresses and text are left out"
left_out Decimal = codes "; decimal addresses and text are left out"
left_out _ = codes "; addresses and text are left out"

-- The note on the form of a dump: a message of its own, or a line after another.
abbrev pub form_note : Option Form → List ℕ → List ℕ
form_note None message = []
form_note (Some form) [] = codes " read as " ++ units form.group ++ left_out form.column ++ codes "\n"
form_note (Some form) (b ∷ message) = codes "  (read as " ++ units form.group ++ left_out form.column ++ codes ")\n"

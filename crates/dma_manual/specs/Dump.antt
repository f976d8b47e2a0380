-- What each byte of a dump is a part of (profile). A line has an address, groups of digits, and perhaps its bytes as
-- text. Each address is where the bytes of the line before end.
use Rattle.std.specs.Prelude.{ℕ, ◌+◌, ◌-◌, Bool, true, false, not, ◌==◌, ◌||◌, ◌&&◌, nat_le, nat_lt, if◌then◌else◌, List, [], ◌∷◌, codes, drop, length, slice_get}
use Rattle.std.specs.Prelude.{Option, Some, None, Result, Ok, Err}
use Rattle.std.specs.{Char.digit_value, List.list_all, Option.unwrap_or}
use Rattle.dma_manual.specs.Forms.{digits_of, has_address_digit, has_long_groups, has_spaced_text, is_digit_in, is_octal, is_x, least_digits, size_of}
use Rattle.dma_manual.specs.Forms.{with_address_digit, with_digit}
use Rattle.dma_manual.specs.declared.forms.Column.TheVariants.{Colon, Headed}
use Rattle.dma_manual.specs.declared.dump.Place.TheVariants.{Start, Indent, Title, Titled, Heading, Word, Break, Address, Open, Symbol, Closed, Lead, Zero, Gap, Behind, Group, Text}
use Rattle.dma_manual.specs.declared.dump.Place.TheVariants.{Array}
use Rattle.dma_manual.specs.declared.dump.Effect.TheVariants.{Nothing, Number, Cut}
use Rattle.dma_manual.specs.{Array.array_step, Array.is_byte_of, declared.array.ArrayPlace.ArrayPlace, declared.forms.Column.Column, declared.forms.Form.Form}
use Rattle.dma_manual.specs.{declared.dump.Scan.Scan, declared.dump.Place.Place, declared.dump.Effect.Effect, declared.dump.Cause.Cause}
use Rattle.dma_text.specs.Lines.{is_all_spaces, is_blank}
use Rattle.dma_manual.specs.declared.forms.Group.{Group as Size}
use Rattle.dma_manual.specs.declared.forms.Group.TheVariants.{Byte as Bytes}
use Rattle.dma_manual.specs.declared.dump.Cause.TheVariants.{Byte, Address as BadAddress, Text as BadText, Star}

-- how far a dump is read after a byte, and what the byte does; or what is wrong
abbrev pub Step : Type 0
Step = Result (Scan × Effect) Cause

-- whether a colon ends each address
abbrev pub has_colon : Column → Bool
has_colon Colon = true
has_colon other = false

-- whether the addresses are below headings
abbrev pub has_headings : Column → Bool
has_headings Headed = true
has_headings other = false

-- whether a group is a pair of digits
abbrev pub is_pair : Size → Bool
is_pair Bytes = true
is_pair other = false

-- whether the address v is where the n bytes before it end
abbrev pub goes_on : Option ℕ → ℕ → ℕ → Bool
goes_on None n v = true
goes_on (Some f) n v = v == f + n

-- how a byte is shown as text
abbrev pub shown_as : ℕ → ℕ
shown_as c = if nat_le 32 c && nat_le c 126 then c else 46

-- whether bytes are all 0
abbrev pub is_all_zeros : List ℕ → Bool
is_all_zeros bytes = list_all (λ b. b == 0) bytes

-- how many spaces bytes begin with
abbrev pub leading_spaces : List ℕ → ℕ
leading_spaces [] = 0
leading_spaces (b ∷ line) = if b == 32 then 1 + leading_spaces line else 0

-- The scan goes to another place, and nothing else happens.
abbrev pub at_place : Scan → Place → Step
at_place s p = Ok (record s { place = p }, Nothing)

-- the end of a line
abbrev pub line_end : Scan → Step
line_end s = at_place s Start

-- the address v after n bytes, and then a place in its line
abbrev pub with_address : Scan → ℕ → ℕ → Place → Step
with_address s n v p =
    let sure = s.is_sure || nat_lt 0 n in
    if goes_on s.first n v
    then Ok (record { place = p; first = Some (unwrap_or s.first v); before = n; is_sure = sure }, Nothing)
    else Err BadAddress

-- The address v alone, after bytes of which the first is at `from`: the bytes end there, but for zeros with which the
-- last group is filled up.
abbrev pub cut_at : Scan → Size → List ℕ → ℕ → Option ℕ → Step
cut_at s size bytes v None = Err BadAddress
cut_at s size bytes v (Some from) =
    let n = length bytes in
    let ends = (nat_le from v && nat_le (v - from) n) && nat_lt (n - (v - from)) (size_of size) in
    if ends && is_all_zeros (drop (v - from) bytes)
    then Ok (record s { place = Start; is_sure = true }, Cut (v - from)) else Err BadAddress

-- in a line above the addresses, after k bytes of a title, which objdump prints above those of a section
abbrev pub title_step : Scan → ℕ → ℕ → Step
title_step s k b =
    if b == 10 then at_place s (Title 0) else (
    if is_byte_of (slice_get (codes "Contents of section ") k) b
    then at_place s (if k == 19 then Titled else Title (k + 1))
    else at_place s Heading)

-- At the start of a line, which may be indented. After blanks it has an address only if no group could be one: `od -A n`
-- prints groups alone, each after a space.
abbrev pub start_step : Form → Scan → Bool → ℕ → Step
start_step form s indented b =
    if b == 10 then line_end s else (
    if is_blank b then at_place s Indent else (
    if indented && has_long_groups form then Err Byte else (
    if has_address_digit form.column b then at_place s (Address false 1 (digit_value b)) else (
    if b == 42 then Err Star else (
    if b == 91 && has_colon form.column then at_place s Word
    else Err Byte)))))

-- in a word of a log's line, before the address
abbrev pub word_step : Scan → ℕ → Step
word_step s b = if b == 10 then Err Byte else at_place s (if b == 32 then Break else Word)

-- after such a word and a space
abbrev pub break_step : Scan → ℕ → Step
break_step s b = if is_digit_in false b then at_place s (Address true 1 (digit_value b)) else word_step s b

-- After the address v, with these bytes read before it. If a space follows, it is one only before a symbol.
abbrev pub address_end : Form → Scan → List ℕ → Bool → ℕ → ℕ → Step
address_end form s bytes logged v b =
    let n = length bytes in
    if has_colon form.column
    then (if b == 58 then with_address s n v (Lead 0) else (
    if logged then word_step s b else (
    if b == 32 then at_place s (Open v)
    else Err Byte)))
    else (if is_blank b then with_address s n v Gap else (
    if b == 10 && not (has_headings form.column) then cut_at s form.group bytes v s.first
    else Err Byte))

-- After digits of an address that spell v. d is their number, counted up to the least; a mark counts as three digits.
abbrev pub address_step : Form → Scan → List ℕ → Bool → ℕ → ℕ → ℕ → Step
address_step form s bytes logged d v b =
    let more = if nat_lt d (least_digits form.column) then d + 1 else d in
    if has_address_digit form.column b
    then at_place s (Address logged more (with_address_digit form.column v b)) else (
    if ((has_colon form.column && d == 1) && v == 0) && is_x b then at_place s (Address logged 3 0) else (
    if nat_le (least_digits form.column) d then address_end form s bytes logged v b else (
    if logged then word_step s b
    else Err Byte)))

-- after the address v and a space, with n bytes read before
abbrev pub open_step : Scan → ℕ → ℕ → ℕ → Step
open_step s n v b = if b == 60 then with_address s n v (Symbol b) else Err Byte

-- in the name of a symbol, after the byte `c`
abbrev pub symbol_step : Scan → ℕ → ℕ → Step
symbol_step s c b =
    if b == 10 then Err Byte else at_place s (if b == 58 && c == 62 then Closed else Symbol b)

-- a line's end, a digit or a bar
abbrev pub content : Form → Scan → ℕ → Step
content form s b =
    if b == 10 then (if has_headings form.column then Err BadText else line_end s) else (
    if is_digit_in (is_octal form.group) b then at_place s (Group false 1 (digit_value b)) else (
    if not (has_spaced_text form.column) && (b == 124 || b == 62) then at_place s (Text 0)
    else Err Byte))

-- After a colon and n blanks, counted up to two. After more than one, a group has a mark: `xxd -e` prints spaces in
-- place of the digits that its last group lacks.
abbrev pub lead_step : Form → Scan → ℕ → ℕ → Step
lead_step form s n b =
    if is_blank b then at_place s (Lead (if nat_lt n 2 then n + 1 else n)) else (
    if nat_lt n 2 then content form s b else (
    if b == 48 then at_place s Zero else (
    if b == 10 then line_end s
    else Err Byte)))

-- after the colon of a symbol, which goes on after two, as in `<vec<u8>::data>`
abbrev pub closed_step : Form → Scan → ℕ → Step
closed_step form s b = if b == 58 then at_place s (Symbol b) else lead_step form s 0 b

-- after the `0` of a mark
abbrev pub zero_step : Scan → ℕ → Step
zero_step s b = if is_x b then at_place s (Group true 0 0) else Err Byte

-- after a group, which has a mark or not
abbrev pub group_end : Form → Scan → Bool → ℕ → Step
group_end form s marked b =
    let joined = (not marked && has_spaced_text form.column) && is_pair form.group in
    if b == 32 && not marked then at_place s (Behind false) else (
    if is_blank b then at_place s Gap else (
    if not joined && is_digit_in (is_octal form.group) b then Err Byte
    else content form s b))

-- after d digits of a group that spell v
abbrev pub group_step : Form → Scan → Bool → ℕ → ℕ → ℕ → Step
group_step form s marked d v b =
    let octal = is_octal form.group in
    let w = with_digit octal v b in
    let effect = if d + 1 == digits_of form.group then Number w else Nothing in
    if nat_le (digits_of form.group) d then group_end form s marked b else (
    if is_digit_in octal b then Ok (record s { place = Group marked (d + 1) w }, effect) else (
    if (((has_colon form.column && not marked) && d == 1) && v == 0) && is_x b then at_place s (Group true 0 0)
    else Err Byte))

-- whether a byte shows the next byte of the line, or follows the text of the last one
abbrev pub shows : Form → Option ℕ → ℕ → Bool
shows form (Some c) b = b == shown_as c
shows form None b = is_blank b || (not (has_spaced_text form.column) && (b == 124 || b == 60))

-- the end of a line after its text, which may leave spaces out
abbrev pub text_end : Scan → List ℕ → Step
text_end s hidden =
    if is_all_spaces hidden then Ok (record s { place = Start; is_sure = true }, Nothing) else Err BadText

-- in the text of a line, which has shown k of its bytes
abbrev pub text_step : Form → Scan → List ℕ → ℕ → ℕ → Step
text_step form s line k b =
    if b == 10 then text_end s (drop k line) else (
    if shows form (slice_get line k) b then at_place s (Text (if nat_lt k (length line) then k + 1 else k))
    else Err BadText)

-- after a group and a space, or more spaces
abbrev pub behind_step : Form → Scan → List ℕ → Bool → ℕ → Step
behind_step form s line wide b =
    if b == 32 then at_place s (Behind true) else (
    if b == 9 then at_place s Gap else (
    if (wide && has_spaced_text form.column) && not (b == 10) then text_step form s line (leading_spaces line) b
    else content form s b))

-- The scan goes to another place of an array, and the byte has this effect; or this is what is wrong.
abbrev pub in_array : Scan → Result (ArrayPlace × Effect) Cause → Step
in_array s (Ok next) = Ok (record s { place = Array next.0 }, next.1)
in_array s (Err cause) = Err cause

-- What the byte b is a part of, given the place of the byte before it and the bytes read so far.
abbrev pub place_step : Form → Scan → List ℕ → Place → ℕ → Step
place_step form s bytes Start b = start_step form s false b
place_step form s bytes Indent b = start_step form s true b
place_step form s bytes (Title k) b = title_step s k b
place_step form s bytes Titled b = if b == 10 then line_end s else at_place s Titled
place_step form s bytes Heading b = at_place s (if b == 10 then Title 0 else Heading)
place_step form s bytes Word b = word_step s b
place_step form s bytes Break b = break_step s b
place_step form s bytes (Address logged d v) b = address_step form s bytes logged d v b
place_step form s bytes (Open v) b = open_step s (length bytes) v b
place_step form s bytes (Symbol c) b = symbol_step s c b
place_step form s bytes Closed b = closed_step form s b
place_step form s bytes (Lead n) b = lead_step form s n b
place_step form s bytes Zero b = zero_step s b
place_step form s bytes Gap b = if is_blank b then at_place s Gap else content form s b
place_step form s bytes (Behind wide) b = behind_step form s (drop s.before bytes) wide b
place_step form s bytes (Group marked d v) b = group_step form s marked d v b
place_step form s bytes (Text k) b = text_step form s (drop s.before bytes) k b
place_step form s bytes (Array p) b = in_array s (array_step p b)

-- What the byte b is a part of, given the scan and the bytes read so far. A carriage return is left out.
abbrev pub next_of : Form → Scan → List ℕ → ℕ → Step
next_of form s bytes b = if b == 13 then Ok (s, Nothing) else place_step form s bytes s.place b

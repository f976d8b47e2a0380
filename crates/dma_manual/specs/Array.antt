-- Bytes as an array (profile): numbers of at most two digits with `0x` in braces, with commas between them. A count
-- may follow a number, as in `0x0 <repeats 12 times>`. What comes before and after the braces is left out.
use Rattle.std.specs.Prelude.{ℕ, ◌+◌, ◌*◌, ◌%◌, Bool, true, false, ◌==◌, ◌||◌, ◌&&◌, nat_le, nat_lt, if◌then◌else◌, codes, slice_get, Option, Some, None}
use Rattle.std.specs.Prelude.{Result, Ok, Err}
use Rattle.std.specs.Char.{digit_value}
use Rattle.dma_text.specs.Lines.{is_blank}
use Rattle.dma_manual.specs.{Forms.is_digit_in, Forms.is_x, declared.array.ArrayPlace.ArrayPlace, declared.dump.Effect.Effect, declared.dump.Cause.Cause}
use Rattle.dma_manual.specs.declared.array.ArrayPlace.TheVariants.{Front, List as Items, Zero, Element, Behind, Lead, Count, Tail, Repeated, Rest}
use Rattle.dma_manual.specs.declared.dump.Effect.TheVariants.{Nothing, Element as Ends}
use Rattle.dma_manual.specs.declared.dump.Cause.TheVariants.{Byte, Large, Elided, Count as TooMany}

-- whether a fault is of an array alone
abbrev pub is_of_array : Cause → Bool
is_of_array Large = true
is_of_array Elided = true
is_of_array TooMany = true
is_of_array _ = false

-- the place of the next byte and what it does, or what is wrong
abbrev pub ArrayStep : Type 0
ArrayStep = Result (ArrayPlace × Effect) Cause

-- a byte that ends no element; the next byte is at the place p
abbrev pub goes_to : ArrayPlace → ArrayStep
goes_to p = Ok (p, Nothing)

-- a byte that ends the element v, which counts n times; the next byte is at the place p
abbrev pub ends_with : ℕ → ℕ → ArrayPlace → ArrayStep
ends_with v n p = Ok (p, Ends v n)

-- a blank or a line end
abbrev pub is_space : ℕ → Bool
is_space b = is_blank b || b == 10

-- whether b is the byte k of some words
abbrev pub is_byte_of : Option ℕ → ℕ → Bool
is_byte_of None b = false
is_byte_of (Some c) b = b == c

-- after blanks, a brace or a comma
abbrev pub list_step : ℕ → ArrayStep
list_step b =
    if b == 48 then goes_to Zero else (
    if b == 125 then goes_to Rest else (
    if is_space b then goes_to Items
    else Err Byte))

-- after the element v
abbrev pub element_end : ℕ → ℕ → ArrayStep
element_end v b =
    if b == 44 then ends_with v 1 Items else (
    if b == 125 then ends_with v 1 Rest else (
    if b == 60 then goes_to (Lead v 1) else (
    if b == 46 then Err Elided else (
    if is_space b then goes_to (Behind v)
    else Err Byte))))

-- after n digits of an element that spell v
abbrev pub element_step : ℕ → ℕ → ℕ → ArrayStep
element_step n v b =
    if is_digit_in false b
    then (if nat_le 2 n then Err Large else goes_to (Element (n + 1) (v % 16 * 16 + digit_value b)))
    else (if n == 0 then Err Byte else element_end v b)

-- after k bytes of the words before the count of v
abbrev pub lead_step : ℕ → ℕ → ℕ → ArrayStep
lead_step v k b =
    if is_byte_of (slice_get (codes "<repeats ") k) b then goes_to (if k == 8 then Count v 0 else Lead v (k + 1))
    else Err Byte

-- after digits of the count of v, which spell n; a count is at most 65,529
abbrev pub count_step : ℕ → ℕ → ℕ → ArrayStep
count_step v n b =
    if nat_lt (digit_value b) 10
    then (if nat_le n 6552 then goes_to (Count v (n * 10 + digit_value b)) else Err TooMany) else (
    if b == 32 && nat_lt 0 n then goes_to (Tail v n 1)
    else Err Byte)

-- after k bytes of the words that follow the count n of v
abbrev pub tail_step : ℕ → ℕ → ℕ → ℕ → ArrayStep
tail_step v n k b =
    if is_byte_of (slice_get (codes " times>") k) b
    then (if k == 6 then ends_with v n Repeated else goes_to (Tail v n (k + 1)))
    else Err Byte

-- after a count and its words
abbrev pub repeated_step : ℕ → ArrayStep
repeated_step b =
    if b == 44 then goes_to Items else (
    if b == 125 then goes_to Rest else (
    if b == 46 then Err Elided else (
    if is_space b then goes_to Repeated
    else Err Byte)))

-- What the byte b is a part of, given the place of the byte before it.
abbrev pub array_step : ArrayPlace → ℕ → ArrayStep
array_step Front b = goes_to (if b == 123 then Items else Front)
array_step Items b = list_step b
array_step Zero b = if is_x b then goes_to (Element 0 0) else Err Byte
array_step (Element n v) b = element_step n v b
array_step (Behind v) b = element_end v b
array_step (Lead v k) b = lead_step v k b
array_step (Count v n) b = count_step v n b
array_step (Tail v n k) b = tail_step v n k b
array_step Repeated b = repeated_step b
array_step Rest b = if b == 123 then Err Byte else goes_to Rest

-- What the operands of an instruction say (profile; the names are the manual's).
use Rattle.std.specs.Prelude.{ℕ, ◌+◌, ◌*◌, ◌^◌, Bool, true, false, ◌==◌, ◌&&◌, if◌then◌else◌, List, [], ◌∷◌, length, drop, min, nat_eq, nat_le, codes, Option}
use Rattle.std.specs.Prelude.{Some, None, Result, Ok, Err, ok_or}
use Rattle.std.specs.{List.starts_with, Char.digit_value, Str.bytes_eq}
use Rattle.dma_text.specs.Results.{◌>>=◌}
use Rattle.dma_manual.specs.{Words.next_of, declared.assembler.AsmCause.AsmCause, declared.assembler.Fault.Fault}
use Rattle.dma_manual.specs.declared.assembler.AsmCause.TheVariants as causes

-- the fault of a word, which `rest` follows
abbrev pub fault_at : AsmCause → List ℕ → List ℕ → Fault
fault_at cause word rest = record { cause = cause; len = length word; after = length rest }

-- the next word and what follows it; `missing` if there is none
abbrev pub word_after : List ℕ → Fault → Result (List ℕ × List ℕ) Fault
word_after rest missing = ok_or (next_of rest) missing

-- succeeds if no word is left
abbrev pub none_left : Option (List ℕ × List ℕ) → Result (Unit {0}) Fault
none_left None = Ok tt
none_left (Some w) = Err (fault_at causes.Extra w.0 w.1)

-- succeeds if the rest of a line has no word
abbrev pub no_more : List ℕ → Result (Unit {0}) Fault
no_more rest = none_left (next_of rest)

-- a value continued by digits, capped at 2 ^ 32 after each; `None` if a byte is not a digit
abbrev pub digits_from : ℕ → ℕ → List ℕ → Option ℕ
digits_from radix value [] = Some value
digits_from radix value (c ∷ rest) =
    if nat_le radix (digit_value c) then None else digits_from radix (min (value * radix + digit_value c) (2 ^ 32)) rest

-- the number that one or more digits spell, capped at 2 ^ 32, which is too large for any operand
abbrev pub digits_in : ℕ → List ℕ → Option ℕ
digits_in radix digits = if length digits == 0 then None else digits_from radix 0 digits

-- the number that a word spells: after 0x in hexadecimal digits, else in decimal ones
abbrev pub number_of : List ℕ → Option ℕ
number_of word = if starts_with nat_eq word (codes "0x") then digits_in 16 (drop 2 word) else digits_in 10 word

-- a number from low to high; `none` for what is no number, and the cause for any other number
abbrev pub within : AsmCause → AsmCause → ℕ → ℕ → Option ℕ → List ℕ → List ℕ → Result ℕ Fault
within none cause low high None word rest = Err (fault_at none word rest)
within none cause low high (Some n) word rest =
    if nat_le low n && nat_le n high then Ok n else Err (fault_at cause word rest)

-- the number that the digits of a word spell
abbrev pub number_at : AsmCause → ℕ → ℕ → List ℕ → List ℕ → List ℕ → Result ℕ Fault
number_at cause low high digits word rest = within causes.Number cause low high (number_of digits) word rest

-- The number that the digits of a word spell. The cause is the same whether it is too small, too large or no number.
abbrev pub field_at : AsmCause → ℕ → ℕ → List ℕ → List ℕ → List ℕ → Result ℕ Fault
field_at cause low high digits word rest = within cause cause low high (number_of digits) word rest

-- a number of at most `most`, which a letter may precede
abbrev pub lettered : ℕ → AsmCause → ℕ → List ℕ → List ℕ → Result ℕ Fault
lettered letter cause most word rest =
    if starts_with nat_eq word (letter ∷ []) then number_at cause 0 most (drop 1 word) word rest
    else number_at cause 0 most word word rest

-- the number of an event, which e may precede
abbrev pub event_at : List ℕ → List ℕ → Result ℕ Fault
event_at word rest = lettered 101 causes.Event 31 word rest

-- the number of a peripheral, which p may precede
abbrev pub peripheral_at : List ℕ → List ℕ → Result ℕ Fault
peripheral_at word rest = lettered 112 causes.Peripheral 31 word rest

-- the number of a channel, which c may precede
abbrev pub channel_at : List ℕ → List ℕ → Result ℕ Fault
channel_at word rest = lettered 99 causes.Channel 7 word rest

-- whether the last word of a line is a flag; no word is left if not
abbrev pub flag_by : List ℕ → Option (List ℕ × List ℕ) → Result Bool Fault
flag_by flag None = Ok false
flag_by flag (Some w) =
    if bytes_eq w.0 flag then (no_more w.1 >>= λ done. Ok true) else Err (fault_at causes.Extra w.0 w.1)

-- The rest of a line may be a flag: true if it is, and false if no word is left. Any other word is a fault.
abbrev pub flag_at : List ℕ → List ℕ → Result Bool Fault
flag_at flag rest = flag_by flag (next_of rest)

-- The fields of DMAMOV CCR (manual, assembler directives; a field may be given once, and a field that is absent has the
-- manual's default: one beat of 8 bits at a growing address, protection 0, cache 0).
use Rattle.std.specs.Prelude.{ℕ, ◌+◌, ◌*◌, ◌/◌, ◌%◌, Bool, true, false, ◌==◌, if◌then◌else◌, List, [], ◌∷◌, nat_lt, zero, suc, codes, Option, Some, None}
use Rattle.std.specs.Prelude.{is_some, unwrap_or, Result, Ok, Err, ok_or}
use Rattle.std.specs.Str.{bytes_eq}
use Rattle.dma_text.specs.Results.{◌>>=◌}
use Rattle.dma_insn.specs.declared.control.BeatSize.TheVariants.{One, Two, Four, Eight, Sixteen}
use Rattle.dma_insn.specs.{ControlWord.bits_of, declared.control.BeatSize.BeatSize, declared.control.BurstEnd.BurstEnd}
use Rattle.dma_manual.specs.Operands.{fault_at, field_at, none_left}
use Rattle.dma_manual.specs.{Words.next_of, declared.assembler.Fault.Fault, declared.manual.Side.Side, declared.manual.Side.TheVariants.Source}
use Rattle.dma_manual.specs.{declared.manual.Side.TheVariants.Destination, declared.fields.EndFields.EndFields, declared.fields.Fields.Fields}
use Rattle.dma_manual.specs.declared.assembler.AsmCause.TheVariants as causes
use Rattle.dma_manual.specs.declared.assembler.Field.TheVariants as field

-- nothing is set
abbrev pub no_end : EndFields
no_end = record { beats = None; size = None; increments = None; protection = None; cache = None }

-- no field is set
abbrev pub no_fields : Fields
no_fields = record { src = no_end; dst = no_end; swap = false }

-- an end, with the manual's defaults for fields that are not set
abbrev pub end_of : EndFields → BurstEnd
end_of e = record {
  increments = unwrap_or e.increments true;
  size = unwrap_or e.size One;
  beats = unwrap_or e.beats 1;
  protection = unwrap_or e.protection 0;
  cache = unwrap_or e.cache 0;
}

-- the control word of some fields
abbrev pub word_of : Fields → ℕ
word_of f = bits_of (record { src = end_of f.src; dst = end_of f.dst })

-- succeeds unless the field of a word is set already
abbrev pub free : Bool → List ℕ → List ℕ → Result (Unit {0}) Fault
free is_set word rest = if is_set then Err (fault_at causes.Twice word rest) else Ok tt

-- the size of a beat of this number of bits
abbrev pub size_of_bits : ℕ → Option BeatSize
size_of_bits n =
    if n == 8 then Some One else (
    if n == 16 then Some Two else (
    if n == 32 then Some Four else (
    if n == 64 then Some Eight else (
    if n == 128 then Some Sixteen else None))))

-- whether a letter says that the address grows
abbrev pub increments_of : List ℕ → Option Bool
increments_of name = if bytes_eq name (codes "i") then Some true else (if bytes_eq name (codes "f") then Some false else None)

-- The cache field for the signals ARCACHE[3:0] or AWCACHE[3:0]; ARCACHE[3] and AWCACHE[2] have to be low.
abbrev pub cache_of : Side → ℕ → Option ℕ
cache_of Source n = if nat_lt n 8 then Some n else None
cache_of Destination n = if nat_lt (n % 8) 4 then Some (n % 4 + 4 * (n / 8)) else None

-- an end with one more field, by its digits or its letter
abbrev pub set_beats : EndFields → Side → List ℕ → List ℕ → List ℕ → Result EndFields Fault
set_beats e side digits word rest = do
  n ← field_at (causes.FieldValue side field.Beats) 1 16 digits word rest
  done ← free (is_some e.beats) word rest
  Ok (record e { beats = Some n })

abbrev pub set_size : EndFields → Side → List ℕ → List ℕ → List ℕ → Result EndFields Fault
set_size e side digits word rest = do
  n ← field_at (causes.FieldValue side field.Size) 8 128 digits word rest
  size ← ok_or (size_of_bits n) (fault_at (causes.FieldValue side field.Size) word rest)
  done ← free (is_some e.size) word rest
  Ok (record e { size = Some size })

abbrev pub set_increments : EndFields → Side → List ℕ → List ℕ → List ℕ → Result EndFields Fault
set_increments e side name word rest = do
  increments ← ok_or (increments_of name) (fault_at (causes.FieldValue side field.Address) word rest)
  done ← free (is_some e.increments) word rest
  Ok (record e { increments = Some increments })

abbrev pub set_protection : EndFields → Side → List ℕ → List ℕ → List ℕ → Result EndFields Fault
set_protection e side digits word rest = do
  n ← field_at (causes.FieldValue side field.Protection) 0 7 digits word rest
  done ← free (is_some e.protection) word rest
  Ok (record e { protection = Some n })

abbrev pub set_cache : EndFields → Side → List ℕ → List ℕ → List ℕ → Result EndFields Fault
set_cache e side digits word rest = do
  n ← field_at (causes.FieldValue side field.Cache) 0 15 digits word rest
  cache ← ok_or (cache_of side n) (fault_at (causes.FieldValue side field.Cache) word rest)
  done ← free (is_some e.cache) word rest
  Ok (record e { cache = Some cache })

-- an end with the field of a word, by the word without the end's letter
abbrev pub set_end : EndFields → Side → List ℕ → List ℕ → List ℕ → Result EndFields Fault
set_end e side [] word rest = Err (fault_at causes.Field word rest)
set_end e side (key ∷ more) word rest =
    if key == 98 then set_beats e side more word rest else (
    if key == 115 then set_size e side more word rest else (
    if key == 97 then set_increments e side more word rest else (
    if key == 112 then set_protection e side more word rest else (
    if key == 99 then set_cache e side more word rest else Err (fault_at causes.Field word rest)))))

-- Succeeds for the field ES8, which swaps nothing, if it isn't given twice. No channel of this model swaps (profile).
abbrev pub swap_at : Bool → List ℕ → List ℕ → List ℕ → Result (Unit {0}) Fault
swap_at is_set [] word rest = Err (fault_at causes.Field word rest)
swap_at is_set (key ∷ digits) word rest =
    if key == 115 then (if bytes_eq digits (codes "8") then free is_set word rest else Err (fault_at causes.Swap word rest))
    else Err (fault_at causes.Field word rest)

-- the fields with that of a word
abbrev pub set_field : Fields → List ℕ → List ℕ → Result Fields Fault
set_field f [] rest = Err (fault_at causes.Field [] rest)
set_field f (key ∷ name) rest =
    if key == 115 then (set_end f.src Source name (key ∷ name) rest >>= λ e. Ok (record f { src = e })) else (
    if key == 100 then (set_end f.dst Destination name (key ∷ name) rest >>= λ e. Ok (record f { dst = e })) else (
    if key == 101 then (swap_at f.swap name (key ∷ name) rest >>= λ done. Ok (record f { swap = true })) else Err (fault_at causes.Field (key ∷ name) rest)))

-- the control word if no word is left, else what `more` gives for the fields with that of the next word
abbrev pub next_field : Option (List ℕ × List ℕ) → Fields → (Fields → List ℕ → Result ℕ Fault) → Result ℕ Fault
next_field None f more = Ok (word_of f)
next_field (Some w) f more = set_field f w.0 w.1 >>= λ g. more g w.1

-- the control word of some fields and at most n more words
unfoldable pub fields_from : ℕ → Fields → List ℕ → Result ℕ Fault
fields_from zero f rest = none_left (next_of rest) >>= λ done. Ok (word_of f)
fields_from (suc n) f rest = next_field (next_of rest) f (λ g after. fields_from n g after)

-- the control word of the fields that the words of a line name
abbrev pub fields_at : List ℕ → Result ℕ Fault
fields_at rest = fields_from 11 no_fields rest

-- Words and lines that are read one after another.
use Rattle.std.proofs.Common.{◌≡◌, ℕ, ◌+◌, ◌-◌, ◌<◌, List, [], ◌∷◌, length, map, ap, sym, arith, zero, suc, Some, None, Result, Ok, Err}
use Rattle.dma_text.specs.Lines.{text_lines}
use Rattle.dma_manual.specs.Fields.{fields_from, next_field, set_field, word_of}
use Rattle.dma_manual.specs.{Words.code_of, Words.next_of, Words.plain_byte, Operands.fault_at, Assembled.Read, Assembled.take_line, Assembled.take_lines}
use Rattle.dma_manual.specs.{declared.assembler.Fault.Fault, declared.assembler.Located.Located, declared.fields.Fields.Fields}
use Rattle.dma_manual.specs.declared.assembler.AsmCause.TheVariants as causes

-- one more field, if some are left
fields_step : (n : ℕ) (f : Fields) (rest : List ℕ) → 0 < n → fields_from n f rest ≡ next_field (next_of rest) f (λ g after. fields_from (n - 1) g after)
unfolding fields_from
fields_step zero f rest some = absurd (omega arith)
fields_step (suc n) f rest some =
    let less : suc n - 1 ≡ n = omega arith in
    ap (λ (m : ℕ). next_field (next_of rest) f (λ g after. fields_from m g after)) (sym less)

pub fields_none : (n : ℕ) (f : Fields) (rest : List ℕ) (whole : Result ℕ Fault) → 0 < n → fields_from n f rest ≡ whole → next_of rest ≡ None
    → Ok (word_of f) ≡ whole
fields_none n f rest whole some is none = grind (arith, fields_step)

pub fields_err : (n : ℕ) (f : Fields) (rest word after : List ℕ) (fault : Fault) (whole : Result ℕ Fault) → 0 < n → fields_from n f rest ≡ whole
    → next_of rest ≡ Some (word, after) → set_field f word after ≡ Err fault → Err fault ≡ whole
fields_err n f rest word after fault whole some is next set = grind (arith, fields_step)

pub fields_more : (n : ℕ) (f g : Fields) (rest word after : List ℕ) (whole : Result ℕ Fault) → 0 < n → fields_from n f rest ≡ whole
    → next_of rest ≡ Some (word, after) → set_field f word after ≡ Ok g → fields_from (n - 1) g after ≡ whole
fields_more n f g rest word after whole some is next set = grind (arith, fields_step)

pub fields_last : (n : ℕ) (f : Fields) (rest : List ℕ) (whole : Result ℕ Fault) → n ≡ 0 → fields_from n f rest ≡ whole → next_of rest ≡ None
    → Ok (word_of f) ≡ whole
unfolding fields_from
fields_last n f rest whole zero_n is none = grind arith

pub fields_extra : (n : ℕ) (f : Fields) (rest word after : List ℕ) (whole : Result ℕ Fault) → n ≡ 0 → fields_from n f rest ≡ whole
    → next_of rest ≡ Some (word, after) → Err (fault_at causes.Extra word after) ≡ whole
unfolding fields_from
fields_extra n f rest word after whole zero_n is next = grind arith

-- how fields are read
pub ruleset reading_fields = (fields_none, fields_err, fields_more, fields_last, fields_extra)

-- one more line
pub lines_more : (r new : Read) (n : ℕ) (text line after plain : List ℕ) (whole : Result Read Located) → take_lines r n (text_lines text) ≡ whole
    → text_lines text ≡ line ∷ text_lines after → plain ≡ map plain_byte (code_of line) → take_line r (n + 1) plain ≡ Ok new
    → take_lines new (n + 1) (text_lines after) ≡ whole
unfolding take_lines
lines_more r new n text line after plain whole is lines same took = grind arith

pub lines_err : (r : Read) (n : ℕ) (text line after plain : List ℕ) (fault : Located) (whole : Result Read Located) → take_lines r n (text_lines text) ≡ whole
    → text_lines text ≡ line ∷ text_lines after → plain ≡ map plain_byte (code_of line) → take_line r (n + 1) plain ≡ Err fault → whole ≡ Err fault
unfolding take_lines
lines_err r n text line after plain fault whole is lines same took = grind arith

pub lines_end : (r : Read) (n : ℕ) (text : List ℕ) (whole : Result Read Located) → take_lines r n (text_lines text) ≡ whole → length text ≡ 0 → whole ≡ Ok r
unfolding take_lines
lines_end r n [] whole is none = sym is
lines_end r n (b ∷ text) whole is none = absurd (omega arith)

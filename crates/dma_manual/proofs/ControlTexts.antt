-- The printed fields of a control word, which the assembler reads back.
use Rattle.std.proofs.Common.{◌≡◌, ℕ, ◌*◌, ◌^◌, ◌<◌, ◌≤◌, Bool, true, false, List, [], ◌∷◌, ◌++◌, map, length, zero, suc, refl, sym, ap, ap₂, ◌∙◌, subst, Some}
use Rattle.std.proofs.Common.{None, Option, Result, Ok, Err, cond, eqb, arith, codes, decimal, append_assoc, length-append, unwrap_or}
use Rattle.std.specs.{List.list_all, Fmt.digits}
use Rattle.std.proofs.{lemmas.List.map-append, lemmas.List.length-map, lemmas.Bool.and_from, lemmas.Bool.le-leb}
use Rattle.dma_insn.specs.ControlWord.{HasEndRanges, HasFields, beat_bytes, bits_of, control_of}
use Rattle.dma_insn.specs.{declared.control.BeatSize.BeatSize, declared.control.BeatSize.TheVariants.One, declared.control.BurstEnd.BurstEnd}
use Rattle.dma_insn.specs.{declared.control.Control.Control, declared.control.ControlFault.ControlFault, declared.insn.Reg.TheVariants.Ccr}
use Rattle.dma_insn.specs.{declared.chip.ChipInsn.TheVariants.Mov}
use Rattle.dma_insn.proofs.ControlLaws.{bits_of_fields, control_of_fields}
use Rattle.dma_manual.specs.ManualText.{cache_signals, control_text, control_text_of, end_text, field_text, flag_text, increment_name, letter}
use Rattle.dma_manual.specs.Fields.{cache_of, end_of, fields_at, fields_from, no_end, no_fields, set_end, set_field, word_of}
use Rattle.dma_manual.specs.{declared.insns.ManualInsn.TheVariants.Chip, declared.manual.Side.Side, declared.manual.Side.TheVariants.Source}
use Rattle.dma_manual.specs.{declared.manual.Side.TheVariants.Destination, declared.fields.EndFields.EndFields, declared.fields.Fields.Fields}
use Rattle.dma_manual.specs.{Words.is_word_byte, Words.next_of, Words.plain_byte, Statements.control_line}
use Rattle.dma_manual.proofs.Cuts.{all_append, gap_spaces, has_bytes, is_gap, is_inline, is_space, next_none, next_space, next_word}
use Rattle.dma_manual.proofs.Numerals.{decimal_read, each, each_at, hex_words, plain, plain_append_law}
use Rattle.dma_manual.proofs.Said.{control_fields, control_said}
use Rattle.dma_manual.specs.declared.statements.Statement.TheVariants as says

-- words, each after a space, in front of a tail
abbrev pub spaced : List (List ℕ) → List ℕ → List ℕ
spaced [] tail = tail
spaced (w ∷ ws) tail = 32 ∷ (w ++ spaced ws tail)

spaced_append : (ws vs : List (List ℕ)) (tail : List ℕ) → spaced (ws ++ vs) tail ≡ spaced ws (spaced vs tail)
spaced_append [] vs tail = refl
spaced_append (w ∷ ws) vs tail = ap (λ (l : List ℕ). 32 ∷ (w ++ l)) (spaced_append ws vs tail)

gap_spaced : (ws : List (List ℕ)) (tail : List ℕ) → list_all is_space tail ≡ true → is_gap (spaced ws tail) ≡ true
gap_spaced [] tail spaces = gap_spaces tail spaces
gap_spaced (w ∷ ws) tail spaces = refl

-- The words set fields, one after another.
abbrev AreSet : Fields → List (List ℕ) → Fields → Type 0
AreSet f [] g = f ≡ g
AreSet f (w ∷ ws) g =
    (h : Fields) × (has_bytes w ≡ true) × (list_all is_word_byte w ≡ true) × ((rest : List ℕ) → set_field f w rest ≡ Ok h) × AreSet h ws g

are_set_append : (ws vs : List (List ℕ)) (f g h : Fields) → AreSet f ws g → AreSet g vs h → AreSet f (ws ++ vs) h
are_set_append [] vs f g h a b = subst (λ (x : Fields). AreSet x vs h) (sym a) b
are_set_append (w ∷ ws) vs f g h a b = (a.0, a.1, a.2, a.3, are_set_append ws vs a.0 g h a.4 b)

fields_space : (k : ℕ) (f : Fields) (rest : List ℕ) → fields_from k f (32 ∷ rest) ≡ fields_from k f rest
unfolding fields_from
fields_space k f rest = grind (arith, next_space)

fields_read : (ws : List (List ℕ)) (k : ℕ) (f g : Fields) (tail : List ℕ) → length ws ≤ k → AreSet f ws g → list_all is_space tail ≡ true
    → fields_from k f (spaced ws tail) ≡ Ok (word_of g)
unfolding fields_from
fields_read [] zero f g tail fits a spaces = rw (next_none tail spaces) (ap (λ (x : Fields). Ok (word_of x)) a)
fields_read [] (suc k) f g tail fits a spaces = rw (next_none tail spaces) (ap (λ (x : Fields). Ok (word_of x)) a)
fields_read (w ∷ ws) zero f g tail fits a spaces = absurd (omega arith)
fields_read (w ∷ ws) (suc k) f g tail fits a spaces =
    let rest = spaced ws tail in
    let next : next_of (32 ∷ (w ++ rest)) ≡ Some (w, rest) = next_space (w ++ rest) ∙ next_word w rest a.1 a.2 (gap_spaced ws tail spaces) in
    let set : set_field f w rest ≡ Ok a.0 = a.3 rest in
    rw (next, set) (fields_read ws k a.0 g tail (omega arith) a.4 spaces)

-- Words that set fields of one end, one after the other, by their names without the end's letter, lead from these
-- values to those.
abbrev EndSet : Side → EndFields → List (List ℕ) → EndFields → Type 0
EndSet side e [] d = e ≡ d
EndSet side e (name ∷ names) d =
    (c : EndFields) × (list_all is_word_byte name ≡ true) × ((word rest : List ℕ) → set_end e side name word rest ≡ Ok c) × EndSet side c names d

end_set_append : (side : Side) (ws vs : List (List ℕ)) (e d c : EndFields) → EndSet side e ws d → EndSet side d vs c → EndSet side e (ws ++ vs) c
end_set_append side [] vs e d c a b = subst (λ (x : EndFields). EndSet side x vs c) (sym a) b
end_set_append side (w ∷ ws) vs e d c a b = (a.0, a.1, a.2, end_set_append side ws vs a.0 d c a.3 b)

abbrev key : Side → ℕ
key Source = 115
key Destination = 100

abbrev with_key : Side → List (List ℕ) → List (List ℕ)
with_key side names = map (λ name. key side ∷ name) names

source_set : (names : List (List ℕ)) (f : Fields) (d : EndFields) → EndSet Source f.src names d → AreSet f (with_key Source names) (record f { src = d })
source_set [] f d a = ap (λ (x : EndFields). record f { src = x }) a
source_set (name ∷ names) f d a = grind (arith, source_set names (record f { src = a.0 }) d a.3)

destination_set : (names : List (List ℕ)) (f : Fields) (d : EndFields) → EndSet Destination f.dst names d
    → AreSet f (with_key Destination names) (record f { dst = d })
destination_set [] f d a = ap (λ (x : EndFields). record f { dst = x }) a
destination_set (name ∷ names) f d a = grind (arith, destination_set names (record f { dst = a.0 }) d a.3)

-- the names of an end's fields
abbrev flag_name : ℕ → ℕ → List (List ℕ)
flag_name k n = cond (eqb n 0) [] ((k ∷ plain (decimal n)) ∷ [])

abbrev first_names : BurstEnd → List (List ℕ)
first_names e = (98 ∷ plain (decimal e.beats)) ∷ (115 ∷ plain (decimal (8 * beat_bytes e.size))) ∷ plain (increment_name e.increments) ∷ []

abbrev names_of : Side → BurstEnd → List (List ℕ)
names_of side e = first_names e ++ (flag_name 112 e.protection ++ flag_name 99 (cache_signals side e.cache))

flag_name_le : (k n : ℕ) → length (flag_name k n) ≤ 1
flag_name_le k n = elim (eqb n 0) as (λ (t : Bool). length (cond t [] ((k ∷ plain (decimal n)) ∷ [])) ≤ 1) [ true ↦ omega arith | false ↦ omega arith ]

names_of_le : (side : Side) (e : BurstEnd) → length (names_of side e) ≤ 5
names_of_le side e = grind (arith, length-append, flag_name_le)

-- some fields of an end
abbrev with_three : ℕ → BeatSize → Bool → Option ℕ → Option ℕ → EndFields
with_three b s i p c = record { beats = Some b; size = Some s; increments = Some i; protection = p; cache = c }

abbrev flag : ℕ → ℕ → Option ℕ
flag n code = cond (eqb n 0) None (Some code)

size_set : (side : Side) (b : ℕ) (s : BeatSize) (word rest : List ℕ)
    → set_end (record no_end { beats = Some b }) side (115 ∷ plain (decimal (8 * beat_bytes s))) word rest ≡ Ok
    (record no_end { beats = Some b; size = Some s })
unfolding digits
size_set side b One word rest = refl
size_set side b _ word rest = refl

increments_set : (side : Side) (b : ℕ) (s : BeatSize) (i : Bool) (word rest : List ℕ)
    → set_end (record no_end { beats = Some b; size = Some s }) side (plain (increment_name i)) word rest ≡ Ok (with_three b s i None None)
increments_set side b s i word rest = grind (arith)

size_word : (s : BeatSize) → list_all is_word_byte (115 ∷ plain (decimal (8 * beat_bytes s))) ≡ true
unfolding digits
size_word One = refl
size_word _ = refl

increments_word : (i : Bool) → list_all is_word_byte (plain (increment_name i)) ≡ true
increments_word i = grind (arith)

first_set : (side : Side) (e : BurstEnd) → HasEndRanges e → EndSet side no_end (first_names e) (with_three e.beats e.size e.increments None None)
first_set side e h =
    let r = decimal_read e.beats (let most = h.beats in omega arith) in
    let value = r.value in (
      record no_end { beats = Some e.beats },
      r.word,
      λ word rest. rw (value, le-leb 1 e.beats h.some, le-leb e.beats 16 h.beats) refl,
      (
        record no_end { beats = Some e.beats; size = Some e.size },
        size_word e.size,
        λ word rest. size_set side e.beats e.size word rest,
        (
          with_three e.beats e.size e.increments None None,
          increments_word e.increments,
          λ word rest. increments_set side e.beats e.size e.increments word rest,
          refl,
        ),
      ),
    )

protection_flag : (side : Side) (b : ℕ) (s : BeatSize) (i : Bool) (p : ℕ) → p < 8
    → EndSet side (with_three b s i None None) (flag_name 112 p) (with_three b s i (flag p p) None)
protection_flag side b s i p small =
    let r = decimal_read p (omega arith) in
    let value = r.value in
    elim (eqb p 0) as (λ (t : Bool). EndSet side (with_three b s i None None) (cond t [] ((112 ∷ plain (decimal p)) ∷ []))
    (with_three b s i (cond t None (Some p)) None)) [
      | true ↦ refl
      | false ↦ (with_three b s i (Some p) None, r.word, λ word rest. rw (value, le-leb 0 p (omega arith), le-leb p 7 (omega arith)) refl, refl)
    ]

cache_flag : (side : Side) (b : ℕ) (s : BeatSize) (i : Bool) (p : Option ℕ) (n c : ℕ) → n ≤ 15 → cache_of side n ≡ Some c
    → EndSet side (with_three b s i p None) (flag_name 99 n) (with_three b s i p (flag n c))
cache_flag side b s i p n c small back =
    let r = decimal_read n (omega arith) in
    let value = r.value in
    elim (eqb n 0) as (λ (t : Bool). EndSet side (with_three b s i p None) (cond t [] ((99 ∷ plain (decimal n)) ∷ []))
    (with_three b s i p (cond t None (Some c)))) [
      | true ↦ refl
      | false ↦ (with_three b s i p (Some c), r.word, λ word rest. rw (value, le-leb 0 n (omega arith), le-leb n 15 small, back) refl, refl)
    ]

-- each cache field is read from its signals
pub signals_le : (side : Side) (c : ℕ) → c < 8 → cache_signals side c ≤ 15
signals_le side c h = grind (arith)

caches : (side : Side) → each 8 (λ c. cache_of side (cache_signals side c)) ≡ each 8 (λ c. Some c)
caches side = grind (arith)

cache_back : (side : Side) (c : ℕ) → c < 8 → cache_of side (cache_signals side c) ≡ Some c
cache_back side c small = each_at (λ c. cache_of side (cache_signals side c)) (λ c. Some c) 8 c (caches side) small

-- a field that is not printed has the default
flags : (side : Side) → each 8 (λ c. unwrap_or (flag (cache_signals side c) c) 0) ≡ each 8 (λ c. c)
flags side = grind (arith)

flag_back : (side : Side) (c : ℕ) → c < 8 → unwrap_or (flag (cache_signals side c) c) 0 ≡ c
flag_back side c small = each_at (λ c. unwrap_or (flag (cache_signals side c) c) 0) (λ c. c) 8 c (flags side) small

abbrev fields_of : Side → BurstEnd → EndFields
fields_of side e = with_three e.beats e.size e.increments (flag e.protection e.protection) (flag (cache_signals side e.cache) e.cache)

end_set : (side : Side) (e : BurstEnd) → HasEndRanges e → EndSet side no_end (names_of side e) (fields_of side e)
end_set side e h =
    let n = cache_signals side e.cache in
    let p = flag e.protection e.protection in
    end_set_append side (first_names e) (flag_name 112 e.protection ++ flag_name 99 n) no_end (with_three e.beats e.size e.increments None None)
    (fields_of side e) (first_set side e h)
    (end_set_append side (flag_name 112 e.protection) (flag_name 99 n) (with_three e.beats e.size e.increments None None)
    (with_three e.beats e.size e.increments p None) (fields_of side e)
    (protection_flag side e.beats e.size e.increments e.protection h.protection)
    (cache_flag side e.beats e.size e.increments p n e.cache (signals_le side e.cache h.cache) (cache_back side e.cache h.cache)))

end_of_fields : (side : Side) (e : BurstEnd) → HasEndRanges e → end_of (fields_of side e) ≡ e
end_of_fields side e h = grind (arith, flag_back)

-- The printed ends are these words.
five : (b s a p c rest : List ℕ) → plain ((((b ++ s) ++ a) ++ p) ++ c) ++ rest ≡ plain b ++ (plain s ++ (plain a ++ (plain p ++ (plain c ++ rest))))
five b s a p c rest = simp (map-append, append_assoc)

field_plain : (side : Side) (name : ℕ) (value rest : List ℕ)
    → plain (field_text (letter side) (name ∷ []) value) ++ rest ≡ 32 ∷ ((key side ∷ plain_byte name ∷ plain value) ++ rest)
field_plain side name value rest = grind (arith)

flag_plain : (side : Side) (name n : ℕ) (rest : List ℕ)
    → plain (flag_text (letter side) (name ∷ []) n) ++ rest ≡ spaced (with_key side (flag_name (plain_byte name) n)) rest
flag_plain side name n rest = grind (arith, field_plain)

increments_plain : (side : Side) (i : Bool) (rest : List ℕ)
    → plain (codes " " ++ letter side ++ increment_name i) ++ rest ≡ 32 ∷ ((key side ∷ plain (increment_name i)) ++ rest)
increments_plain side i rest = grind (arith)

end_plain : (side : Side) (e : BurstEnd) (rest : List ℕ) → plain (end_text side e) ++ rest ≡ spaced (with_key side (names_of side e)) rest
end_plain side e rest = grind (arith, flag_plain, spaced_append, map-append, five, field_plain, increments_plain)

control_plain : (c : Control) (tail : List ℕ) → plain (end_text Source c.src ++ end_text Destination c.dst) ++ tail
    ≡ spaced (with_key Source (names_of Source c.src) ++ with_key Destination (names_of Destination c.dst)) tail
control_plain c tail = grind (arith, plain_append_law, end_plain, spaced_append)

-- The words of a control word's ends set its fields.
ends_set : (c : Control) → HasEndRanges c.src → HasEndRanges c.dst
    → AreSet no_fields (with_key Source (names_of Source c.src) ++ with_key Destination (names_of Destination c.dst))
    (record { src = fields_of Source c.src; dst = fields_of Destination c.dst; swap = false })
ends_set c s d =
    let f = record no_fields { src = fields_of Source c.src } in
    are_set_append (with_key Source (names_of Source c.src)) (with_key Destination (names_of Destination c.dst)) no_fields f
    (record f { dst = fields_of Destination c.dst })
    (source_set (names_of Source c.src) no_fields (fields_of Source c.src) (end_set Source c.src s))
    (destination_set (names_of Destination c.dst) f (fields_of Destination c.dst) (end_set Destination c.dst d))

ends_read : (c : Control) (tail : List ℕ) → HasEndRanges c.src → HasEndRanges c.dst → list_all is_space tail ≡ true
    → fields_at (32 ∷ spaced (with_key Source (names_of Source c.src) ++ with_key Destination (names_of Destination c.dst)) tail) ≡ Ok (bits_of c)
ends_read c tail s d spaces =
    let ss = with_key Source (names_of Source c.src) in
    let ds = with_key Destination (names_of Destination c.dst) in
    let fits : length (ss ++ ds) ≤ 11 = grind (arith, length-append, length-map, names_of_le) in
    fields_space 11 no_fields (spaced (ss ++ ds) tail)
    ∙ fields_read (ss ++ ds) 11 no_fields (record { src = fields_of Source c.src; dst = fields_of Destination c.dst; swap = false }) tail fits (ends_set c s d)
    spaces
    ∙ ap₂ (λ (x y : BurstEnd). Ok (bits_of (record { src = x; dst = y }))) (end_of_fields Source c.src s) (end_of_fields Destination c.dst d)

-- an accepted word has its ends in range
pub ranges_of : (v : ℕ) (c : Control) → HasFields v c → HasEndRanges c.src × HasEndRanges c.dst
ranges_of v c h = grind arith

-- What follows DMAMOV CCR is read as the word.
control_by : (v : ℕ) (tail : List ℕ) (r : Result Control ControlFault) → control_of v ≡ r → v < 2 ^ 32 → list_all is_space tail ≡ true
    → control_line (codes "ccr") (32 ∷ (plain (control_text_of v r) ++ tail)) ≡ Ok (says.Plain (Chip (Mov Ccr v)))
control_by v tail (Err fault) is small spaces = control_said [] tail spaces v small
control_by v tail (Ok c) is small spaces =
    let fields = control_of_fields v c is in
    let ranges = ranges_of v c fields in
    let words = with_key Source (names_of Source c.src) ++ with_key Destination (names_of Destination c.dst) in
    let r = decimal_read c.src.beats (let most = ranges.0.beats in omega arith) in
    let first = 115 ∷ 98 ∷ plain (decimal c.src.beats) in
    let more = spaced (with_key Source
    ((115 ∷ plain (decimal (8 * beat_bytes c.src.size))) ∷ plain (increment_name c.src.increments) ∷
    (flag_name 112 c.src.protection ++ flag_name 99 (cache_signals Source c.src.cache))) ++ with_key Destination (names_of Destination c.dst)) tail in
    let next : next_of (32 ∷ spaced words tail) ≡ Some (first, more) = next_space (32 ∷ (first ++ more)) ∙ next_space (first ++ more)
    ∙ next_word first more refl r.word refl in
    ap (λ (l : List ℕ). control_line (codes "ccr") (32 ∷ l)) (control_plain c tail)
    ∙ control_fields (codes "ccr") (32 ∷ spaced words tail) first more (bits_of c) next refl (ends_read c tail ranges.0 ranges.1 spaces)
    ∙ ap (λ (n : ℕ). Ok (says.Plain (Chip (Mov Ccr n)))) (bits_of_fields v c small fields)

pub control_read : (v : ℕ) (tail : List ℕ) → v < 2 ^ 32 → list_all is_space tail ≡ true
    → control_line (codes "ccr") (32 ∷ (plain (control_text v) ++ tail)) ≡ Ok (says.Plain (Chip (Mov Ccr v)))
control_read v tail small spaces = control_by v tail (control_of v) refl small spaces

-- The text has no comment and no line feed.
field_inline : (side : Side) (name n : ℕ) → n ≤ 256 → is_inline name ≡ true → list_all is_inline (field_text (letter side) (name ∷ []) (decimal n)) ≡ true
field_inline Source name n small word = let r = decimal_read n small in and_from _ _ word r.inline
field_inline Destination name n small word = let r = decimal_read n small in and_from _ _ word r.inline

flag_inline : (side : Side) (name n : ℕ) → n ≤ 256 → is_inline name ≡ true → list_all is_inline (flag_text (letter side) (name ∷ []) n) ≡ true
flag_inline side name n small word = grind (arith, field_inline)

increments_inline : (side : Side) (i : Bool) → list_all is_inline (codes " " ++ letter side ++ increment_name i) ≡ true
increments_inline side i = grind (arith)

pub size_le : (s : BeatSize) → 8 * beat_bytes s ≤ 256
size_le s = grind (arith)

end_inline : (side : Side) (e : BurstEnd) → HasEndRanges e → list_all is_inline (end_text side e) ≡ true
end_inline side e h = grind (arith, signals_le, all_append, field_inline, size_le, increments_inline, flag_inline)

inline_by : (v : ℕ) (r : Result Control ControlFault) → control_of v ≡ r → list_all is_inline (control_text_of v r) ≡ true
inline_by v (Err fault) is = (hex_words v).1
inline_by v (Ok c) is =
    let ranges = ranges_of v c (control_of_fields v c is) in
    all_append is_inline (end_text Source c.src) (end_text Destination c.dst) (end_inline Source c.src ranges.0) (end_inline Destination c.dst ranges.1)

pub control_inline : (v : ℕ) → list_all is_inline (control_text v) ≡ true
control_inline v = inline_by v (control_of v) refl

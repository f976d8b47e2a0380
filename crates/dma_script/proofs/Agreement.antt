-- What words make is what their reader reads, one after another.
use Rattle.std.proofs.Common.{arith}
use Rattle.std.proofs.Common.{◌≡◌, ℕ, true, false, if◌then◌else◌, List, [], ◌∷◌, ◌++◌, map, refl, ap, ◌∙◌, sym, Option, Some, None, Result}
use Rattle.std.proofs.Common.{Ok, Err, is_some, unwrap_or, codes}
use Rattle.std.specs.{Option.ok_or, Option.option_map, Option.option_or, Str.bytes_eq}
use Rattle.dma_mem.specs.declared.marks.MarkKind.TheVariants.{Reading, Writing}
use Rattle.dma_script.specs.Arguments.{any_list, any_number, any_segment, behind, bytes, bytes_at, digits, event, fixed, first_reported, kind, list, makes}
use Rattle.dma_script.specs.Arguments.{meaning, most_line_steps, number, number_or_zero, number_within, Operand, operands, or_empty, ranged, segment, Shape}
use Rattle.dma_script.specs.Arguments.{source, Spelled, spelled, steps, unless, where_not, within, words_cause}
use Rattle.dma_script.specs.inner.Reading.{LineRead, begins, ended, event_from, kind_from, read, rest_of, source_from, unread}
use Rattle.dma_script.specs.{Words.bytes_in, Words.list_of, Words.segment_of}
use Rattle.dma_script.specs.{Causes.cause_reported, declared.fault.Cause.Cause}
use Rattle.dma_text.specs.Results.{◌>>=◌}
use Rattle.dma_script.specs.declared.fault.Cause.TheVariants as causes
use Rattle.dma_script.specs.declared.transfer_line.Origin.TheVariants as origins

-- ---- the first of some causes

pub or_none : (test : Option Cause) → option_or test None ≡ test
or_none test = grind (arith)

or_assoc : (a b c : Option Cause) → option_or (option_or a b) c ≡ option_or a (option_or b c)
or_assoc a b c = grind (arith)

-- A value made from a result has the cause of that result.
pub map_reported : {A B : Type 0} (r : Result A Cause) (f : A → B) → cause_reported (r >>= (λ a. Ok (f a))) ≡ cause_reported r
map_reported r f = grind (arith)

-- The cause of a line that was read to its end.
end_reported : {A : Type 0} (cause : Option Cause) (a : A) → cause_reported (unless cause >>= (λ done. Ok a)) ≡ cause
end_reported cause a = grind (arith)

found_reported : {A : Type 0} (found : Option (Spelled A))
    → cause_reported (elim found [ None ↦ Err causes.Words | Some found ↦ unless (words_cause (Some found.operands)) >>= (λ none. Ok found.made) ]) ≡
    words_cause (option_map (λ found. found.operands) found)
found_reported found = grind (arith, end_reported)

-- The cause of words.
pub meaning_reported : {A : Type 0} (shape : Shape A) (words : List (List ℕ)) → cause_reported (meaning shape words) ≡ words_cause (operands shape words)
meaning_reported shape words = found_reported (spelled shape words)

-- ---- words that are read one after another

-- a value that was read, if its line ends there and has no cause
abbrev pub whole : {A : Type 0} → A × LineRead → Result A Cause
whole read = ended read.1 >>= (λ done. Ok read.0)

-- a line of which some words were read, and none is wrong or missing; one of which one is
abbrev so_far : Option Cause → Option Cause → List (List ℕ) → LineRead
so_far form range words = record { left = words; misses = false; form = form; range = range }

abbrev missing : Option Cause → Option Cause → List (List ℕ) → LineRead
missing form range words = record { left = words; misses = true; form = form; range = range }

-- what words make after causes of the words before them
abbrev after : {A : Type 0} → Option Cause → Option Cause → Option (Spelled A) → Result A Cause
after form range None = Err causes.Words
after form range (Some found) =
    unless (option_or (option_or form (first_reported (map (λ operand. operand.form) found.operands)))
    (option_or range (first_reported (map (λ operand. operand.range) found.operands))))
    >>= (λ done. Ok found.made)

-- One more word.
push : {A : Type 0} (f r : Option Cause) (operand : Operand) (found : Option (Spelled A))
    → after (option_or f operand.form) (option_or r operand.range) found ≡ after f r (behind (operand ∷ []) found)
push f r operand found = grind (arith, or_assoc)

-- One more word that has no range.
push_form : {A : Type 0} (f r cause : Option Cause) (found : Option (Spelled A))
    → after (option_or f cause) r found ≡ after f r (behind (record { form = cause; range = None } ∷ []) found)
push_form f r cause found = ap (λ range. after (option_or f cause) range found) (sym (or_none r)) ∙ push f r (record { form = cause; range = None }) found

hex_more : (o : Option (List ℕ)) (r : Result (List ℕ) Cause)
    → cause_reported (ok_or o causes.Hex >>= (λ front. r >>= (λ more. Ok (front ++ more)))) ≡ option_or (where_not (is_some o) causes.Hex) (cause_reported r)
hex_more o r = grind (arith, map_reported)

behind_none : {A : Type 0} (f r : Option Cause) (found : Option (Spelled A)) → after (option_or f None) r found ≡ after f r (behind [] found)
behind_none f r found = grind (arith, or_none)

behind_more : {A : Type 0} (operand : Operand) (more : List Operand) (found : Option (Spelled A))
    → behind (operand ∷ []) (behind more found) ≡ behind (operand ∷ more) found
behind_more operand more found = grind (arith)

-- Hexadecimal words.
push_hex : {A : Type 0} (f r : Option Cause) (words : List (List ℕ)) (found : Option (Spelled A))
    → after (option_or f (cause_reported (bytes_at words))) r found ≡ after f r (behind (map digits words) found)
push_hex f r [] found = behind_none f r found
push_hex f r (word ∷ words) found =
    let cause = where_not (is_some (bytes_in word)) causes.Hex in
    ap (λ form. after (option_or f form) r found) (hex_more (bytes_in word) (bytes_at words))
    ∙ ap (λ form. after form r found) (sym (or_assoc f cause (cause_reported (bytes_at words))))
    ∙ push_hex (option_or f cause) r words found
    ∙ push_form f r cause (behind (map digits words) found)
    ∙ ap (after f r) (behind_more (digits word) (map digits words) found)

-- what is read then
abbrev then_read : {A B : Type 0} → (B → Shape A) → B × LineRead → Result A Cause
then_read next found = whole (read (next found.0) found.1)

-- A line with a missing or wrong word stays one.
wrong : {A : Type 0} (shape : Shape A) (f r : Option Cause) (words : List (List ℕ)) → whole (read shape (missing f r words)) ≡ Err causes.Words
wrong (makes a) f r words = refl
wrong (number next) f r words = wrong (next _) _ _ _
wrong (within low high cause next) f r words = wrong (next _) _ _ _
wrong (segment next) f r words = wrong (next _) _ _ _
wrong (list next) f r words = wrong (next _) _ _ _
wrong (steps next) f r [] = wrong (next 1) f r []
wrong (steps next) f r (word ∷ words) = wrong (next _) _ _ _
wrong (bytes next) f r words = wrong (next _) _ _ _
wrong (fixed text rest) f r words = grind (arith, wrong rest f r (rest_of words), wrong rest f r words)
wrong (event name next) f r words =
    elim (begins name words) as (λ is. then_read next (event_from is (missing f r words)) ≡ Err causes.Words)
    [ true ↦ wrong (next _) _ _ _ | false ↦ wrong (next None) f r words ]
wrong (source next) f r words =
    elim (begins (codes "fill") words) as (λ is. then_read next (source_from is (missing f r words)) ≡ Err causes.Words)
    [ true ↦ wrong (next _) _ _ _ | false ↦ wrong (next _) _ _ _ ]
wrong (kind next) f r words =
    elim (begins (codes "read") words) as (λ reads. then_read next (kind_from reads (begins (codes "write") words) (missing f r words)) ≡ Err causes.Words) [
      | true ↦ wrong (next Reading) f r _
      | false ↦ elim (begins (codes "write") words) as (λ writes. then_read next (kind_from false writes (missing f r words)) ≡ Err causes.Words)
          [ true ↦ wrong (next Writing) f r _ | false ↦ wrong (next Writing) f r words ]
    ]

-- What is read of words, after those before them, is what they make.
agrees : {A : Type 0} (shape : Shape A) (f r : Option Cause) (words : List (List ℕ)) → whole (read shape (so_far f r words)) ≡ after f r (spelled shape words)
agrees (makes a) f r [] = rw (or_none f, or_none r) refl
agrees (makes a) f r (word ∷ words) = refl
agrees (number next) f r [] = wrong (next _) _ _ _
agrees (number next) f r (word ∷ words) = agrees (next (number_or_zero word)) _ _ words
    ∙ push_form f r (any_number word).form (spelled (next (number_or_zero word)) words)
agrees (within low high cause next) f r [] = wrong (next _) _ _ _
agrees (within low high cause next) f r (word ∷ words) = agrees (next (number_within low high word)) _ _ words
    ∙ push f r (ranged low high cause word) (spelled (next (number_within low high word)) words)
agrees (segment next) f r [] = wrong (next _) _ _ _
agrees (segment next) f r (word ∷ words) = agrees (next (unwrap_or (segment_of word) (record { addr = 0; len = 0 }))) _ _ words
    ∙ push_form f r (any_segment word).form _
agrees (list next) f r [] = wrong (next _) _ _ _
agrees (list next) f r (word ∷ words) = agrees (next (unwrap_or (list_of word) [])) _ _ words ∙ push_form f r (any_list word).form _
agrees (steps next) f r [] = agrees (next 1) f r []
agrees (steps next) f r (word ∷ words) = agrees (next (number_within 1 most_line_steps word)) _ _ words
    ∙ push f r (ranged 1 most_line_steps causes.Range word) _
agrees (bytes next) f r [] = wrong (next _) _ _ _
agrees (bytes next) f r (word ∷ words) = agrees (next (or_empty (bytes_at (word ∷ words)))) _ _ [] ∙ push_hex f r (word ∷ words) _
agrees (fixed text rest) f r [] = wrong rest f r []
agrees (fixed text rest) f r (word ∷ words) =
    elim (bytes_eq word text) as
    (λ is. whole (read rest (if is then so_far f r words else missing f r (word ∷ words))) ≡ after f r (if is then spelled rest words else None))
    [ true ↦ agrees rest f r words | false ↦ wrong rest f r (word ∷ words) ]
agrees (event name next) f r [] = agrees (next None) f r []
agrees (event name next) f r (word ∷ []) =
    elim (bytes_eq word name) as
    (λ is. then_read next (event_from is (so_far f r (word ∷ []))) ≡ after f r (if is then None else spelled (next None) (word ∷ []))) [
      | true ↦ wrong (next _) _ _ _
      | false ↦ agrees (next None) f r (word ∷ [])
    ]
agrees (event name next) f r (word ∷ e ∷ words) =
    let number = number_within 0 255 e in
    elim (bytes_eq word name) as
    (λ is. then_read next (event_from is (so_far f r (word ∷ e ∷ words))) ≡ after f r
    (if is then behind (ranged 0 255 causes.Range e ∷ []) (spelled (next (Some number)) words) else spelled (next None) (word ∷ e ∷ words))) [
      | true ↦ agrees (next (Some number)) _ _ words ∙ push f r (ranged 0 255 causes.Range e) _
      | false ↦ agrees (next None) f r (word ∷ e ∷ words)
    ]
agrees (source next) f r [] = wrong (next _) _ _ _
agrees (source next) f r (word ∷ []) =
    let places = unwrap_or (list_of word) [] in
    elim (bytes_eq word (codes "fill")) as
    (λ is. then_read next (source_from is (so_far f r (word ∷ []))) ≡ after f r
    (if is then None else behind (any_list word ∷ []) (spelled (next (origins.List places)) []))) [
      | true ↦ wrong (next _) _ _ _
      | false ↦ agrees (next (origins.List places)) _ _ [] ∙ push_form f r (any_list word).form _
    ]
agrees (source next) f r (word ∷ addr ∷ words) =
    let places = unwrap_or (list_of word) [] in
    let place = number_or_zero addr in
    elim (bytes_eq word (codes "fill")) as
    (λ is. then_read next (source_from is (so_far f r (word ∷ addr ∷ words))) ≡ after f r
    (if is then behind (any_number addr ∷ []) (spelled (next (origins.Place place)) words) else behind (any_list word ∷ [])
    (spelled (next (origins.List places)) (addr ∷ words)))) [
      | true ↦ agrees (next (origins.Place place)) _ _ words ∙ push_form f r (any_number addr).form _
      | false ↦ agrees (next (origins.List places)) _ _ (addr ∷ words) ∙ push_form f r (any_list word).form _
    ]
agrees (kind next) f r [] = wrong (next Writing) f r []
agrees (kind next) f r (word ∷ words) =
    let is_write = bytes_eq word (codes "write") in
    let at = so_far f r (word ∷ words) in
    elim (bytes_eq word (codes "read")) as
    (λ reads. then_read next (kind_from reads is_write at) ≡ after f r
    (if reads then spelled (next Reading) words else (if is_write then spelled (next Writing) words else None))) [
      | true ↦ agrees (next Reading) f r words
      | false ↦ elim is_write as (λ writes. then_read next (kind_from false writes at) ≡ after f r (if writes then spelled (next Writing) words else None))
          [ true ↦ agrees (next Writing) f r words | false ↦ wrong (next Writing) f r (word ∷ words) ]
    ]

at_once : {A : Type 0} (found : Option (Spelled A))
    → after None None found ≡ elim found [ None ↦ Err causes.Words | Some found ↦ unless (words_cause (Some found.operands)) >>= (λ none. Ok found.made) ]
at_once found = grind (arith)

-- ---- lines

-- What is read of words is what they make.
pub words_agree : {A : Type 0} (shape : Shape A) (words : List (List ℕ)) → whole (read shape (unread words)) ≡ meaning shape words
words_agree shape words = agrees shape None None words ∙ at_once (spelled shape words)

-- Numbers before a separator, and the segments of a list.
use Rattle.std.proofs.Common.{◌≡◌, ◌∙◌, ℕ, ◌<◌, ◌≤◌, ◌+◌, ◌*◌, ◌^◌, ◌||◌, inl, inr, not, nat_lt, eqb, Bool, true, false, List, [], ◌∷◌, ◌++◌, length, map, drop}
use Rattle.std.proofs.Common.{get_or, refl, sym, ap, subst, arith, Option, Some, None, cond, nat_eq, eq-eqb, unwrap_or, Bor}
use Rattle.std.specs.List.{starts_with, slice_split}
use Rattle.std.specs.{Char.digit_value, Str.Parse.digits_value_after, Option.option_map, Option.option_and_then}
use Rattle.std.proofs.lemmas.Bool.{and_right, cases_lt, ne_eqb, eqb-true, false≢true, lt-ltb, le-ltb, and_parts}
use Rattle.std.proofs.{lemmas.List.append_assoc, lemmas.List.at_drop_more, lemmas.List.at_drop_all, Math.Nat.le-mul_of_pos_right}
use Rattle.dma_mem.specs.declared.segment.Segment.{Segment}
use Rattle.dma_script.specs.Words.{behind, each_of, front, list_of, number_before, number_in, number_of, segment_of}
use Rattle.dma_script.specs.inner.Digits.{digits_before, number_after, segment_before}

-- ---- digits, one after another

full : (some : Bool) (b : ℕ) (ds : List ℕ) → (some || not (eqb (length (b ∷ ds)) 0)) ≡ true
full some b ds = grind (arith, ne_eqb)

-- One more digit, and a byte that is none.
one_more : (base : ℕ) (some : Bool) (value b : ℕ) (ds : List ℕ) → digit_value b < base
    → number_after some value base (b ∷ ds) ≡ number_after true (value * base + digit_value b) base ds
one_more base some value b ds digit = rw (full some b ds, lt-ltb (digit_value b) base digit) refl

no_digit : (base : ℕ) (some : Bool) (value b : ℕ) (ds : List ℕ) → base ≤ digit_value b → number_after some value base (b ∷ ds) ≡ None
no_digit base some value b ds wrong = rw (full some b ds, le-ltb (digit_value b) base wrong) refl

-- A digit is no separator.
no_stop : (stop base b : ℕ) → digit_value stop ≡ 36 → base ≤ 16 → digit_value b < base → eqb b stop ≡ false
no_stop stop base b other small digit = grind (arith, ne_eqb)

digit_more : (base stop : ℕ) (some : Bool) (value b : ℕ) (ds : List ℕ) → digit_value stop ≡ 36 → base ≤ 16 → digit_value b < base
    → digits_before base stop some value (b ∷ ds) ≡ digits_before base stop true (value * base + digit_value b) ds
digit_more base stop some value b ds other small digit =
    rw (no_stop stop base b other small digit, one_more base some value b (front stop ds) digit) refl

-- Too large a number stays one.
grows : (base value : ℕ) (ds : List ℕ) → 1 ≤ base → value ≤ digits_value_after base value ds
grows base value [] one = omega arith
grows base value (b ∷ ds) one = omega (arith, le-mul_of_pos_right {m = base} value one, grows base (value * base + digit_value b) ds one)

too_large : (base value : ℕ) (ds : List ℕ) → 1 ≤ base → 2 ^ 32 ≤ value → number_after true value base ds ≡ None
too_large base value ds one big = grind (arith, and_right, nat_lt, le-ltb, grows)

-- What the digits from a place on spell, given the number of those before, and what follows them.
abbrev pub digits_at : ℕ → ℕ → List ℕ → ℕ → ℕ → Option (ℕ × Option (List ℕ))
digits_at base stop ds i value = digits_before base stop (nat_lt 0 i) value (drop i ds)

pub more_at : (base stop : ℕ) (ds : List ℕ) (i value digit next : ℕ) → digit_value stop ≡ 36 → base ≤ 16 → i < length ds
    → digit ≡ digit_value (get_or ds i 0) → digit < base → next ≡ value * base + digit
    → digits_at base stop ds (i + 1) next ≡ digits_at base stop ds i value
more_at base stop ds i value digit next other small within is fits e =
    rw (lt-ltb 0 (i + 1) (omega arith), e, is)
    (sym (at_drop_more (digits_before base stop (nat_lt 0 i) value) ds i 0 within ∙ digit_more base stop (nat_lt 0 i) value (get_or ds i 0)
    (drop (i + 1) ds) other small (subst (λ d. d < base) is fits)))

pub over_at : (base stop : ℕ) (ds : List ℕ) (i value digit : ℕ) → digit_value stop ≡ 36 → 1 ≤ base → base ≤ 16 → i < length ds
    → digit ≡ digit_value (get_or ds i 0) → digit < base → 2 ^ 32 ≤ value * base + digit → digits_at base stop ds i value ≡ None
over_at base stop ds i value digit other one small within is fits big =
    sym (more_at base stop ds i value digit (value * base + digit) other small within is fits refl)
    ∙ rw (lt-ltb 0 (i + 1) (omega arith), too_large base (value * base + digit) (front stop (drop (i + 1) ds)) one big) refl

-- The separator behind some digits, or behind none, another byte, and the end of the digits.
pub stop_at : (base stop : ℕ) (ds : List ℕ) (i value : ℕ) → 0 < i → i < length ds → get_or ds i 0 ≡ stop → value < 2 ^ 32
    → digits_at base stop ds i value ≡ Some (value, Some (drop (i + 1) ds))
stop_at base stop ds i value some within here small =
    at_drop_more (digits_before base stop (nat_lt 0 i) value) ds i 0 within
    ∙ rw (lt-ltb 0 i some, eq-eqb (get_or ds i 0) stop here, lt-ltb value (2 ^ 32) small) refl

pub stop_first : (base stop : ℕ) (ds : List ℕ) (i value : ℕ) → i ≡ 0 → i < length ds → get_or ds i 0 ≡ stop → digits_at base stop ds i value ≡ None
stop_first base stop ds i value first within here =
    at_drop_more (digits_before base stop (nat_lt 0 i) value) ds i 0 within
    ∙ rw (first, eq-eqb (get_or ds 0 0) stop (subst (λ k. get_or ds k 0 ≡ stop) first here)) refl

pub other_at : (base stop : ℕ) (ds : List ℕ) (i value : ℕ) → i < length ds → (get_or ds i 0 ≡ stop → ⊥) → base ≤ digit_value (get_or ds i 0)
    → digits_at base stop ds i value ≡ None
other_at base stop ds i value within other wrong =
    at_drop_more (digits_before base stop (nat_lt 0 i) value) ds i 0 within
    ∙ rw (ne_eqb (get_or ds i 0) stop other, no_digit base (nat_lt 0 i) value (get_or ds i 0) (front stop (drop (i + 1) ds)) wrong) refl

pub end_at : (base stop : ℕ) (ds : List ℕ) (i value : ℕ) → 0 < i → length ds ≤ i → value < 2 ^ 32 → digits_at base stop ds i value ≡ Some (value, None)
end_at base stop ds i value some all small =
    at_drop_all (digits_before base stop (nat_lt 0 i) value) ds i all ∙ rw (lt-ltb 0 i some, lt-ltb value (2 ^ 32) small) refl

-- ---- the number before the first separator

-- No word begins with 0x if its front doesn't.
prefix_no : (stop : ℕ) (word : List ℕ) → starts_with nat_eq word (48 ∷ 120 ∷ []) ≡ false → starts_with nat_eq (front stop word) (48 ∷ 120 ∷ []) ≡ false
prefix_no stop word h = grind (arith, nat_eq, and_right)

differs : (stop c b : ℕ) → digit_value stop ≡ 36 → digit_value c < 36 → eqb c b ≡ true → eqb b stop ≡ false
differs stop c b other digit is = grind (arith, ne_eqb, eqb-true)

-- 0x has no separator.
no_prefix : (stop a b : ℕ) (ds : List ℕ) → digit_value stop ≡ 36 → starts_with nat_eq (a ∷ b ∷ ds) (48 ∷ 120 ∷ []) ≡ true
    → (eqb a stop ≡ false) × (eqb b stop ≡ false)
no_prefix stop a b ds other hex =
    let first = and_parts (eqb 48 a) _ hex in
    let second = and_parts (eqb 120 b) true first.1 in
    (differs stop 48 a other (omega arith) first.0, differs stop 120 b other (omega arith) second.0)

hex_before : (stop : ℕ) (word : List ℕ) → digit_value stop ≡ 36 → starts_with nat_eq word (48 ∷ 120 ∷ []) ≡ true
    → number_before stop word ≡ digits_before 16 stop false 0 (drop 2 word)
hex_before stop [] other hex = absurd (false≢true hex)
hex_before stop (a ∷ []) other hex = absurd (false≢true (sym (and_right (eqb 48 a) false refl) ∙ hex))
hex_before stop (a ∷ b ∷ ds) other hex =
    let first = and_parts (eqb 48 a) _ hex in
    let second = and_parts (eqb 120 b) true first.1 in
    rw (differs stop 48 a other (omega arith) first.0, differs stop 120 b other (omega arith) second.0, hex) refl

-- It is read by its base.
pub number_is : (stop : ℕ) (word : List ℕ) → digit_value stop ≡ 36
    → number_before stop word ≡ cond (starts_with nat_eq word (48 ∷ 120 ∷ []))
    (digits_before 16 stop false 0 (drop 2 word)) (digits_before 10 stop false 0 word)
number_is stop word other = grind (arith, nat_eq, hex_before, prefix_no)

-- The number of a word that has no separator.
abbrev pub alone : Option (ℕ × Option (List ℕ)) → Option ℕ
alone read = option_and_then (λ r. elim r.1 as (λ _. Option ℕ) [ None ↦ Some r.0 | Some rest ↦ None ]) read

stops : (found : Option ℕ) (rest : List ℕ) → alone (option_map (λ n. (n, Some rest)) found) ≡ None
stops found rest = grind (arith)

digits_alone : (base stop : ℕ) (some : Bool) (value : ℕ) (ds : List ℕ) → digit_value stop ≡ 36 → base ≤ 16
    → number_after some value base ds ≡ alone (digits_before base stop some value ds)
digits_alone base stop some value [] other small = grind arith
digits_alone base stop some value (b ∷ ds) other small = elim (cases_lt (digit_value b) base) [
  | inl digit ↦ rw (digit_more base stop some value b ds other small digit, one_more base some value b ds digit)
      (digits_alone base stop true (value * base + digit_value b) ds other small)
  | inr wrong ↦ no_digit base some value b ds wrong ∙ elim (eqb b stop) as
      (λ e. None ≡ alone (option_map (λ n. (n, cond e (Some ds) (behind stop ds))) (number_after some value base (cond e [] (b ∷ front stop ds))))) [
        | true ↦ sym (stops (number_after some value base []) ds)
        | false ↦ rw (no_digit base some value b (front stop ds) wrong) refl
      ]
]

pub number_alone : (stop : ℕ) (w : List ℕ) → digit_value stop ≡ 36 → number_of w ≡ alone (number_before stop w)
number_alone stop w other =
    elim (starts_with nat_eq w (48 ∷ 120 ∷ [])) as
    (λ e. cond e (number_in 16 (drop 2 w)) (number_in 10 w) ≡ alone (cond e (digits_before 16 stop false 0 (drop 2 w)) (digits_before 10 stop false 0 w))) [
      | true ↦ digits_alone 16 stop false 0 (drop 2 w) other (omega arith)
      | false ↦ digits_alone 10 stop false 0 w other (omega arith)
    ] ∙ ap alone (sym (number_is stop w other))

pub number_read : (w : List ℕ) (read : Option (ℕ × Option (List ℕ))) → read ≡ number_before 43 w → alone read ≡ number_of w
number_read w read e = ap alone e ∙ sym (number_alone 43 w refl)

-- A number has no separator.
number_none : (stop : ℕ) (w : List ℕ) (n : ℕ) → digit_value stop ≡ 36 → number_of w ≡ Some n → behind stop w ≡ None
number_none stop w n other is = elim (behind stop w) as (λ o. number_of w ≡ alone (option_map (λ n. (n, o)) (number_of (front stop w))) → o ≡ None) [
  | None ↦ λ _. refl
  | Some rest ↦ λ e. absurd (let bad : Some n ≡ None = sym is ∙ e ∙ stops (number_of (front stop w)) rest in cc)
] (number_alone stop w other)

-- ---- lists

-- A segment by the number before the first plus.
abbrev from_number : Option (ℕ × Option (List ℕ)) → Option Segment
from_number read =
    option_and_then (λ r. option_and_then (λ rest. option_map (λ len. record { addr = r.0; len = len }) (number_of rest)) r.1) read

-- A front without a comma is that of the part before the first comma.
record Nested (w : List ℕ) : Type 0 where
  front_is : front 43 (front 44 w) ≡ front 43 w
  behind_is : behind 43 (front 44 w) ≡ option_map (front 44) (behind 43 w)
  rest_is : behind 44 w ≡ option_and_then (behind 44) (behind 43 w)

nested : (w : List ℕ) → behind 44 (front 43 w) ≡ None → Nested w
nested [] none = record { front_is = refl; behind_is = refl; rest_is = refl }
nested (b ∷ w) none = elim (eqb b 43) as (λ t. eqb b 43 ≡ t → behind 44 (cond t [] (b ∷ front 43 w)) ≡ None → Nested (b ∷ w)) [
  | true ↦ λ t _.
      let comma : eqb b 44 ≡ false = rw (eqb-true b 43 t) refl in
      record { front_is = rw (comma, t) refl; behind_is = rw (comma, t) refl; rest_is = rw (comma, t) refl }
  | false ↦ λ t none. elim (eqb b 44) as (λ u. eqb b 44 ≡ u → cond u (Some (front 43 w)) (behind 44 (front 43 w)) ≡ None → Nested (b ∷ w)) [
    | true ↦ λ u bad. absurd cc
    | false ↦ λ u none.
        let rest = nested w none in
        record { front_is = rw (u, t) (ap (λ l. b ∷ l) rest.front_is); behind_is = rw (u, t) rest.behind_is; rest_is = rw (u, t) rest.rest_is }
  ] refl none
] refl none

-- The first plus before the first comma is the first plus.
inner : (w rest : List ℕ) → behind 43 (front 44 w) ≡ Some rest → front 43 (front 44 w) ≡ front 43 w
inner [] rest e = refl
inner (b ∷ w) rest e = elim (eqb b 44) as (λ u. behind 43 (cond u [] (b ∷ front 44 w)) ≡ Some rest → front 43 (cond u [] (b ∷ front 44 w)) ≡ front 43 (b ∷ w)) [
  | true ↦ λ bad. absurd cc
  | false ↦ λ e. elim (eqb b 43) as
      (λ t. cond t (Some (front 44 w)) (behind 43 (front 44 w)) ≡ Some rest → cond t [] (b ∷ front 43 (front 44 w)) ≡ cond t [] (b ∷ front 43 w)) [
        | true ↦ λ e. refl
        | false ↦ λ e. ap (λ l. b ∷ l) (inner w rest e)
      ] e
] e

no_segment : (w : List ℕ) → number_of (front 43 w) ≡ None → segment_of (front 44 w) ≡ None
no_segment w none =
    elim (behind 43 (front 44 w)) as (λ o. behind 43 (front 44 w) ≡ o → from_number (option_map (λ n. (n, o)) (number_of (front 43 (front 44 w)))) ≡ None) [
      | None ↦ λ e. elim (number_of (front 43 (front 44 w))) as (λ n. from_number (option_map (λ n. (n, None)) n) ≡ None) [ None ↦ refl | Some n ↦ refl ]
      | Some rest ↦ λ e. rw (ap number_of (inner w rest e) ∙ none) refl
    ] refl

-- A segment of a list by the numbers before the first plus and the first comma after it.
abbrev from_parts : Option (ℕ × Option (List ℕ)) → Option (Segment × Option (List ℕ))
from_parts read =
    option_and_then (λ r. option_and_then (λ rest. option_map (λ l. (record { addr = r.0; len = l.0 }, l.1)) (number_before 44 rest)) r.1) read

rest_parts : (v : ℕ) (rest : List ℕ) → from_parts (Some (v, Some rest)) ≡ option_map (λ s. (s, behind 44 rest)) (from_number (Some (v, Some (front 44 rest))))
rest_parts v rest = grind arith

-- They are the segment before the first comma, and what follows the comma.
parts_are : (w : List ℕ) → segment_before w ≡ option_map (λ s. (s, behind 44 w)) (segment_of (front 44 w))
parts_are w = elim (number_of (front 43 w)) as
    (λ o. number_of (front 43 w) ≡ o → from_parts (option_map (λ n. (n, behind 43 w)) o) ≡ option_map (λ s. (s, behind 44 w)) (segment_of (front 44 w))) [
      | None ↦ λ e. rw (no_segment w e) refl
      | Some v ↦ λ e.
          let at = nested w (number_none 44 (front 43 w) v refl e) in
          let own : segment_of (front 44 w) ≡ from_number (Some (v, option_map (front 44) (behind 43 w))) = rw (at.front_is, at.behind_is, e) refl in
          rw (own, at.rest_is) (elim (behind 43 w) as
          (λ o. from_parts (Some (v, o)) ≡ option_map (λ s. (s, option_and_then (behind 44) o)) (from_number (Some (v, option_map (front 44) o)))) [
            | None ↦ refl
            | Some rest ↦ rest_parts v rest
          ])
    ] refl

-- The parts of a list after its first.
abbrev parts_behind : Option (List ℕ) → List (List ℕ)
parts_behind None = []
parts_behind (Some rest) = slice_split (λ b. eqb b 44) rest

split_first : (w : List ℕ) → slice_split (λ b. eqb b 44) w ≡ front 44 w ∷ parts_behind (behind 44 w)
split_first [] = refl
split_first (b ∷ w) = grind (arith, split_first w)

-- The segments of a list from what its first part is and what follows.
abbrev pub segments_from : Option (Segment × Option (List ℕ)) → Option (List Segment)
segments_from None = None
segments_from (Some (segment, None)) = Some (segment ∷ [])
segments_from (Some (segment, Some rest)) = option_map (λ more. segment ∷ more) (list_of rest)

pub list_first : (w : List ℕ) → list_of w ≡ segments_from (segment_before w)
list_first w = rw (parts_are w) (ap (λ parts. each_of (map segment_of parts)) (split_first w)
    ∙ elim (segment_of (front 44 w))
    as (λ o. each_of (o ∷ map segment_of (parts_behind (behind 44 w))) ≡ segments_from (option_map (λ s. (s, behind 44 w)) o)) [
      | None ↦ refl
      | Some segment ↦ elim (behind 44 w) as (λ o. each_of (Some segment ∷ map segment_of (parts_behind o)) ≡ segments_from (Some (segment, o)))
          [ None ↦ refl | Some rest ↦ refl ]
    ])

behind_shorter : (stop : ℕ) (w rest : List ℕ) → behind stop w ≡ Some rest → length rest < length w
behind_shorter stop [] rest e = absurd cc
behind_shorter stop (b ∷ w) rest e = elim (eqb b stop) as (λ t. cond t (Some w) (behind stop w) ≡ Some rest → length rest < length (b ∷ w)) [
  | true ↦ λ e. let same : w ≡ rest = cc in omega (arith, ap length same)
  | false ↦ λ e. omega (arith, behind_shorter stop w rest e)
] e

behind_of : (o : Option Segment) (r : Option (List ℕ)) (segment : Segment) (rest : List ℕ)
    → option_map {U = Segment × Option (List ℕ)} (λ s. (s, r)) o ≡ Some (segment, Some rest) → r ≡ Some rest
behind_of o r segment rest h = grind (arith, unwrap_or)

-- What follows a comma is shorter.
pub shorter : (w rest : List ℕ) (segment : Segment) → segment_before w ≡ Some (segment, Some rest) → length rest < length w
shorter w rest segment e =
    behind_shorter 44 w rest (behind_of (segment_of (front 44 w)) (behind 44 w) segment rest (sym (parts_are w) ∙ e))

-- The segments that were read, and those of what is left.
abbrev pub with_rest : List Segment → Option (List ℕ) → Option (List Segment)
with_rest list None = Some list
with_rest list (Some rest) = option_map (λ more. list ++ more) (list_of rest)

pub with_all : (word : List ℕ) → list_of word ≡ with_rest [] (Some word)
with_all word = elim (list_of word) as (λ o. o ≡ option_map (λ more. more) o) [ None ↦ refl | Some list ↦ refl ]

-- What is left begins with no segment.
pub segment_none : (list : List Segment) (rest : List ℕ) → segment_before rest ≡ None → with_rest list (Some rest) ≡ None
segment_none list rest e = rw (list_first rest, e) refl

-- One more segment.
pub segment_more : (list : List Segment) (rest : List ℕ) (segment : Segment) (after : Option (List ℕ)) → segment_before rest ≡ Some (segment, after)
    → with_rest list (Some rest) ≡ with_rest (list ++ segment ∷ []) after
segment_more list rest segment after e = grind (arith, list_first, append_assoc)

-- How much is left to read: nothing, or a text with at least one part.
abbrev pub left_of : Option (Bor (List ℕ)) → ℕ
left_of None = 0
left_of (Some rest) = length rest.now + 1

pub left_less : (w : List ℕ) (segment : Segment) (after : Option (Bor (List ℕ))) → segment_before w ≡ Some (segment, option_map (λ rest. rest.now) after)
    → left_of after < length w + 1
left_less w segment None e = omega arith
left_less w segment (Some rest) e = omega (arith, shorter w rest.now segment e)

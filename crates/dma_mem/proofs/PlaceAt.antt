-- The place at a position of a list of segments.
use Rattle.std.proofs.Common.{◌≡◌, ℕ, ◌+◌, ◌-◌, ◌<◌, ◌≤◌, List, ◌++◌, length, get_or, drop, Some, refl, ap, sym, ◌∙◌, arith, inl, inr}
use Rattle.std.specs.List.{range_with_len, slice_get}
use Rattle.std.proofs.lemmas.List.{length-append, get_or_append_left, get_or-append_right, at_drop_more}
use Rattle.std.proofs.{lemmas.Bool.cases_lt, lemmas.List.FromFn.length-range_with_len, lemmas.List.FromFn.get_or-range_with_len, lemmas.Option.slice_get-get_or}
use Rattle.std.proofs.{lemmas.Option.slice_get_past}
use Rattle.dma_mem.specs.{declared.segment.Segment.Segment, Places.places}

pub slice_get_append_left : (xs ys : List ℕ) (p : ℕ) → p < length xs → slice_get (xs ++ ys) p ≡ slice_get xs p
slice_get_append_left xs ys p h =
    slice_get-get_or (xs ++ ys) p 0 (omega (arith, length-append xs ys))
    ∙ ap Some (get_or_append_left xs ys 0 p h)
    ∙ sym (slice_get-get_or xs p 0 h)

pub slice_get_append_right : (xs ys : List ℕ) (p : ℕ) → length xs ≤ p → slice_get (xs ++ ys) p ≡ slice_get ys (p - length xs)
slice_get_append_right xs ys p h = elim (cases_lt p (length (xs ++ ys))) [
  | inl within ↦
      slice_get-get_or (xs ++ ys) p 0 within
      ∙ ap Some (get_or-append_right xs ys (length xs) p 0 refl h)
      ∙ sym (slice_get-get_or ys (p - length xs) 0 (omega (arith, length-append xs ys)))
  | inr past ↦
      slice_get_past (xs ++ ys) p past
      ∙ sym (slice_get_past ys (p - length xs) (omega (arith, length-append xs ys)))
]

-- a position within the segment at i
pub place_within : (list : List Segment) (i p : ℕ) (d : Segment) → i < length list → p < (get_or list i d).len
    → slice_get (places (drop i list)) p ≡ Some ((get_or list i d).addr + p)
place_within list i p d h l =
    let s = get_or list i d in
    let range = range_with_len s.addr s.len in
    let long : p < length range = omega (arith, length-range_with_len s.addr s.len) in
    at_drop_more (λ rest. slice_get (places rest) p) list i d h
    ∙ slice_get_append_left range (places (drop (i + 1) list)) p long
    ∙ slice_get-get_or range p 0 long
    ∙ ap Some (get_or-range_with_len s.addr s.len p 0 l)

-- a position past it
pub place_past : (list : List Segment) (i p : ℕ) (d : Segment) → i < length list → (get_or list i d).len ≤ p
    → slice_get (places (drop i list)) p ≡ slice_get (places (drop (i + 1) list)) (p - (get_or list i d).len)
place_past list i p d h l =
    let s = get_or list i d in
    let range = range_with_len s.addr s.len in
    let long = length-range_with_len s.addr s.len in
    at_drop_more (λ rest. slice_get (places rest) p) list i d h
    ∙ slice_get_append_right range (places (drop (i + 1) list)) p (omega arith)
    ∙ ap (λ n. slice_get (places (drop (i + 1) list)) (p - n)) long

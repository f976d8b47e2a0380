-- What an image is after bytes were put into it.
use Rattle.std.proofs.Common.{◌≡◌, ℕ, ◌<◌, List, [], ◌∷◌, ◌++◌, length, get_or, map, Option, Some, None, Bool, refl, ap, sym, ◌∙◌, arith}
use Rattle.std.proofs.Common.{inl, inr, ◌⊎◌}
use Rattle.std.specs.{Prelude.unwrap_or, Prelude.nat_eq, Prelude.IsSome, List.Contains, Map.lookup, Map.keys_of, Option.option_or}
use Rattle.std.proofs.{lemmas.Bool.eqb-true, lemmas.Bool.cases_lt, lemmas.List.ext_get_or, lemmas.List.get_or_past, lemmas.List.Elements.Contains-append_right}
use Rattle.std.proofs.{lemmas.List.FromFn.length-map-range_with_len, lemmas.List.FromFn.get_or-map-range_with_len, lemmas.Map.Views.Contains-keys_from_lookup}
use Rattle.dma_mem.specs.{Image.put, Image.carried, Places.Apart}

-- ---- look-ups

pub lookup_append : {X : Type 0} (test : ℕ → Bool) (xs ys : List (ℕ × X)) → lookup test (xs ++ ys) ≡ option_or (lookup test xs) (lookup test ys)
lookup_append test [] ys = refl
lookup_append test (x ∷ xs) ys = grind (arith, lookup_append test xs ys)

-- nothing is found at an address, or it is a key
lookup_cases : {X : Type 0} (es : List (ℕ × X)) (a : ℕ) → (lookup (nat_eq a) es ≡ None) ⊎ Contains (keys_of es) a
lookup_cases {X} es a =
    let by : (o : Option X) → (IsSome o → Contains (keys_of es) a) → (o ≡ None) ⊎ Contains (keys_of es) a =
    λ o. elim o as (λ o. (IsSome o → Contains (keys_of es) a) → (o ≡ None) ⊎ Contains (keys_of es) a)
    [ None ↦ λ _. inl refl | Some x ↦ λ f. inr (f refl) ] in
    by (lookup (nat_eq a) es) (Contains-keys_from_lookup eqb-true a es)

lookup_none : {X : Type 0} (es : List (ℕ × X)) (a : ℕ) → ¬ Contains (keys_of es) a → lookup (nat_eq a) es ≡ None
lookup_none es a h = elim (lookup_cases es a) [ inl none ↦ none | inr key ↦ absurd (h key) ]

-- an address is found in at most one of two lists whose keys are apart
lookup_apart : {X : Type 0} (xs ys : List (ℕ × X)) (a : ℕ) → Apart (keys_of xs) (keys_of ys) → (lookup (nat_eq a) xs ≡ None) ⊎ (lookup (nat_eq a) ys ≡ None)
lookup_apart xs ys a h = elim (lookup_cases xs a) [ inl none ↦ inl none | inr key ↦ inr (lookup_none ys a (h a key)) ]

-- ---- what is put

pub length_put : (image : List ℕ) (es : List (ℕ × ℕ)) → length (put image es) ≡ length image
unfolding put
length_put image es = length-map-range_with_len _ 0 (length image)

pub get_or_put : (image : List ℕ) (es : List (ℕ × ℕ)) (a : ℕ) → a < length image
    → get_or (put image es) a 0 ≡ unwrap_or (lookup (nat_eq a) es) (get_or image a 0)
unfolding put
get_or_put image es a h = get_or-map-range_with_len _ 0 (length image) a a 0 h (omega arith)

-- what is put is known by its look-ups
pub put_same : (image : List ℕ) (xs ys : List (ℕ × ℕ)) → ((a : ℕ) → lookup (nat_eq a) xs ≡ lookup (nat_eq a) ys) → put image xs ≡ put image ys
put_same image xs ys h =
    ext_get_or 0 _ _ (length_put image xs ∙ sym (length_put image ys)) (λ a l.
    let m : a < length image = omega (arith, length_put image xs) in
    get_or_put image xs a m ∙ ap (λ o. unwrap_or o (get_or image a 0)) (h a) ∙ sym (get_or_put image ys a m))

-- of what is put twice, the later counts
pub put_put : (image : List ℕ) (xs ys : List (ℕ × ℕ)) → put (put image xs) ys ≡ put image (ys ++ xs)
put_put image xs ys =
    ext_get_or 0 _ _ (simp length_put) (λ a l.
    let m : a < length image = omega (arith, length_put (put image xs) ys, length_put image xs) in
    let n : a < length (put image xs) = omega (arith, length_put image xs) in
    let either : (o p : Option ℕ) (d : ℕ) → unwrap_or o (unwrap_or p d) ≡ unwrap_or (option_or o p) d =
    λ o p d. elim o as (λ o. unwrap_or o (unwrap_or p d) ≡ unwrap_or (option_or o p) d) [ None ↦ refl | Some x ↦ refl ] in
    get_or_put (put image xs) ys a n
    ∙ ap (unwrap_or (lookup (nat_eq a) ys)) (get_or_put image xs a m)
    ∙ either (lookup (nat_eq a) ys) (lookup (nat_eq a) xs) (get_or image a 0)
    ∙ ap (λ o. unwrap_or o (get_or image a 0)) (sym (lookup_append (nat_eq a) ys xs))
    ∙ sym (get_or_put image (ys ++ xs) a m))

-- the order of two parts that share no address doesn't matter
pub put_exchange : (image : List ℕ) (xs ys zs : List (ℕ × ℕ)) → Apart (keys_of xs) (keys_of ys) → put image (xs ++ (ys ++ zs)) ≡ put image (ys ++ (xs ++ zs))
put_exchange image xs ys zs h = grind (arith, put_same, lookup_append, lookup_apart)

-- an address at which nothing is put keeps its byte, also past the end
pub get_or_put_other : (image : List ℕ) (es : List (ℕ × ℕ)) (a : ℕ) → ¬ Contains (keys_of es) a → get_or (put image es) a 0 ≡ get_or image a 0
get_or_put_other image es a h = grind (arith, cases_lt, get_or_put, lookup_none, get_or_past, length_put)

-- ---- what moves carry

-- moves carry the same bytes from an image into which bytes were put at none of their sources
pub carried_put : (image : List ℕ) (es ms : List (ℕ × ℕ)) → ((a : ℕ) → Contains (map (λ m. m.1) ms) a → ¬ Contains (keys_of es) a)
    → carried (put image es) ms ≡ carried image ms
carried_put image es [] h = refl
carried_put image es (m ∷ ms) h =
    let head : get_or (put image es) m.1 0 ≡ get_or image m.1 0 = get_or_put_other image es m.1 (h m.1 (0, omega arith, refl)) in
    let tail : carried (put image es) ms ≡ carried image ms = carried_put image es ms (λ a i. h a (Contains-append_right (m.1 ∷ []) (map (λ m. m.1) ms) a i)) in
    cc

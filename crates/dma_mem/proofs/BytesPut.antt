-- Bytes put from an address on.
use Rattle.std.proofs.Common.{◌≡◌, ℕ, ◌+◌, ◌-◌, ◌<◌, ◌≤◌, List, [], ◌∷◌, ◌++◌, length, get_or, take, drop, Option, Some, None, refl, ap, sym, ◌∙◌, arith, inl}
use Rattle.std.proofs.Common.{inr, ◌⊎◌, zero, suc}
use Rattle.std.specs.{Prelude.unwrap_or, Prelude.nat_eq, Map.lookup, Option.option_or}
use Rattle.std.proofs.lemmas.Bool.{cases_lt, eq-eqb, ne_eqb}
use Rattle.std.proofs.lemmas.List.{ext_get_or, length-take, length-drop, length-append, get_or-take, get_or-drop, get_or_append_left, get_or-append_right}
use Rattle.dma_mem.specs.Image.{put, bytes_at}
use Rattle.dma_mem.proofs.ImagePut.{length_put, get_or_put, lookup_append, put_put, put_same}

-- ---- what is found at an address

pub lookup_bytes_before : (a : ℕ) (bs : List ℕ) (x : ℕ) → x < a → lookup (nat_eq x) (bytes_at a bs) ≡ None
lookup_bytes_before a [] x h = refl
lookup_bytes_before a (b ∷ bs) x h = rw (ne_eqb x a (λ e. omega arith)) (lookup_bytes_before (a + 1) bs x (omega arith))

pub lookup_bytes_past : (a : ℕ) (bs : List ℕ) (x : ℕ) → a + length bs ≤ x → lookup (nat_eq x) (bytes_at a bs) ≡ None
lookup_bytes_past a [] x h = refl
lookup_bytes_past a (b ∷ bs) x h = rw (ne_eqb x a (λ e. omega arith)) (lookup_bytes_past (a + 1) bs x (omega arith))

pub lookup_bytes_at : (a : ℕ) (bs : List ℕ) (k x : ℕ) → k < length bs → a + k ≡ x → lookup (nat_eq x) (bytes_at a bs) ≡ Some (get_or bs k 0)
lookup_bytes_at a [] k x h e = absurd (omega arith)
lookup_bytes_at a (b ∷ bs) zero x h e = rw (eq-eqb x a (omega arith)) refl
lookup_bytes_at a (b ∷ bs) (suc k) x h e = rw (ne_eqb x a (λ f. omega arith)) (lookup_bytes_at (a + 1) bs k x (omega arith) (omega arith))

-- bytes put from an address on lie between what was before them and after them
pub put_bytes_at : (image : List ℕ) (a : ℕ) (bs : List ℕ) → a + length bs ≤ length image
    → put image (bytes_at a bs) ≡ take a image ++ (bs ++ drop (a + length bs) image)
put_bytes_at image a bs h =
    let left = take a image in
    let right = drop (a + length bs) image in
    let long : length left ≡ a = omega (arith, length-take a image) in
    let all : length (left ++ (bs ++ right)) ≡ length image =
    omega (arith, long, length-append left (bs ++ right), length-append bs right, length-drop (a + length bs) image) in
    ext_get_or 0 _ _ (length_put image (bytes_at a bs) ∙ sym all) (λ k l.
    let m : k < length image = omega (arith, length_put image (bytes_at a bs)) in
    let shows : (o : Option ℕ) → lookup (nat_eq k) (bytes_at a bs) ≡ o → get_or (put image (bytes_at a bs)) k 0 ≡ unwrap_or o (get_or image k 0) =
    λ o e. get_or_put image (bytes_at a bs) k m ∙ ap (λ o. unwrap_or o (get_or image k 0)) e in
    elim (cases_lt k a) [
      | inl before ↦ shows None (lookup_bytes_before a bs k before)
          ∙ sym (get_or_append_left left (bs ++ right) 0 k (omega arith) ∙ get_or-take a image k 0 before)
      | inr after ↦ elim (cases_lt k (a + length bs)) [
        | inl within ↦ shows (Some (get_or bs (k - a) 0)) (lookup_bytes_at a bs (k - a) k (omega arith) (omega arith))
            ∙ sym (get_or-append_right left (bs ++ right) a k 0 long after ∙ get_or_append_left bs right 0 (k - a) (omega arith))
        | inr past ↦
            let back : (a + length bs) + (k - a - length bs) ≡ k = omega arith in
            shows None (lookup_bytes_past a bs k past)
            ∙ sym (get_or-append_right left (bs ++ right) a k 0 long after ∙ get_or-append_right bs right (length bs) (k - a) 0 refl (omega arith)
            ∙ get_or-drop (a + length bs) image (k - a - length bs) 0 ∙ ap (λ n. get_or image n 0) back)
      ]
    ])

-- ---- bytes put in two parts, one behind the other

bytes_at_append : (a : ℕ) (front back : List ℕ) → bytes_at a (front ++ back) ≡ bytes_at a front ++ bytes_at (a + length front) back
bytes_at_append a [] back = let e : a ≡ a + 0 = omega arith in ap (λ n. bytes_at n back) e
bytes_at_append a (b ∷ front) back = grind (arith, bytes_at_append (a + 1) front back)

swapped : (o p : Option ℕ) → (o ≡ None) ⊎ (p ≡ None) → option_or p o ≡ option_or o p
swapped o p h = grind (arith)

pub put_parts : (image : List ℕ) (a : ℕ) (front back : List ℕ)
    → put (put image (bytes_at a front)) (bytes_at (a + length front) back) ≡ put image (bytes_at a (front ++ back))
put_parts image a front back = grind (arith, cases_lt, lookup_bytes_before, lookup_bytes_past, put_put, put_same, lookup_append, swapped, bytes_at_append)

-- What a list made of another contains.
use Rattle.std.proofs.Common.{◌≡◌, List, [], ◌∷◌, map, Option, Some, None, Bool, true, false, refl, ap, sym, ◌∙◌, subst, arith, inl, inr, ◌⊎◌}
use Rattle.std.specs.{Prelude.find, List.All, List.Contains, List.cons_option, List.filter, List.filter_map, List.flat_map}
use Rattle.std.proofs.lemmas.Bool.{cases_Bool}
use Rattle.std.proofs.lemmas.List.Concat.{flat_map_single}
use Rattle.std.proofs.lemmas.List.Elements.{Contains-append_cases, Contains-append_left, Contains-append_right, Contains-get_or}

-- ---- one element more

pub in_first : {X : Type 0} (x : X) (xs : List X) → Contains (x ∷ xs) x
in_first x xs = (0, omega arith, refl)

pub in_rest : {X : Type 0} (x : X) (xs : List X) (y : X) → Contains xs y → Contains (x ∷ xs) y
in_rest x xs y h = Contains-append_right (x ∷ []) xs y h

pub in_none : {X : Type 0} (y : X) → Contains [] y → ⊥
in_none y (k, l, e) = omega (arith, l)

pub in_cases : {X : Type 0} (x : X) (xs : List X) (y : X) → Contains (x ∷ xs) y → (x ≡ y) ⊎ Contains xs y
in_cases x xs y h = grind (arith)

-- what holds of each element, by the elements
pub All-from_in : {X : Type 0} (P : X → Type 0) (xs : List X) → ((x : X) → Contains xs x → P x) → All P xs
All-from_in P xs h k d l = h _ (Contains-get_or xs k d l)

-- ---- made of another list

pub in_flat_map : {X Y : Type 0} (f : X → List Y) (xs : List X) (y : Y) → Contains (flat_map f xs) y → (x : X) × Contains xs x × Contains (f x) y
in_flat_map f [] y h = absurd (in_none y h)
in_flat_map f (x ∷ xs) y h = elim (Contains-append_cases (f x) (flat_map f xs) y h) [
  | inl i ↦ (x, in_first x xs, i)
  | inr i ↦ let r = in_flat_map f xs y i in (r.0, in_rest x xs r.0 r.1, r.2)
]

pub flat_map_in : {X Y : Type 0} (f : X → List Y) (xs : List X) (x : X) (y : Y) → Contains xs x → Contains (f x) y → Contains (flat_map f xs) y
flat_map_in f [] x y h i = absurd (in_none x h)
flat_map_in f (z ∷ xs) x y h i = elim (in_cases z xs x h) [
  | inl e ↦ Contains-append_left (f z) (flat_map f xs) y (subst (λ a. Contains (f a) y) (sym e) i)
  | inr j ↦ Contains-append_right (f z) (flat_map f xs) y (flat_map_in f xs x y j i)
]

pub in_map : {X Y : Type 0} (f : X → Y) (xs : List X) (y : Y) → Contains (map f xs) y → (x : X) × Contains xs x × (f x ≡ y)
in_map f xs y h =
    let r = in_flat_map (λ x. f x ∷ []) xs y (subst (λ l. Contains l y) (sym (flat_map_single f xs)) h) in
    (r.0, r.1, elim (in_cases (f r.0) [] y r.2) [ inl e ↦ e | inr none ↦ absurd (in_none y none) ])

pub map_in : {X Y : Type 0} (f : X → Y) (xs : List X) (x : X) → Contains xs x → Contains (map f xs) (f x)
map_in f xs x h =
    subst (λ l. Contains l (f x)) (flat_map_single f xs) (flat_map_in (λ x. f x ∷ []) xs x (f x) h (in_first (f x) []))

in_cons_option : {Y : Type 0} (o : Option Y) (ys : List Y) (y : Y) → Contains (cons_option o ys) y → (o ≡ Some y) ⊎ Contains ys y
in_cons_option o ys y h = grind (arith, in_cases)

cons_option_in : {Y : Type 0} (o : Option Y) (ys : List Y) (y : Y) → Contains ys y → Contains (cons_option o ys) y
cons_option_in None ys y h = h
cons_option_in (Some z) ys y h = in_rest z ys y h

pub in_filter_map : {X Y : Type 0} (f : X → Option Y) (xs : List X) (y : Y) → Contains (filter_map f xs) y → (x : X) × Contains xs x × (f x ≡ Some y)
in_filter_map f [] y h = absurd (in_none y h)
in_filter_map f (x ∷ xs) y h = elim (in_cons_option (f x) (filter_map f xs) y h) [
  | inl e ↦ (x, in_first x xs, e)
  | inr i ↦ let r = in_filter_map f xs y i in (r.0, in_rest x xs r.0 r.1, r.2)
]

pub filter_map_in : {X Y : Type 0} (f : X → Option Y) (xs : List X) (x : X) (y : Y) → Contains xs x → f x ≡ Some y → Contains (filter_map f xs) y
filter_map_in f [] x y h e = absurd (in_none x h)
filter_map_in f (z ∷ xs) x y h e = elim (in_cases z xs x h) [
  | inl s ↦ let is : f z ≡ Some y = ap f s ∙ e in rw is (in_first y (filter_map f xs))
  | inr i ↦ cons_option_in (f z) (filter_map f xs) y (filter_map_in f xs x y i e)
]

pub in_filter : {X : Type 0} (p : X → Bool) (xs : List X) (y : X) → Contains (filter p xs) y → Contains xs y × (p y ≡ true)
in_filter p [] y h = absurd (in_none y h)
in_filter p (x ∷ xs) y h = elim (cases_Bool (p x)) [
  | inl e ↦ elim (in_cases x (filter p xs) y (rw e at h)) [
    | inl s ↦ (subst (Contains (x ∷ xs)) s (in_first x xs), subst (λ a. p a ≡ true) s e)
    | inr i ↦ let r = in_filter p xs y i in (in_rest x xs y r.0, r.1)
  ]
  | inr e ↦ let r = in_filter p xs y (rw e at h) in (in_rest x xs y r.0, r.1)
]

pub filter_in : {X : Type 0} (p : X → Bool) (xs : List X) (y : X) → Contains xs y → p y ≡ true → Contains (filter p xs) y
filter_in p [] y h e = absurd (in_none y h)
filter_in p (x ∷ xs) y h e = elim (cases_Bool (p x)) [
  | inl t ↦ rw t (elim (in_cases x xs y h) [
    | inl s ↦ subst (Contains (x ∷ filter p xs)) s (in_first x (filter p xs))
    | inr i ↦ in_rest x (filter p xs) y (filter_in p xs y i e)
  ])
  | inr f ↦ rw f (elim (in_cases x xs y h) [
    | inl s ↦ let never : false ≡ true = sym f ∙ ap p s ∙ e in absurd cc
    | inr i ↦ filter_in p xs y i e
  ])
]

-- ---- the first that passes a test

pub in_find : {X : Type 0} (p : X → Bool) (xs : List X) (y : X) → find p xs ≡ Some y → Contains xs y × (p y ≡ true)
in_find p [] y h = absurd cc
in_find p (x ∷ xs) y h = elim (cases_Bool (p x)) [
  | inl e ↦
      let found : Some x ≡ Some y = rw e at h in
      let same : x ≡ y = cc in
      (subst (Contains (x ∷ xs)) same (in_first x xs), subst (λ a. p a ≡ true) same e)
  | inr e ↦ let r = in_find p xs y (rw e at h) in (in_rest x xs y r.0, r.1)
]

pub find_in : {X : Type 0} (p : X → Bool) (xs : List X) (x : X) → Contains xs x → p x ≡ true → (y : X) × (find p xs ≡ Some y)
find_in p [] x h e = absurd (in_none x h)
find_in p (z ∷ xs) x h e = elim (cases_Bool (p z)) [
  | inl t ↦ (z, rw t refl)
  | inr f ↦ elim (in_cases z xs x h) [
    | inl s ↦ let never : false ≡ true = sym f ∙ ap p s ∙ e in absurd cc
    | inr i ↦ let r = find_in p xs x i e in (r.0, rw f r.1)
  ]
]

-- How the outputs of seeds are counted, one seed after another.
use Rattle.std.proofs.Common.{◌≡◌, ℕ, zero, suc, ◌+◌, ◌-◌, ◌<◌, ◌≤◌, ◌^◌, Bool, true, false, not, List, [], ◌∷◌, ◌++◌, length, get_or, set, Some, None, refl}
use Rattle.std.proofs.Common.{ap, ap₂, sym, ◌∙◌, subst, arith, append-nil, inl, inr, map}
use Rattle.std.specs.Prelude.{count_by, filter, if◌then◌else◌, position}
use Rattle.std.specs.{List.All, List.list_any, List.range_with_len, Str.bytes_eq}
use Rattle.std.proofs.{lemmas.Bool.cases_Bool, lemmas.Bool.cases_lt, lemmas.Bool.or_parts, lemmas.Bool.true≢false, lemmas.Grind.common_steps, lemmas.List.get_or-map}
use Rattle.std.proofs.{lemmas.List.length-map, lemmas.List.map-append, lemmas.List.Elements.filter-append, lemmas.List.Folds.list_any_at, lemmas.List.FromFn.get_or-range_with_len}
use Rattle.std.proofs.{lemmas.List.FromFn.length-range_with_len, lemmas.List.Quantifiers.position-Some, lemmas.List.Sums.count_by-le-length}
use Rattle.std.proofs.{lemmas.List.Sums.fails_before_first, lemmas.List.Sums.sum_by-cons, lemmas.List.Sums.sum_by_push, lemmas.Slice.Eq.bytes_eq-Decides}
use Rattle.dma_engine.proofs.WhatRuns.{range_with_len_add}
use Rattle.dma_seeds.specs.{Seeds.is_new, Seeds.output_of, Seeds.outputs_of, declared.outputs.Output.Output, inner.Counted.counted, inner.Counted.one_more}

-- ---- one more output

-- whether an output has the text of the new one
abbrev has_text : Output → Output → Bool
has_text new output = bytes_eq output.text new.text

counted_here : (os : List Output) (new d : Output) (k : ℕ) → k < length os → has_text new (get_or os k d) ≡ true
    → ((j : ℕ) → j < k → has_text new (get_or os j d) ≡ false) → counted os new ≡ set os k (one_more (get_or os k d))
counted_here [] new d k less here before = absurd (omega arith)
counted_here (o ∷ os) new d zero less here before = rw here refl
counted_here (o ∷ os) new d (suc k) less here before =
    rw (before zero (omega arith)) (ap (λ l. o ∷ l) (counted_here os new d k (omega arith) here (λ j below. before (suc j) (omega arith))))

counted_nowhere : (os : List Output) (new d : Output) → ((j : ℕ) → j < length os → has_text new (get_or os j d) ≡ false) → counted os new ≡ os ++ new ∷ []
counted_nowhere [] new d none = refl
counted_nowhere (o ∷ os) new d none =
    rw (none zero (omega arith)) (ap (λ l. o ∷ l) (counted_nowhere os new d (λ j below. none (suc j) (omega arith))))

pub counted_Some : (os : List Output) (new d : Output) (place : ℕ) → Some place ≡ position (has_text new) os
    → counted os new ≡ set os place (one_more (get_or os place d))
counted_Some os new d place is = grind (arith, position-Some, counted_here)

pub counted_None : (os : List Output) (new d : Output) → None ≡ position (has_text new) os → counted os new ≡ os ++ new ∷ []
counted_None os new d is = grind (arith, common_steps, counted_nowhere, fails_before_first)

-- ---- lists of seeds

range_push : (a n : ℕ) → range_with_len a (suc n) ≡ range_with_len a n ++ (a + n) ∷ []
range_push a n = let e : suc n ≡ n + 1 = omega arith in ap (range_with_len a) e ∙ range_with_len_add a n 1

-- one if a test holds, else none
abbrev one_if : Bool → ℕ
one_if b = if b then 1 else 0

same_bytes : (xs ys : List ℕ) → bytes_eq xs ys ≡ true → xs ≡ ys
same_bytes xs ys = (bytes_eq-Decides xs ys).0

-- the text of none of these seeds is another text: so it is none of theirs
count_none : (text : ℕ → List ℕ) (t : List ℕ) (xs : List ℕ) → list_any (λ e. bytes_eq (text e) t) xs ≡ false
    → count_by (λ e. bytes_eq t (text e)) xs ≡ 0
count_none text t [] none = refl
count_none text t (x ∷ xs) none =
    let parts = or_parts _ _ none in
    elim (cases_Bool (bytes_eq t (text x))) [
      | inl was ↦ absurd (true≢false (sym ((bytes_eq-Decides (text x) t).1 (sym (same_bytes t (text x) was))) ∙ parts.0))
      | inr never ↦
          let here : one_if (bytes_eq t (text x)) ≡ 0 = rw never refl in
          omega (arith, sum_by-cons (λ e. one_if (bytes_eq t (text e))) x xs, here, count_none text t xs parts.1)
    ]

none_in : (p : ℕ → Bool) (a k : ℕ) → ((s : ℕ) → a ≤ s → s < a + k → p s ≡ false) → list_any p (range_with_len a k) ≡ false
none_in p a zero none = refl
none_in p a (suc k) none = grind (arith, none_in p (a + 1) k)

any_in : (p : ℕ → Bool) (a k s : ℕ) → a ≤ s → s < a + k → p s ≡ true → list_any p (range_with_len a k) ≡ true
any_in p a k s low below is =
    let there : a + (s - a) ≡ s = omega (arith, low) in
    list_any_at p (range_with_len a k) (s - a) 0 (omega (arith, below, low, length-range_with_len a k))
    (ap p (get_or-range_with_len a k (s - a) 0 (omega (arith, below, low)) ∙ there) ∙ is)

-- ---- the outputs of one more seed

module _ (text : ℕ → List ℕ) (a n : ℕ) where
  -- the output of the seed after the first n
  abbrev pub next_output : Output
  next_output = record { text = text (a + n); seeds = 1; first = a + n }

  -- whether a seed gives its text
  abbrev same : ℕ → Bool
  same s = bytes_eq (text s) (text (a + n))

  -- the outputs that k seeds from b on are the first to give, counted over m seeds
  abbrev part : ℕ → ℕ → ℕ → List Output
  part m b k = map (output_of text a m) (filter (is_new text a) (range_with_len b k))

  with_seeds : (s k : ℕ) → k ≡ (output_of text a n s).seeds + one_if (same s) → record (output_of text a n s) { seeds = k } ≡ output_of text a (suc n) s
  with_seeds s k is =
      ap (λ m. let o : Output = record { text = text s; seeds = m; first = s } in o)
      (is ∙ sym (ap (λ l. count_by (λ other. bytes_eq (text s) (text other)) l) (range_push a n)
      ∙ sum_by_push (λ other. one_if (bytes_eq (text s) (text other))) (range_with_len a n) (a + n)))

  unchanged : (s : ℕ) → same s ≡ false → output_of text a n s ≡ output_of text a (suc n) s
  unchanged s other = let none : one_if (same s) ≡ 0 = rw other refl in with_seeds s (output_of text a n s).seeds (omega (arith, none))

  counted_once : (s : ℕ) → same s ≡ true → one_more (output_of text a n s) ≡ output_of text a (suc n) s
  counted_once s is = let one : one_if (same s) ≡ 1 = rw is refl in with_seeds s ((output_of text a n s).seeds + 1) (omega (arith, one))

  -- a seed that gives this text is new unless one before it gives it
  new_here : (s : ℕ) → same s ≡ true → is_new text a s ≡ not (list_any same (range_with_len a (s - a)))
  new_here s is = grind (arith, same_bytes)

  -- behind a seed that gives this text, no seed is the first to give it
  behind : (b k s : ℕ) → a ≤ s → s < b → same s ≡ true → part n b k ≡ part (suc n) b k
  behind b zero s low below is = refl
  behind b (suc k) s low below is =
      let rest = behind (b + 1) k s low (omega (arith, below)) is in
      elim (cases_Bool (is_new text a b)) [
        | inl new ↦
            let other : same b ≡ false = elim (cases_Bool (same b)) [
              | inl too ↦
                  let seen = any_in same a (b - a) s low (omega (arith, below, low)) is in
                  absurd (true≢false (sym new ∙ new_here b too ∙ ap not seen))
              | inr apart ↦ apart
            ] in
            rw new (ap₂ ◌∷◌ (unchanged b other) rest)
        | inr old ↦ rw old rest
      ]

  -- counting the next output among those of seeds before which no seed gives its text
  counted_from : (b k : ℕ) → a ≤ b → ((s : ℕ) → a ≤ s → s < b → same s ≡ false) → counted (part n b k) next_output
      ≡ part (suc n) b k ++ (if list_any same (range_with_len b k) then [] else next_output ∷ [])
  counted_from b zero low none = refl
  counted_from b (suc k) low none = elim (cases_Bool (same b)) [
    | inl is ↦
        let new : is_new text a b ≡ true = new_here b is ∙ ap not (none_in same a (b - a) (λ s from to. none s from (omega (arith, to, low)))) in
        rw (new, is) (ap₂ ◌∷◌ (counted_once b is) (behind (b + 1) k b low (omega arith) is ∙ sym (append-nil (part (suc n) (b + 1) k))))
    | inr other ↦
        let rest = counted_from (b + 1) k (omega (arith, low)) (λ s from to. elim (cases_lt s b) [
          | inl less ↦ none s from less
          | inr more ↦ subst (λ e. same e ≡ false) (omega (arith, more, to)) other
        ]) in
        elim (cases_Bool (is_new text a b)) [
          | inl new ↦ rw (new, other) (ap₂ ◌∷◌ (unchanged b other) rest)
          | inr old ↦ rw (old, other) rest
        ]
  ]

  -- The outputs of one more seed.
  pub outputs_more : counted (outputs_of text a n) next_output ≡ outputs_of text a (suc n)
  outputs_more =
      let it = (bytes_eq-Decides (text (a + n)) (text (a + n))).1 refl in
      let place : a + n - a ≡ n = omega arith in
      let new = new_here (a + n) it ∙ ap (λ k. not (list_any same (range_with_len a k))) place in
      let last : (if list_any same (range_with_len a n) then [] else next_output ∷ [])
      ≡ map (output_of text a (suc n)) (filter (is_new text a) ((a + n) ∷ [])) = elim (cases_Bool (list_any same (range_with_len a n))) [
        | inl was ↦ let old : is_new text a (a + n) ≡ false = new ∙ ap not was in rw (was, old) refl
        | inr never ↦
            let first : is_new text a (a + n) ≡ true = new ∙ ap not never in
            let one : one_if (same (a + n)) ≡ 1 = rw it refl in
            let none = count_none text (text (a + n)) (range_with_len a n) never in
            rw (never, first) (ap (λ o. o ∷ []) (with_seeds (a + n) 1 (omega (arith, none, one))))
      ] in
      counted_from a n (omega arith) (λ s low below. absurd (omega (arith, low, below))) ∙ ap (λ os. part (suc n) a n ++ os) last
      ∙ sym (map-append (output_of text a (suc n)) (filter (is_new text a) (range_with_len a n)) (filter (is_new text a) ((a + n) ∷ [])))
      ∙ sym (ap (map (output_of text a (suc n))) (filter-append (is_new text a) (range_with_len a n) ((a + n) ∷ [])))
      ∙ sym (ap (λ l. map (output_of text a (suc n)) (filter (is_new text a) l)) (range_push a n))

-- the outputs of one more seed, given those of the seeds before
pub outputs_next : (text : ℕ → List ℕ) (a s : ℕ) (os os' : List Output) (new : Output) → a ≤ s → os ≡ outputs_of text a (s - a)
    → new ≡ record { text = text s; seeds = 1; first = s } → os' ≡ counted os new → os' ≡ outputs_of text a (s + 1 - a)
outputs_next text a s os os' new after so_far is more =
    let place : a + (s - a) ≡ s = omega arith in
    let next : suc (s - a) ≡ s + 1 - a = omega arith in
    more ∙ ap (λ l. counted l new) so_far
    ∙ ap (counted (outputs_of text a (s - a))) (is ∙ ap (λ k. let o : Output = record { text = text k; seeds = 1; first = k } in o) (sym place))
    ∙ outputs_more text a (s - a) ∙ ap (outputs_of text a) next

-- one more seed can be counted
pub outputs_room : (text : ℕ → List ℕ) (a n : ℕ) (os : List Output) → n < 2 ^ 64 - 1 → os ≡ outputs_of text a n → All (λ (o : Output). o.seeds < 2 ^ 64 - 1) os
outputs_room text a n os few is k d less =
    let seeds = filter (is_new text a) (range_with_len a n) in
    let there : k < length seeds = omega (arith, less, ap length is, length-map seeds (output_of text a n)) in
    let many = count_by-le-length (λ other. bytes_eq (text (get_or seeds k 0)) (text other)) (range_with_len a n) in
    rw (is, get_or-map (output_of text a n) seeds k 0 d there) (omega (arith, few, many, length-range_with_len a n))

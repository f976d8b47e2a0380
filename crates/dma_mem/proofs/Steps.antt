-- The laws of steps in a row. `taken_in` is the one number at most `most` before which each step goes on, and which is
-- `most` or at which none goes on.
use Rattle.std.proofs.Common.{◌≡◌, ◌≢◌, ◌∙◌, ℕ, zero, suc, ◌+◌, ◌-◌, ◌<◌, ◌≤◌, Bool, true, false, ◌⊎◌, inl, inr, refl, ap, sym, arith}
use Rattle.std.specs.Prelude.{◌&&◌, ◌==◌, if◌then◌else◌}
use Rattle.std.proofs.lemmas.Bool.{cases_eq, cases_lt, eq-eqb, ne_eqb, true≢false}
use Rattle.dma_mem.specs.Steps.{taken_in}

-- what one more step at most makes of k steps of at most m, after which this says whether another is taken
data Next (k m : ℕ) (on : Bool) (next : ℕ) : Type 0 where
  another : k ≡ m → on ≡ true → next ≡ suc m → Next k m on next
  no_more : next ≡ k → (k ≢ m) ⊎ (on ≡ false) → Next k m on next

next_of : (k m : ℕ) (on : Bool) → Next k m on (if k == m && on then suc k else k)
next_of k m on = grind (arith, cases_eq, ne_eqb, eq-eqb)

pub taken_few : (goes_on : ℕ → Bool) (most : ℕ) → taken_in goes_on most ≤ most
taken_few goes_on zero = omega arith
taken_few goes_on (suc most) =
    let before = taken_few goes_on most in
    elim (next_of (taken_in goes_on most) most (goes_on (taken_in goes_on most))) [
      | another all on e ↦ omega arith
      | no_more e other ↦ omega arith
    ]

-- the steps that are taken go on
pub taken_on : (goes_on : ℕ → Bool) (most k : ℕ) → k < taken_in goes_on most → goes_on k ≡ true
taken_on goes_on zero k less = absurd (omega arith)
taken_on goes_on (suc most) k less =
    elim (next_of (taken_in goes_on most) most (goes_on (taken_in goes_on most))) [
      | another all on e ↦ elim (cases_lt k most) [
        | inl early ↦ taken_on goes_on most k (omega arith)
        | inr late ↦ let here : k ≡ taken_in goes_on most = omega arith in ap goes_on here ∙ on
      ]
      | no_more e other ↦ taken_on goes_on most k (omega arith)
    ]

-- all steps are taken, or the last one doesn't go on
pub taken_stops : (goes_on : ℕ → Bool) (most : ℕ) → (taken_in goes_on most ≡ most) ⊎ (goes_on (taken_in goes_on most) ≡ false)
taken_stops goes_on zero = inl refl
taken_stops goes_on (suc most) = grind (arith, taken_stops goes_on most)

-- a number with these three properties is the number of steps that are taken
pub taken_is : (goes_on : ℕ → Bool) (most n : ℕ) → n ≤ most → ((k : ℕ) → k < n → goes_on k ≡ true) → (n ≡ most) ⊎ (goes_on n ≡ false)
    → taken_in goes_on most ≡ n
taken_is goes_on most n few on stops =
    let most_few = taken_few goes_on most in
    elim (cases_lt (taken_in goes_on most) n) [
      | inl less ↦ elim (taken_stops goes_on most) [
        | inl all ↦ absurd (omega arith)
        | inr stop ↦ absurd (true≢false (sym (on (taken_in goes_on most) less) ∙ stop))
      ]
      | inr past ↦ elim (cases_eq (taken_in goes_on most) n) [
        | inl e ↦ e
        | inr ne ↦ elim stops [
          | inl all ↦ omega arith
          | inr stop ↦ absurd (true≢false (sym (taken_on goes_on most n (omega arith)) ∙ stop))
        ]
      ]
    ]

-- no step is taken of none, nor if the first doesn't go on
pub taken_none : (goes_on : ℕ → Bool) (most : ℕ) → (most ≡ 0) ⊎ (goes_on 0 ≡ false) → taken_in goes_on most ≡ 0
taken_none goes_on most none =
    taken_is goes_on most 0 (omega arith) (λ k less. absurd (omega arith)) (elim none [ inl e ↦ inl (sym e) | inr stop ↦ inr stop ])

-- after the first k of the steps that are taken, as many more are taken as the steps after them say
pub taken_rest : (goes_on : ℕ → Bool) (most k : ℕ) → k ≤ taken_in goes_on most → taken_in goes_on most ≡ k + taken_in (λ j. goes_on (k + j)) (most - k)
taken_rest goes_on most k within =
    let few = taken_few goes_on most in
    let rest : taken_in (λ (j : ℕ). goes_on (k + j)) (most - k) ≡ taken_in goes_on most - k =
    taken_is (λ (j : ℕ). goes_on (k + j)) (most - k) (taken_in goes_on most - k) (omega arith) (λ j less. taken_on goes_on most (k + j) (omega arith))
    (elim (taken_stops goes_on most) [
      | inl all ↦ inl (omega arith)
      | inr stop ↦
          let here : k + (taken_in goes_on most - k) ≡ taken_in goes_on most = omega arith in
          inr (ap goes_on here ∙ stop)
    ]) in
    omega arith

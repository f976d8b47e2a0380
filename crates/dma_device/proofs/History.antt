-- When a fact holds before access number n, if each access makes it hold, leaves it as it is, or ends it.
use Rattle.std.proofs.Common.{◌⊎◌, ℕ, zero, suc, ◌+◌, ◌<◌, ◌≤◌, add-one, arith, inl, inr, subst, sym}
use Rattle.std.specs.Prelude.{◌↔◌}
use Rattle.std.proofs.lemmas.Bool.{cases_eq}
use Rattle.dma_device.specs.Accesses.{IsExact, Stays}

-- a fact holds after an access exactly if the access makes it hold, or if it holds before and the access doesn't end it
abbrev pub Exact : (before after Up Down : Type 0) → Type 0
Exact before after Up Down = after ↔ (Up ⊎ (before × ¬ Down))

-- the access leaves it as it is
pub exact_if_same : (before after Up Down : Type 0) → (before → after) → (after → before) → ¬ Up → ¬ Down → Exact before after Up Down
exact_if_same before after Up Down to back no_up no_down =
    ((λ a. inr (back a, no_down)), (λ why. elim why [ inl up ↦ absurd (no_up up) | inr kept ↦ to kept.0 ]))

-- the access makes it hold exactly if P, and doesn't end it
pub exact_if_raised : (before after P Up Down : Type 0) → (P → Up) → (Up → P) → ¬ Down → after ↔ (before ⊎ P) → Exact before after Up Down
exact_if_raised before after P Up Down to back no_down x = (
  (λ a. elim (x.0 a) [ inl b ↦ inr (b, no_down) | inr p ↦ inl (to p) ]),
  (λ why. elim why [ inl up ↦ x.1 (inr (back up)) | inr kept ↦ x.1 (inl kept.0) ]),
)

-- a fact that holds before access number 0, and that each access keeps, holds before each access
pub kept_along : (P : ℕ → Type 0) (count : ℕ) → P 0 → ((n : ℕ) → n < count → P n → P (n + 1)) → (n : ℕ) → n ≤ count → P n
kept_along P count first step zero within = first
kept_along P count first step (suc n) within = subst P (add-one n) (step n (omega arith) (kept_along P count first step n (omega arith)))

module _ (P Up Down : ℕ → Type 0) where
  abbrev Held : ℕ → Type 0
  Held = IsExact P Up Down

  fewer : (i n : ℕ) → Stays Down i (n + 1) → Stays Down i n
  fewer i n stays j from less = stays j from (omega arith)

  more : (i n : ℕ) → Stays Down i n → ¬ Down n → Stays Down i (n + 1)
  more i n stays calm j from less = elim (cases_eq j n) [
    | inl here ↦ subst (λ (m : ℕ). ¬ Down m) (sym here) calm
    | inr other ↦ stays j from (omega arith)
  ]

  next_held : (n : ℕ) → Exact (P n) (P (n + 1)) (Up n) (Down n) → Held n → Held (n + 1)
  next_held n x held = (
    (λ p. elim (x.0 p) [
      | inl up ↦ inl (record { at = n; below = omega arith; makes = up; stays = λ j from less. absurd (omega arith) })
      | inr kept ↦ elim (held.0 kept.0) [
        | inl s ↦ inl (record { at = s.at; below = omega (arith, s.below); makes = s.makes; stays = more (s.at + 1) n s.stays kept.1 })
        | inr first ↦ inr (first.0, more 0 n first.1 kept.1)
      ]
    ]),
    (λ why. elim why [
      | inl s ↦ elim (cases_eq s.at n) [
        | inl here ↦ x.1 (inl (subst Up here s.makes))
        | inr other ↦
            let below : s.at < n = omega (arith, s.below, other) in
            let before = held.1 (inl (record { at = s.at; below = below; makes = s.makes; stays = fewer (s.at + 1) n s.stays })) in
            x.1 (inr (before, s.stays n (omega arith) (omega arith)))
      ]
      | inr first ↦ x.1 (inr (held.1 (inr (first.0, fewer 0 n first.1)), first.1 n (omega arith) (omega arith)))
    ]),
  )

  pub held : (count : ℕ) → ((n : ℕ) → n < count → Exact (P n) (P (n + 1)) (Up n) (Down n)) → (n : ℕ) → n ≤ count → Held n
  held count steps zero within = (
    (λ p. inr (p, λ j from less. absurd (omega arith))),
    (λ why. elim why [ inl s ↦ absurd (omega (arith, s.below)) | inr first ↦ first.0 ]),
  )
  held count steps (suc n) within = subst Held (add-one n) (next_held n (steps n (omega arith)) (held count steps n (omega arith)))

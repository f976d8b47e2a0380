-- Ways of waits from a channel to another, and circles.
use Rattle.std.proofs.Common.{◌≡◌, ◌≢◌, ℕ, ◌+◌, ◌-◌, ◌<◌, ◌≤◌, zero, suc, List, [], ◌∷◌, ◌++◌, Option, Some, None, refl, ap, sym, ◌∙◌, subst, arith, inl, inr}
use Rattle.std.proofs.Common.{◌⊎◌}
use Rattle.std.specs.{Prelude.◌==◌, Prelude.◌&&◌, Option.option_map, Option.option_or, List.All, List.AllPairs, List.Contains}
use Rattle.std.proofs.lemmas.Bool.{and_from, and_parts, cases_lt, eq-eqb, eqb-true}
use Rattle.std.proofs.lemmas.List.Elements.{All-nil, All-cons, All-contains, All-head, All-tail}
use Rattle.std.proofs.lemmas.List.Kept.{AllPairs-cons}
use Rattle.dma_mem.proofs.TransferRules.{AllPairs_append}
use Rattle.dma_why.specs.{declared.waits.Wait.Wait, Circles.IsCircle, Circles.IsWay, Circles.circle_from, Circles.joined, Circles.wait_between, Circles.way}
use Rattle.dma_why.proofs.Members.{All-from_in, find_in, in_cases, in_find, in_none}

-- ---- what is found, and channels that are there once

-- Something is found.
abbrev pub Finds : Option (List Wait) → Type 0
Finds o = (path : List Wait) × (o ≡ Some path)

finds_first : (a b : Option (List Wait)) → Finds a → Finds (option_or a b)
finds_first a b (p, e) = (p, rw e refl)

finds_later : (a b : Option (List Wait)) → Finds b → Finds (option_or a b)
finds_later None b f = f
finds_later (Some p) b f = (p, refl)

finds_both : (a b : Option (List Wait)) → Finds a → Finds b → Finds (joined a b)
finds_both a b (p, e) (q, f) = (p ++ q, rw (e, f) refl)

-- no two of these waits are of one channel
abbrev pub AreOnce : List Wait → Type 0
AreOnce waits = AllPairs (λ x y. x.ch ≢ y.ch) waits

module _ (waits : List Wait) where
  -- ---- ways over some channels

  -- These waits lead from a channel to another over channels from `low` on, below `high`.
  abbrev pub Over : ℕ → ℕ → ℕ → ℕ → Wait → List Wait → Type 0
  Over low high from to w [] = Contains waits w × (w.ch ≡ from) × (w.by.ch ≡ to)
  Over low high from to w (x ∷ more) =
      Contains waits w × (w.ch ≡ from) × (low ≤ w.by.ch) × (w.by.ch < high) × Over low high w.by.ch to x more

  over_wider : (low high from to : ℕ) (w : Wait) (more : List Wait) → Over (low + 1) high from to w more → Over low high from to w more
  over_wider low high from to w [] o = o
  over_wider low high from to w (x ∷ more) o = (o.0, o.1, omega (arith, o.2), o.3, over_wider low high w.by.ch to x more o.4)

  over_joined : (low high from mid to : ℕ) (w : Wait) (more : List Wait) (x : Wait) (rest : List Wait) → Over low high from mid w more
      → low ≤ mid → mid < high → Over low high mid to x rest → Over low high from to w (more ++ x ∷ rest)
  over_joined low high from mid to w [] x rest o l h p = grind arith
  over_joined low high from mid to w (y ∷ more) x rest o l h p = grind (arith, over_joined low high w.by.ch mid to y more x rest o.4 l h p)

  over_ch : (low high from to : ℕ) (w : Wait) (more : List Wait) → Over low high from to w more → w.ch ≡ from
  over_ch low high from to w [] o = o.1
  over_ch low high from to w (x ∷ more) o = o.1

  -- those to a channel on the way, and from it on
  record Through (low high from to : ℕ) (w : Wait) (mid : ℕ) : Type 0 where
    to_mid : (rest : List Wait) × Over low high from mid w rest
    from_mid : (x : Wait) × (rest : List Wait) × Over low high mid to x rest
    above : low ≤ mid
    below : mid < high

  through : (low high from to : ℕ) (w : Wait) (more : List Wait) → Over low high from to w more → (x : Wait) → Contains more x
      → Through low high from to w x.ch
  through low high from to w [] o x i = absurd (in_none x i)
  through low high from to w (z ∷ more) o x i =
      let here = over_ch low high w.by.ch to z more o.4 in
      elim (in_cases z more x i) [
        | inl same ↦
            let at : w.by.ch ≡ x.ch = sym here ∙ ap (λ (y : Wait). y.ch) same in
            record {
              to_mid = ([], (o.0, o.1, at));
              from_mid = (z, more, subst (λ c. Over low high c to z more) at o.4);
              above = omega (arith, at, o.2);
              below = omega (arith, at, o.3);
            }
        | inr later ↦
            let t = through low high w.by.ch to z more o.4 x later in
            record {
              to_mid = (z ∷ t.to_mid.0, (o.0, o.1, o.2, o.3, t.to_mid.1));
              from_mid = t.from_mid;
              above = t.above;
              below = t.below;
            }
      ]

  -- ---- each way is found

  -- up to the first visit of `low`, or to the end
  before : (low high from to : ℕ) (w : Wait) (more : List Wait) → Over low high from to w more
      → Over (low + 1) high from to w more ⊎ ((rest : List Wait) × Over (low + 1) high from low w rest)
  before low high from to w [] o = inl o
  before low high from to w (x ∷ more) o = elim (cases_lt low w.by.ch) [
    | inl less ↦ elim (before low high w.by.ch to x more o.4) [
      | inl p ↦ inl (o.0, o.1, omega (arith, less), o.3, p)
      | inr p ↦ inr (x ∷ p.0, (o.0, o.1, omega (arith, less), o.3, p.1))
    ]
    | inr same ↦ inr ([], (o.0, o.1, omega (arith, same, o.2)))
  ]

  -- from the last visit of `low` on, or from the beginning
  behind : (low high from to : ℕ) (w : Wait) (more : List Wait) → Over low high from to w more
      → Over (low + 1) high from to w more ⊎ ((x : Wait) × (rest : List Wait) × Over (low + 1) high low to x rest)
  behind low high from to w [] o = inl o
  behind low high from to w (x ∷ more) o = elim (behind low high w.by.ch to x more o.4) [
    | inl p ↦ elim (cases_lt low w.by.ch) [
      | inl less ↦ inl (o.0, o.1, omega (arith, less), o.3, p)
      | inr same ↦
          let is : w.by.ch ≡ low = omega (arith, same, o.2) in
          inr (x, more, subst (λ c. Over (low + 1) high c to x more) is p)
    ]
    | inr p ↦ inr p
  ]

  pub way_found : (low high from to n : ℕ) (w : Wait) (more : List Wait) → low + n ≡ high → Over low high from to w more → Finds (way waits from to low n)
  way_found low high from to zero w [] m o =
      let f = find_in (λ w. w.ch == from && w.by.ch == to) waits w o.0
      (and_from (w.ch == from) (w.by.ch == to) (eq-eqb w.ch from o.1) (eq-eqb w.by.ch to o.2)) in
      (f.0 ∷ [], ap (option_map (λ w. w ∷ [])) f.1)
  way_found low high from to zero w (x ∷ more) m o = absurd (omega (arith, m, o.2, o.3))
  way_found low high from to (suc n) w more m o =
      let next : (low + 1) + n ≡ high = omega (arith, m) in
      elim (before low high from to w more o) [
        | inl p ↦ finds_first _ _ (way_found (low + 1) high from to n w more next p)
        | inr p ↦ elim (behind low high from to w more o) [
          | inl q ↦ finds_first _ _ (way_found (low + 1) high from to n w more next q)
          | inr q ↦
              finds_later _ _
              (finds_both _ _ (way_found (low + 1) high from low n w p.0 next p.1) (way_found (low + 1) high low to n q.0 q.1 next q.2))
        ]
      ]

  -- ---- what is found is a way, on which no channel is twice

  pub record IsOver (low high from to : ℕ) (path : List Wait) : Type 0 where
    pub first : Wait
    pub rest : List Wait
    pub is : path ≡ first ∷ rest
    pub over : Over low high from to first rest
    pub once : AreOnce rest

  wider : (low high from to : ℕ) (path : List Wait) → IsOver (low + 1) high from to path → IsOver low high from to path
  wider low high from to path f = grind (arith, over_wider)

  -- No way leads from the one to the other over channels above `low`.
  abbrev NoneOver : ℕ → ℕ → ℕ → ℕ → Type 0
  NoneOver low high from to = (w : Wait) (more : List Wait) → Over (low + 1) high from to w more → ⊥

  -- so ways to `low` and from there on have no channel in common
  apart : (low high from to : ℕ) (w : Wait) (more : List Wait) (z : Wait) (rest : List Wait) → NoneOver low high from to
      → Over (low + 1) high from low w more → Over (low + 1) high low to z rest → (x y : Wait) → Contains more x → Contains (z ∷ rest) y → x.ch ≢ y.ch
  apart low high from to w more z rest none o p x y i j same =
      let t = through (low + 1) high from low w more o x i in
      elim (in_cases z rest y j) [
        | inl at ↦
            let here : y.ch ≡ low = ap (λ (u : Wait). u.ch) (sym at) ∙ over_ch (low + 1) high low to z rest p in
            omega (arith, same, here, t.above)
        | inr later ↦
            let u = through (low + 1) high low to z rest p y later in
            let on : Over (low + 1) high x.ch to u.from_mid.0 u.from_mid.1 = grind (arith) in
            none w (t.to_mid.0 ++ u.from_mid.0 ∷ u.from_mid.1)
            (over_joined (low + 1) high from x.ch to w t.to_mid.0 u.from_mid.0 u.from_mid.1 t.to_mid.1 t.above t.below on)
      ]

  -- the waits of a way are of channels above `low`, but for the first
  above_first : (low high to : ℕ) (z : Wait) (rest : List Wait) → Over (low + 1) high low to z rest → All (λ y. z.ch ≢ y.ch) rest
  above_first low high to z rest p = All-from_in (λ (y : Wait). z.ch ≢ y.ch) rest (λ y i same.
      let t = through (low + 1) high low to z rest p y i in
      omega (arith, same, over_ch (low + 1) high low to z rest p, t.above))

  both_over : (low high from to : ℕ) (p q : List Wait) → low < high → NoneOver low high from to → IsOver (low + 1) high from low p
      → IsOver (low + 1) high low to q → IsOver low high from to (p ++ q)
  both_over low high from to p q h none f g = record {
    first = f.first;
    rest = f.rest ++ g.first ∷ g.rest;
    is = ap (λ l. l ++ q) f.is ∙ ap (λ l. (f.first ∷ f.rest) ++ l) g.is;
    over = over_joined low high from low to f.first f.rest g.first g.rest (over_wider low high from low f.first f.rest f.over) (omega arith) h
        (over_wider low high low to g.first g.rest g.over);
    once = AllPairs_append (λ (x y : Wait). x.ch ≢ y.ch) f.rest (g.first ∷ g.rest) f.once
        (AllPairs-cons (λ (x y : Wait). x.ch ≢ y.ch) g.first g.rest (above_first low high to g.first g.rest g.over) g.once)
        (apart low high from to f.first f.rest g.first g.rest none f.over g.over);
  }

  -- the first of two that is found, or the two joined
  abbrev pub Found : ℕ → ℕ → ℕ → ℕ → Option (List Wait) → Type 0
  Found low high from to o = (path : List Wait) → o ≡ Some path → IsOver low high from to path

  found_joined : (low high from to : ℕ) (a b : Option (List Wait)) → low < high → NoneOver low high from to
      → Found (low + 1) high from low a → Found (low + 1) high low to b → Found low high from to (joined a b)
  found_joined low high from to a b h h2 h3 h4 = grind (arith, both_over)

  found_or : (low high from to : ℕ) (a b : Option (List Wait)) → Found (low + 1) high from to a
      → (a ≡ None → Found low high from to b) → Found low high from to (option_or a b)
  found_or low high from to a b h h2 = grind (arith, wider)

  one_wait : (low high from to : ℕ) (x : Option Wait) → wait_between waits from to ≡ x → Found low high from to (option_map (λ w. w ∷ []) x)
  one_wait low high from to x h = grind (arith, in_find, and_parts, eqb-true)

  pub way_is : (low high from to n : ℕ) → low + n ≡ high → Found low high from to (way waits from to low n)
  way_is low high from to zero m path e = one_wait low high from to (wait_between waits from to) refl path e
  way_is low high from to (suc n) m path e =
      let next : (low + 1) + n ≡ high = omega (arith, m) in
      let none : way waits from to (low + 1) n ≡ None → NoneOver low high from to = λ no w more o.
      let f = way_found (low + 1) high from to n w more next o in
      let never : None ≡ Some f.0 = sym no ∙ f.1 in
      absurd cc
      in
      found_or low high from to _ _ (way_is (low + 1) high from to n next)
      (λ no. found_joined low high from to _ _ (omega (arith, m)) (none no) (way_is (low + 1) high from low n next)
      (way_is (low + 1) high low to n next))
      path e

  -- ---- circles

  over_among : (low high from to : ℕ) (w : Wait) (more : List Wait) → Over low high from to w more → All (Contains waits) (w ∷ more)
  over_among low high from to w [] o = All-cons (Contains waits) w [] o.0 (All-nil (Contains waits))
  over_among low high from to w (x ∷ more) o =
      All-cons (Contains waits) w (x ∷ more) o.0 (over_among low high w.by.ch to x more o.4)

  over_way : (low high from to : ℕ) (w : Wait) (more : List Wait) → Over low high from to w more → IsWay from to (w ∷ more)
  over_way low high from to w [] o = (o.1, o.2)
  over_way low high from to w (x ∷ more) o = (o.1, over_way low high w.by.ch to x more o.4)

  over_above : (first high from to : ℕ) (w : Wait) (more : List Wait) → Over (first + 1) high from to w more → All (λ x. first < x.ch) more
  over_above first high from to w [] o = All-nil (λ x. first < x.ch)
  over_above first high from to w (x ∷ more) o = grind (arith, over_ch, All-cons, over_above first high w.by.ch to x more o.4)

  pub way_over : (first high from to : ℕ) (w : Wait) (more : List Wait) → All (λ x. x.ch < high) waits → All (Contains waits) (w ∷ more)
      → IsWay from to (w ∷ more) → All (λ x. first < x.ch) more → Over (first + 1) high from to w more
  way_over first high from to w [] few among is above = (All-head (Contains waits) w [] among, is.0, is.1)
  way_over first high from to w (x ∷ more) few among is above =
      let rest = All-tail (Contains waits) w (x ∷ more) among in
      let up = All-head (λ x. first < x.ch) x more above in
      let low = All-contains (λ x. x.ch < high) waits x few (All-head (Contains waits) x more rest) in (
        All-head (Contains waits) w (x ∷ more) among,
        is.0,
        omega (arith, is.1.0, up),
        omega (arith, is.1.0, low),
        way_over first high w.by.ch to x more few rest is.1 (All-tail (λ x. first < x.ch) x more above),
      )

  -- ---- a circle is named exactly if there is one

  pub circle_is : (many first : ℕ) (circle : List Wait) → circle_from waits many first ≡ Some circle → IsCircle waits first circle × AreOnce circle
  circle_is many first circle e =
      let high = first + 1 + (many - (first + 1)) in
      let f = way_is (first + 1) high first first (many - (first + 1)) refl circle e in
      subst (λ (l : List Wait). IsCircle waits first l × AreOnce l) (sym f.is) (
        (
          over_among (first + 1) high first first f.first f.rest f.over,
          over_way (first + 1) high first first f.first f.rest f.over,
          over_above first high first first f.first f.rest f.over,
        ),
        AllPairs-cons (λ (x y : Wait). x.ch ≢ y.ch) f.first f.rest (above_first first high first f.first f.rest f.over) f.once,
      )

  pub circle_found : (many first : ℕ) (circle : List Wait) → All (λ x. x.ch < many) waits → IsCircle waits first circle → (first < many)
      × Finds (circle_from waits many first)
  circle_found many first [] few is = absurd is
  circle_found many first (w ∷ more) few is =
      let here = All-contains (λ x. x.ch < many) waits w few (All-head (Contains waits) w more is.0) in
      let less : first < many = omega (arith, is.1.0, here) in (
        less,
        way_found (first + 1) many first first (many - (first + 1)) w more (omega (arith, less))
            (way_over first many first first w more few is.0 is.1 is.2),
      )

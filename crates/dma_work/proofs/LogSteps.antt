-- The steps of the log keep its rule.
use Rattle.std.proofs.Common.{◌≡◌, ℕ, ◌+◌, ◌*◌, ◌<◌, ◌≤◌, ◌==◌, Bool, true, false, List, [], ◌∷◌, ◌++◌, length, refl, ap, sym, ◌∙◌, arith, inl, inr, length-append, None}
use Rattle.std.specs.Prelude.{slice_set}
use Rattle.std.proofs.lemmas.List.{append-nil, get_or-set_same, get_or-set_other, get_or_append_left, length-set}
use Rattle.std.proofs.lemmas.Bool.{cases_eq, cases_lt, eq-eqb}
use Rattle.std.proofs.lemmas.Bool.Decides.{nat_tests}
use mathlib.Core.List.{IsPrefix}
use prog.Atomic.{either}
use Rattle.logbook.specs.Pages.{Cell, adds, cell, gives, keeps, may_make, nib, no_nib, step, Moves, Goes}
use Rattle.dma_engine.specs.Ticks.{Tick}
use Rattle.dma_work.specs.inner.Published.{Adds, IsCounted, MakesRoom, spare_after}
use Rattle.dma_work.proofs.Beginnings.{prefix_whole}

abbrev pub shown : List Tick → List Tick
shown log = []

abbrev pub moved : List Tick → List Tick → ℕ → Type 0
moved xs ys n = Unit {0}

-- another count is written
recounted : (cs : List Cell) (log : List Tick) (n k : ℕ) → IsCounted cs log → k < length log + 2 → (cell (slice_set cs 0 (n, true)) k).1 ≡ true
recounted cs log n k h less = elim (cases_eq k 0) [
  | inl is ↦ rw is (ap (λ (c : Cell). c.1) (get_or-set_same cs 0 (n, true) (0, false) (omega (arith, h.long))))
  | inr apart ↦ ap (λ (c : Cell). c.1) (get_or-set_other cs 0 k (n, true) (0, false) apart) ∙ h.homes k less
]

-- If the count that is there already is written once more, then the cells count the same log.
same_count : (cs : List Cell) (log : List Tick) (n : ℕ) → IsCounted cs log → (cell cs 0).0 ≡ n → IsCounted (slice_set cs 0 (n, true)) (log ++ [])
same_count cs log n h is = rw (append-nil log) (record {
  spare = h.spare;
  few = h.few;
  long = length-set cs 0 (n, true) ∙ h.long;
  count = get_or-set_same cs 0 (n, true) (0, false) (omega (arith, h.long)) ∙ ap (λ m. (m, true)) (sym is ∙ ap (λ (c : Cell). c.0) h.count);
  homes = λ k less. recounted cs log n k h less;
})

-- a spare cell is added
spare_added : (cs : List Cell) (log : List Tick) (n : ℕ) → IsCounted cs log → n ≡ 2 * length log + 1 → length cs ≡ length log + 2
    → IsCounted (slice_set cs 0 (n, true) ++ (0, false) ∷ []) (log ++ [])
spare_added cs log n h is none =
    let set_cs = slice_set cs 0 (n, true) in
    let len : length set_cs ≡ length cs = length-set cs 0 (n, true) in
    rw (append-nil log) (record {
      spare = 1;
      few = omega arith;
      long = omega (arith, length-append set_cs ((0, false) ∷ []), len, none);
      count = get_or_append_left set_cs ((0, false) ∷ []) (0, false) 0 (omega (arith, len, none))
          ∙ get_or-set_same cs 0 (n, true) (0, false) (omega (arith, none)) ∙ ap (λ m. (m, true)) is;
      homes = λ k less. ap (λ (c : Cell). c.1) (get_or_append_left set_cs ((0, false) ∷ []) (0, false) k (omega (arith, len, none, less)))
          ∙ recounted cs log n k h less;
    })

-- the spare cell comes home with a tick
tick_added : (cs : List Cell) (log : List Tick) (e : Tick) (n : ℕ) → IsCounted cs log → n ≡ 2 * length log + 2 → length cs ≡ length log + 3
    → IsCounted (slice_set (slice_set cs 0 (n, true)) (length log + 2) (0, true)) (log ++ e ∷ [])
tick_added cs log e n h is one =
    let set_cs = slice_set cs 0 (n, true) in
    let at = length log + 2 in
    let len : length set_cs ≡ length cs = length-set cs 0 (n, true) in
    let more : length (log ++ e ∷ []) ≡ length log + 1 = length-append log (e ∷ []) in
    record {
      spare = 0;
      few = omega arith;
      long = omega (arith, length-set set_cs at (0, true), len, one, more);
      count = get_or-set_other set_cs at 0 (0, true) (0, false) (omega arith) ∙ get_or-set_same cs 0 (n, true) (0, false) (omega (arith, one))
          ∙ ap (λ m. (m, true)) (omega (arith, is, more));
      homes = λ k less. elim (cases_eq k at) [
        | inl here ↦ rw here (ap (λ (c : Cell). c.1) (get_or-set_same set_cs at (0, true) (0, false) (omega (arith, len, one))))
        | inr apart ↦ ap (λ (c : Cell). c.1) (get_or-set_other set_cs at k (0, true) (0, false) apart)
            ∙ recounted cs log n k h (omega (arith, less, more, apart))
      ];
    }

-- ---- room for a tick

module _ (v : List Tick) (e : Tick) (count : ℕ) (is : count ≡ 2 * length v) where
  room_goes : (cs : List Cell) (log : List Tick) → IsCounted cs log → IsPrefix v log → (b : Bool) → ((cell cs 0).0 == count) ≡ b
      → Goes IsCounted shown moved 0 (v, (no_nib, None)) (λ n. either (n == count) (count + 1) n) (MakesRoom (step 0 count (count + 1) e) (v, (no_nib, None))) cs log
  room_goes cs log h pre true found =
      let here : (cell cs 0).0 ≡ count = grind (arith, nat_tests) in
      let now = ap (λ (c : Cell). c.0) h.count in
      let longer : length v ≤ length log = omega (arith, ap length pre.1, length-append v pre.0) in
      let same : length log ≡ length v = omega (arith, here, now, longer, is) in
      let none : length cs ≡ length log + 2 = omega (arith, here, now, longer, is, h.long) in (
        adds,
        [],
        None,
        tt,
        rw found (spare_added cs log (count + 1) h (omega (arith, is, same)) none),
        inl (refl, refl),
        λ at. ap (λ k. nib may_make k 0) (omega (arith, none, same)),
      )
  room_goes cs log h pre false found =
      (keeps, [], None, tt, rw found (same_count cs log (cell cs 0).0 h refl), inl (refl, refl), λ here. absurd (grind (arith, nat_tests)))

  -- whatever the log is, the exchange adds a spare cell to it, or finds another count
  pub room_moves : Moves IsCounted shown moved 0 (v, (no_nib, None)) (λ n. either (n == count) (count + 1) n) (MakesRoom (step 0 count (count + 1) e) (v, (no_nib, None)))
  room_moves cs log h pre away =
      (omega (arith, h.long), ap (λ (c : Cell). c.1) h.count, room_goes cs log h pre ((cell cs 0).0 == count) refl)

-- ---- a tick

module _ (v : List Tick) (e : Tick) (count : ℕ) (is : count ≡ 2 * length v + 1) where
  -- whatever the log is, it has no other ticks if the spare cell is still away, so the exchange adds the tick
  pub tick_moves : Moves IsCounted shown moved 0 (v, (spare_after v, None)) (λ n. either (n == count) (count + 1) n) (Adds (step 0 count (count + 1) e) (v, (spare_after v, None)))
  tick_moves cs log h pre away =
      let gone = away refl in
      let longer : length v ≤ length log = omega (arith, ap length pre.1, length-append v pre.0) in
      let past : length log ≤ length v = elim (cases_lt (length v + 2) (length log + 2)) [
        | inl inside ↦ absurd (grind (arith, h.homes (length v + 2) inside, gone.1))
        | inr not_inside ↦ omega (arith, not_inside)
      ] in
      let same : v ≡ log = prefix_whole v log pre past in
      let one : length cs ≡ length log + 3 = omega (arith, h.long, h.few, gone.0, longer) in
      let here : (cell cs 0).0 ≡ count = omega (arith, ap (λ (c : Cell). c.0) h.count, h.long, one, is, longer, past) in
      let found : ((cell cs 0).0 == count) ≡ true = eq-eqb (cell cs 0).0 count here in
      let at : length v + 2 ≡ length log + 2 = omega (arith, longer, past) in (
        omega (arith, h.long),
        ap (λ (c : Cell). c.1) h.count,
        (
          gives,
          e ∷ [],
          None,
          refl,
          rw (found, at) (tick_added cs log e (count + 1) h (omega (arith, is, longer, past)) one),
          inl (refl, refl),
          ap (λ l. l ++ e ∷ []) (sym same),
        ),
      )

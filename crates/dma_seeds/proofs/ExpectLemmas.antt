-- Verdicts of several seeds, and scripts without expect lines.
use Rattle.std.proofs.Common.{◌≡◌, ℕ, suc, ◌+◌, ◌-◌, ◌<◌, ◌≤◌, true, false, List, [], ◌∷◌, ◌++◌, ap, sym, ◌∙◌, arith}
use Rattle.std.specs.Prelude.{codes, decimal}
use Rattle.std.specs.{List.range_with_len}
use Rattle.std.proofs.{lemmas.Bool.ne_eqb, lemmas.List.Sums.sum_by-cons}
use Rattle.dma_io.specs.Command.{text_of}
use Rattle.dma_seeds.specs.Expect.{is_good}
use Rattle.dma_seeds.specs.Seeds.{failing, failing_text, first_verdict, number_of_things, unless_holds, verdicts}
use Rattle.dma_seeds.specs.declared.expect.Verdict.TheVariants.{Holds}
use Rattle.dma_seeds.specs.{inner.Counted.failing_in, declared.seeds.SeedRange.SeedRange}
use Rattle.dma_seeds.specs.{declared.seeds.SeedsVerdict.SeedsVerdict, declared.expect.Verdict.Verdict}

-- ---- several seeds

-- after good verdicts the next one counts
pub goes_on : (first next : Verdict) → is_good first ≡ true → unless_holds first next ≡ next
goes_on first next h = grind (arith)

-- a verdict that isn't good stays
pub stops : (first next : Verdict) → is_good first ≡ false → unless_holds first next ≡ first
stops first next h = grind (arith)

-- a good verdict changes nothing
pub good_last : (first next : Verdict) → is_good next ≡ true → unless_holds first next ≡ first
good_last first next h = grind (arith)

-- the first of three verdicts that isn't good, by the first two or by the last two
in_turn : (a b c : Verdict) → unless_holds (unless_holds a b) c ≡ unless_holds a (unless_holds b c)
in_turn a b c = grind (arith)

at_most_one : (v : Verdict) → failing_in v ≤ 1
at_most_one v = grind (arith)

module _ (each : ℕ → Verdict) (first end seed : ℕ) where
  -- The verdicts for the seeds before `seed` are counted in `found`. Together with those for the seeds from `seed` to the
  -- one before `end` they are the verdicts for all seeds from `first` on.
  pub record CountedSome (found : SeedsVerdict) : Type 0 where
    pub first_is : unless_holds found.first (first_verdict each seed (end - seed)) ≡ first_verdict each first (end - first)
    pub failing_is : found.failing + failing each seed (end - seed) ≡ failing each first (end - first)
    pub few : found.failing ≤ seed

  -- no seed is counted yet
  pub counted_none : seed ≡ first → CountedSome (record { first = Holds; failing = 0 })
  counted_none same = grind arith

  -- all seeds are counted
  pub counted_all : (found : SeedsVerdict) → end ≤ seed → CountedSome found → found ≡ verdicts each first (end - first)
  counted_all found done some = grind (arith, good_last)

-- one more seed is counted
pub counted_more : (each : ℕ → Verdict) (first end seed : ℕ) (found after : SeedsVerdict) (v : Verdict) → seed < end → CountedSome each first end seed found
    → v ≡ each seed → after.first ≡ unless_holds found.first v → after.failing ≡ found.failing + failing_in v → CountedSome each first end (seed + 1) after
counted_more each first end seed found after v less some is firsts fails =
    let left = end - (seed + 1) in
    let more : end - seed ≡ suc left = omega arith in
    record {
      first_is = rw (firsts, is) (in_turn found.first (each seed) (first_verdict each (seed + 1) left)
          ∙ ap (λ n. unless_holds found.first (first_verdict each seed n)) (sym more) ∙ some.first_is);
      failing_is = omega (
        arith,
        fails,
        ap failing_in is,
        some.failing_is,
        ap (λ n. failing each seed n) more ∙ sum_by-cons (λ s. failing_in (each s)) seed (range_with_len (seed + 1) left),
      );
      few = omega (arith, fails, at_most_one v, some.few);
    }

-- the line that says for how many seeds an expect line fails
pub failing_printed : (n many : ℕ) (seeds : SeedRange) (old new : List ℕ) → (n ≡ 0 → ⊥) → many ≡ seeds.last + 1 - seeds.first
    → new ≡ old ++ text_of ((codes "  expect lines fail for " ++ decimal n ++ codes " of " ++ number_of_things many (codes "seed")) ∷ [])
    → new ≡ old ++ failing_text n seeds
failing_printed n many seeds old new some same printed = grind (arith, ne_eqb)

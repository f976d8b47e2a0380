-- A fact that holds for each item of a list, when an item is added.
use Rattle.std.proofs.Common.{◌≡◌, ℕ, ◌+◌, ◌<◌, List, [], ◌∷◌, ◌++◌, length, sym, subst, arith, inl, inr}
use Rattle.std.specs.Prelude.{slice_index_or}
use Rattle.std.proofs.{lemmas.Bool.cases_lt, lemmas.List.get_or_append_left, lemmas.List.get_or_push}

pub pushed : {X : Type 0} (xs : List X) (x : X) (P : ℕ → X → Type 0) (n : ℕ) → length xs ≡ n → ((k : ℕ) (d : X) → k < n → P k (slice_index_or xs k d)) → P n x
    → (k : ℕ) (d : X) → k < n + 1 → P k (slice_index_or (xs ++ x ∷ []) k d)
pushed xs x P n len h p k d less = grind (arith, cases_lt, inl, subst, sym, get_or_append_left, arith, inr, length, get_or_push)

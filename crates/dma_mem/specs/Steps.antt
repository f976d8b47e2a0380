-- Steps in a row.
use Rattle.std.specs.Prelude.{ℕ, zero, suc, Bool, ◌&&◌, ◌==◌, if◌then◌else◌}

-- How many steps are taken, at most as many as the last argument: after k steps another one is taken if `goes_on k`.
abbrev pub taken_in : (ℕ → Bool) → ℕ → ℕ
taken_in goes_on zero = 0
taken_in goes_on (suc n) = let k = taken_in goes_on n in if k == n && goes_on k then suc k else k

-- Circles of channels each of which waits for the next.
use Rattle.std.specs.Prelude.{◌≡◌, ◌<◌, ◌==◌, ◌&&◌, ℕ, ◌+◌, ◌-◌, suc, zero, Option, Some, None, List, [], ◌∷◌, ◌++◌, find}
use Rattle.std.specs.{List.All, List.Contains, Option.option_map, Option.option_or}
use Rattle.dma_why.specs.declared.waits.Wait.{Wait}

-- the wait of a channel for another, if it waits for it
abbrev pub wait_between : List Wait → ℕ → ℕ → Option Wait
wait_between waits from to = find (λ w. w.ch == from && w.by.ch == to) waits

-- a way and then another, if there are both
abbrev pub joined : Option (List Wait) → Option (List Wait) → Option (List Wait)
joined (Some way) (Some rest) = Some (way ++ rest)
joined _ _ = None

-- A way from a channel to another, each of whose waits is of the channel for which the one before waits, over the n
-- channels from `low` on; over `low` itself only if there is none over the others.
abbrev pub way : List Wait → ℕ → ℕ → ℕ → ℕ → Option (List Wait)
way waits from to low zero = option_map (λ w. w ∷ []) (wait_between waits from to)
way waits from to low (suc n) =
    option_or (way waits from to (low + 1) n)
    (joined (way waits from low (low + 1) n) (way waits low to (low + 1) n))

-- A circle whose lowest channel is this one of `many` channels, if there is one: a way back to it over the channels
-- above it.
abbrev pub circle_from : List Wait → ℕ → ℕ → Option (List Wait)
circle_from waits many first = way waits first first (first + 1) (many - (first + 1))

-- These waits lead from a channel to another: each is of the channel for which the one before waits.
abbrev pub IsWay : ℕ → ℕ → List Wait → Type 0
IsWay from to [] = from ≡ to
IsWay from to (w ∷ more) = (w.ch ≡ from) × IsWay w.by.ch to more

-- A circle of waits among these: they lead from a channel back to it, over channels above it.
abbrev pub IsCircle : List Wait → ℕ → List Wait → Type 0
IsCircle waits first [] = ⊥
IsCircle waits first (w ∷ more) =
    All (Contains waits) (w ∷ more) × IsWay first first (w ∷ more) × All (λ x. first < x.ch) more

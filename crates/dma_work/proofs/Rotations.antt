-- Rotations: one turn more, and the laws.
use Rattle.std.proofs.Common.{zero, suc, map, zero-add, add-one, ◌≡◌, ℕ, ◌+◌, ◌-◌, List, [], ◌∷◌, ◌++◌, length, refl, sym, ◌∙◌, subst, ap}
use Rattle.std.proofs.Common.{arith}
use Rattle.std.specs.{List.range_with_len}
use Rattle.std.proofs.lemmas.List.FromFn.{get_or-map-range_with_len, length-map-range_with_len, map-range_with_len_more}
use Rattle.std.proofs.Math.Nat.{zero-mod}
use Rattle.dma_engine.specs.Interleaved.{channel_at, rotation}
use Rattle.dma_engine.proofs.Interleavings.{channel_again, channel_next}
use Rattle.dma_work.specs.Rotation.{GoesRound, ListsChannels, StepsInTurn}

-- one turn more
pub one_more : {S : Type 0} (acts : S → ℕ → S → Type 0) (xs : List ℕ) (ch : ℕ) (a b c : S) → StepsInTurn acts xs a b → acts b ch c
    → StepsInTurn acts (xs ++ ch ∷ []) a c
one_more acts [] ch a b c h t = (c, subst (λ x. acts x ch c) h t, refl)
one_more acts (x ∷ xs) ch a b c h t = (h.0, h.1, one_more acts xs ch h.0 b c h.2 t)

-- ---- the laws

first_at : (first last : ℕ) → channel_at first last 0 ≡ first
first_at first last = omega (arith, zero-mod (last - first + 1))

pub goes_round : GoesRound
goes_round first last k le = grind (arith, first_at, sym, channel_next, refl, channel_again, arith)

rotation_is : (first last turns : ℕ) → rotation first last turns ≡ map (channel_at first last) (range_with_len 0 turns)
rotation_is first last zero = refl
rotation_is first last (suc n) =
    ap (λ l. l ++ channel_at first last n ∷ []) (rotation_is first last n)
    ∙ sym (rw (add-one n) at (map-range_with_len_more (channel_at first last) 0 n n (zero-add n)))

pub lists_channels : ListsChannels
lists_channels first last turns = grind (arith, rotation_is, ap, length, length-map-range_with_len, get_or-map-range_with_len, zero-add)

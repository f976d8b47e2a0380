-- Chunks in groups.
use Rattle.std.proofs.Common.{◌≡◌, ◌≢◌, ℕ, zero, suc, ◌*◌, ◌/◌, ◌%◌, ◌<◌, ◌≤◌, List, [], ◌∷◌, ◌++◌, length, get_or, replicate, set, ap, refl, sym, ◌∙◌}
use Rattle.std.proofs.Common.{arith, inl, inr}
use Rattle.std.proofs.lemmas.List.{ext_get_or, length-set, get_or-set_same, get_or-set_other, get_or_past, get_or_default, length-replicate, get_or-replicate}
use Rattle.std.proofs.{lemmas.Bool.cases_lt, lemmas.Bool.cases_eq, lemmas.List.FromFn.length-map-range_with_len, lemmas.List.FromFn.get_or-map-range_with_len}
use Rattle.dma_mem.specs.inner.ChunkTable.{chunk_at, flat}

-- a list of zeros has a zero at each place, and past its end
pub zero_at : (n k : ℕ) → get_or {A = ℕ} (replicate n 0) k 0 ≡ 0
zero_at n k = grind (arith, cases_lt, get_or-replicate, get_or_past, length-replicate)

pub length_flat : (groups : List (List (List ℕ))) → length (flat groups) ≡ 256 * length groups
unfolding flat
length_flat groups = length-map-range_with_len _ 0 (256 * length groups)

pub chunk_at_flat : (groups : List (List (List ℕ))) (p : ℕ) → chunk_at (flat groups) p ≡ chunk_at (get_or groups (p / 256) []) (p % 256)
unfolding flat
chunk_at_flat groups p = grind (arith, cases_lt, get_or-map-range_with_len, get_or_past, length_flat)

-- a chunk of a group that was changed, and one of another group
pub chunk_at_flat_same : (groups : List (List (List ℕ))) (g p : ℕ) (group : List (List ℕ)) → g < length groups → p / 256 ≡ g
    → chunk_at (flat (set groups g group)) p ≡ chunk_at group (p % 256)
chunk_at_flat_same groups g p group h e = grind (arith, chunk_at_flat, get_or-set_same)

pub chunk_at_flat_other : (groups : List (List (List ℕ))) (g p : ℕ) (group : List (List ℕ)) → p / 256 ≢ g
    → chunk_at (flat (set groups g group)) p ≡ chunk_at (flat groups) p
chunk_at_flat_other groups g p group n = grind (arith, chunk_at_flat, get_or-set_other)

pub length_flat_set : (groups : List (List (List ℕ))) (g : ℕ) (group : List (List ℕ)) → length (flat (set groups g group)) ≡ length (flat groups)
length_flat_set groups g group = length_flat (set groups g group) ∙ ap (λ n. 256 * n) (length-set groups g group) ∙ sym (length_flat groups)

-- a chunk that has bytes is in the list
pub within_chunks : (chunks : List (List ℕ)) (p : ℕ) → 0 < length (chunk_at chunks p) → p < length chunks
within_chunks chunks p h = grind (arith, cases_lt, get_or_past)

pub chunk_found : (groups : List (List (List ℕ))) (chunks : List (List ℕ)) (n p : ℕ) (group : List (List ℕ)) → flat groups ≡ chunks
    → group ≡ get_or groups (n / 256) group → n / 256 < length groups → p / 256 ≡ n / 256 → chunk_at group (p % 256) ≡ chunk_at chunks p
chunk_found groups chunks n p group v is h e = grind (arith, get_or_default, chunk_at_flat)

-- a chunk that is in no group isn't made
pub chunk_missing : (groups : List (List (List ℕ))) (chunks : List (List ℕ)) (n : ℕ) → flat groups ≡ chunks → length groups ≤ n / 256 → [] ≡ chunk_at chunks n
chunk_missing groups chunks n v h = grind (arith, chunk_at_flat, get_or_past)

pub group_within : (groups : List (List (List ℕ))) (chunks : List (List ℕ)) (n : ℕ) → flat groups ≡ chunks → n < length chunks → n / 256 < length groups
group_within groups chunks n v h = omega (arith, length_flat groups, ap length v)

-- a group that is put back as it was
pub put_back : (groups : List (List (List ℕ))) (chunks : List (List ℕ)) (n : ℕ) (group new : List (List ℕ)) → flat groups ≡ chunks
    → group ≡ get_or groups (n / 256) group → n / 256 < length groups → ((p : ℕ) → chunk_at new p ≡ chunk_at group p) → flat (set groups (n / 256) new) ≡ chunks
put_back groups chunks n group new v is h e =
    ext_get_or [] _ _ (length_flat_set groups (n / 256) new ∙ ap length v) (λ p l.
    elim (cases_eq (p / 256) (n / 256)) [
      | inl same ↦ chunk_at_flat_same groups (n / 256) p new h same ∙ e (p % 256) ∙ chunk_found groups chunks n p group v is h same
      | inr other ↦ chunk_at_flat_other groups (n / 256) p new other ∙ ap (λ x. chunk_at x p) v
    ])

-- of a group of which one chunk was changed, the other chunks
pub others_kept : (groups : List (List (List ℕ))) (chunks : List (List ℕ)) (n : ℕ) (group new : List (List ℕ)) → flat groups ≡ chunks
    → group ≡ get_or groups (n / 256) group → n / 256 < length groups → ((p : ℕ) → p ≢ n % 256 → chunk_at new p ≡ chunk_at group p) → (p : ℕ) → p ≢ n
    → chunk_at (flat (set groups (n / 256) new)) p ≡ chunk_at chunks p
others_kept groups chunks n group new v is h e p other = grind (arith, cases_eq, chunk_at_flat_same, chunk_found, chunk_at_flat_other)

-- one more empty list
pub none_more : {A : Type 0} → (lists : List (List A)) (more : List A) → more ≡ [] → ((p : ℕ) → get_or lists p [] ≡ []) → (p : ℕ)
    → get_or (lists ++ more ∷ []) p [] ≡ []
none_more [] more is none zero = is
none_more [] more is none (suc p) = refl
none_more (list ∷ lists) more is none zero = none 0
none_more (list ∷ lists) more is none (suc p) = none_more lists more is (λ q. none (suc q)) p

-- The thread that `get` finds, if any, also once a thread is replaced.
use Rattle.std.proofs.Common.{◌≡◌, ℕ, ◌<◌, List, length, Some, None, true, false, ltb, get_or, refl, sym, ◌≢◌, ◌∙◌, zero, suc, Bool, ◌||◌, [], ◌∷◌, ap, arith}
use Rattle.std.proofs.Common.{subst, true≢false}
use Rattle.std.proofs.lemmas.Option.{slice_get_past, slice_get_read, get_or_from_slice_get, slice_get-get_or, slice_get_within}
use Rattle.std.proofs.{lemmas.List.Elements.All-get_or, lemmas.List.get_or-set_same, lemmas.List.length-set, lemmas.List.set-get_or, lemmas.Bool.ltb-false}
use Rattle.std.proofs.{lemmas.Bool.ltb-true, lemmas.Bool.or_parts}
use Rattle.std.specs.{List.All, List.list_any, Prelude.slice_get, Prelude.slice_set, Option.option_map_or}
use Rattle.dma_device.specs.{Device.DeviceValue, Thread.runs, Turns.runs_at, declared.thread.Thread.Thread}

pub found_at : (ts l : List Thread) (n : ℕ) (t : Thread) → l ≡ ts → true ≡ ltb n (length l) → t ≡ get_or l n t → (n < length ts) × (slice_get ts n ≡ Some t)
found_at ts l n t same within is = grind (arith, ltb-true, slice_get_read)

pub none_at : (ts l : List Thread) (n : ℕ) → l ≡ ts → false ≡ ltb n (length l) → slice_get ts n ≡ None
none_at ts l n same out = slice_get_past ts n (ltb-false n (length ts) (sym (rw same at out)))

-- a thread that runs is one of the device's
runs_within : (ts : List Thread) (n : ℕ) → option_map_or runs (slice_get ts n) false ≡ true → n < length ts
runs_within [] n on = absurd (true≢false (sym on))
runs_within (t ∷ ts) zero on = omega arith
runs_within (t ∷ ts) (suc n) on = omega (arith, runs_within ts n on)

pub found_running : (d e : DeviceValue) (n : ℕ) (t : Thread) → e ≡ d → runs_at d n ≡ true → t ≡ get_or e.threads n t → slice_get e.threads n ≡ Some t
found_running d e n t same on is = grind (arith, slice_get_read, runs_within)

-- ---- in lists of threads

pub set_found : (ts : List Thread) (n : ℕ) (th new : Thread) → slice_get ts n ≡ Some th → slice_get (slice_set ts n new) n ≡ Some new
set_found ts n th new is =
    let within = slice_get_within ts n th is in
    let fits : n < length (slice_set ts n new) = omega (arith, length-set {A = Thread}) in
    slice_get-get_or (slice_set ts n new) n th fits ∙ ap Some (get_or-set_same ts n new th within)

pub set_other : (ts : List Thread) (n m : ℕ) (u : Thread) → m ≢ n → slice_get (slice_set ts n u) m ≡ slice_get ts m
set_other (t ∷ ts) zero zero u other = absurd (other refl)
set_other (t ∷ ts) (suc n) (suc m) u other = set_other ts n m u (λ same. other (ap suc same))
set_other ts n m u other = refl

pub any_at : (p : Thread → Bool) (ts : List Thread) (n : ℕ) (t : Thread) → list_any p ts ≡ false → slice_get ts n ≡ Some t → p t ≡ false
any_at p [] n t none found = absurd (cc)
any_at p (u ∷ us) zero t none found = let same : u ≡ t = cc in subst (λ (v : Thread). p v ≡ false) same (or_parts (p u) (list_any p us) none).0
any_at p (u ∷ us) (suc n) t none found = any_at p us n t (or_parts (p u) (list_any p us) none).1 found

-- a thread that is replaced by one alike changes no answer
pub any_set : (p : Thread → Bool) (ts : List Thread) (n : ℕ) (t u : Thread) → slice_get ts n ≡ Some t → p u ≡ p t
    → list_any p (slice_set ts n u) ≡ list_any p ts
any_set p [] n t u found alike = refl
any_set p (v ∷ vs) zero t u found alike = grind arith
any_set p (v ∷ vs) (suc n) t u found alike = ap (λ (b : Bool). p v || b) (any_set p vs n t u found alike)

pub put_back : (ts : List Thread) (n : ℕ) (t : Thread) → slice_get ts n ≡ Some t → slice_set ts n t ≡ ts
put_back ts n t found = ap (slice_set ts n) (sym (get_or_from_slice_get ts n t t found)) ∙ set-get_or ts n t

pub all_at : (P : Thread → Type 0) (ts : List Thread) (n : ℕ) (t : Thread) → All P ts → slice_get ts n ≡ Some t → P t
all_at P ts n t all found = subst P (get_or_from_slice_get ts n t t found) (All-get_or P ts n t (slice_get_within ts n t found) all)

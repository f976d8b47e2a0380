-- Turns of several jobs, taken one after another.
use Rattle.std.proofs.Common.{◌≡◌, ◌==◌, ℕ, ◌+◌, ◌-◌, ◌%◌, ◌<◌, ◌≤◌, Bool, List, [], ◌∷◌, ◌++◌, length, Result, refl, ap}
use Rattle.std.proofs.Common.{arith, append-nil, add-mul, one-mul}
use Rattle.std.specs.Prelude.{if◌then◌else◌, slice_index_or, slice_set}
use Rattle.std.proofs.{lemmas.Bool.cases_eq, lemmas.Bool.eq-eqb, lemmas.Bool.ne_eqb, lemmas.List.get_or-set_other, lemmas.List.get_or-set_same}
use Rattle.std.proofs.{lemmas.Nat.mod-mul-add, lemmas.Nat.mod_below}
use Rattle.dma_engine.specs.Interleaved.{Interleaves, JobTurn, channel_at, channels_of, turns_taken}
use Rattle.dma_engine.specs.{Turn.turn, View.View, declared.fault.EngineFault.EngineFault, declared.turn.Turn.Turn}

-- ---- one turn more

in_front : (b : Bool) (x : ℕ) (xs ys zs : List ℕ) → zs ≡ xs ++ ys → (if b then x ∷ zs else zs) ≡ (if b then x ∷ xs else xs) ++ ys
in_front b x xs ys zs h = grind (arith)

pub channels_append : (k : ℕ) (turns more : List JobTurn) → channels_of k (turns ++ more) ≡ channels_of k turns ++ channels_of k more
channels_append k [] more = refl
channels_append k (t ∷ turns) more = in_front (t.job == k) t.channel _ _ _ (channels_append k turns more)

-- the turns that one more turn makes of an interleaving
pub interleaves_more : (jobs : List (List ℕ)) (turns : List JobTurn) (t : JobTurn) → t.job < length jobs → Interleaves jobs turns
    → Interleaves (slice_set jobs t.job (slice_index_or jobs t.job [] ++ t.channel ∷ [])) (turns ++ t ∷ [])
interleaves_more jobs turns t there h k = grind (arith, channels_append, cases_eq, eq-eqb, get_or-set_same, ne_eqb, append-nil, get_or-set_other)

pub taken_append : (v : View) (turns more : List JobTurn)
    → turns_taken v (turns ++ more) ≡ (let a = turns_taken v turns in let b = turns_taken a.1 more in (a.0 ++ b.0, b.1))
taken_append v [] more = refl
taken_append v (t ∷ turns) more =
    ap (λ (a : List (Result Turn EngineFault) × View). ((turn v t.channel).0 ∷ a.0, a.1)) (taken_append (turn v t.channel).1 turns more)

-- ---- the channel after a channel of a rotation

-- the remainders by a number: one more, or 0 again
mod_next : (n w : ℕ) → n % w + 1 < w → (n + 1) % w ≡ n % w + 1
mod_next n w less = grind (arith, mod-mul-add)

mod_again : (n w : ℕ) → 0 < w → n % w + 1 ≡ w → (n + 1) % w ≡ 0
mod_again n w some all = grind (arith, add-mul, one-mul, mod-mul-add)

-- the channel after a channel that isn't the last
pub channel_next : (first last n ch : ℕ) → ch ≡ channel_at first last n → ch < last → ch + 1 ≡ channel_at first last (n + 1)
channel_next first last n ch is less = omega (arith, is, mod_next n (last - first + 1) (omega (arith, is, less)))

-- and the one after the last
pub channel_again : (first last n ch : ℕ) → ch ≡ channel_at first last n → last ≤ ch → first ≡ channel_at first last (n + 1)
channel_again first last n ch is past = grind (arith, mod_below, mod_again)

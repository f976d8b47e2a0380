-- The turns that are drawn for a seed.
use Rattle.std.proofs.Common.{◌≡◌, ℕ, zero, suc, ◌+◌, ◌-◌, ◌%◌, ◌<◌, ◌≤◌, List, [], ◌∷◌, ◌++◌, length, refl, ap, sym, ◌∙◌, subst, arith, inl, inr, map, add-one}
use Rattle.std.proofs.Common.{append-nil, append_assoc}
use Rattle.std.proofs.lemmas.Bool.{cases_eq, cases_lt, cond_both, eq-eqb, lt-ltb, le-ltb, ltb-true, ne_eqb}
use Rattle.std.proofs.lemmas.List.{get_or-map, get_or-set_other, get_or-set_same, get_or_past, length-map, set_past}
use Rattle.std.proofs.{Math.Nat.zero-mod, lemmas.List.Sums.get_or-le-sum_by, lemmas.List.Sums.sum_by-cons, lemmas.List.Sums.sum_by-set}
use Rattle.std.specs.{Prelude.if◌then◌else◌, Prelude.slice_index_or, Prelude.slice_set, List.All}
use Rattle.dma_engine.specs.Interleaved.{JobTurn, channel_at, channels_of, rotation}
use Rattle.dma_engine.proofs.Interleavings.{channel_again, channel_next}
use Rattle.dma_commands.specs.Raced.{channels_of_line}
use Rattle.dma_script.specs.{Race.IsJob, declared.race.JobLine.JobLine}
use Rattle.dma_seeds.specs.declared.turns.TurnsLeft.{TurnsLeft}
use Rattle.dma_seeds.specs.Turns.{SeedsInterleave, after_turn, all_turns, drawn, following, job_at, next_word, no_turns, total_left, turns_of_seed}
use Rattle.rand_xoshiro.specs.SplitMix64.{mix_u64}

-- ---- the job of a turn

-- the job of a turn that is left exists, and has a turn left
pub record HasTurn (jobs : List TurnsLeft) (k : ℕ) : Type 0 where
  pub there : k < length jobs
  pub some : 0 < (slice_index_or jobs k no_turns).left

pub job_at_has : (jobs : List TurnsLeft) (place : ℕ) → place < total_left jobs → HasTurn jobs (job_at jobs place)
job_at_has [] place less = absurd (omega (arith, less))
job_at_has (job ∷ jobs) place less = elim (cases_lt place job.left) [
  | inl here ↦ rw (lt-ltb place job.left here) (record { there = omega arith; some = omega (arith, here) })
  | inr behind ↦
      let rest = job_at_has jobs (place - job.left) (omega (arith, less, behind, sum_by-cons (λ (j : TurnsLeft). j.left) job jobs)) in
      rw (le-ltb place job.left behind) (record { there = omega (arith, rest.there); some = rest.some })
]

-- ---- one turn

-- one turn fewer is left
total-after : (jobs : List TurnsLeft) (k : ℕ) → HasTurn jobs k → (n : ℕ) → total_left jobs ≡ suc n
    → total_left (slice_set jobs k (after_turn (slice_index_or jobs k no_turns))) ≡ n
total-after jobs k has n total = grind (arith, sum_by-set)

-- ---- all turns

pub drawn_none : (state : ℕ) (jobs : List TurnsLeft) → drawn 0 state jobs ≡ []
unfolding drawn
drawn_none state jobs = refl

-- the last n + 1 turns, by the generator's word and its next state
abbrev drawn_with : ℕ → List TurnsLeft → ℕ × ℕ → List JobTurn
drawn_with n jobs w =
    let k = job_at jobs (w.0 % suc n) in
    let job = slice_index_or jobs k no_turns in
    record { job = k; channel = job.next } ∷ drawn n w.1 (slice_set jobs k (after_turn job))

pub drawn_suc : (n state : ℕ) (jobs : List TurnsLeft) → drawn (suc n) state jobs ≡ drawn_with n jobs (next_word state)
unfolding drawn
drawn_suc n state jobs = refl

pub word_is_law : (state : ℕ) → next_word state ≡ mix_u64 state
unfolding next_word
word_is_law state = refl

-- one turn is taken, with the generator's next word
pub drawn_next : (left state word state' : ℕ) (jobs : List TurnsLeft) (k : ℕ) (job after : TurnsLeft) → 0 < left → (word, state') ≡ mix_u64 state
    → k ≡ job_at jobs (word % left) → job ≡ slice_index_or jobs k no_turns → after ≡ after_turn job
    → drawn left state jobs ≡ record { job = k; channel = job.next } ∷ drawn (left - 1) state' (slice_set jobs k after)
drawn_next zero state word state' jobs k job after some words at here fits = absurd (omega arith)
drawn_next (suc n) state word state' jobs k job after some words at here fits = grind (arith, drawn_suc, word_is_law)

pub length_drawn : (n state : ℕ) (jobs : List TurnsLeft) → length (drawn n state jobs) ≡ n
unfolding drawn
length_drawn zero state jobs = refl
length_drawn (suc n) state jobs = ap suc (length_drawn n _ _)

-- ---- the turns of each job

-- the channels of this many turns of a rotation, from a channel on
abbrev channels_from : ℕ → ℕ → ℕ → ℕ → List ℕ
channels_from first last ch zero = []
channels_from first last ch (suc n) = ch ∷ channels_from first last (following first last ch) n

follows : (first last k : ℕ) → following first last (channel_at first last k) ≡ channel_at first last (k + 1)
follows first last k = grind (arith, cases_lt, lt-ltb, channel_next, le-ltb, channel_again)

rotation_on : (first last k n : ℕ) → rotation first last k ++ channels_from first last (channel_at first last k) n ≡ rotation first last (k + n)
rotation_on first last k zero = grind (arith, append-nil)
rotation_on first last k (suc n) =
    let ch = channel_at first last k in
    let same : suc k + n ≡ k + suc n = omega arith in
    ap (λ c. rotation first last k ++ ch ∷ channels_from first last c n) (follows first last k ∙ ap (channel_at first last) (add-one k))
    ∙ sym (append_assoc (rotation first last k) (ch ∷ []) (channels_from first last (channel_at first last (suc k)) n))
    ∙ rotation_on first last (suc k) n ∙ ap (rotation first last) same

-- a rotation from its first channel on
rotation_is : (first last n : ℕ) → channels_from first last first n ≡ rotation first last n
rotation_is first last n =
    let at_first : first ≡ channel_at first last 0 = omega (arith, zero-mod (last - first + 1)) in
    let same : 0 + n ≡ n = omega arith in
    ap (λ c. channels_from first last c n) at_first ∙ rotation_on first last 0 n ∙ ap (rotation first last) same

-- the channels that a job has left
abbrev left_channels : TurnsLeft → List ℕ
left_channels t = channels_from t.first t.last t.next t.left

left_next : (first last ch left : ℕ) → 0 < left → channels_from first last ch left ≡ ch ∷ channels_from first last (following first last ch) (left - 1)
left_next first last ch left h = grind (arith)

-- where no turn is left, no job has a turn
none_left : (jobs : List TurnsLeft) (k : ℕ) → total_left jobs ≡ 0 → left_channels (slice_index_or jobs k no_turns) ≡ []
none_left jobs k none = grind (arith, cases_lt, get_or-le-sum_by, get_or_past)

-- Each job takes the turns that it has left, in its order.
pub drawn_each : (n state : ℕ) (jobs : List TurnsLeft) (k : ℕ) → total_left jobs ≡ n
    → channels_of k (drawn n state jobs) ≡ left_channels (slice_index_or jobs k no_turns)
drawn_each zero state jobs k total = ap (channels_of k) (drawn_none state jobs) ∙ sym (none_left jobs k total)
drawn_each (suc n) state jobs k total =
    let w = next_word state in
    let at = job_at jobs (w.0 % suc n) in
    let has = job_at_has jobs (w.0 % suc n) (omega (arith, total)) in
    let job = slice_index_or jobs at no_turns in
    let rest = slice_set jobs at (after_turn job) in
    let others = drawn_each n w.1 rest k (total-after jobs at has n total) in
    ap (channels_of k) (drawn_suc n state jobs)
    ∙ elim (cases_eq at k) [
      | inl same ↦
          ap (λ b. if b then job.next ∷ channels_of k (drawn n w.1 rest) else channels_of k (drawn n w.1 rest)) (eq-eqb at k same)
          ∙ ap (λ l. job.next ∷ l) (others
          ∙ ap left_channels (ap (λ i. slice_index_or rest i no_turns) (sym same) ∙ get_or-set_same jobs at (after_turn job) no_turns has.there))
          ∙ sym (left_next job.first job.last job.next job.left has.some)
          ∙ ap (λ i. left_channels (slice_index_or jobs i no_turns)) same
      | inr apart ↦
          ap (λ b. if b then job.next ∷ channels_of k (drawn n w.1 rest) else channels_of k (drawn n w.1 rest)) (ne_eqb at k apart)
          ∙ others ∙ ap left_channels (get_or-set_other jobs at k (after_turn job) no_turns (λ e. apart (sym e)))
    ]

each_line : (lines : List JobLine) (k : ℕ) → left_channels (slice_index_or (map all_turns lines) k no_turns) ≡ slice_index_or (map channels_of_line lines) k []
each_line [] k = refl
each_line (line ∷ lines) zero = rotation_is line.first line.last line.turns
each_line (line ∷ lines) (suc k) = each_line lines k

-- The turns for a seed are an interleaving of the jobs' turns.
pub seeds_interleave_law : SeedsInterleave
seeds_interleave_law lines seed k = grind (arith, drawn_each, each_line)

-- ---- the channels

-- the channels of a job are at most the last one
abbrev IsLow : TurnsLeft → Type 0
IsLow t = (t.first ≤ 7) × (t.last ≤ 7) × (t.next ≤ 7)

-- the channels of turns are at most the last one
abbrev pub AreLow : List JobTurn → Type 0
AreLow [] = Unit {0}
AreLow (t ∷ turns) = (t.channel ≤ 7) × AreLow turns

following_low : (first last ch : ℕ) → first ≤ 7 → last ≤ 7 → following first last ch ≤ 7
following_low first last ch f l = grind (arith, cond_both, ltb-true)

after_low : (t : TurnsLeft) → IsLow t → IsLow (after_turn t)
after_low t low = (low.0, low.1, following_low t.first t.last t.next low.0 low.1)

set_low : (jobs : List TurnsLeft) (at : ℕ) (t : TurnsLeft) → IsLow t → ((k : ℕ) → IsLow (slice_index_or jobs k no_turns)) → (k : ℕ)
    → IsLow (slice_index_or (slice_set jobs at t) k no_turns)
set_low jobs at t low each k = grind (arith, cases_eq, cases_lt, get_or-set_same, set_past, get_or-set_other)

drawn_low : (n state : ℕ) (jobs : List TurnsLeft) → ((k : ℕ) → IsLow (slice_index_or jobs k no_turns)) → AreLow (drawn n state jobs)
drawn_low zero state jobs each = subst AreLow (sym (drawn_none state jobs)) tt
drawn_low (suc n) state jobs each =
    let w = next_word state in
    let at = job_at jobs (w.0 % suc n) in
    let job = slice_index_or jobs at no_turns in
    subst AreLow (sym (drawn_suc n state jobs))
    ((each at).2, drawn_low n w.1 (slice_set jobs at (after_turn job)) (set_low jobs at (after_turn job) (after_low job (each at)) each))

-- The turns for a seed step channels that a job may name.
pub seeds_low : (lines : List JobLine) (seed : ℕ) → All IsJob lines → AreLow (turns_of_seed lines seed)
seeds_low lines seed jobs =
    let all = map all_turns lines in
    let each : (k : ℕ) → IsLow (slice_index_or all k no_turns) = λ k. elim (cases_lt k (length lines)) [
      | inl less ↦
          let line = slice_index_or lines k (record { first = 0; last = 0; turns = 0 }) in
          let is = jobs k (record { first = 0; last = 0; turns = 0 }) less in
          subst IsLow (sym (get_or-map all_turns lines k (record { first = 0; last = 0; turns = 0 }) no_turns less))
          (omega (arith, is.0, is.1), is.1, omega (arith, is.0, is.1))
      | inr past ↦ subst IsLow (sym (get_or_past all k no_turns (omega (arith, past, length-map lines all_turns)))) (omega arith, omega arith, omega arith)
    ] in
    drawn_low (total_left all) seed all each

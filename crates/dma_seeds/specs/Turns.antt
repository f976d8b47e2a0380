-- The order in which the turns of a race's jobs are taken for a seed (profile).
use Rattle.std.specs.Prelude.{ℕ, ◌+◌, ◌-◌, ◌%◌, zero, suc, nat_lt, if◌then◌else◌, List, [], ◌∷◌, map, slice_index_or, slice_set}
use Rattle.std.specs.List.{sum_by}
use Rattle.dma_engine.specs.Interleaved.{Interleaves, JobTurn}
use Rattle.dma_script.specs.declared.race.JobLine.{JobLine}
use Rattle.dma_commands.specs.Raced.{channels_of_line}
use Rattle.rand_xoshiro.specs.SplitMix64.{mix_u64}
use Rattle.dma_seeds.specs.declared.turns.TurnsLeft.{TurnsLeft}

-- the channel after this one in a rotation: the next one, and the first after the last
abbrev pub following : ℕ → ℕ → ℕ → ℕ
following first last ch = if nat_lt ch last then ch + 1 else first

-- all turns of a job, of which the first steps its first channel
abbrev pub all_turns : JobLine → TurnsLeft
all_turns job = record { first = job.first; last = job.last; next = job.first; left = job.turns }

-- a job with no turns
abbrev pub no_turns : TurnsLeft
no_turns = record { first = 0; last = 0; next = 0; left = 0 }

-- what a job has left after its next turn
abbrev pub after_turn : TurnsLeft → TurnsLeft
after_turn job = record job { next = following job.first job.last job.next; left = job.left - 1 }

-- how many turns all jobs have left
abbrev pub total_left : List TurnsLeft → ℕ
total_left jobs = sum_by (λ (job : TurnsLeft). job.left) jobs

-- If all turns that are left are listed job by job, the number of the job to which the turn at this place belongs.
abbrev pub job_at : List TurnsLeft → ℕ → ℕ
job_at [] place = 0
job_at (job ∷ jobs) place = if nat_lt place job.left then 0 else suc (job_at jobs (place - job.left))

-- a 64-bit word of SplitMix64, and the next state of the generator
unfoldable pub next_word : ℕ → ℕ × ℕ
next_word state = mix_u64 state

-- The last n turns, with a generator in this state. The generator's next word, modulo n, is the place of a turn among
-- those that are left, listed job by job. The next turn is the next one of that turn's job.
unfoldable pub drawn : ℕ → ℕ → List TurnsLeft → List JobTurn
drawn zero state jobs = []
drawn (suc n) state jobs =
    let word = next_word state in
    let k = job_at jobs (word.0 % suc n) in
    let job = slice_index_or jobs k no_turns in
    record { job = k; channel = job.next } ∷ drawn n word.1 (slice_set jobs k (after_turn job))

-- The turns of these jobs, in the order that a seed determines: the seed is the first state of the generator.
abbrev pub turns_of_seed : List JobLine → ℕ → List JobTurn
turns_of_seed lines seed = let jobs = map all_turns lines in drawn (total_left jobs) seed jobs

-- For each seed, the turns are an interleaving of the jobs' turns.
abbrev pub SeedsInterleave : Type 0
SeedsInterleave = (jobs : List JobLine) (seed : ℕ) → Interleaves (map channels_of_line jobs) (turns_of_seed jobs seed)

-- Some turns are an interleaving of jobs: those of one job after another.
use Rattle.std.proofs.Common.{◌≡◌, ◌≢◌, ℕ, zero, suc, ◌+◌, ◌<◌, List, [], ◌∷◌, ◌++◌, refl, sym, ap, ◌∙◌, arith, append-nil}
use Rattle.std.specs.Prelude.{if◌then◌else◌, slice_index_or}
use Rattle.std.proofs.lemmas.Bool.{eq-eqb, ne_eqb}
use Rattle.dma_engine.specs.Interleaved.{Interleaves, JobTurn, channels_of}
use Rattle.dma_engine.proofs.Interleavings.{channels_append}

-- the turns of one job on these channels
of_job : ℕ → List ℕ → List JobTurn
of_job k [] = []
of_job k (ch ∷ chs) = record { job = k; channel = ch } ∷ of_job k chs

its_channels : (k : ℕ) (chs : List ℕ) → channels_of k (of_job k chs) ≡ chs
unfolding of_job
its_channels k [] = refl
its_channels k (ch ∷ chs) =
    let rest = channels_of k (of_job k chs) in
    ap (λ b. if b then ch ∷ rest else rest) (eq-eqb k k refl) ∙ ap (λ l. ch ∷ l) (its_channels k chs)

no_others : (k j : ℕ) (chs : List ℕ) → j ≢ k → channels_of j (of_job k chs) ≡ []
unfolding of_job
no_others k j [] apart = refl
no_others k j (ch ∷ chs) apart =
    let rest = channels_of j (of_job k chs) in
    ap (λ b. if b then ch ∷ rest else rest) (ne_eqb k j (λ e. apart (sym e))) ∙ no_others k j chs apart

-- the turns of these jobs, whose numbers are those from k on
of_jobs : ℕ → List (List ℕ) → List JobTurn
of_jobs k [] = []
of_jobs k (job ∷ jobs) = of_job k job ++ of_jobs (suc k) jobs

-- a job before these takes no turn
before : (k i : ℕ) (jobs : List (List ℕ)) → i < k → channels_of i (of_jobs k jobs) ≡ []
unfolding of_jobs
before k i [] less = refl
before k i (job ∷ jobs) less =
    channels_append i (of_job k job) (of_jobs (suc k) jobs)
    ∙ ap (λ l. l ++ channels_of i (of_jobs (suc k) jobs)) (no_others k i job (λ e. omega (arith, less, e)))
    ∙ before (suc k) i jobs (omega (arith, less))

-- and each of these takes its own
each : (k i m : ℕ) (jobs : List (List ℕ)) → m ≡ k + i → channels_of m (of_jobs k jobs) ≡ slice_index_or jobs i []
unfolding of_jobs
each k i m [] at = refl
each k zero m (job ∷ jobs) at =
    let here : m ≡ k = omega (arith, at) in
    ap (λ x. channels_of x (of_job k job ++ of_jobs (suc k) jobs)) here ∙ channels_append k (of_job k job) (of_jobs (suc k) jobs)
    ∙ ap (λ l. channels_of k (of_job k job) ++ l) (before (suc k) k jobs (omega arith)) ∙ append-nil (channels_of k (of_job k job))
    ∙ its_channels k job
each k (suc i) m (job ∷ jobs) at =
    channels_append m (of_job k job) (of_jobs (suc k) jobs)
    ∙ ap (λ l. l ++ channels_of m (of_jobs (suc k) jobs)) (no_others k m job (λ e. omega (arith, at, e)))
    ∙ each (suc k) i m jobs (omega (arith, at))

pub some_turns : (jobs : List (List ℕ)) → (turns : List JobTurn) × Interleaves jobs turns
some_turns jobs = (of_jobs 0 jobs, λ k. each 0 k k jobs (omega arith))

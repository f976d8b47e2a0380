-- A call does nothing, or it takes steps; a turn has two calls.
use Rattle.std.proofs.Common.{◌≡◌, ◌⊎◌, ℕ, ◌+◌, ◌^◌, ◌<◌, Bool, true, false, List, Option, Some, None, ap, arith, refl, subst}
use Rattle.std.specs.{Prelude.nat_lt, Prelude.slice_get, Option.option_map_or}
use Rattle.std.proofs.lemmas.Bool.{and_parts, not-true}
use Rattle.dma_mem.specs.Regions.{image_of, pieces_of}
use Rattle.dma_mem.specs.{Flags.flags_of, Marking.MarkList, declared.regions.Region.Region}
use Rattle.dma_chan.specs.Stepping.{Machine, TakesSteps, signal_after, written_after}
use Rattle.dma_chan.specs.{Channel.ahead_of, Written.range_at, declared.turn.ChanTurn.ChanTurn}
use Rattle.dma_device.specs.CallSteps.{StepsThread, first_in, last_in, machine_after, marks_in, second_in, signal_in}
use Rattle.dma_device.specs.Turns.{Outcome, Setup, TakesTurn, begins, called_if, follows, idle, lines_differ, machine_in}
use Rattle.dma_device.specs.Turns.{raises, runs_at, runs_without_store, setup_of, stepped, steps_in, with_flags}
use Rattle.dma_device.specs.{Device.DeviceValue, Device.with_thread, Thread.answered, Thread.is_store, Thread.runs, declared.device.turns.Called.Called}
use Rattle.dma_device.specs.{declared.device.turns.Turn.Turn, declared.thread.Thread.Thread}
use Rattle.dma_device.proofs.FlagNumber.{number_is}

-- ---- a call

-- what a call leaves and reports whose steps end so
abbrev pub outcome_by : ℕ → ℕ → Thread → Setup → Machine → Option ChanTurn → Called → Outcome
outcome_by n flags t s to last made =
    let after = answered s.device.config.events (record t { channel = to.channel }) last made.signal in
    record { left = record { device = with_thread n after (with_flags flags s.device); image = to.image }; called = made }

module _ (marks : MarkList) (most : ℕ) (t : Thread) (s : Setup) where
  -- the machine after a call of a thread
  abbrev pub machine_left : Machine
  machine_left = machine_after marks s t (steps_in marks most t s)

  -- the thread after it
  abbrev pub thread_left : Thread
  thread_left = answered s.device.config.events (record t { channel = machine_left.channel }) (last_in marks most t s) (signal_in marks most t s)

  -- what a call of a thread takes
  pub takes : TakesSteps marks (machine_in s t) most (steps_in marks most t s) (last_in marks most t s) machine_left
  takes = record { count = refl; answer = refl; ends_at = refl }

  -- a call has the outcome that its steps have
  pub stepped_is : (n flags : ℕ) (to : Machine) (last : Option ChanTurn) (made : Called) → flags < 2 ^ 32 → to.flags ≡ flags_of flags
      → TakesSteps marks (machine_in s t) most made.taken last to → made.signal ≡ signal_after marks (machine_in s t) made.taken
      → made.written ≡ written_after marks (machine_in s t) made.taken → stepped marks n most t s ≡ outcome_by n flags t s to last made
  stepped_is n flags to last made few seen x signal written = grind (arith, number_is)

-- what a call that isn't made reports: nothing is written, no flag is set, and no step is taken
abbrev pub nothing : Called
nothing = record { written = range_at 0 0; signal = None; taken = 0 }

-- nothing is called
pub record Rests (made : Bool) (marks : MarkList) (n most : ℕ) (s : Setup) : Type 0 where
  pub off : ¬ StepsThread made n s
  pub is : called_if made marks n most s ≡ idle s

by_thread : (marks : MarkList) (n most : ℕ) (s : Setup) (o : Option Thread) → slice_get s.device.threads n ≡ o → Rests true marks n most s
    ⊎ StepsThread true n s
by_thread marks n most s o h = grind (arith)

pub call_is : (made : Bool) (marks : MarkList) (n most : ℕ) (s : Setup) → Rests made marks n most s ⊎ StepsThread made n s
call_is made marks n most s = grind (arith)

pub call_acts : {made : Bool} {n : ℕ} {s : Setup} (marks : MarkList) (most : ℕ) (x : StepsThread made n s)
    → called_if made marks n most s ≡ stepped marks n most x.thread s
call_acts {n = n} {s = s} marks most x = grind arith

-- another thread of the same call is the same
pub acts_alike : (P : Thread → Type 0) (n : ℕ) (made : Bool) (s : Setup) (x y : StepsThread made n s) → P x.thread → P y.thread
acts_alike P n made s x y p = grind arith

-- what its steps keep, a call keeps
pub call_keeps : (P : DeviceValue → Type 0) (made : Bool) (marks : MarkList) (n most : ℕ) (s : Setup) → P s.device
    → ((x : StepsThread made n s) → P (stepped marks n most x.thread s).left.device) → P (called_if made marks n most s).left.device
call_keeps P made marks n most s h steps = grind (arith, call_is, call_acts)

-- a call leaves the configuration and INTEN as they are
pub if_config : (made : Bool) (marks : MarkList) (n most : ℕ) (s : Setup) → (called_if made marks n most s).left.device.config ≡ s.device.config
if_config made marks n most s = call_keeps (λ (d : DeviceValue). d.config ≡ s.device.config) made marks n most s refl (λ _. refl)

pub if_inten : (made : Bool) (marks : MarkList) (n most : ℕ) (s : Setup) → (called_if made marks n most s).left.device.inten ≡ s.device.inten
if_inten made marks n most s = call_keeps (λ (d : DeviceValue). d.inten ≡ s.device.inten) made marks n most s refl (λ _. refl)

-- ---- a turn

-- if the device has thread `n`, `runs_at` says whether it runs
pub runs_found : (d : DeviceValue) (n : ℕ) (t : Thread) → slice_get d.threads n ≡ Some t → runs_at d n ≡ runs t
runs_found d n t found = ap (λ (o : Option Thread). option_map_or runs o false) found

-- a channel whose call is made runs
pub begins_runs : (d : DeviceValue) (n most : ℕ) → begins d n most ≡ true → runs_at d n ≡ true
begins_runs d n most on = (and_parts (nat_lt 0 most) (runs_at d n) on).1

storeless_runs : (o : Option Thread) → runs_without_store o ≡ true → option_map_or runs o false ≡ true
storeless_runs o h = grind (arith, and_parts)

pub follows_runs : (d : DeviceValue) (n : ℕ) (first : Called) → follows d n first ≡ true → runs_at d n ≡ true
follows_runs d n first on = grind (arith, storeless_runs, and_parts)

-- and its next instruction is no store
storeless_at : (o : Option Thread) (t : Thread) → o ≡ Some t → runs_without_store o ≡ true → is_store (ahead_of t.channel) ≡ false
storeless_at o t is on = grind (arith, and_parts, not-true)

pub follows_storeless : (d : DeviceValue) (n : ℕ) (first : Called) (t : Thread) → follows d n first ≡ true → slice_get d.threads n ≡ Some t
    → is_store (ahead_of t.channel) ≡ false
follows_storeless d n first t on found = storeless_at (slice_get d.threads n) t found (and_parts (raises d first.signal) _ on).1

module _ {d e : DeviceValue} {regions left : List Region} {n most : ℕ} {turn : Turn} (x : TakesTurn d regions n most e left turn) where
  pub turn_left : (second_in d regions n most).left ≡ setup_of e left
  turn_left = ap (λ (p : Setup × Turn). p.0) x.is

  pub turn_device : (second_in d regions n most).left.device ≡ e
  turn_device = ap (λ (s : Setup). s.device) turn_left

  pub turn_image : (second_in d regions n most).left.image ≡ image_of (pieces_of left)
  turn_image = ap (λ (s : Setup). s.image) turn_left

  pub turn_written : (first_in d regions n most).called.written ≡ turn.written
  turn_written = ap (λ (p : Setup × Turn). p.1.written) x.is

  pub turn_lines : lines_differ d (second_in d regions n most).left.device ≡ turn.lines_changed
  turn_lines = ap (λ (p : Setup × Turn). p.1.lines_changed) x.is

  pub turn_taken : (first_in d regions n most).called.taken + (second_in d regions n most).called.taken ≡ turn.taken
  turn_taken = ap (λ (p : Setup × Turn). p.1.taken) x.is

  -- what each of its calls, by a channel that runs, keeps, the turn keeps
  pub turn_keeps_running : (P : DeviceValue → Type 0)
      → ((made : Bool) (marks : MarkList) (most : ℕ) (s : Setup) → (made ≡ true → runs_at s.device n ≡ true) → P s.device
      → P (called_if made marks n most s).left.device)
      → P d → P e
  turn_keeps_running P keeps h =
      let first = first_in d regions n most in
      subst P turn_device (keeps (follows first.left.device n first.called) (marks_in regions) 1 first.left (follows_runs first.left.device n first.called)
      (keeps (begins d n most) (marks_in regions) most (setup_of d regions) (begins_runs d n most) h))

  -- what each of its calls keeps, the turn keeps
  pub turn_keeps : (P : DeviceValue → Type 0)
      → ((made : Bool) (marks : MarkList) (most : ℕ) (s : Setup) → P s.device → P (called_if made marks n most s).left.device) → P d → P e
  turn_keeps P keeps h = turn_keeps_running P (λ made marks m s _. keeps made marks m s) h

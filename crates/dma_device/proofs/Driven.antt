-- What a channel that a DMAGO started is after a turn: it executes a program that copies, or has ended it.
use Rattle.std.proofs.Common.{◌≡◌, ◌≢◌, ◌∙◌, ◌⊎◌, ℕ, zero, suc, ◌+◌, ◌%◌, ◌^◌, ◌<◌, Bool, true, false, ◌&&◌, List, [], length, get_or, Option, Some, None, ap}
use Rattle.std.proofs.Common.{refl, sym, subst, arith, inl, inr}
use Rattle.std.specs.Prelude.{is_some, not, slice_get}
use Rattle.dma_mem.specs.{Marking.MarkList, Places.size_of, declared.regions.Region.Region}
use Rattle.dma_chan.specs.{declared.exec.Registers.Registers, Channel.ChannelValue, Programs.ProgramValue, Stepping.Machine, Stepping.TakesSteps}
use Rattle.dma_chan.specs.{Stepping.machine, declared.turn.ChanTurn.ChanTurn, declared.turn.ChanTurn.TheVariants.Ended}
use Rattle.dma_explain.specs.{Explains.Explains, Explains.Work, Explains.cleared, Works.IsWorked}
use Rattle.dma_explain.proofs.AmongOthers.{Fits, uses_below}
use Rattle.dma_explain.proofs.CallsAmongOthers.{Leads, Runs, at_first, call, survived}
use Rattle.dma_device.specs.Turns.{Outcome, Setup, TakesTurn, begins, called_if, follows, machine_in, runs_at, setup_of, steps_in}
use Rattle.dma_device.specs.{CallSteps.StepsThread, CallSteps.first_in, CallSteps.last_in, CallSteps.marks_in, CallSteps.signal_in, Device.DeviceValue}
use Rattle.dma_device.specs.{Device.program_at, Dmago.Go, Dmago.RunsCopy, Dmago.GivenTurns, Dmago.image_in, Dmago.start_of, Thread.answer, Thread.is_faulting}
use Rattle.dma_device.specs.{Thread.is_stopped, Thread.reset_thread, Thread.started, declared.device.turns.Turn.Turn, declared.thread.Thread.Thread}
use Rattle.dma_device.proofs.Calls.{begins_runs, call_acts, call_is, follows_runs, machine_left, nothing, runs_found, takes, thread_left, turn_left}
use Rattle.dma_device.proofs.{Answered.answer_busy, Answered.answer_channel, Answered.is_ended, InMemory.program_is_read, Starts.dmago_starts, Found.set_found}

-- a program, the work that explains it, and the memory at first
pub record Copying : Type 0 where
  pub start : Registers
  pub program : List ℕ
  pub work : Work
  pub count : ℕ
  pub first : List ℕ
  pub explains : Explains start program work count
  pub fits : Fits work (length first)

-- a call that a turn makes or doesn't make
pub record Call : Type 0 where
  pub marks : MarkList
  pub made : Bool
  pub most : ℕ
  pub before : Setup

-- what it leaves, and the event whose flag it sets
abbrev pub result_of : ℕ → Call → Outcome
result_of n k = called_if k.made k.marks n k.most k.before

abbrev pub sent_by : ℕ → Call → Option ℕ
sent_by n k = (result_of n k).called.signal

abbrev pub one_of : DeviceValue → List Region → ℕ → ℕ → Call
one_of d regions n most = record { marks = marks_in regions; made = begins d n most; most = most; before = setup_of d regions }

abbrev pub two_of : DeviceValue → List Region → ℕ → ℕ → Call
two_of d regions n most =
    let first = first_in d regions n most in
    record { marks = marks_in regions; made = follows first.left.device n first.called; most = 1; before = first.left }

-- if it steps this thread
module _ (k : Call) (th : Thread) where
  -- the machine before it, its number of steps, and the machine after it
  abbrev pub from : Machine
  from = machine_in k.before th

  abbrev pub count_in : ℕ
  count_in = steps_in k.marks k.most th k.before

  abbrev pub to : Machine
  to = machine_left k.marks k.most th k.before

  abbrev pub last_answer : Option ChanTurn
  last_answer = last_in k.marks k.most th k.before

  abbrev pub sets : Option ℕ
  sets = signal_in k.marks k.most th k.before

  pub steps_of : TakesSteps k.marks from k.most count_in last_answer to
  steps_of = takes k.marks k.most th k.before

  -- the thread after it
  abbrev pub after_steps_of : Thread
  after_steps_of = thread_left k.marks k.most th k.before

  -- before its answer
  abbrev pub at_answer : Thread
  at_answer = record th { channel = to.channel; pc = (th.base + to.channel.registers.pc) % 2 ^ 32 }

  pub channel_after : after_steps_of.channel ≡ to.channel
  channel_after = answer_channel k.before.device.config.events at_answer last_answer sets

-- ---- a thread along calls

-- the device has thread n, of which this is true with the memory
pub record Holds (n : ℕ) (P : List ℕ → Thread → Type 0) (s : Setup) : Type 0 where
  pub thread : Thread
  pub is : slice_get s.device.threads n ≡ Some thread
  pub holds : P s.image thread

-- What a call makes of the thread: the call isn't made, or it steps the thread.
pub record Makes (n : ℕ) (P Q : List ℕ → Thread → Type 0) (k : Call) : Type 0 where
  pub rests : ¬ StepsThread k.made n k.before → (result_of n k).called ≡ nothing → (th : Thread) → slice_get k.before.device.threads n ≡ Some th
      → P k.before.image th → Q k.before.image th
  pub acts : k.made ≡ true → (th : Thread) → slice_get k.before.device.threads n ≡ Some th → sent_by n k ≡ sets k th → P k.before.image th
      → Q (to k th).image (after_steps_of k th)

after_call : (n : ℕ) (P Q : List ℕ → Thread → Type 0) (k : Call) → Makes n P Q k → Holds n P k.before → Holds n Q (result_of n k).left
after_call n P Q k makes g = elim (call_is k.made k.marks n k.most k.before) [
  | inl rests ↦
      subst (λ (o : Outcome). Holds n Q o.left) (sym rests.is)
      (record { thread = g.thread; is = g.is; holds = makes.rests rests.off (ap (λ (o : Outcome). o.called) rests.is) g.thread g.is g.holds })
  | inr acts ↦
      let th = g.thread in
      let x : StepsThread k.made n k.before = record { on = acts.on; thread = th; found = g.is } in
      let is = call_acts k.marks k.most x in
      subst (λ (o : Outcome). Holds n Q o.left) (sym is)
      (record {
        thread = after_steps_of k th;
        is = set_found k.before.device.threads n th (after_steps_of k th) g.is;
        holds = makes.acts acts.on th g.is (ap (λ (o : Outcome). o.called.signal) is) g.holds;
      })
]

pub after_turn : {n most : ℕ} {d e : DeviceValue} {regions left : List Region} {turn : Turn} (P Q R : List ℕ → Thread → Type 0)
    → TakesTurn d regions n most e left turn → Makes n P Q (one_of d regions n most) → Makes n Q R (two_of d regions n most)
    → Holds n P (setup_of d regions) → Holds n R (setup_of e left)
after_turn {n} {most} {d} {e} {regions} {left} P Q R x one two g = grind (arith, turn_left, after_call)

-- along the turns of a channel, between which nothing is done to its thread
module _ (n : ℕ) (run : GivenTurns) (count : ℕ)
    (goes_on : (k : ℕ) → k + 1 < count → slice_get (run.before (k + 1)).threads n ≡ slice_get (run.after k).threads n) (P : ℕ → List ℕ → Thread → Type 0) where
  -- this is true before turn number k, and after it
  abbrev pub HoldsBefore : ℕ → Type 0
  HoldsBefore k = Holds n (P k) (setup_of (run.before k) (run.lent k))

  abbrev pub HoldsAfter : ℕ → Type 0
  HoldsAfter k = Holds n (P (suc k)) (setup_of (run.after k) (run.left k))

  pub before_turn : HoldsBefore 0 → ((k : ℕ) → k < count → HoldsBefore k → HoldsAfter k)
      → ((k : ℕ) (th : Thread) → k + 1 < count → P (suc k) (image_in (run.left k)) th → P (suc k) (image_in (run.lent (k + 1))) th) → (k : ℕ) → k < count
      → HoldsBefore k
  before_turn first turn stays zero less = first
  before_turn first turn stays (suc k) less = grind (arith, before_turn first turn stays k (omega (arith, less)))

-- ---- a thread whose program copies

module _ (c : Copying) where
  abbrev pub RunsOn : Machine → Type 0
  RunsOn u = Runs c.start c.program c.work c.count c.first u

  -- its program is not finished
  pub record Going (image : List ℕ) (th : Thread) : Type 0 where
    pub runs : RunsOn (machine th.channel image [])
    pub busy : is_stopped th ≡ false

  -- its program has ended, and its work is done
  pub record Over (image : List ℕ) (th : Thread) : Type 0 where
    pub stopped : is_stopped th ≡ true
    pub gone : th.channel.program ≡ None
    pub done : IsWorked c.work c.first image
    pub stored : th.channel.stored ≡ size_of c.work.copy + length (cleared c.work)

  -- it has ended, and O is known; or it goes on, and E is known of the thread
  abbrev pub Stands : (O : Type 0) (E : Thread → Type 0) → List ℕ → Thread → Type 0
  Stands O E image th = (Over image th × O) ⊎ (Going image th × E th)

  leads_runs : (last : Option ChanTurn) (w : Machine) → Leads c.start c.program c.work c.count c.first last w → last ≢ Some Ended → RunsOn w
  leads_runs last w h h2 = grind (arith)

  module _ (n : ℕ) where
    -- Before a call O is known if the program has ended, and E if it goes on; after the call P and F. The call isn't
    -- made (`rests_over`, `rests`), or it steps the thread, whose program ends or goes on (`ends`, `goes`).
    pub record Steps (O : Type 0) (E : Thread → Type 0) (P : Type 0) (F : Thread → Type 0) (k : Call) : Type 0 where
      pub rests_over : (result_of n k).called ≡ nothing → O → P
      pub rests : ¬ StepsThread k.made n k.before → (result_of n k).called ≡ nothing → (th : Thread) → slice_get k.before.device.threads n ≡ Some th
          → Going k.before.image th → E th → F th
      pub ends : (th : Thread) → Going k.before.image th → E th → sent_by n k ≡ sets k th → last_answer k th ≡ Some Ended → P
      pub goes : k.made ≡ true → (th : Thread) → slice_get k.before.device.threads n ≡ Some th → Going k.before.image th → E th → sent_by n k ≡ sets k th
          → last_answer k th ≢ Some Ended → F (after_steps_of k th)

    no_program : (d : DeviceValue) (th : Thread) → slice_get d.threads n ≡ Some th → th.channel.program ≡ None → runs_at d n ≡ false
    no_program d th is gone = runs_found d n th is ∙ ap (λ (p : Option ProgramValue). is_some p && not (is_faulting th)) gone

    module _ (O : Type 0) (E : Thread → Type 0) (P : Type 0) (F : Thread → Type 0) (k : Call) (steps : Steps O E P F k) where
      stands_after : (th : Thread) → k.made ≡ true → slice_get k.before.device.threads n ≡ Some th → Going k.before.image th → E th → sent_by n k ≡ sets k th
          → Stands P F (to k th).image (after_steps_of k th)
      stands_after th made found g e sent =
          let is = channel_after k th in
          let events = k.before.device.config.events in
          let leads = call c.start c.program c.work c.count k.marks c.first c.explains c.fits (from k th) (to k th) k.most (count_in k th) (last_answer k th)
          g.runs (steps_of k th) in
          elim (is_ended (last_answer k th)) [
            | inl ended ↦
                let done = subst (λ (o : Option ChanTurn). Leads c.start c.program c.work c.count c.first o (to k th)) ended leads in
                inl (
                  record {
                    stopped = subst (λ (l : Option ChanTurn). is_stopped (answer events (at_answer k th) l (sets k th)) ≡ true) (sym ended) refl;
                    gone = ap (λ (v : ChannelValue). v.program) is ∙ done.dropped;
                    done = done.all;
                    stored = ap (λ (v : ChannelValue). v.stored) is ∙ done.stored;
                  },
                  steps.ends th g e sent ended,
                )
            | inr goes ↦
                inr (
                  record {
                    runs = subst (λ (v : ChannelValue). RunsOn (machine v (to k th).image [])) (sym is) (leads_runs (last_answer k th) (to k th) leads goes);
                    busy = answer_busy events (at_answer k th) (last_answer k th) (sets k th) goes;
                  },
                  steps.goes made th found g e sent goes,
                )
          ]

      makes : (k.made ≡ true → runs_at k.before.device n ≡ true) → Makes n (Stands O E) (Stands P F) k
      makes on = grind (arith, stands_after)

-- ---- along the turns

-- turns of a channel, at least one, which a DMAGO started with a program that copies
pub record Drive : Type 0 where
  pub go : Go
  pub work : Work
  pub count : ℕ
  pub run : GivenTurns
  pub copies : RunsCopy go work count run
  pub some : 0 < run.count

pub above : (k n : ℕ) → k < n → 0 < n
above k n less = omega (arith, less)

abbrev pub drive : (go : Go) (work : Work) (count : ℕ) (run : GivenTurns) → RunsCopy go work count run → (k : ℕ) → k < run.count → Drive
drive go work count run h k less = record { go = go; work = work; count = count; run = run; copies = h; some = above k run.count less }

module _ (x : Drive) where
  abbrev pub copying : Copying
  copying = record {
    start = start_of x.go;
    program = x.go.program;
    work = x.work;
    count = x.count;
    first = image_in (x.run.lent 0);
    explains = x.copies.explains;
    fits = λ a i. uses_below x.work (length (image_in (x.run.lent 0))) a (x.copies.below 0 x.some) i;
  }

  abbrev pub new : Thread
  new = started x.go.nonsecure x.go.addr (program_at x.go.ram x.go.addr) (get_or x.go.device.threads x.go.channel (reset_thread x.go.device.config.bus))

  -- the thread before and after turn number j
  abbrev pub Before : (O : Type 0) (E : Thread → Type 0) → ℕ → Type 0
  Before O E j = Holds x.go.channel (Stands copying O E) (setup_of (x.run.before j) (x.run.lent j))

  abbrev pub After : (O : Type 0) (E : Thread → Type 0) → ℕ → Type 0
  After O E j = Holds x.go.channel (Stands copying O E) (setup_of (x.run.after j) (x.run.left j))

  -- the two calls of turn number j
  abbrev pub one_at : ℕ → Call
  one_at j = one_of (x.run.before j) (x.run.lent j) x.go.channel (x.run.most j)

  abbrev pub two_at : ℕ → Call
  two_at j = two_of (x.run.before j) (x.run.lent j) x.go.channel (x.run.most j)

  pub turned : {O : Type 0} {E : Thread → Type 0} {P : Type 0} {F : Thread → Type 0} {R : Type 0} {G : Thread → Type 0} (j : ℕ) → j < x.run.count
      → Steps copying x.go.channel O E P F (one_at j) → Steps copying x.go.channel P F R G (two_at j) → Before O E j → After R G j
  turned {O} {E} {P} {F} {R} {G} j less one two =
      let n = x.go.channel in
      let first = first_in (x.run.before j) (x.run.lent j) n (x.run.most j) in
      after_turn (Stands copying O E) (Stands copying P F) (Stands copying R G) (x.copies.takes j less).1
      (makes copying n O E P F (one_at j) one (begins_runs (x.run.before j) n (x.run.most j)))
      (makes copying n P F R G (two_at j) two (follows_runs first.left.device n first.called))

  -- what is known after a turn may be replaced by what follows from it
  pub weaker : {O : Type 0} {E : Thread → Type 0} {P : Type 0} {F : Thread → Type 0} (j : ℕ) → (O → P)
      → ((th : Thread) → Going copying (image_in (x.run.left j)) th → E th → F th) → After O E j → After P F j
  weaker j over going g = grind arith

  at_start : (O : Type 0) (E : Thread → Type 0) → E new → Before O E 0
  at_start O E known = record {
    thread = new;
    is = x.copies.begins ∙ dmago_starts x.go x.copies.may_go;
    holds = inr (
      record {
        runs = at_first (start_of x.go) x.go.program x.work x.count copying.first (machine new.channel copying.first []) copying.fits
            (record { bytes = program_at x.go.ram x.go.addr; cost = None }, program_is_read x.go.ram x.go.addr x.go.program x.copies.in_ram, refl) refl;
        busy = refl;
      },
      known,
    );
  }

  -- others write elsewhere
  stays : (O : Type 0) (E : Thread → Type 0) (j : ℕ) (th : Thread) → j + 1 < x.run.count → Stands copying O E (image_in (x.run.left j)) th
      → Stands copying O E (image_in (x.run.lent (j + 1))) th
  stays O E j th next stands =
      let h = x.copies in
      let image = image_in (x.run.left j) in
      let other = image_in (x.run.lent (j + 1)) in
      elim stands [
        | inl over ↦
            inl (
              record {
                stopped = over.0.stopped;
                gone = over.0.gone;
                done = record {
                  copied = λ a i. h.unchanged j a next (inl i) ∙ over.0.done.copied a i;
                  zeros = λ a i. h.unchanged j a next (inr i) ∙ over.0.done.zeros a i;
                };
                stored = over.0.stored;
              },
              over.1,
            )
        | inr going ↦
            inr (
              record {
                runs = survived (start_of x.go) x.go.program x.work x.count copying.first (machine th.channel image []) (machine th.channel other [])
                    going.0.runs refl (λ a i. h.unchanged j a next i) (λ a i. uses_below x.work (length other) a (h.below (j + 1) next) i);
                busy = going.0.busy;
              },
              going.1,
            )
      ]

  module _ (O : ℕ → Type 0) (E : ℕ → Thread → Type 0) (known : E 0 new)
      (turn : (j : ℕ) → j < x.run.count → Before (O j) (E j) j → After (O (suc j)) (E (suc j)) j) where
    -- what each turn keeps is known before each turn
    pub before_each : (j : ℕ) → j < x.run.count → Before (O j) (E j) j
    before_each =
        before_turn x.go.channel x.run x.run.count x.copies.goes_on (λ k. Stands copying (O k) (E k)) (at_start (O 0) (E 0) known) turn
        (λ k. stays (O (suc k)) (E (suc k)) k)

    -- and after each turn
    pub along : (j : ℕ) → j < x.run.count → After (O (suc j)) (E (suc j)) j
    along j less = turn j less (before_each j less)

-- A channel's turns stay in the work that explains its program.
use Rattle.std.proofs.Common.{◌≡◌, ◌∙◌, ◌⊎◌, ℕ, suc, ◌+◌, ◌-◌, ◌/◌, ◌<◌, Bool, true, List, [], append-nil, Option, Some, None, ap, refl, sym, subst}
use Rattle.std.proofs.Common.{arith, inl, inr}
use Rattle.std.specs.{Prelude.IfSome, Prelude.IsSomeAnd, Prelude.replicate, Prelude.slice_get, List.Contains, Option.option_and_then, Option.option_map}
use Rattle.std.proofs.lemmas.Bool.{cases_eq}
use Rattle.dma_insn.specs.ControlWord.{field}
use Rattle.dma_mem.specs.{Marking.MarkList, Places.sources, Regions.Piece, Regions.pieces_of, declared.regions.Region.Region}
use Rattle.dma_chan.specs.Channel.{ChannelValue, code_of}
use Rattle.dma_chan.specs.{declared.exec.Registers.Registers, declared.bus.BusWidth.BusWidth, Programs.ProgramValue, Stepping.after_steps}
use Rattle.dma_explain.specs.{declared.explain.Explained.Explained, Changes.Holds}
use Rattle.dma_explain.proofs.CallStays.{call_stays_in, load_executes, many_in, next_inside, nexts}
use Rattle.dma_explain.proofs.CallReads.{reads_inside}
use Rattle.dma_chan.proofs.StepsTaken.{steps_move}
use Rattle.dma_device.specs.Accesses.{Access, Answer, Does, Happen, Resets, Restores, Turns, Writes}
use Rattle.dma_device.specs.Explaining.{CallReads, GivesNone, HasWork, IsUnderway, OnlyDmagoGives, RestoreKeepsWork, StaysIn, TurnStaysInWork, TurnsStayIn}
use Rattle.dma_device.specs.Explaining.{UnderwayHasWork, WorkStays, channel_of, program_of}
use Rattle.dma_device.specs.Turns.{Setup, TakesTurn, begins, called_if, follows, machine_in, runs_at, setup_of, steps_in}
use Rattle.dma_device.specs.{CallSteps.StepsThread, CallSteps.first_in, CallSteps.last_in, CallSteps.marks_in, Device.DeviceValue}
use Rattle.dma_device.specs.{Device.is_interrupt, Device.program_at, Device.signalled, Device.with_thread, Device.written, Thread.dbg_instr, Thread.failed, Thread.killed}
use Rattle.dma_device.specs.{Thread.reset_thread, Thread.started, Writes.CallWrote, declared.device.turns.Turn.Turn, declared.thread.Thread.Thread}
use Rattle.dma_device.proofs.Calls.{begins_runs, call_keeps, follows_runs, machine_left, takes, thread_left, turn_device, turn_keeps}
use Rattle.dma_device.proofs.Cases.{branch, debug_cases, write_cases}
use Rattle.dma_device.proofs.{Answered.answer_channel, History.kept_along, Writes.turn_writes_each, Found.set_found, Found.set_other}
use Rattle.dma_explain.specs.Explains.{Executes, Explains, Finds, Work, work_of, written as writes_of}

-- the channel of a thread, and the program of a channel, if there is one
abbrev pub channel_if : Option Thread → Option ChannelValue
channel_if thread = option_map (λ t. t.channel) thread

abbrev program_if : Option ChannelValue → Option ProgramValue
program_if channel = option_and_then (λ c. c.program) channel

-- ---- a channel that executes a program that a work explains, or has none

-- it executes such a program
abbrev Copies : Work → ChannelValue → Type 0
Copies work c = (start : Registers) × (program : List ℕ) × (count : ℕ) × Explains start program work count × Executes start program count c

module _ (work : Work) (n : ℕ) where
  abbrev pub InCopy : Option ChannelValue → Type 0
  InCopy o = IfSome o (Holds (Some work))

  abbrev pub HasCopy : DeviceValue → Type 0
  HasCopy d = HasWork work d n

  found_copy : (d : DeviceValue) (th : Thread) → slice_get d.threads n ≡ Some th → HasCopy d → (th.channel.program ≡ None) ⊎ Copies work th.channel
  found_copy d th is g = subst (λ (o : Option Thread). InCopy (channel_if o)) is g

  -- a channel that is called executes the program
  runs_copy : (d : DeviceValue) (th : Thread) → slice_get d.threads n ≡ Some th → runs_at d n ≡ true → HasCopy d → Copies work th.channel
  runs_copy d th is on g = grind (arith, found_copy)

  -- ---- a call

  after_call : (marks : MarkList) (made : Bool) (most : ℕ) (s : Setup) → (made ≡ true → runs_at s.device n ≡ true) → HasCopy s.device
      → HasCopy (called_if made marks n most s).left.device
  after_call marks made most s on g = call_keeps HasCopy made marks n most s g (λ acts.
      let d = s.device in
      let th = acts.thread in
      let to = machine_left marks most th s in
      let w = runs_copy d th acts.found (on acts.on) g in
      let stays = call_stays_in w.0 w.1 work w.2 marks (machine_in s th) most (steps_in marks most th s) (last_in marks most th s) to w.3 w.4
      (takes marks most th s) in
      let same : (thread_left marks most th s).channel ≡ to.channel = grind (arith, answer_channel) in
      let holds : Holds (Some work) to.channel = elim stays.channel [ inl v ↦ inr (w.0, w.1, w.2, w.3, v) | inr none ↦ inl none ] in
      subst (λ (o : Option Thread). InCopy (channel_if o)) (sym (set_found d.threads n th (thread_left marks most th s) acts.found))
      (subst (Holds (Some work)) (sym same) holds))

  module _ (marks : MarkList) (made : Bool) (most : ℕ) (s : Setup) (on : made ≡ true → runs_at s.device n ≡ true) (g : HasCopy s.device) where
    step_at : (x : StepsThread made n s) (j : ℕ) → j < steps_in marks most x.thread s → Copies work (after_steps marks (machine_in s x.thread) j).channel
    step_at x j less =
        let w = runs_copy s.device x.thread x.found (on x.on) g in (
          w.0,
          w.1,
          w.2,
          w.3,
          many_in w.0 w.1 work w.2 w.3 marks (machine_in s x.thread) j w.4 (λ k l. steps_move (takes marks most x.thread s) k (omega (arith, less))),
        )

    -- what one of its steps writes and reads
    wrote_in : (a : ℕ) → CallWrote marks n a made most s → Contains (writes_of work) a
    wrote_in a x =
        let w = step_at x.0 x.1.0 x.1.1 in
        let v = w.4 in
        next_inside w.0 w.1 work w.2 w.3 v.0 _ a v.1 (nexts w.0 w.1 work w.2 w.3 v.0 v.1.within) x.1.3

    read_in : (a : ℕ) → CallReads marks n a made most s → Contains (sources work.copy) a
    read_in a x = let w = step_at x.0 x.1.0 x.1.1 in reads_inside w.0 w.1 work w.2 w.3 w.4.0 _ a w.4.1 x.1.2

  -- ---- a turn

  middle_copy : (d : DeviceValue) (regions : List Region) (most : ℕ) → HasCopy d → HasCopy (first_in d regions n most).left.device
  middle_copy d regions most g = after_call (marks_in regions) (begins d n most) most (setup_of d regions) (begins_runs d n most) g

  pub after_turn : (d : DeviceValue) (regions : List Region) (most : ℕ) (e : DeviceValue) (left : List Region) (turn : Turn) → HasCopy d
      → TakesTurn d regions n most e left turn → HasCopy e
  after_turn d regions most e left turn g x =
      let first = first_in d regions n most in
      let m = first.left.device in
      subst HasCopy (turn_device x)
      (after_call (marks_in regions) (follows m n first.called) 1 first.left (follows_runs m n first.called) (middle_copy d regions most g))

  pub turn_stays : (d : DeviceValue) (regions : List Region) (most : ℕ) (e : DeviceValue) (left : List Region) (turn : Turn) → HasCopy d
      → TakesTurn d regions n most e left turn → StaysIn work d regions n most turn
  turn_stays d regions most e left turn g x =
      let marks = marks_in regions in
      let s = setup_of d regions in
      let first = first_in d regions n most in
      let m = first.left.device in
      let there = middle_copy d regions most g in
      record {
        writes = λ a i. elim ((turn_writes_each d regions n most e left turn x).each a i) [
          | inl one ↦ wrote_in marks (begins d n most) most s (begins_runs d n most) g a one
          | inr two ↦ wrote_in marks (follows m n first.called) 1 first.left (follows_runs m n first.called) there a two
        ];
        reads = λ a w. elim w [
          | inl one ↦ read_in marks (begins d n most) most s (begins_runs d n most) g a one
          | inr two ↦ read_in marks (follows m n first.called) 1 first.left (follows_runs m n first.called) there a two
        ];
      }

  -- ---- an access

  -- a channel that an access gives no program
  given_none : (c o : Option ChannelValue) → (o ≡ c) ⊎ (program_if o ≡ None) → InCopy c → InCopy o
  given_none c o h1 h2 = grind arith

  after_access : (a : Access) (d e : DeviceValue) (regions left : List Region) (answer : Answer) → Does a d regions answer e left → GivesNone a n d e
      → HasCopy d → HasCopy e
  after_access (Turns m most) d e regions left answer does none g =
      let x = does.1.1 in
      elim (cases_eq n m) [
        | inl own ↦ after_turn d regions most e left does.0 g (subst (λ (j : ℕ). TakesTurn d regions j most e left does.0) (sym own) x)
        | inr other ↦
            let same : channel_of e n ≡ channel_of d n = turn_keeps x (λ (v : DeviceValue). channel_of v n ≡ channel_of d n) (λ made marks k s h.
            call_keeps (λ (v : DeviceValue). channel_of v n ≡ channel_of d n) made marks m k s h
            (λ _. ap channel_if (set_other s.device.threads m n _ other) ∙ h)) refl in
            subst InCopy (sym same) g
      ]
  after_access a d e regions left answer does none g = given_none (channel_of d n) (channel_of e n) none g

  -- the accesses up to number k
  pub along : (access : ℕ → Access) (answer : ℕ → Answer) (before : ℕ → DeviceValue) (lent left : ℕ → List Region) (all k : ℕ)
      → Happen access answer before lent left all → ((j : ℕ) → j < k → GivesNone (access j) n (before j) (before (j + 1))) → k < suc all → HasCopy (before 0)
      → HasCopy (before k)
  along access answer before lent left all k happen none less g =
      kept_along (λ j. HasCopy (before j)) k g
      (λ j l h. after_access (access j) (before j) (before (j + 1)) (lent j) (left j) (answer j) (happen j (omega arith)) (none j l) h) k (omega arith)

-- ---- from where the copy was found

-- a channel executes the program from the registers for which the work was found
has_found : (start : Registers) (limit : ℕ) (x : Explained) (c : ChannelValue) (o : Option ProgramValue) → c.program ≡ o
    → IsSomeAnd o (λ p. Finds start p.bytes limit x) → Executes start (code_of c) (x.steps - 1) c → Copies (work_of x) c
has_found start limit x c o h h2 h3 = grind (arith)

has_found_at : (limit : ℕ) (x : Explained) (o : Option ChannelValue) → IsSomeAnd o (λ c. IsSomeAnd c.program (λ p. Finds c.registers p.bytes limit x))
    → IsSomeAnd o (λ c. Executes c.registers (code_of c) (x.steps - 1) c) → IfSome o (Holds (Some (work_of x)))
has_found_at limit x o h h2 = grind (arith, has_found)

pub underway_has_work : UnderwayHasWork
underway_has_work d n limit x finds underway = has_found_at limit x (channel_of d n) finds underway

pub underway_stays : WorkStays
underway_stays w a d e regions left answer n does none g = after_access w n a d e regions left answer does none g

pub turn_stays_in_work : TurnStaysInWork
turn_stays_in_work w d e regions left n most turn g x = turn_stays w n d regions most e left turn g x

pub turns_stay_in : TurnsStayIn
turns_stay_in access answer before lent left all n k most limit x turn happen finds underway none less is reply =
    let w = work_of x in
    let here = along w n access answer before lent left all k happen none (omega arith) (underway_has_work (before 0) n limit x finds underway) in
    let does = subst (λ (a : Access). Does a (before k) (lent k) (answer k) (before (k + 1)) (left k)) is (happen k less) in
    let same : does.0 ≡ turn = let given = sym does.1.0 ∙ reply in cc in
    turn_stays w n (before k) (lent k) most (before (k + 1)) (left k) turn here
    (subst (TakesTurn (before k) (lent k) n most (before (k + 1)) (left k)) same does.1.1)

pub restore_keeps_underway : RestoreKeepsWork
restore_keeps_underway w saved d e regions left answer n steps does = grind arith

-- ---- what gives a channel a program

-- the device e is left by an access to d that gives channel n no program, or starts it
abbrev Gives : ℕ → DeviceValue → DeviceValue → Type 0
Gives n d e = ((channel_of e n ≡ channel_of d n) ⊎ (program_of e n ≡ None)) ⊎ ((steps : ℕ) → IsUnderway e n steps)

-- a thread is replaced by one with the same channel, or without a program
set_thread : (n m : ℕ) (d : DeviceValue) (t u : Thread) → slice_get d.threads m ≡ Some t → (u.channel ≡ t.channel) ⊎ (u.channel.program ≡ None)
    → Gives n d (with_thread m u d)
set_thread n m d t u found how = grind (arith, set_found, set_other)

-- a thread is started
start_thread : (n m : ℕ) (d : DeviceValue) (t : Thread) (nonsecure : Bool) (base : ℕ) (program : List ℕ) → slice_get d.threads m ≡ Some t
    → Gives n d (with_thread m (started nonsecure base program t) d)
start_thread n m d t nonsecure base program found =
    let u = started nonsecure base program t in
    let e = with_thread m u d in
    elim (cases_eq n m) [
      | inr other ↦ inl (inl (ap channel_if (set_other d.threads m n u other)))
      | inl own ↦
          let there : channel_of e n ≡ Some u.channel = ap (channel_of e) own ∙ ap channel_if (set_found d.threads m t u found) in
          inr (λ steps. subst (λ (o : Option ChannelValue). IsSomeAnd o (λ c. Executes c.registers (code_of c) (steps - 1) c)) (sym there)
          (load_executes u.channel.registers program (steps - 1) u.channel (record { bytes = program; cost = None }, ([], sym (append-nil program)), refl)))
    ]

signalled_gives : (n k : ℕ) (d : DeviceValue) → Gives n d (signalled k d)
signalled_gives n k d = branch (Gives n d) (is_interrupt d k) _ _ (λ on. inl (inl refl)) (λ off. inl (inl refl))

written_gives : (n : ℕ) (ram : List Piece) (at value : ℕ) (d : DeviceValue) → Gives n d (written ram at value d)
written_gives n ram at value d = write_cases (Gives n d) ram at value d (record {
  inten = inl (inl refl);
  intclr = λ _. inl (inl refl);
  dbgcmd = λ _ _. debug_cases (Gives n d) ram d (record {
    same = inl (inl refl);
    manager = λ _ _ _. inl (inl refl);
    sev = λ byte _. signalled_gives n (byte / 8) d;
    kills = λ t _ is. set_thread n (field 8 3 d.dbginst0) d t (killed t) is (inr refl);
    fails = λ why t _ is. set_thread n (field 8 3 d.dbginst0) d t (failed (why + dbg_instr) t) is (inl refl);
    starts = λ m t nonsecure _ _ is. start_thread n m d t nonsecure d.dbginst1 (program_at ram d.dbginst1) is;
  });
  dbginst0 = inl (inl refl);
  dbginst1 = inl (inl refl);
  other = inl (inl refl);
})

none_after_reset : (bus : BusWidth) (count n : ℕ) → program_if (channel_if (slice_get (replicate count (reset_thread bus)) n)) ≡ None
none_after_reset bus (suc count) (suc n) = none_after_reset bus count n
none_after_reset bus count n = refl

pub only_dmago_gives : OnlyDmagoGives
only_dmago_gives (Writes at value) d e regions left answer n does fresh = subst (Gives n d) (sym does.1) (written_gives n (pieces_of regions) at value d)
only_dmago_gives (Turns m most) d e regions left answer n does fresh = inl tt
only_dmago_gives Resets d e regions left answer n does fresh = grind (arith, none_after_reset)
only_dmago_gives (Restores saved) d e regions left answer n does fresh = absurd (fresh saved refl)
only_dmago_gives a d e regions left answer n does fresh = inl (inl (ap (λ (v : DeviceValue). channel_of v n) does.1))

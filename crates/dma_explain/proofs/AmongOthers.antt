-- A program that copies, over a memory that others write between its steps.
use Rattle.std.proofs.Common.{◌≡◌, ℕ, zero, suc, ◌+◌, ◌≤◌, ◌<◌, true, List, length, get_or, refl, sym, ap, ◌∙◌, subst, arith, length-append, inl, inr, Bool}
use Rattle.std.proofs.Common.{None, Ok, ◌≢◌, [], append-nil, Option, Some}
use Rattle.std.specs.{Prelude.IsSomeAnd, List.Contains}
use Rattle.std.proofs.{lemmas.Bool.and_parts, lemmas.Bool.cases_lt, lemmas.List.Elements.Contains-append_left, lemmas.List.ext_get_or}
use Rattle.dma_insn.specs.declared.chip.ChipInsn.{ChipInsn}
use Rattle.dma_insn.specs.declared.chip.ChipInsn.TheVariants.{End, Wfe}
use Rattle.dma_mem.specs.Places.{Descriptor, all_below, size_of, lies_below, destinations, moves}
use Rattle.dma_mem.specs.{Image.laid, Marking.MarkList}
use Rattle.dma_chan.specs.{declared.exec.Registers.Registers, declared.turn.ChanTurn.ChanTurn, declared.turn.ChanTurn.TheVariants.Moved}
use Rattle.dma_chan.specs.{declared.turn.ChanTurn.TheVariants.Waiting, declared.turn.ChanTurn.TheVariants.Ended, declared.turn.ChanTurn.TheVariants.Fault}
use Rattle.dma_chan.specs.{Exec.State, Exec.start_on, Exec.state, Exec.act, Exec.exec}
use Rattle.dma_chan.specs.{Channel.ChannelValue, Channel.ahead_of, Channel.step_of, Channel.stored_by, Channel.bytes_of_program, Channel.loaded, Others.Touches}
use Rattle.dma_chan.specs.{Stepping.Machine, Stepping.answer_at, Stepping.after_step, Stepping.machine, declared.bus.Bus.TheVariants.Ideal}
use Rattle.dma_chan.specs.{declared.run.RunEnd.RunEnd, Programs.ProgramValue, Run.opening, Run.state_after, Run.turn_after, Run.StopsAfter, Run.RunsTo}
use Rattle.dma_explain.specs.Explains.{Explains, IsIn, IsLoadedWith, IsWait, StartsWith, Trace, Work, after_insn, all_of, amounts_of, cleared, next_in, only}
use Rattle.dma_explain.specs.Explains.{traced, written}
use Rattle.dma_explain.specs.{declared.explain.Amounts.Amounts, Works.IsWorked, Works.MissesAll, Works.Uses, Works.work_below, Alone.ExplainedCopiesAlone}
use Rattle.dma_chan.proofs.{CallWrites.does_next, CallWrites.turned, LayerLaws.places_below, LayerLaws.touched_below, CopyAlone.laid_none}
use Rattle.dma_chan.proofs.{OthersKept.writes_no_other}
use Rattle.dma_explain.proofs.CallStays.{Nexts, Goes, Ends, ahead_at, ends_then, inside, nexts, traced_next, next_inside}
use Rattle.dma_explain.proofs.GoingOn.{Can, length_up}
use Rattle.dma_explain.proofs.Traced.{Answers, Inside, Mirrors, answers, in_or_not, length_laid}
use Rattle.dma_mem.proofs.{ImageOver.get_or_after_moves_other, OverTransfers.moves_writes}
use Rattle.dma_chan.specs.declared.run.RunEnd.TheVariants as ends

-- ---- what a work uses, in a memory that has its ranges

pub uses_below : (work : Work) (size a : ℕ) → work_below work size ≡ true → Uses work a → a < size
uses_below work size a below uses =
    let parts = and_parts (lies_below work.copy size) (all_below work.zeros size) below in
    elim uses [
      | inl touches ↦ touched_below work.copy size a parts.0 touches
      | inr i ↦ places_below work.zeros size a parts.1 i
    ]

-- all addresses that a work uses lie below the memory's size
abbrev pub Fits : Work → ℕ → Type 0
Fits work size = (a : ℕ) → Uses work a → a < size

-- ---- instruction by instruction

-- what is set to 0 so far is a part of all that is
abbrev pub AreCleared : Work → Trace → Type 0
AreCleared work x = (a : ℕ) → Contains x.zeros a → Contains (cleared work) a

-- the program has ended, and the work is done
pub record IsDone (start : Registers) (program : List ℕ) (work : Work) (first : List ℕ) (u : Machine) : Type 0 where
  pub dropped : u.channel.program ≡ None
  pub done : amounts_of (traced start program u.channel.taken) ≡ all_of work
  pub stored : u.channel.stored ≡ size_of work.copy + length (cleared work)
  pub all : IsWorked work first u.image

abbrev pub amounts : ℕ → ℕ → Amounts
amounts copied cleared = record { copied = copied; cleared = cleared }

-- how many bytes an instruction stores
abbrev all_stored : Trace → ℕ
all_stored x = length x.stores + length x.zeros

stored_insn : (i : ChipInsn) (x : Trace) → Can i x → all_stored (after_insn i x) ≡ all_stored x + stored_by (Ok i) x.registers
stored_insn i x h = grind (arith, length-append, length_up)

-- a program with n instructions before its DMAEND, which a work explains
module _ (start : Registers) (program : List ℕ) (work : Work) (n : ℕ) where
  abbrev there : ℕ → Trace
  there = traced start program

  pub zeros_in : Explains start program work n → (k : ℕ) → k ≤ n → AreCleared work (there k)
  zeros_in h k l a i =
      let part = inside start program work n h k l in
      subst (λ (xs : List ℕ). Contains xs a) (sym part.zeros) (Contains-append_left (there k).zeros part.zeros_rest a i)

  -- Before instruction number k of the n before DMAEND: how far the channel is in the program, and at every address that
  -- the work uses the memory is the first one with the bytes stored so far laid over it.
  pub record Among (first : List ℕ) (k : ℕ) (image : List ℕ) (c : ChannelValue) : Type 0 where
    pub begins : IsSomeAnd c.program (λ p. StartsWith p program)
    pub within : k ≤ n
    pub taken : c.taken ≡ k
    pub stored : let x = there k in c.stored ≡ length x.stores + length x.zeros
    pub part : AreCleared work (there k)
    pub mirrors : Mirrors work first (there k) c.registers c.buffer image

  pub is_in : (first : List ℕ) (k : ℕ) (image : List ℕ) (c : ChannelValue) → Among first k image c → IsIn start program n k c
  is_in first k image c w = record { begins = w.begins; within = w.within; registers = w.mirrors.registers_are }

  -- a channel into which the program was just loaded, over the first memory
  pub at_start : (first : List ℕ) (c : ChannelValue) → Fits work (length first) → IsLoadedWith start program c → Among first 0 first c
  at_start first c low l =
      subst (Among first 0 first) (sym l.2) (record {
        begins = l.1;
        within = omega arith;
        taken = refl;
        stored = refl;
        part = λ a i. absurd (omega (arith, i.1));
        mirrors = record {
          registers_are = refl;
          buffer_is = refl;
          few = omega arith;
          same = λ a i. ap (λ (x : List ℕ). get_or x a 0) (sym (laid_none first work.copy));
          zeros = λ a i. absurd (omega (arith, i.1));
          rest = λ a i off. refl;
          fits = low;
        };
      })

  -- what others do
  pub kept : (first : List ℕ) (k : ℕ) (image other : List ℕ) (c d : ChannelValue) → Among first k image c → d ≡ c
      → ((a : ℕ) → Uses work a → get_or other a 0 ≡ get_or image a 0) → Fits work (length other) → Among first k other d
  kept first k image other c d w same unchanged fits = grind arith

  module _ (marks : MarkList) (first : List ℕ) (h : Explains start program work n) (low : Fits work (length first)) where
    -- what the answer of a step says
    abbrev pub After : ℕ → Machine → ChanTurn → Type 0
    After k u Moved = Among first (suc k) (after_step marks u).image (after_step marks u).channel
    After k u (Waiting e) = IsWait start program n e
    After k u Ended = IsDone start program work first (after_step marks u)
    After k u (Fault kind) = ¬ MissesAll marks work

    waits_at : (k : ℕ) (i : ChipInsn) (x : ℕ) → k < n → next_in program (there k) ≡ Ok i → (v : Bool) × (i ≡ Wfe x v) → IsWait start program n x
    waits_at k i x less next a = record { step = k; within = less; invalid = a.0; waits = next ∙ ap (λ (j : ChipInsn). Ok j) a.1 }

    to : (k : ℕ) (u : Machine) (i : ChipInsn) (turn : ChanTurn) → answer_at marks u ≡ turn → Among first k u.image u.channel → k < n
        → next_in program (there k) ≡ Ok i → Can i (there k)
        → Answers work first marks i (there (suc k)) (turn, (step_of marks u.channel u.image u.flags).1) → After k u turn
    to k u i Moved e w less next go a =
        let c = u.channel in
        let ahead = ahead_at start program k i c w.begins w.mirrors.registers_are next in
        let count : stored_by (ahead_of c) c.registers ≡ stored_by (Ok i) (there k).registers = grind (arith) in
        let more : all_stored (there (suc k)) ≡ all_stored (there k) + stored_by (Ok i) (there k).registers = grind (arith, traced_next, stored_insn) in
        subst (Among first (suc k) (after_step marks u).image) (sym (turned marks u Moved e)) (record {
          begins = w.begins;
          within = omega (arith, less);
          taken = omega (arith, w.taken);
          stored = omega (arith, w.stored, count, more);
          part = zeros_in h (suc k) less;
          mirrors = a;
        })
    to k u i (Waiting x) e w less next go a = waits_at k i x less next a
    to k u i Ended e w less next go a = absurd a
    to k u i (Fault kind) e w less next go a = a

    answers_at : (k : ℕ) (u : Machine) (i : ChipInsn) → Among first k u.image u.channel → k < n → next_in program (there k) ≡ Ok i → Can i (there k)
        → Answers work first marks i (there (suc k)) (step_of marks u.channel u.image u.flags)
    answers_at k u i w less next go =
        let c = u.channel in
        let x = there k in
        let does : step_of marks c u.image u.flags ≡ act marks i (state x.registers c.buffer u.image u.flags) =
        does_next marks i u (ahead_at start program k i c w.begins w.mirrors.registers_are next)
        ∙ ap (λ (r : Registers). act marks i (state r c.buffer u.image u.flags)) w.mirrors.registers_are in
        let m = subst (λ (r : Registers). Mirrors work first x r c.buffer u.image) w.mirrors.registers_are w.mirrors in
        let same = traced_next start program work n h k i next in
        let all = answers work first marks h.work low x c.buffer u.image u.flags m i
        (subst (Inside work) same (inside start program work n h (suc k) (omega (arith, less)))) (inside start program work n h k w.within) go in
        subst (λ (y : Trace). Answers work first marks i y (step_of marks c u.image u.flags)) (sym same)
        (subst (Answers work first marks i (after_insn i x)) (sym does) all)

    -- what the answer of a step before DMAEND says
    abbrev pub Before : ChanTurn → Type 0
    Before Moved = Unit {0}
    Before (Waiting e) = IsWait start program n e
    Before Ended = ⊥
    Before (Fault kind) = ¬ MissesAll marks work

    went : (k : ℕ) (i : ChipInsn) (x : Trace) (turn : ChanTurn) (s : State) → k < n → next_in program (there k) ≡ Ok i
        → Answers work first marks i x (turn, s) → Before turn
    went k i x turn s h h2 h3 = grind (arith, waits_at)

    before_by : (k : ℕ) (u : Machine) (turn : ChanTurn) → answer_at marks u ≡ turn → Among first k u.image u.channel → k < n
        → Nexts start program work n k → Before turn
    before_by k u turn e w l (Ends last next) = absurd (omega (arith, l, last))
    before_by k u turn e w l (Goes i less next go) =
        let s = (step_of marks u.channel u.image u.flags).1 in
        went k i (there (suc k)) turn s less next
        (subst (λ (v : ChanTurn). Answers work first marks i (there (suc k)) (v, s)) e (answers_at k u i w less next go))

    pub goes_on_at : (k : ℕ) (u : Machine) (turn : ChanTurn) → answer_at marks u ≡ turn → Among first k u.image u.channel → k < n → Before turn
    goes_on_at k u turn e w l = before_by k u turn e w l (nexts start program work n h k w.within)

    by_next : (k : ℕ) (u : Machine) (turn : ChanTurn) → answer_at marks u ≡ turn → Among first k u.image u.channel
        → Nexts start program work n k → After k u turn
    by_next k u turn e w (Goes i less next go) =
        let s = (step_of marks u.channel u.image u.flags).1 in
        to k u i turn e w less next go
        (subst (λ (v : ChanTurn). Answers work first marks i (there (suc k)) (v, s)) e (answers_at k u i w less next go))
    by_next k u turn e w (Ends last next) =
        let c = u.channel in
        let ahead = ahead_at start program k End c w.begins w.mirrors.registers_are next in
        let does = does_next marks End u ahead in
        let over : turn ≡ Ended = sym e ∙ ends_then marks u ahead in
        let is_after = turned marks u Ended (ends_then marks u ahead) in
        let count : length (there k).stores ≡ size_of work.copy = ap (λ (j : ℕ). length (there j).stores) last
        ∙ ap length h.stores in
        let zeros : (there k).zeros ≡ cleared work = ap (λ (j : ℕ). (there j).zeros) last ∙ h.zeros in
        let still : (step_of marks u.channel u.image u.flags).1.image ≡ u.image = ap (λ (y : ChanTurn × State). y.1.image) does in
        subst (After k u) (sym over) (record {
          dropped = ap (λ (d : ChannelValue). d.program) is_after;
          done =
              ap (λ (d : ChannelValue). amounts_of (there d.taken)) is_after
              ∙ ap (λ (j : ℕ). amounts_of (there j)) (let later : u.channel.taken + 1 ≡ suc k = omega (arith, w.taken) in later)
              ∙ ap amounts_of (traced_next start program work n h k End next)
              ∙ ap (λ (m : ℕ). amounts m (length (there k).zeros)) count
              ∙ ap (λ (xs : List ℕ). amounts (size_of work.copy) (length xs)) zeros;
          stored = ap (λ (d : ChannelValue). d.stored) is_after ∙ omega (arith, w.stored, count, ap length zeros);
          all = record {
            copied = λ a touches.
                ap (λ (x : List ℕ). get_or x a 0) still ∙ w.mirrors.same a touches
                ∙ ap (λ (j : ℕ). get_or (laid first work.copy j) a 0) count;
            zeros = λ a i.
                ap (λ (x : List ℕ). get_or x a 0) still ∙ w.mirrors.zeros a (subst (λ (xs : List ℕ). Contains xs a) (sym zeros) i);
          };
        })

    pub after_next : (k : ℕ) (u : Machine) (turn : ChanTurn) → answer_at marks u ≡ turn → Among first k u.image u.channel → After k u turn
    after_next k u turn e w = by_next k u turn e w (nexts start program work n h k w.within)

-- ---- a program that copies and doesn't wait, run alone

-- a run of k instructions, as a channel makes it
record Along (program : List ℕ) (t : Descriptor) (n : ℕ) (image : List ℕ) (k : ℕ) (s : State) : Type 0 where
  channel : ChannelValue
  has : channel.program ≡ Some (record { bytes = program; cost = None })
  registers : channel.registers ≡ s.registers
  buffer : channel.buffer ≡ s.buffer
  among : Among (start_on Ideal) program (only t) n image k s.image channel
  others : (a : ℕ) → ¬ Contains (destinations t) a → get_or s.image a 0 ≡ get_or image a 0
  size : length s.image ≡ length image

unmarked : (t : Descriptor) → MissesAll [] (only t)
unmarked t = record { copy = record { reads = λ a i. refl; writes = λ a i. refl }; zeros = λ a i. refl }

-- a copy alone writes only its destinations, and uses what they touch
only_writes : (t : Descriptor) (a : ℕ) → Contains (written (only t)) a → Contains (destinations t) a
only_writes t a i = subst (λ (xs : List ℕ). Contains xs a) (append-nil (destinations t)) i

pub only_uses : (t : Descriptor) (a : ℕ) → Uses (only t) a → Touches t a
only_uses t a h = grind (arith)

module _ (program : List ℕ) (t : Descriptor) (n : ℕ) (image : List ℕ) (h : Explains (start_on Ideal) program (only t) n)
    (waits : (e : ℕ) → ¬ IsWait (start_on Ideal) program n e) (low : Fits (only t) (length image)) where
  first : Along program t n image 0 (opening image)
  first = record {
    channel = loaded (record { bytes = program; cost = None });
    has = refl;
    registers = refl;
    buffer = refl;
    among = at_start (start_on Ideal) program (only t) n image (loaded (record { bytes = program; cost = None })) low
        (record { bytes = program; cost = None }, ([], sym (append-nil program)), refl);
    others = λ a off. refl;
    size = refl;
  }

  -- the channel with the state's memory and flags
  abbrev at : (k : ℕ) (s : State) → Along program t n image k s → Machine
  at k s w = machine w.channel s.image s.flags

  -- its step is the run's
  same_step : (k : ℕ) (s : State) → (w : Along program t n image k s) → step_of [] w.channel s.image s.flags ≡ exec program [] s
  same_step k s w =
      ap (λ (p : Option ProgramValue). exec (bytes_of_program p) [] (state w.channel.registers w.channel.buffer s.image s.flags)) w.has
      ∙ ap (λ (r : Registers). exec program [] (state r w.channel.buffer s.image s.flags)) w.registers
      ∙ ap (λ (b : List ℕ). exec program [] (state s.registers b s.image s.flags)) w.buffer

  -- and changes no byte outside the destinations
  off_kept : (k : ℕ) (s : State) (w : Along program t n image k s) (a : ℕ) → ¬ Contains (destinations t) a
      → get_or (step_of [] w.channel s.image s.flags).1.image a 0 ≡ get_or image a 0
  off_kept k s w a off =
      (writes_no_other [] w.channel s.image s.flags).bytes a (λ i. off (only_writes t a
      (next_inside (start_on Ideal) program (only t) n h k w.channel a (is_in (start_on Ideal) program (only t) n image k s.image w.channel w.among)
      (nexts (start_on Ideal) program (only t) n h k w.among.within) i)))
      ∙ w.others a off

  goes_at : (k : ℕ) (s : State) → k < n → (w : Along program t n image k s) → answer_at [] (at k s w) ≡ Moved
  goes_at k s l w = by (answer_at [] (at k s w)) refl
    where
      by : (turn : ChanTurn) → answer_at [] (at k s w) ≡ turn → answer_at [] (at k s w) ≡ Moved
      by Moved e = e
      by (Waiting x) e = absurd (waits x (goes_on_at (start_on Ideal) program (only t) n [] image h low k (at k s w) (Waiting x) e w.among l))
      by Ended e = absurd (goes_on_at (start_on Ideal) program (only t) n [] image h low k (at k s w) Ended e w.among l)
      by (Fault kind) e = absurd (goes_on_at (start_on Ideal) program (only t) n [] image h low k (at k s w) (Fault kind) e w.among l (unmarked t))

  next : (k : ℕ) (s : State) → k < n → Along program t n image k s → Along program t n image (suc k) (exec program [] s).1
  next k s l w =
      let u = at k s w in
      let goes = goes_at k s l w in
      let x = step_of [] w.channel s.image s.flags in
      let is = turned [] u Moved goes in
      let same : x.1 ≡ (exec program [] s).1 = ap (λ (y : ChanTurn × State). y.1) (same_step k s w) in
      let kept = writes_no_other [] w.channel s.image s.flags in
      let images : x.1.image ≡ (exec program [] s).1.image = ap (λ (y : State). y.image) same in
      record {
        channel = (after_step [] u).channel;
        has = ap (λ (c : ChannelValue). c.program) is ∙ w.has;
        registers = ap (λ (c : ChannelValue). c.registers) is ∙ ap (λ (y : State). y.registers) same;
        buffer = ap (λ (c : ChannelValue). c.buffer) is ∙ ap (λ (y : State). y.buffer) same;
        among = subst (λ (i : List ℕ). Among (start_on Ideal) program (only t) n image (suc k) i (after_step [] u).channel) images
            (after_next (start_on Ideal) program (only t) n [] image h low k u Moved goes w.among);
        others = λ a off. sym (ap (λ (i : List ℕ). get_or i a 0) images) ∙ off_kept k s w a off;
        size = ap length (sym images) ∙ kept.size ∙ w.size;
      }

  along : (k : ℕ) → k ≤ n → Along program t n image k (state_after [] program (opening image) k)
  along zero l = first
  along (suc k) l = next k (state_after [] program (opening image) k) (omega arith) (along k (omega arith))

  before : (k : ℕ) → k < n → (turn_after [] program (opening image) k).0 ≡ Moved
  before k l =
      let s = state_after [] program (opening image) k in
      let w = along k (omega arith) in
      ap (λ (y : ChanTurn × State). y.0) (sym (same_step k s w)) ∙ goes_at k s l w

  over : Nexts (start_on Ideal) program (only t) n n → (w : Along program t n image n (state_after [] program (opening image) n))
      → answer_at [] (at n (state_after [] program (opening image) n) w) ≡ Ended
  over h w = grind (arith, ends_then, ahead_at)

  last : (turn_after [] program (opening image) n).0 ≡ Ended
  last =
      let s = state_after [] program (opening image) n in
      let w = along n (omega arith) in
      ap (λ (y : ChanTurn × State). y.0) (sym (same_step n s w)) ∙ over (nexts (start_on Ideal) program (only t) n h n (omega arith)) w

  last_image : (turn_after [] program (opening image) n).1.image ≡ laid image t (size_of t)
  last_image =
      let s = state_after [] program (opening image) n in
      let w = along n (omega arith) in
      let u = at n s w in
      let done = after_next (start_on Ideal) program (only t) n [] image h low n u Ended (over (nexts (start_on Ideal) program (only t) n h n (omega arith)) w)
      w.among in
      let kept = writes_no_other [] w.channel s.image s.flags in
      let images : (step_of [] w.channel s.image s.flags).1.image ≡ (turn_after [] program (opening image) n).1.image = grind (arith, same_step) in
      sym images
      ∙ ext_get_or 0 (step_of [] w.channel s.image s.flags).1.image (laid image t (size_of t)) (kept.size ∙ w.size ∙ sym (length_laid image t (size_of t)))
      (λ a l. elim (in_or_not (destinations t) a) [
        | inl i ↦ done.all.copied a (inr i)
        | inr off ↦ off_kept n s w a off ∙ sym (get_or_after_moves_other image (moves t (size_of t)) a (λ i. off (moves_writes t (size_of t) a i)))
      ])

  -- a run that stops before the limit stops at DMAEND
  stops_last : (limit k : ℕ) (turn : ChanTurn) (after : State) → turn ≢ Moved → StopsAfter [] program (opening image) limit k turn after → k ≡ n
  stops_last limit k turn after ne stop =
      elim (cases_lt k n) [
        | inl less ↦ absurd (ne (sym stop.answer ∙ before k less))
        | inr le ↦ elim (cases_lt n k) [
          | inl more ↦ let moved : Ended ≡ Moved = sym last ∙ stop.goes_on n more in absurd (cc)
          | inr ge ↦ omega arith
        ]
      ]

  decides : (limit : ℕ) (how : RunEnd) (after : State) → n < limit → RunsTo [] program (opening image) limit how after → (how ≡ ends.Ended (n + 1))
      × (after.image ≡ laid image t (size_of t))
  decides limit ends.OutOfTurns after enough r = let moved : Ended ≡ Moved = sym last ∙ r.0 n enough in absurd (cc)
  decides limit (ends.Ended turns) after enough r =
      let e : r.0 ≡ n = stops_last limit r.0 Ended after (λ z. cc) r.2 in (
        ap ends.Ended (r.1 ∙ ap (λ (k : ℕ). k + 1) e),
        sym (ap (λ (s : State). s.image) r.2.ends_at)
            ∙ ap (λ (k : ℕ). (turn_after [] program (opening image) k).1.image) e ∙ last_image,
      )
  decides limit (ends.Waiting x) after enough r =
      let e : r.0 ≡ n = stops_last limit r.0 (Waiting x) after (λ z. cc) r.1 in
      let f : Ended ≡ Waiting x = sym last ∙ ap (λ (k : ℕ). (turn_after [] program (opening image) k).0) (sym e) ∙ r.1.answer in
      absurd (cc)
  decides limit (ends.Fault kind pc) after enough r =
      let e : r.0 ≡ n = stops_last limit r.0 (Fault kind) after (λ z. cc) r.2 in
      let f : Ended ≡ Fault kind = sym last ∙ ap (λ (k : ℕ). (turn_after [] program (opening image) k).0) (sym e) ∙ r.2.answer in
      absurd (cc)

pub explained_copies_alone : ExplainedCopiesAlone
explained_copies_alone program t n image left limit how h waits below enough run =
    let all = decides program t n image h waits (λ a i. touched_below t (length image) a below (only_uses t a i)) limit how run.0 enough run.1 in
    (all.0, sym run.2 ∙ all.1)

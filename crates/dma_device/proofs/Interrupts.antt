-- Interrupts: what a turn makes of the lines irq[31:0], and along accesses in a row.
use Rattle.std.proofs.Common.{◌≡◌, ◌∙◌, ◌⊎◌, ℕ, true, ◌+◌, ◌<◌, ◌≤◌, List, ap, sym, subst, arith, inl, inr, ◌-◌, ◌^◌, Bool, false, length, get_or, Option}
use Rattle.std.proofs.Common.{Some, None, w32}
use Rattle.dma_chan.specs.Stepping.{Machine}
use Rattle.std.specs.{Prelude.◌↔◌, Prelude.min, Prelude.max, Int.bit_at, Int.bit_not}
use Rattle.std.proofs.lemmas.Bool.{cases_eq, ne_eqb}
use Rattle.std.proofs.lemmas.Nat.Bits.{bit_at-zero, bit_at-lt, bit_at_and, bit_at_not, bit_at_ones, bit_at_or}
use Rattle.dma_mem.specs.{Regions.pieces_of, declared.regions.Region.Region, Flags.flags_of, Marking.MarkList}
use Rattle.dma_device.specs.Accesses.{Access, Answer, Does, Happen, Resets, Restores, Turns, Writes}
use Rattle.dma_device.specs.Turns.{TakesTurn, Outcome, Setup, begins, called_if, follows, machine_in, number_of, setup_of, stepped, steps_in, visible_events}
use Rattle.dma_device.specs.Turns.{with_flags}
use Rattle.dma_device.specs.Interrupts.{Clears, HasLine, InterruptsAreExact, IsHigh, Raises, TurnSignals}
use Rattle.dma_device.specs.{Device.DeviceValue, Device.irqs, Device.written, declared.config.Config.Config, declared.device.turns.Turn.Turn}
use Rattle.dma_device.specs.{declared.thread.Thread.Thread, CallSteps.first_in, CallSteps.last_in, CallSteps.marks_in, CallSteps.second_in, CallSteps.signal_in}
use Rattle.dma_insn.specs.ControlWord.{flag}
use Rattle.dma_mem.proofs.FlagBits.{get_or_flags_of, length_flags_of}
use Rattle.dma_device.proofs.WriteRaises.{dbgcmd_raises, has_kept, intclr_lowers, others_keep, write_has}
use Rattle.dma_device.proofs.Calls.{call_acts, call_is, if_config, if_inten, machine_left, takes, turn_device, turn_keeps}
use Rattle.dma_device.proofs.FlagSteps.{IsClear, flag_exact, steps_flags, Is, Passes}
use Rattle.dma_device.proofs.{Sound.few_events, Sound.fits_word, FlagNumber.flag_is, FlagNumber.number_bit}
use Rattle.dma_device.proofs.History as history

-- ---- a call

-- the line, by the bits of the interrupts, of the flags and of INTEN
line_after : (flags k : ℕ) (d : DeviceValue) → k < d.config.events
    → bit_at (irqs (with_flags flags d)) k ≡ max (bit_at d.interrupts k) (min (min (bit_at flags k) 1) (bit_at d.inten k))
line_after flags k d event = simp (bit_at_or, bit_at_and, bit_at_ones)

-- after a call that set the flag of `signal`, if any, line k is high exactly if it was high before or the call raised
-- it
abbrev CallRaises : DeviceValue → DeviceValue → Option ℕ → ℕ → Type 0
CallRaises d e signal k = IsHigh (irqs e) k ↔ (IsHigh (irqs d) k ⊎ (IsHigh d.inten k × (signal ≡ Some k)))

pub flag_bit : (flags k : ℕ) → k < 32 → get_or (flags_of flags) k false ≡ true → bit_at flags k ≡ 1
flag_bit flags k below h = grind (arith, cases_eq, get_or_flags_of, ne_eqb)

-- the bit of an event that channels see
pub seen_bit : (d : DeviceValue) (k : ℕ) → k < 32 → d.inten < 2 ^ 32 → bit_at (visible_events d) k ≡ min (bit_at d.events k) (1 - bit_at d.inten k)
seen_bit d k below range = bit_at_and d.events (bit_not w32 d.inten) k ∙ ap (λ (m : ℕ). min (bit_at d.events k) m) (bit_at_not w32 d.inten k range below)

-- a channel doesn't see an event that INTEN makes an interrupt
pub hidden : (d : DeviceValue) (k : ℕ) → k < 32 → d.inten < 2 ^ 32 → IsHigh d.inten k → IsClear k (flags_of (visible_events d))
hidden d k below range on = grind (arith, seen_bit d k below range, get_or_flags_of (visible_events d) k below)

module _ (marks : MarkList) (most : ℕ) (t : Thread) (s : Setup) (k : ℕ) (has : HasLine s.device k) where
  abbrev to : Machine
  to = machine_left marks most t s

  -- the flags after the call
  abbrev pub flags_left : ℕ
  flags_left = number_of to.flags

  -- none of its steps takes event k
  abbrev pub NonePass : Type 0
  NonePass = (j : ℕ) → j < steps_in marks most t s → ¬ Passes marks (machine_in s t) k j

  pub below : k < 32
  below = omega (arith, has.events, has.event)

  long : length to.flags ≡ 32
  long = steps_flags marks (machine_in s t) (steps_in marks most t s) ∙ length_flags_of (visible_events s.device)

  pub flag_left : bit_at flags_left k ≡ flag (get_or to.flags k false)
  flag_left = number_bit to.flags k (let l = long in let b = below in omega (arith, l, b))

  -- flag k is set after the call exactly if the call signals its event, or if it was set and no step took it
  pub flag_sets : IsHigh flags_left k ↔ ((signal_in marks most t s ≡ Some k) ⊎ (Is k (flags_of (visible_events s.device)) × NonePass))
  flag_sets =
      let w = flag_exact marks (machine_in s t) k to most (steps_in marks most t s) (last_in marks most t s) (takes marks most t s) long below in
      let is = flag_is (get_or to.flags k false) in
      ((λ high. w.0 (is.0 (sym flag_left ∙ high))), (λ why. flag_left ∙ is.1 (w.1 why)))

call_raises : (marks : MarkList) (n most : ℕ) (t : Thread) (s : Setup) (k : ℕ) → HasLine s.device k → let o = stepped marks n most t s in
    CallRaises s.device o.left.device o.called.signal k
call_raises marks n most t s k has =
    let hides = hidden s.device k (below marks most t s k has) has.inten in
    let line = line_after (flags_left marks most t s k has) k s.device has.event in
    grind (arith, flag_sets marks most t s k has, hides, line, bit_at-lt)

-- nothing was signalled, and the lines are the same
pub same_raises : (d e : DeviceValue) (signal : Option ℕ) (k : ℕ) → irqs e ≡ irqs d → signal ≡ None → CallRaises d e signal k
same_raises d e signal k lines none = grind arith

if_raises : (made : Bool) (marks : MarkList) (n most : ℕ) (s : Setup) (k : ℕ) → HasLine s.device k → let o = called_if made marks n most s in
    CallRaises s.device o.left.device o.called.signal k
if_raises made marks n most s k has =
    let o = called_if made marks n most s in
    elim (call_is made marks n most s) [
      | inl rests ↦ same_raises s.device o.left.device o.called.signal k (ap (λ (w : Outcome). irqs w.left.device) rests.is)
          (ap (λ (w : Outcome). w.called.signal) rests.is)
      | inr does ↦
          subst (λ (w : Outcome). CallRaises s.device w.left.device w.called.signal k) (sym (call_acts marks most does))
          (call_raises marks n most does.thread s k has)
    ]

-- ---- a turn

both : (d m e : DeviceValue) (first second : Option ℕ) (k : ℕ) → m.inten ≡ d.inten → CallRaises d m first k → CallRaises m e second k
    → IsHigh (irqs e) k ↔ (IsHigh (irqs d) k ⊎ (IsHigh d.inten k × ((first ≡ Some k) ⊎ (second ≡ Some k))))
both d m e first second k same one two = grind arith

-- After a turn line k is high exactly if it was high before, or the turn executed a DMASEV of it while INTEN made it an
-- interrupt.
pub turn_raises : (d e : DeviceValue) (regions left : List Region) (n most k : ℕ) (turn : Turn) → TakesTurn d regions n most e left turn → HasLine d k
    → IsHigh (irqs e) k ↔ (IsHigh (irqs d) k ⊎ (IsHigh d.inten k × TurnSignals d regions n most k))
turn_raises d e regions left n most k turn x has =
    let marks = marks_in regions in
    let s = setup_of d regions in
    let first = first_in d regions n most in
    let m = first.left.device in
    let second = second_in d regions n most in
    let same : m.inten ≡ d.inten = if_inten (begins d n most) marks n most s in
    let config : m.config ≡ d.config = if_config (begins d n most) marks n most s in
    both d m e first.called.signal second.called.signal k same (if_raises (begins d n most) marks n most s k has)
    (subst (λ (v : DeviceValue). CallRaises m v second.called.signal k) (turn_device x)
    (if_raises (follows m n first.called) marks n 1 first.left k (has_kept k d m config same has)))

-- ---- one access

-- bit k of a word is 1 after exactly if it was 1 before and wasn't cleared, or if it was raised
abbrev pub Exact : (k old new : ℕ) → Type 0 → Type 0 → Type 0
Exact k old new Up Down = history.Exact (IsHigh old k) (IsHigh new k) Up Down

pub exact_if_same : (k old new : ℕ) (Up Down : Type 0) → new ≡ old → ¬ Up → ¬ Down → Exact k old new Up Down
exact_if_same k old new Up Down same = grind arith

write_exact : (k at value : ℕ) (d : DeviceValue) (regions : List Region) → HasLine d k → let e = written (pieces_of regions) at value d in
    Exact k (irqs d) (irqs e) (Raises k (Writes at value) d regions) (Clears k (Writes at value) d)
write_exact k at value d regions has =
    let keeps = others_keep true d (pieces_of regions) at value in
    grind (arith, intclr_lowers true d (pieces_of regions) value k has, dbgcmd_raises true d (pieces_of regions) value k, keeps)

turn_exact : (k n most : ℕ) (d e : DeviceValue) (regions left : List Region) (turn : Turn) → HasLine d k → TakesTurn d regions n most e left turn
    → Exact k (irqs d) (irqs e) (Raises k (Turns n most) d regions) (Clears k (Turns n most) d)
turn_exact k n most d e regions left turn has x =
    history.exact_if_raised _ _ _ _ ⊥ (λ up. up) (λ up. up) (λ down. down) (turn_raises d e regions left n most k turn x has)

-- after a restore a bit is that of the restored device
pub restored_bit : (k bits before after : ℕ) → after ≡ bits → IsHigh after k ↔ (IsHigh bits k ⊎ (IsHigh before k × ¬ ¬ IsHigh bits k))
restored_bit k bits before after is = grind arith

access_exact : (k : ℕ) (a : Access) (d e : DeviceValue) (regions left : List Region) (answer : Answer) → HasLine d k → Does a d regions answer e left
    → Exact k (irqs d) (irqs e) (Raises k a d regions) (Clears k a d)
access_exact k (Writes at value) d e regions left answer has x = grind (arith, write_exact)
access_exact k (Turns n most) d e regions left answer has x = turn_exact k n most d e regions left x.0 has x.1.1
access_exact k Resets d e regions left answer has x = grind (arith, bit_at-zero)
access_exact k (Restores saved) d e regions left answer has x = restored_bit k (irqs saved) (irqs d) (irqs e) (ap irqs x.1)
access_exact k a d e regions left answer has x = exact_if_same k (irqs d) (irqs e) (Raises k a d regions) ⊥ (ap irqs x.1) (λ up. up.1) (λ down. down)

-- ---- an access leaves a device its lines

pub access_has : (k : ℕ) (a : Access) (d e : DeviceValue) (regions left : List Region) (answer : Answer) → HasLine d k → Does a d regions answer e left
    → HasLine e k
access_has k (Writes at value) d e regions left answer has x =
    subst (λ (v : DeviceValue). HasLine v k) (sym x.1) (write_has k (pieces_of regions) at value d has)
access_has k (Turns n most) d e regions left answer has x = grind (arith, has_kept, turn_keeps, if_config, if_inten)
access_has k Resets d e regions left answer has x = grind arith
access_has k (Restores saved) d e regions left answer has x =
    let few = few_events saved.config x.4.config in
    subst (λ (v : DeviceValue). HasLine v k) (sym x.1)
    (record {
      events = few;
      event = subst (λ (g : Config). k < g.events) (sym x.3) has.event;
      inten = fits_word saved.inten saved.config.events few x.4.known.inten;
    })
access_has k a d e regions left answer has x = subst (λ (v : DeviceValue). HasLine v k) (sym x.1) has

-- ---- accesses in a row

pub all_have : (access : ℕ → Access) (answer : ℕ → Answer) (before : ℕ → DeviceValue) (lent left : ℕ → List Region) (count k : ℕ)
    → Happen access answer before lent left count → HasLine (before 0) k → (n : ℕ) → n ≤ count → HasLine (before n) k
all_have access answer before lent left count k happen has =
    history.kept_along (λ n. HasLine (before n) k) count has
    (λ n less h. access_has k (access n) (before n) (before (n + 1)) (lent n) (left n) (answer n) h (happen n less))

pub interrupts_are_exact : InterruptsAreExact
interrupts_are_exact access answer before lent left count k n happen has within =
    history.held (λ j. IsHigh (irqs (before j)) k) (λ j. Raises k (access j) (before j) (lent j)) (λ j. Clears k (access j) (before j)) count
    (λ j less. access_exact k (access j) (before j) (before (j + 1)) (lent j) (left j) (answer j)
    (all_have access answer before lent left count k happen has j (omega arith)) (happen j less)) n within

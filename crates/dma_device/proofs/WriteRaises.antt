-- What a write of a register makes of the lines irq[31:0], and of the events that are set.
use Rattle.std.proofs.Common.{◌≡◌, ◌≢◌, ◌∙◌, ◌⊎◌, ℕ, ◌-◌, ◌%◌, ◌^◌, ◌<◌, ◌≤◌, Bool, true, false, List, Option, ap, refl, sym, arith, true≢false, bit_and}
use Rattle.std.proofs.Common.{bit_or, w32, ◌*◌, ◌/◌}
use Rattle.std.proofs.lemmas.Bool.{eq-eqb, eqb-false, eqb-true, lt-ltb}
use Rattle.std.proofs.lemmas.Nat.Bits.{bit_at-lt, bit_at_and, bit_at_not, bit_at_or, bit_at-pow_other, bit_at-pow_same}
use Rattle.std.proofs.{lemmas.Bool.Decides.nat_tests, Math.Pow.pow_mono, lemmas.Nat.and_le_r}
use Rattle.std.specs.{Prelude.◌↔◌, Prelude.if◌then◌else◌, Prelude.◌==◌, Prelude.min, Prelude.slice_get, Prelude.not, Int.bit_at, Int.bit_not}
use Rattle.dma_insn.specs.ControlWord.{field}
use Rattle.dma_mem.specs.Regions.{Piece}
use Rattle.dma_device.specs.declared.thread.Thread.{Thread}
use Rattle.dma_device.specs.Device.{DeviceValue, all_events, by_manager, by_thread, go, is_event, is_interrupt, signalled, written}
use Rattle.dma_device.specs.Interrupts.{DebugSignals, HasLine, IsHigh, can_debug, is_fine}
use Rattle.dma_device.proofs.Cases.{branch, debug_cases, go_cases, manager_cases, thread_cases, write_cases}
use Rattle.dma_device.proofs.Iff.{iff_or, same_or}
use Rattle.dma_device.specs.Offsets as offset

-- ---- the interrupts, or the events

abbrev pick : Bool → ℕ → ℕ → ℕ
pick true a b = a
pick false a b = b

-- the interrupts that are set, or the events
abbrev pub word_of : Bool → DeviceValue → ℕ
word_of kind d = pick kind d.interrupts d.events

-- ---- INTCLR

by_intclr : (r i v line : ℕ) → r < 2 → i < 2 → v < 2 → line ≡ min r (1 - min v i) → (line ≡ 1) ↔ ((r ≡ 1) × ¬ ((v ≡ 1) × (i ≡ 1)))
by_intclr r i v line rb ib vb is = grind arith

word_lowers : (d : DeviceValue) (word value k : ℕ) → HasLine d k
    → IsHigh (bit_and word (bit_not w32 (bit_and value d.inten))) k ↔ (IsHigh word k × ¬ (IsHigh value k × IsHigh d.inten k))
word_lowers d word value k has =
    let below : k < 32 = omega (arith, has.events, has.event) in
    let cleared = bit_and value d.inten in
    let few : cleared < 2 ^ 32 = omega (arith, and_le_r value d.inten, has.inten) in
    by_intclr (bit_at word k) (bit_at d.inten k) (bit_at value k) (bit_at (bit_and word (bit_not w32 cleared)) k)
    (bit_at-lt word k) (bit_at-lt d.inten k) (bit_at-lt value k)
    (bit_at_and word (bit_not w32 cleared) k
    ∙ ap (λ (m : ℕ). min (bit_at word k) m) (
    bit_at_not w32 cleared k few below
    ∙ ap (λ (m : ℕ). 1 - m) (bit_at_and value d.inten k)))

-- after a write to INTCLR bit k of the word is 1 exactly if it was 1 before, and the write doesn't clear it
pub intclr_lowers : (kind : Bool) (d : DeviceValue) (ram : List Piece) (value k : ℕ) → HasLine d k
    → IsHigh (word_of kind (written ram offset.intclr value d)) k ↔ (IsHigh (word_of kind d) k × ¬ (IsHigh value k × IsHigh d.inten k))
intclr_lowers true d ram value k has = word_lowers d d.interrupts value k has
intclr_lowers false d ram value k has = word_lowers d d.events value k has

-- ---- other registers

-- What leaves a device its configuration and INTEN leaves it its lines.
pub has_kept : (k : ℕ) (d e : DeviceValue) → e.config ≡ d.config → e.inten ≡ d.inten → HasLine d k → HasLine e k
has_kept k d e config inten has = record { events = rw config has.events; event = rw config has.event; inten = rw inten has.inten }

-- Each write of a register leaves a device its lines.
pub write_has : (k : ℕ) (ram : List Piece) (at value : ℕ) (d : DeviceValue) → HasLine d k → HasLine (written ram at value d) k
write_has k ram at value d has =
    let all : 2 ^ d.config.events ≤ 2 ^ 32 = pow_mono {i = d.config.events} {j = 32} has.events in
    let kept : (e : DeviceValue) → e.config ≡ d.config → e.inten ≡ d.inten → HasLine e k = λ e config inten. has_kept k d e config inten has in
    write_cases (λ (e : DeviceValue). HasLine e k) ram at value d (record {
      inten = record { events = has.events; event = has.event; inten = omega (arith, and_le_r value (all_events d)) };
      intclr = λ _. kept _ refl refl;
      dbgcmd = λ _ _. debug_cases (λ (e : DeviceValue). HasLine e k) ram d (record {
        same = has;
        manager = λ _ m _. kept _ refl refl;
        sev = λ byte _. branch (λ (e : DeviceValue). HasLine e k) (is_interrupt d (byte / 8)) _ _ (λ _. kept _ refl refl) (λ _. kept _ refl refl);
        kills = λ _ _ _. kept _ refl refl;
        fails = λ _ _ _ _. kept _ refl refl;
        starts = λ _ _ _ _ _ _. kept _ refl refl;
      });
      dbginst0 = kept _ refl refl;
      dbginst1 = kept _ refl refl;
      other = has;
    })

-- a write to any register but DBGCMD and INTCLR leaves the word as it is
pub others_keep : (kind : Bool) (d : DeviceValue) (ram : List Piece) (at value : ℕ) → at ≢ offset.dbgcmd → at ≢ offset.intclr
    → word_of kind (written ram at value d) ≡ word_of kind d
others_keep kind d ram at value not_dbgcmd not_intclr = grind (arith, eqb-true, write_cases)

-- ---- the debug instruction

-- a DMASEV of event k sets a bit of this word: INTEN makes it an interrupt, or not
abbrev pub Sets : Bool → DeviceValue → ℕ → Type 0
Sets true d k = IsHigh d.inten k
Sets false d k = ¬ IsHigh d.inten k

-- bit k of the word is 1 after exactly if it was 1 before or P
abbrev pub Rises : (kind : Bool) (d e : DeviceValue) (k : ℕ) (P : Type 0) → Type 0
Rises kind d e k P = IsHigh (word_of kind e) k ↔ (IsHigh (word_of kind d) k ⊎ P)

or_rises : (w n k : ℕ) → IsHigh (bit_or w (2 ^ n)) k ↔ (IsHigh w k ⊎ (n ≡ k))
or_rises w n k = grind (arith, bit_at_or, bit_at-pow_same, bit_at-pow_other, bit_at-lt)

signal_rises : (kind : Bool) (d : DeviceValue) (n k : ℕ) → Rises kind d (signalled n d) k (Sets kind d k × (n ≡ k))
signal_rises kind d n k = grind (arith, or_rises d.interrupts n k, or_rises d.events n k)

module _ (kind : Bool) where
  -- the instruction is a DMASEV of event k, which the device has, and its thread is fine
  record ByDmasev (d : DeviceValue) (opcode byte k : ℕ) (fine : Bool) : Type 0 where
    on : Sets kind d k
    opcode_is : opcode ≡ 0x34
    byte_is : byte ≡ 8 * k
    event : k < d.config.events
    executes : fine ≡ true

  event_yes : (d : DeviceValue) (byte k : ℕ) → byte ≡ 8 * k → k < d.config.events → is_event d byte ≡ true
  event_yes d byte k is event = grind (arith, eq-eqb, lt-ltb)

  sev_rises : (d : DeviceValue) (opcode byte k : ℕ) (fine : Bool) → opcode ≡ 0x34 → fine ≡ true → is_event d byte ≡ true
      → Rises kind d (signalled (byte / 8) d) k (ByDmasev d opcode byte k fine)
  sev_rises d opcode byte k fine is executes event = grind (arith, nat_tests, signal_rises kind d (byte / 8) k)

  no_event : (d : DeviceValue) (opcode byte k : ℕ) (fine : Bool) → is_event d byte ≡ false → ¬ ByDmasev d opcode byte k fine
  no_event d opcode byte k fine none x = true≢false (sym (event_yes d byte k x.byte_is x.event) ∙ none)

  -- another instruction
  no_kill : (d : DeviceValue) (opcode byte k : ℕ) (fine : Bool) → (opcode == 0x01) ≡ true → ¬ ByDmasev d opcode byte k fine
  no_kill d opcode byte k fine is x = let one = eqb-true opcode 0x01 is in let sev = x.opcode_is in omega arith

  not_sev : (d : DeviceValue) (opcode byte k : ℕ) (fine : Bool) → (opcode == 0x34) ≡ false → ¬ ByDmasev d opcode byte k fine
  not_sev d opcode byte k fine is x = eqb-false opcode 0x34 is x.opcode_is

  -- a thread that can't execute it
  cannot : (d : DeviceValue) (opcode byte k : ℕ) (faulting : Bool) → faulting ≡ true → ¬ ByDmasev d opcode byte k (not faulting)
  cannot d opcode byte k faulting is x = true≢false (sym x.executes ∙ ap not is)

  thread_rises : (n : ℕ) (o : Option Thread) (opcode byte k : ℕ) (d : DeviceValue)
      → Rises kind d (by_thread n o opcode byte d) k (ByDmasev d opcode byte k (is_fine o))
  thread_rises n o opcode byte k d = grind (arith, cannot, eqb-true, no_event, no_kill, not_sev, same_or, sev_rises, thread_cases)

  go_rises : (ram : List Piece) (nonsecure : Bool) (n : ℕ) (o : Option Thread) (d : DeviceValue) (k : ℕ) (P : Type 0) → ¬ P
      → Rises kind d (go ram nonsecure n o d) k P
  go_rises ram nonsecure n o d k P h1 = grind (arith, go_cases, same_or)

  manager_rises : (ram : List Piece) (opcode byte k : ℕ) (d : DeviceValue)
      → Rises kind d (by_manager ram opcode byte d) k (ByDmasev d opcode byte k (not d.manager.is_faulting))
  manager_rises ram opcode byte k d = grind (arith, cannot, eqb-true, go_rises, manager_cases, no_event, no_kill, not_sev, same_or, sev_rises)

  -- by a channel thread or the manager
  by_either : (b : Bool) (d threads manager : DeviceValue) (opcode byte k : ℕ) (one other : Bool) → Rises kind d threads k (ByDmasev d opcode byte k one)
      → Rises kind d manager k (ByDmasev d opcode byte k other)
      → Rises kind d (if b then threads else manager) k (ByDmasev d opcode byte k (if b then one else other))
  by_either b d threads manager opcode byte k one other h h2 = grind (arith)

  -- after a write to DBGCMD bit k of the word is 1 exactly if it was 1 before, or the write executed a DMASEV of event k
  -- that sets it
  pub dbgcmd_raises : (d : DeviceValue) (ram : List Piece) (value k : ℕ)
      → Rises kind d (written ram offset.dbgcmd value d) k (Sets kind d k × DebugSignals d value k)
  dbgcmd_raises d ram value k =
      let w = d.dbginst0 in
      let opcode = field 16 8 w in
      let byte = field 24 8 w in
      let n = field 8 3 w in
      let o = slice_get d.threads n in
      branch (λ (e : DeviceValue). Rises kind d e k (Sets kind d k × DebugSignals d value k)) (value % 4 == 0) _ d
      (λ is.
      iff_or _ _ (ByDmasev d opcode byte k (can_debug d)) _
      (λ x. (x.on, record { command = eqb-true (value % 4) 0 is; dmasev = (x.opcode_is, x.byte_is); event = x.event; executes = x.executes }))
      (λ x. record { on = x.0; opcode_is = x.1.dmasev.0; byte_is = x.1.dmasev.1; event = x.1.event; executes = x.1.executes })
      (by_either (field 0 1 w == 1) d _ _ opcode byte k (is_fine o) (not d.manager.is_faulting) (thread_rises n o opcode byte k d)
      (manager_rises ram opcode byte k d)))
      (λ is. same_or _ _ (λ x. eqb-false (value % 4) 0 is x.1.command))

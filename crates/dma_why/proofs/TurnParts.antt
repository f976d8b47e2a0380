-- What holds of a channel whose next step is held or waits.
use Rattle.std.proofs.Common.{arith}
use Rattle.std.proofs.Common.{◌≡◌, ℕ, ◌<◌, Option, Some, None, Bool, false}
use Rattle.std.specs.Prelude.{Result, Ok, Err}
use Rattle.std.proofs.lemmas.Bool.{cond_both, leb-false}
use Rattle.dma_insn.specs.declared.chip.ChipInsn.{ChipInsn}
use Rattle.dma_insn.specs.declared.chip.ChipInsn.TheVariants.{Wfe}
use Rattle.dma_mem.specs.{Places.Descriptor}
use Rattle.dma_chan.specs.Traffic.{member}
use Rattle.dma_engine.specs.declared.turn.Turn.TheVariants.{Halted, Held, Paused, Waiting}
use Rattle.dma_engine.specs.Turn.{front_turn, insn_turn, start_turn, turn}
use Rattle.dma_engine.specs.View.{RunningTransfer, View, channels, object_of, schedule_at}
use Rattle.dma_engine.specs.{declared.fault.EngineFault.EngineFault, declared.fault.EngineFault.TheVariants.NoChannel}
use Rattle.dma_engine.specs.{declared.turn.Turn.Turn, Room.IsIdle, Object.channel, Object.is_set, Object.issued_front}

-- ---- the first tests

-- A channel exists, is neither halted nor paused, and the turn of its front has this result.
pub record IsFrontTurn (v : View) (ch : ℕ) (r : Result Turn EngineFault) : Type 0 where
  pub there : ch < channels v
  pub goes : (channel (object_of v) ch).halted ≡ false
  pub active : (schedule_at v ch).paused ≡ false
  pub turned : (front_turn v ch (issued_front (channel (object_of v) ch)) (schedule_at v ch).taken).0 ≡ r

pub front_turned : (v : View) (ch : ℕ) (r : Result Turn EngineFault) → (turn v ch).0 ≡ r → (Err NoChannel ≡ r → ⊥) → (Ok Halted ≡ r → ⊥) → (Ok Paused ≡ r → ⊥)
    → IsFrontTurn v ch r
front_turned v ch r is not_none not_halted not_paused = grind (arith, cond_both, leb-false)

-- ---- an instruction that changes nothing

-- It waits for an event.
pub record Idles (v : View) (i : ChipInsn) (r : Result Turn EngineFault) : Type 0 where
  pub event : ℕ
  pub invalid : Bool
  pub is : i ≡ Wfe event invalid
  pub clear : is_set (object_of v) event ≡ false
  pub turned : r ≡ Ok (Waiting event)

pub insn_idle : (v : View) (ch n : ℕ) (t : Descriptor) (i : ChipInsn) → IsIdle (insn_turn v ch t n i).0 → Idles v i (insn_turn v ch t n i).0
insn_idle v ch n t i h = grind (arith, cond_both)

-- ---- a held front

insn_not_held : (v : View) (ch n : ℕ) (t : Descriptor) (i : ChipInsn) (other cookie : ℕ) → (insn_turn v ch t n i).0 ≡ Ok (Held other cookie) → ⊥
insn_not_held v ch n t i other cookie e = grind (arith, insn_idle)

pub held_front : (v : View) (ch : ℕ) (x : Option Descriptor) (taken : Option ℕ) (other cookie : ℕ) → (front_turn v ch x taken).0 ≡ Ok (Held other cookie)
    → (t : Descriptor) × (x ≡ Some t) × (taken ≡ None)
held_front v ch x taken other cookie h = grind (arith, cond_both, insn_not_held)

-- ---- a front that waits

start_not_waiting : (v : View) (ch event : ℕ) (x : Option RunningTransfer) → (start_turn v ch x).0 ≡ Ok (Waiting event) → ⊥
start_not_waiting v ch event x h = grind (arith)

-- an instruction that waits for an event
abbrev Waits : View → ℕ → ChipInsn → Type 0
Waits v event i = (invalid : Bool) × (i ≡ Wfe event invalid) × (is_set (object_of v) event ≡ false)

insn_waits : (v : View) (ch n event : ℕ) (t : Descriptor) (i : ChipInsn) → (insn_turn v ch t n i).0 ≡ Ok (Waiting event) → Waits v event i
insn_waits v ch n event t i e = grind (arith, insn_idle)

pub waiting_front : (v : View) (ch event : ℕ) (x : Option Descriptor) (taken : Option ℕ) → (front_turn v ch x taken).0 ≡ Ok (Waiting event) → (t : Descriptor)
    × (n : ℕ) × (x ≡ Some t) × (taken ≡ Some n) × Waits v event (member t n)
waiting_front v ch event x taken h = grind (arith, start_not_waiting, cond_both, insn_waits)

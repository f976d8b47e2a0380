-- A step whose answer is idle does not change the view.
use Rattle.std.proofs.Common.{arith}
use Rattle.std.proofs.Common.{◌≡◌, ℕ, Bool, true, false}
use Rattle.std.specs.Prelude.{Result}
use Rattle.dma_mem.specs.declared.call.Call.TheVariants.{Step}
use Rattle.dma_engine.specs.declared.turn.Turn.TheVariants.{Started, Moved, Finished}
use Rattle.dma_engine.specs.{declared.call.Reply.Reply, declared.call.Reply.TheVariants.Turned, declared.fault.EngineFault.EngineFault, declared.turn.Turn.Turn}
use Rattle.dma_engine.specs.{Answer.answer, Answer.reply_of, Room.IsIdle, View.View, Turn.Stepped, Turn.turn}
use Rattle.dma_engine.proofs.Turns.{turn_cases}

-- ---- an idle answer, by its reply

abbrev is_idle : Reply → Bool
is_idle (Turned (Started cookie)) = false
is_idle (Turned Moved) = false
is_idle (Turned (Finished cookie result residue)) = false
is_idle _ = true

idle_reply : (r : Result Turn EngineFault) → IsIdle r → is_idle (reply_of Turned r) ≡ true
idle_reply r h = grind (arith)

-- ---- the table of cases

abbrev Stays : View → Stepped → Type 0
Stays v x = is_idle (reply_of Turned x.0) ≡ true → x.1 ≡ v

turn_stays_law : (v : View) (ch : ℕ) → Stays v (turn v ch)
turn_stays_law v ch = grind (arith, turn_cases)

-- the view after such an answer
pub idle_steps_stay : (v w : View) (ch : ℕ) (r : Result Turn EngineFault) → IsIdle r → (reply_of Turned r, w) ≡ answer v (Step ch) → w ≡ v
idle_steps_stay v w ch r idle is = grind (arith, turn_stays_law, idle_reply)

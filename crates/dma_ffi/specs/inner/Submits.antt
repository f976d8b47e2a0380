-- The submit of a transfer that may not have been made.
use Rattle.std.specs.Prelude.{◌≡◌, ℕ, ℤ, Result, Ok, Err}
use Rattle.dma_mem.specs.{Places.Descriptor, declared.transfer.TransferFault.TransferFault, declared.call.Call.TheVariants.Submit}
use Rattle.dma_engine.specs.{declared.call.Reply.Reply, Answer.CallAnswers, View.View}
use Rattle.dma_ffi.specs.{Codes.reply_code, Codes.transfer_code, Requests.number_in, Requests.replied}

-- An engine with the view `v` is given a transfer that was made, or none because of a fault; the code and the number
-- before and after are those of its reply, or of the fault. Afterwards it has the view `w`.
abbrev pub Submits : View → ℕ → Result Descriptor TransferFault → ℤ → ℕ → ℕ → View → Type 0
Submits v ch (Ok t) code before after w =
    (reply : Reply) × CallAnswers v (Submit ch t) reply w × (code ≡ reply_code reply)
    × (after ≡ number_in (replied reply) before)
Submits v ch (Err fault) code before after w = (code ≡ transfer_code fault) × (after ≡ before) × (w ≡ v)

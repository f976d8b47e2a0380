-- Calls that were answered together.
use Rattle.std.specs.Prelude.{◌≡◌, List, ◌++◌}
use Rattle.dma_mem.specs.declared.call.Call.{Call}
use Rattle.dma_engine.specs.{declared.call.Reply.Reply, Answer.AreAnswers, Laws.AreSoundAnswers, View.View}

-- The calls were answered, every view on the way is sound, and their replies were added to a list.
pub record AddsAnswers (old : View) (calls : List Call) (new : View) (before after : List Reply) : Type 0 where
  pub replies : List Reply
  pub added : after ≡ before ++ replies
  pub answers : AreAnswers old calls replies new
  pub sound : AreSoundAnswers old calls replies new

use Rattle.std.proofs.Common.{◌≡◌, ◌++◌}
use Rattle.std.specs.{Prelude.replicate, Vec.vec_capacity}
use Rattle.dma_engine.specs.{Answer.reply_of, declared.call.Reply.TheVariants.Turned}
use Rattle.dma_engine.proofs.run.push_turns.Given as goal

abbrev pub invariant-loop : goal.invariant-loop
invariant-loop l = record {
  items : l.replies.items ≡ l.initial.replies.items ++ replicate l.counter (reply_of Turned l.turn);
  capacity : vec_capacity l.replies ≡ vec_capacity l.initial.replies;
}

use Rattle.std.proofs.Common.{◌≡◌, length, arith}
use Rattle.dma_engine.proofs.{CallLists.chain_extends, OutcomesStay.kept, OutcomesStay.chain_remembers, Runs.ran_all, Runs.ran_length, Runs.ran_more}
use Rattle.dma_engine.proofs.run.run.Goals as goal

pub answer_some-done-requires-clause-room : goal.answer_some-done-requires-clause-room
answer_some-done-requires-clause-room c =
    omega (arith, ran_length _ _ _ _ _ c.loop-left.invariant.ran, c.loop-left.invariant.room)

pub loop-left-preserved : goal.loop-left-preserved
loop-left-preserved c = record {
  ran = ran_more c.args.engine.now.view c.loop-left.engine.view c.answer_some-done.new.engine.view c.args.calls.now c.loop-left.left.now
      c.answer_some-done.result c.loop-left.replies.items c.answer_some-done.new.replies.items c.loop-left.invariant.ran c.answer_some-done.ensures.answers;
  sound = c.answer_some-done.ensures.now_sound;
  memory = c.answer_some-done.ensures.memory;
  room = omega (arith, c.loop-left.invariant.room, c.answer_some-done.ensures.capacity);
}

pub returns-clause-begins : goal.returns-clause-begins
returns-clause-begins c = λ none.
    let empty : length c.loop-left.left.now ≡ 0 = grind arith in
    chain_extends _ _ _ _ none (ran_all _ _ _ _ _ c.loop-left.invariant.ran empty).0

pub returns-clause-kept : goal.returns-clause-kept
returns-clause-kept c = λ none. kept c.args.engine.now.view c.loop-left.engine.view (returns-clause-begins c none)

pub returns-clause-remembers : goal.returns-clause-remembers
returns-clause-remembers c =
    let empty : length c.loop-left.left.now ≡ 0 = grind arith in
    chain_remembers _ _ _ _ (ran_all _ _ _ _ _ c.loop-left.invariant.ran empty).0

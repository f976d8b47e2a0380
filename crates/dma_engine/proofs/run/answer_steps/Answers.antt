use Rattle.std.proofs.Common.{◌≡◌, ◌≢◌, ◌⊎◌, ◌∙◌, ◌++◌, ap, append_assoc, append-nil, arith, inl, inr}
use Rattle.std.specs.Prelude.{replicate}
use Rattle.dma_engine.specs.declared.call.Reply.TheVariants.{Refused, Turned}
use Rattle.dma_engine.specs.{Advance.replies_before, Advance.start_replies, Answer.reply_of, Room.IsIdle, declared.turn.Turn.TheVariants.Moved}
use Rattle.dma_engine.specs.{declared.fault.EngineFault.TheVariants.NoMemory}
use Rattle.dma_engine.proofs.Runs.{adds_all, adds_last}
use Rattle.dma_engine.proofs.run.answer_steps.Goals.{else-is_idle, in-Some, in_default, then-is_idle}
use Rattle.dma_engine.proofs.run.answer_steps.Goals as goal

pub returns-in_default-last-clause-answers : goal.returns-in_default-last-clause-answers
returns-in_default-last-clause-answers c =
    let a = c.advance-steps.result in
    let old = c.args.replies.now.items in
    let started : c.match-steps.replies.items ≡ old ++ start_replies a.started = elim c.match-steps.branch [
      | in-Some w ↦ grind arith
      | in_default w ↦ grind (arith, append-nil)
    ] in
    let before : c.push_turns.new.replies.items ≡ old ++ replies_before a = c.push_turns.ensures.items
    ∙ ap (λ l. l ++ replicate a.moved (Turned Moved)) started ∙ append_assoc old (start_replies a.started) (replicate a.moved (Turned Moved)) in
    rw c.steps_before-before.ensures
    (adds_all c.args.engine.now.view c.advance-steps.new.self.view c.args.ch c.args.most a old c.push_turns.new.replies.items c.requires.sound
    c.advance-steps.ensures.answers c.in_default-last.is before)

pub returns-clause-answers : goal.returns-clause-answers
returns-clause-answers c =
    let a = c.advance-steps.result in
    let old = c.args.replies.now.items in
    let last = c.in-Some-last.last in
    let many = c.if-is_idle.many in
    let started : c.match-steps.replies.items ≡ old ++ start_replies a.started = elim c.match-steps.branch [
      | in-Some w ↦ grind arith
      | in_default w ↦ grind (arith, append-nil)
    ] in
    let before : c.push_turns.new.replies.items ≡ old ++ replies_before a = c.push_turns.ensures.items
    ∙ ap (λ l. l ++ replicate a.moved (Turned Moved)) started ∙ append_assoc old (start_replies a.started) (replicate a.moved (Turned Moved)) in
    let all = c.push_turns-2.ensures.items ∙ ap (λ l. l ++ replicate many (reply_of Turned last)) before
    ∙ append_assoc old (replies_before a) (replicate many (reply_of Turned last)) in
    let times : (many ≡ 1) ⊎ (IsIdle last × (reply_of Turned last ≢ Refused NoMemory)) = elim c.if-is_idle.branch [
      | then-is_idle w ↦ inr (c.is_idle.ensures.idle w.if-is_idle.true, c.is_idle.ensures.memory w.if-is_idle.true)
      | else-is_idle w ↦ inl w.many-is
    ] in
    rw c.steps_before-before.ensures
    (adds_last c.args.engine.now.view c.advance-steps.new.self.view c.args.ch c.args.most a last many old c.push_turns-2.new.replies.items c.requires.sound
    c.advance-steps.ensures.answers c.in-Some-last.is times all)

use Rattle.std.proofs.Common.{◌≡◌, ◌≤◌, ◌+◌, ◌-◌, ◌++◌, [], ◌∙◌, List, ℕ, ap, length, map, subst, sym, take, arith}
use Rattle.std.specs.Prelude.{replicate}
use Rattle.std.proofs.{lemmas.List.append-nil, lemmas.List.length-replicate, lemmas.List.take-replicate, lemmas.Result.on_ok_weaker}
use Rattle.dma_mem.specs.declared.call.Call.TheVariants.{Step}
use Rattle.dma_engine.specs.{Answer.AreAnswers, Answer.answers, declared.call.Reply.Reply}
use Rattle.dma_io.specs.Command.{text_of}
use Rattle.dma_commands.specs.{Printed.reply_text, Run.step_answer, Run.step_lines}
use Rattle.dma_commands.proofs.{ListLemmas.answers_length, RunLemmas.printed_runs, StepLemmas.ended, StepLemmas.list_texts, StepLemmas.list_view}
use Rattle.dma_commands.proofs.run.steps.answer_steps.Goals as goal

pub take_all-requires : goal.take_all-requires
take_all-requires c =
    let ch = c.args.ch in
    let step = Step ch in
    let many = c.min-many.result in
    let left = c.loop-left.left in
    let inv = c.loop-left.invariant in
    let few : many ≤ 1024 = omega (arith, c.min-many.ensures) in
    let within : many ≤ left = omega (arith, c.min-many.ensures) in
    let calls : c.push_steps.new.self ≡ replicate 1024 step = c.in_ok-push_steps.ensures.ok
    ∙ ap (λ l. l ++ replicate 1024 step) c.new-calls.ensures in
    let row : take many c.as_slice-calls.result.now ≡ replicate many step = ap (take many) (c.as_slice-calls.ensures ∙ calls) ∙ take-replicate many 1024 step few in
    let replies = c.deref.result.now in
    let are : AreAnswers c.loop-left.engine.view (take many c.as_slice-calls.result.now) replies c.run.new.engine.view =
    subst (λ (r : List Reply). AreAnswers c.loop-left.engine.view (take many c.as_slice-calls.result.now) r c.run.new.engine.view)
    (sym c.deref.ensures.value) c.in-Ok.ensures.answers in
    let len : length replies ≡ many = answers_length _ _ _ _ are ∙ ap length row ∙ length-replicate many step in
    omega (arith, inv.counted, inv.left, within, len, c.ranges.count.fits)

pub loop-left-preserved : goal.loop-left-preserved
loop-left-preserved c =
    let v = c.args.engine.now.view in
    let w = c.loop-left.engine.view in
    let u = c.run.new.engine.view in
    let ch = c.args.ch in
    let step = Step ch in
    let many = c.min-many.result in
    let left = c.loop-left.left in
    let inv = c.loop-left.invariant in
    let few : many ≤ 1024 = omega (arith, c.min-many.ensures) in
    let within : many ≤ left = omega (arith, c.min-many.ensures) in
    let calls : c.push_steps.new.self ≡ replicate 1024 step = c.in_ok-push_steps.ensures.ok
    ∙ ap (λ l. l ++ replicate 1024 step) c.new-calls.ensures in
    let row : take many c.as_slice-calls.result.now ≡ replicate many step = ap (take many) (c.as_slice-calls.ensures ∙ calls) ∙ take-replicate many 1024 step few in
    let replies = c.deref.result.now in
    let are : AreAnswers c.loop-left.engine.view (take many c.as_slice-calls.result.now) replies c.run.new.engine.view =
    subst (λ (r : List Reply). AreAnswers c.loop-left.engine.view (take many c.as_slice-calls.result.now) r c.run.new.engine.view)
    (sym c.deref.ensures.value) c.in-Ok.ensures.answers in
    let len : length replies ≡ many = answers_length _ _ _ _ are ∙ ap length row ∙ length-replicate many step in
    let sum : (c.args.count - left) + many ≡ c.args.count - (left - many) = omega (arith, within, inv.left) in
    let take_all = c.in_ok-take_all.ensures in
    record {
      left = omega (arith, inv.left);
      counted = omega (arith, take_all.count, inv.counted, within, inv.left, len);
      view = list_view v w u step (take many c.as_slice-calls.result.now) replies (c.args.count - left) many _ sum inv.view row are take_all.memory;
      text = λ rest. take_all.text rest ∙ inv.text (map reply_text replies ++ rest)
          ∙ ap (λ l. text_of (step_lines ch l))
          (list_texts v w u step (take many c.as_slice-calls.result.now) replies (c.args.count - left) many _ rest sum inv.view row are take_all.memory);
    }

pub returns : goal.returns
returns c =
    let v = c.args.engine.now.view in
    let ch = c.args.ch in
    let steps = c.loop-left.steps in
    let out = c.args.out.now.items in
    let result = c.print.result in
    let print = c.print.ensures in
    let none : c.args.count - c.loop-left.left ≡ c.args.count = omega (arith, c.loop-left-test.false) in
    let lines =
    ended ch steps.lines.items c.end_line.new.self.lines.items steps.last.items steps.count c.in_ok-end_line.ensures.none c.in_ok-end_line.ensures.line
    ∙ c.loop-left.invariant.text []
    ∙ ap (λ (k : ℕ). text_of (step_lines ch (map reply_text (answers v (replicate k (Step ch))).0 ++ []))) none
    ∙ ap (λ l. text_of (step_lines ch l)) (append-nil (map reply_text (answers v (replicate c.args.count (Step ch))).0)) in
    let view = c.loop-left.invariant.view ∙ ap (λ (k : ℕ). (answers v (replicate k (Step ch))).1) none in
    printed_runs (step_answer v ch c.args.count) c.loop-left.engine.view result out c.print.new.out.items (on_ok_weaker result (λ _. view) print.ok)
    (on_ok_weaker result (λ p. p ∙ ap (λ (l : List ℕ). out ++ l) (c.as_slice.ensures.value ∙ lines)) print.ok) print.err

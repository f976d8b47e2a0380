use Rattle.std.proofs.Common.{◌≡◌, ◌∙◌, ◌++◌, ap, sym, arith, refl, append_assoc, append-nil}
use Rattle.std.specs.Prelude.{replicate}
use Rattle.std.proofs.lemmas.List.{replicate_more}
use Rattle.dma_engine.specs.{Answer.reply_of, declared.call.Reply.TheVariants.Turned}
use Rattle.dma_engine.proofs.run.push_turns.Goals as goal

pub loop-init : goal.loop-init
loop-init c = record { items = sym (append-nil c.args.replies.now.items); capacity = refl }

pub loop-preserved : goal.loop-preserved
loop-preserved c =
    let old = c.args.replies.now.items in
    let reply = reply_of Turned c.args.turn in
    record {
      items =
          rw (c.push_reserved.ensures.items, c.turned_or_refused.ensures, c.loop.invariant.items, append_assoc)
          (ap (λ l. old ++ l) (replicate_more c.loop.counter reply));
      capacity = c.push_reserved.ensures.capacity ∙ c.loop.invariant.capacity;
    }

pub returns-clause-items : goal.returns-clause-items
returns-clause-items c =
    let all : c.loop.counter ≡ c.args.many = omega (arith, c.loop-test.false, c.loop.auto.counter-end) in
    c.loop.invariant.items ∙ ap (λ n. c.args.replies.now.items ++ replicate n (reply_of Turned c.args.turn)) all

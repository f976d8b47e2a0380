use Rattle.std.proofs.Common.{◌+◌, ap, subst, ◌∙◌, arith}
use Rattle.std.proofs.lemmas.Result.{IfOk-weaker}
use Rattle.dma_insn.specs.declared.chip.ChipInsn.{ChipInsn}
use Rattle.dma_explain.specs.{declared.explain.known.Given.Given, inner.Tracing.IsNew}
use Rattle.dma_explain.proofs.Explaining.{follows_new, next_here}
use Rattle.dma_trace.specs.Touches.{after_touch}
use Rattle.dma_trace.proofs.Reached.{all_stay, halts_alone, leads_alone, one_more, touches_on, was_ok}
use Rattle.dma_trace.proofs.explain.reached.Goals as goal

pub loop-done-init : goal.loop-done-init
loop-done-init g c = record {
  known = c.new-tracer.ensures.known ∙ ap (λ (given : Given). given.known) c.all.ensures;
  follows = follows_new c.args.start c.args.program.now c.new-tracer.result
      (subst (λ (given : Given). IsNew given.registers c.new-tracer.result) c.all.ensures c.new-tracer.ensures.new);
  touches = c.none-touches.ensures;
}

pub on-requires : goal.on-requires
on-requires g c = record { offset = c.loop-done.invariant.follows.pc; limit = c.requires.long }

pub unreachable-requires : goal.unreachable-requires
unreachable-requires g c = grind (arith, next_here)

pub run-requires : goal.run-requires
run-requires g c = grind (arith, next_here, ap)

pub loop-done-preserved : goal.loop-done-preserved
loop-done-preserved g c =
    let start = c.args.start in
    let program = c.args.program.now in
    let now = c.loop-done in
    let x = now.tracer in
    let y = c.run.new.self in
    let w = now.invariant.follows in
    let known = was_ok c.run.result c.in_default-run.not-Err c.run.ensures.known ∙ all_stay c.in-Ok.next x.known now.invariant.known in
    record {
      known = known;
      follows = one_more start program now.done x y c.run.result c.in_default-run.not-Err c.run.ensures.some
          (IfOk-weaker c.run.result _ _ (λ m leads. leads_alone start program m x y now.invariant.known known leads) c.run.ensures.leads) w;
      touches = touches_on start program now.done c.args.addr x c.in-Ok.next now.touches c.add.new.self w c.in-Ok.ensures now.invariant.touches
          (c.add.ensures ∙ ap (λ (i : ChipInsn). after_touch i c.args.addr (now.done + 1) x.registers now.touches) c.insn-insn.ensures);
    }

pub returns : goal.returns
returns g c = grind (arith, arith, subst, ap)

use Rattle.std.proofs.Common.{◌≡◌, ◌≢◌, ℕ, ◌+◌, arith, inr, refl, ap, subst, sym, ◌∙◌, Ok, Err}
use Rattle.dma_insn.specs.declared.chip.ChipInsn.{TheVariants.End}
use Rattle.dma_explain.specs.declared.explain.Cause.TheVariants.{Fails, NoEnd, TooLong}
use Rattle.dma_chan.specs.declared.exec.Registers.{Registers}
use Rattle.dma_explain.specs.{Known.MayBegin, Known.RefusesFrom, declared.explain.Unexplained.Unexplained, inner.Tracing.Follows, inner.Tracing.trace_of}
use Rattle.dma_explain.specs.inner.Knowing.{over_in}
use Rattle.dma_explain.proofs.Explaining.{counts_bursts, counts_late, finds, refuses, stops_here}
use Rattle.dma_explain.proofs.Knowing.{begins_given, keeps_over, leads_on, over_copied, over_new, stays_known}
use Rattle.dma_explain.proofs.RefusedKnowing.{halts_short, refused_for, refused_here, stops_unknown}
use Rattle.dma_explain.proofs.explain.explain_from.Goals as goal

pub loop-steps-init : goal.loop-steps-init
loop-steps-init c =
    let given = c.args.given in
    let x = c.new-tracer.result in
    let program = c.args.program.now in
    let is = c.new-tracer.ensures.known in
    let follows : (start : Registers) → MayBegin given start → Follows start program 0 (over_in x.known start x) = λ start may.
    subst (λ k. Follows start program 0 (over_in k start x)) (sym is) (over_new given start program x may c.new-tracer.ensures.new) in
    record {
      follows = follows;
      keeps = keeps_over x.known given.registers program 0 x (follows given.registers (begins_given given));
      grows = λ r e. rw is e;
      few = omega arith;
    }

pub returns-in-Ok-finish-clause-ok : goal.returns-in-Ok-finish-clause-ok
returns-in-Ok-finish-clause-ok c = λ start may.
    let now = c.loop-steps in
    let x = now.tracer in
    finds start c.args.program.now now.steps (now.steps + 1) (over_in x.known start x) c.in-Ok-finish.explained (now.invariant.follows start may)
    (ap Ok c.in-End.ensures ∙ c.in-Ok.ensures) (omega (arith, c.loop-steps-test.true, c.ranges.most.fits)) c.args.most c.loop-steps-test.true refl
    (over_copied x.known start x (now.steps + 1) c.in-Ok-finish.explained c.in-Ok-finish.ensures.ok)

pub returns-in-Ok-finish-clause-bursts : goal.returns-in-Ok-finish-clause-bursts
returns-in-Ok-finish-clause-bursts c = λ start may.
    let now = c.loop-steps in
    let x = now.tracer in
    counts_bursts start c.args.program.now now.steps (now.steps + 1) (over_in x.known start x) c.in-Ok-finish.explained (now.invariant.follows start may)
    refl (over_copied x.known start x (now.steps + 1) c.in-Ok-finish.explained c.in-Ok-finish.ensures.ok)

pub returns-in-Ok-finish-clause-late : goal.returns-in-Ok-finish-clause-late
returns-in-Ok-finish-clause-late c = λ start may.
    let now = c.loop-steps in
    let x = now.tracer in
    counts_late start c.args.program.now now.steps (now.steps + 1) (over_in x.known start x) c.in-Ok-finish.explained (now.invariant.follows start may)
    refl (over_copied x.known start x (now.steps + 1) c.in-Ok-finish.explained c.in-Ok-finish.ensures.ok)

pub loop-steps-preserved : goal.loop-steps-preserved
loop-steps-preserved c =
    let given = c.args.given in
    let now = c.loop-steps in
    let program = c.args.program.now in
    let count = c.in-Ok-run.count in
    let y = c.run.new.self in
    let follows : (start : Registers) → MayBegin given start → Follows start program (now.steps + count) (over_in y.known start y) = λ start may.
    leads_on c.args.program.now now.tracer y start now.steps count c.run.result c.in-Ok-run.is c.run.ensures.leads (now.invariant.follows start may) in
    record {
      follows = follows;
      keeps = keeps_over y.known given.registers program (now.steps + count) y (follows given.registers (begins_given given));
      grows = λ r e. rw (c.in-Ok-run.ensures.known) (stays_known c.in-Ok.next now.tracer.known r (now.invariant.grows r e));
      few = grind arith;
    }

pub returns-in-Err-clause-err : goal.returns-in-Err-clause-err
returns-in-Err-clause-err c = λ _ _.
    let given = c.args.given in
    let program = c.args.program.now in
    let most = c.args.most in
    let now = c.loop-steps in
    let cause = Fails c.in-Err.kind in
    subst (λ (u : Unexplained). RefusesFrom given program most u) (sym c.refusal.ensures) (λ start may.
    let x = over_in now.tracer.known start now.tracer in
    let follows = now.invariant.follows start may in
    let stops = stops_here start program most now.steps x (Err c.in-Err.kind) cause follows c.in-Err.ensures c.loop-steps-test.true refl in
    refuses start program most now.steps x cause 0 _ follows stops refl refl)

pub returns-in-Err-finish-clause-err : goal.returns-in-Err-finish-clause-err
returns-in-Err-finish-clause-err c = λ memory _.
    let program = c.args.program.now in
    let now = c.loop-steps in
    let stop = c.in-Err-finish.stop in
    let is = c.in-Err-finish.ensures.err memory in
    let here = c.refusal-here.ensures in
    refused_for stop.cause c.args.given program c.args.most _ (stops_unknown End (trace_of now.tracer) stop.cause is) (λ start may.
    let x = over_in now.tracer.known start now.tracer in
    let follows = now.invariant.follows start may in
    let stops = stops_here start program c.args.most now.steps x (Ok End) stop.cause follows (ap Ok c.in-End.ensures ∙ c.in-Ok.ensures) c.loop-steps-test.true
    is in
    rw here (refuses start program c.args.most now.steps x stop.cause stop.addr _ follows stops c.in-Err-finish.ensures.addr refl))

pub returns-in-Err-run : goal.returns-in-Err-run
returns-in-Err-run c =
    let given = c.args.given in
    let program = c.args.program.now in
    let now = c.loop-steps in
    let x = now.tracer in
    let cause = c.in-Err-run.cause in
    let next = c.in-Ok.next in
    let other : next ≢ End = λ e. c.in_default.not-End (c.insn.ensures ∙ e) in
    let halts = c.in-Err-run.ensures.err in
    record {
      ok = tt;
      bursts = tt;
      late = tt;
      err = λ memory _.
          let same = ap (λ (u : Unexplained). u.cause) c.refusal-in-Err-run.ensures in
          let all = refused_here given program c.args.most now.steps x next cause now.invariant.follows now.invariant.grows now.invariant.keeps.tracer
          c.in-Ok.ensures other c.loop-steps-test.true halts (λ e. memory (same ∙ e)) in
          rw (c.refusal-in-Err-run.ensures, c.in-Err-run.ensures.same) all;
      long = grind (arith, halts_short);
    }

pub returns-clause-err : goal.returns-clause-err
returns-clause-err c = λ _ _.
    let given = c.args.given in
    let now = c.loop-steps in
    let program = c.args.program.now in
    let all : now.steps ≡ c.args.most = omega (arith, now.invariant.few, c.loop-steps-test.false) in
    subst (λ (u : Unexplained). RefusesFrom given program c.args.most u) (sym c.refusal-2.ensures) (λ start may.
    let x = over_in now.tracer.known start now.tracer in
    let follows = subst (λ (n : ℕ). Follows start program n x) all (now.invariant.follows start may) in
    refuses start program c.args.most c.args.most x NoEnd 0 _ follows (inr (refl, refl)) refl refl)

pub returns-clause-long : goal.returns-clause-long
returns-clause-long c =
    let is : c.refusal-2.result.cause ≡ NoEnd = ap (λ (u : Unexplained). u.cause) c.refusal-2.ensures in
    (λ long. absurd (let bad : NoEnd ≡ TooLong = sym is ∙ long in cc), λ far. absurd (omega (arith, far, c.if-program-gt-MAX_PROGRAM_BYTES.false)))

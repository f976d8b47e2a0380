use Rattle.std.proofs.Common.{◌≡◌, IsSome, refl, sym, ap, subst, ◌∙◌, arith}
use Rattle.dma_text.proofs.Begun.{begins_appended, begins_more, begins_same}
use Rattle.dma_mem.specs.Regions.{image_of, pieces_of}
use Rattle.dma_chan.specs.{Channel.ChannelValue, LentRegions.with_gaps_of}
use Rattle.dma_explain.proofs.InOrder.{in_order_kept}
use Rattle.dma_trace.specs.{Traced.opening, Wave.executing}
use Rattle.dma_trace.proofs.Running.{begins, ends, goes_on, point_there, program_there, stops, took}
use Rattle.dma_trace.proofs.{Steps.on_ok, Waves.wave_begins, Waves.wave_on}
use Rattle.dma_trace.proofs.trace.run.Goals as goal

pub of-at-requires : goal.of-at-requires
of-at-requires g c = subst IsSome (sym (ap (λ (d : ChannelValue). d.program) c.requires.loaded)) refl

pub loop-steps-init : goal.loop-steps-init
loop-steps-init g c =
    let first = c.args.regions.now in
    let o = c.args.options.now in
    let marks = with_gaps_of first c.args.marks.now in
    let point = c.of-at.result in
    let w = begins o marks c.args.program.now first c.args.channel.now c.from_bits-events.result point c.args.out.now.items c.requires.loaded
    c.from_bits-events.ensures c.of-at.ensures in
    record {
      goes = w;
      wave = wave_begins o marks (opening o c.args.program.now (image_of (pieces_of first))) (executing point) c.args.wave.now.items c.push_first.new.wave.items
          (ap executing (point_there w)) c.in_ok-push_first.ensures.ok;
      err = refl;
    }

pub step-turn-requires : goal.step-turn-requires
step-turn-requires g c = grind (arith, subst, sym, refl, arith, in_order_kept)

pub of-next-requires : goal.of-next-requires
of-next-requires g c = grind (arith, took, refl, subst, sym, program_there)

pub loop-steps-preserved : goal.loop-steps-preserved
loop-steps-preserved g c =
    let first = c.args.regions.now in
    let o = c.args.options.now in
    let now = c.loop-steps in
    let w = now.invariant.goes in
    let turn = c.step-turn.ensures in
    let t = took w c.args.marks.now c.step-turn.new.regions refl turn.turn turn.after in
    let next = goes_on w t c.in-Moved.is
    (record {
      places = turn.places;
      read_only = turn.read_only;
      order = in_order_kept first c.step-turn.new.regions (turn.places ∙ w.places) c.requires.order;
      next_is = c.of-next.ensures;
      text = c.in_ok-push_step.ensures.ok;
    }) in
    record {
      goes = next;
      wave = wave_on o (with_gaps_of first c.args.marks.now) (opening o c.args.program.now (image_of (pieces_of first))) now.steps _ _ c.args.wave.now.items
          now.wave.items c.push_next.new.wave.items now.invariant.wave (ap executing (point_there w)) (ap executing (point_there next))
          c.in_ok-push_next.ensures.ok;
      err = now.invariant.err;
    }

pub returns-in_default : goal.returns-in_default
returns-in_default g c =
    let now = c.loop-steps in
    let w = now.invariant.goes in
    let t = took w c.args.marks.now c.step-turn.new.regions refl c.step-turn.ensures.turn c.step-turn.ensures.after in
    let done = c.finish.ensures in
    record {
      ok = on_ok c.finish.result _ _ _
          (λ good e waved. stops w t c.loop-steps-test.true c.in_default.not-Moved c.stored-stored.ensures
          (record { now = _; mid_wave = _; clean = now.invariant.err; ends = e; waves = now.invariant.wave; waved = waved })) done.ok done.wave;
      places = c.step-turn.ensures.places ∙ w.places;
      begins = begins_more _ _ _ (begins_appended _ _ _ w.text) done.begins;
      begins_err = begins_more _ _ _ (begins_same _ _ now.invariant.err) done.begins_err;
      begins_wave = begins_more _ _ _ (begins_appended _ _ _ now.invariant.wave.text) done.begins_wave;
    }

pub returns-clause-ok : goal.returns-clause-ok
returns-clause-ok g c =
    let now = c.loop-steps in
    let limit : now.steps ≡ c.args.options.now.limit = omega (arith, c.loop-steps-test.false, now.auto.steps-end) in
    let done = c.finish-2.ensures in
    on_ok c.finish-2.result _ _ _ (λ good e waved. ends now.invariant.goes limit c.stored-stored-2.ensures
    (record { now = _; mid_wave = _; clean = now.invariant.err; ends = e; waves = now.invariant.wave; waved = waved })) done.ok done.wave

pub returns-in_err-push_step-clause-begins : goal.returns-in_err-push_step-clause-begins
returns-in_err-push_step-clause-begins g c = begins_more _ _ _ (begins_appended _ _ _ c.loop-steps.invariant.goes.text) c.push_step.ensures.begins

pub returns-in_err-push_step-clause-begins_err : goal.returns-in_err-push_step-clause-begins_err
returns-in_err-push_step-clause-begins_err g c = begins_same _ _ c.loop-steps.invariant.err

pub returns-in_err-push_step-clause-begins_wave : goal.returns-in_err-push_step-clause-begins_wave
returns-in_err-push_step-clause-begins_wave g c = begins_appended _ _ _ c.loop-steps.invariant.wave.text

pub returns-in_err-push_next-clause-begins : goal.returns-in_err-push_next-clause-begins
returns-in_err-push_next-clause-begins g c = begins_more _ _ _ (begins_appended _ _ _ c.loop-steps.invariant.goes.text) c.push_step.ensures.begins

pub returns-in_err-push_next-clause-begins_err : goal.returns-in_err-push_next-clause-begins_err
returns-in_err-push_next-clause-begins_err g c = begins_same _ _ c.loop-steps.invariant.err

pub returns-in_err-push_next-clause-begins_wave : goal.returns-in_err-push_next-clause-begins_wave
returns-in_err-push_next-clause-begins_wave g c = begins_more _ _ _ (begins_appended _ _ _ c.loop-steps.invariant.wave.text) c.push_next.ensures.begins

pub returns-clause-begins : goal.returns-clause-begins
returns-clause-begins g c = begins_more _ _ _ (begins_appended _ _ _ c.loop-steps.invariant.goes.text) c.finish-2.ensures.begins

pub returns-clause-begins_err : goal.returns-clause-begins_err
returns-clause-begins_err g c = begins_more _ _ _ (begins_same _ _ c.loop-steps.invariant.err) c.finish-2.ensures.begins_err

pub returns-clause-begins_wave : goal.returns-clause-begins_wave
returns-clause-begins_wave g c = begins_more _ _ _ (begins_appended _ _ _ c.loop-steps.invariant.wave.text) c.finish-2.ensures.begins_wave

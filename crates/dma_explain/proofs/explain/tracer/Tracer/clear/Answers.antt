use Rattle.std.proofs.Common.{ℕ, ◌+◌, ap, refl, sym, ◌∙◌}
use Rattle.std.proofs.lemmas.Bool.{not-false}
use Rattle.dma_explain.specs.Items.{join_run, with_item}
use Rattle.dma_explain.proofs.TracerBursts.{at_ok, clear_advances, cleared_registers, passes_span, span_run}
use Rattle.dma_explain.proofs.explain.tracer.Tracer.clear.Goals as goal

pub returns-clause-ok : goal.returns-clause-ok
returns-clause-ok c =
    let x = c.args.self.now in
    let b = c.destination_burst-burst.result in
    let is = c.destination_burst-burst.ensures.value in
    let up = not-false b.increments c.if-not-burst.false in
    let span = c.span-2.result in
    let low = sym (passes_span b c.span.result c.span.ensures.addr c.span.ensures.len) ∙ sym c.if-wraps.ensures in
    let cleared = at_ok c.push_run.result _ c.if-is_err.ensures.value c.push_run.ensures
    ∙ ap (with_item join_run x.zeros.items) (span_run b span c.span-2.ensures.addr c.span-2.ensures.len) in
    record {
      known = c.in_ok-need_burst.ensures.ok;
      after = refl;
      advances =
          clear_advances x b c.requires.tracer c.destination_burst-burst.ensures.some.some is up low _ _ _
          (cleared_registers x.registers b c.len-len.result is up c.len-len.ensures.value)
          (ap (λ (n : ℕ). record x.done { cleared = x.done.cleared + n }) (c.from.ensures ∙ c.len-len.ensures.value)) cleared;
    }

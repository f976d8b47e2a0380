use Rattle.std.proofs.Common.{ap, refl, sym, ◌∙◌, arith}
use Rattle.dma_explain.specs.Items.{join_read, with_item}
use Rattle.dma_explain.proofs.TracerBursts.{at_ok, load_advances, loaded_registers, passes_span}
use Rattle.dma_explain.proofs.explain.tracer.Tracer.load.Goals as goal

pub returns-clause-ok : goal.returns-clause-ok
returns-clause-ok c =
    let x = c.args.self.now in
    let b = c.source_burst-burst.result in
    let is = c.source_burst-burst.ensures.value in
    let low = sym (passes_span b c.span.result c.span.ensures.addr c.span.ensures.len) ∙ sym c.if-wraps.ensures in
    let read = at_ok c.push_read.result _ c.if-is_err.ensures.value c.push_read.ensures ∙ ap (with_item join_read x.src.items) c.read_of.ensures in
    record {
      known = c.in_ok-need_burst.ensures.ok;
      after = refl;
      advances =
          load_advances x b c.requires.tracer c.source_burst-burst.ensures.some.some _ _ _ is
          (loaded_registers x.registers b c.advance.result is c.advance.ensures.value)
          (omega (arith, c.len.ensures.value)) (omega (arith, c.if-held-gt-BUFFER_SIZE.false)) low read;
    }

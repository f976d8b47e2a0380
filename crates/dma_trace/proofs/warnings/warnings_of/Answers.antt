use Rattle.std.proofs.Common.{◌∙◌, ◌++◌, Option, ap, sym, refl, arith}
use Rattle.dma_insn.specs.declared.insn.Counter.{Counter}
use Rattle.dma_trace.specs.{declared.warnings.Doubt.Doubt, Warnings.warning_at}
use Rattle.dma_trace.proofs.Warned.{warned_step}
use Rattle.dma_trace.proofs.warnings.warnings_of.Goals as goal

pub loop-rest-preserved : goal.loop-rest-preserved
loop-rest-preserved c =
    let within = c.in-Ok.ensures.within in
    let found = c.loop-rest.found.items in
    let pc = c.loop-rest.pc in
    let more = c.in_ok-add_doubt.ensures ∙ ap (λ (d : Option (Counter × Doubt)). found ++ warning_at pc d) c.doubt.ensures in
    record {
      counted = omega arith;
      lc0 = omega (arith, within.0, c.add.ensures.lc0);
      lc1 = omega (arith, within.0, c.add.ensures.lc1);
      all =
          warned_step c.loop-rest.nest c.add.new.self pc _ c.in-Ok.count c.loop-rest.rest.now _ c.in-Ok.insn found _ (sym c.in-Ok.ensures.exact) within.0
          within.1
          (sym c.if-ends_text.ensures) c.add.ensures.nest refl c.split_at.ensures.back more
          ∙ c.loop-rest.invariant.all;
    }

use Rattle.std.proofs.Common.{[], None, refl}
use Rattle.dma_insn.specs.declared.chip.ChipInsn.TheVariants.{Lp}
use Rattle.dma_explain.proofs.{Knowing.halts_if, Knowing.takes_if, TracerSteps.on_err, TracerSteps.on_ok}
use Rattle.dma_explain.proofs.explain.tracer.Tracer.begin.Goals as goal

pub returns-clause-ok : goal.returns-clause-ok
returns-clause-ok c =
    let i = Lp c.args.counter c.args.times in
    let x = c.args.self.now in
    takes_if i x _ c.done.result refl c.add_counter.ensures
    (on_ok i x c.begin_loop.new.registers c.begin_loop.result tt c.requires.tracer (c.begin_loop.ensures.exact [] [] [] []) c.add_counter.new.self x.late refl
    c.done.result refl c.done.ensures.ok)

pub returns-clause-err : goal.returns-clause-err
returns-clause-err c =
    let i = Lp c.args.counter c.args.times in
    let x = c.args.self.now in
    halts_if i x c.done.result refl
    (on_err i x c.begin_loop.new.registers c.begin_loop.result tt c.requires.tracer (c.begin_loop.ensures.exact [] [] [] []) c.add_counter.new.self x.late refl
    c.done.result c.done.ensures.err)

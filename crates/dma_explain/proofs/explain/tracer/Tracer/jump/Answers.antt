use Rattle.std.proofs.Common.{◌≡◌, ◌∷◌, [], None, refl, subst}
use Rattle.dma_insn.specs.declared.chip.ChipInsn.TheVariants.{LpEnd}
use Rattle.dma_explain.specs.{declared.explain.known.Register.Register, inner.Knowing.first_unknown, inner.Knowing.lacks}
use Rattle.dma_explain.proofs.{Knowing.halts_if, Knowing.takes_if, TracerSteps.on_err, TracerSteps.on_ok}
use Rattle.dma_explain.proofs.explain.tracer.Tracer.jump.Goals as goal

pub returns-clause-ok : goal.returns-clause-ok
returns-clause-ok c =
    let i = LpEnd c.args.counter c.args.back in
    let x = c.args.self.now in
    let none : lacks i x ≡ None = subst (λ (r : Register). first_unknown x.known (r ∷ []) ≡ None) c.register_of.ensures c.in_ok-need.ensures.ok in
    takes_if i x _ c.done.result none refl
    (on_ok i x c.end_loop.new.registers c.end_loop.result tt c.requires.tracer (c.end_loop.ensures.exact [] [] [] []) x.known x.late refl c.done.result refl
    c.done.ensures.ok)

pub returns-clause-err : goal.returns-clause-err
returns-clause-err c =
    let i = LpEnd c.args.counter c.args.back in
    let x = c.args.self.now in
    let none : lacks i x ≡ None = subst (λ (r : Register). first_unknown x.known (r ∷ []) ≡ None) c.register_of.ensures c.in_ok-need.ensures.ok in
    halts_if i x c.done.result none
    (on_err i x c.end_loop.new.registers c.end_loop.result tt c.requires.tracer (c.end_loop.ensures.exact [] [] [] []) x.known x.late refl c.done.result
    c.done.ensures.err)

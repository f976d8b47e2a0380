use Rattle.std.proofs.Common.{◌≡◌, ◌∙◌, ℕ, Bool, None, ap, refl, subst, sym}
use Rattle.dma_insn.specs.declared.chip.ChipInsn.TheVariants.{Mov}
use Rattle.dma_explain.specs.{Late.sets_dar, Late.late_with, Uses.used_by_mov, inner.Knowing.Takes, inner.Knowing.first_unknown, inner.Knowing.lacks}
use Rattle.dma_explain.proofs.{Knowing.halts, TracerSteps.fails, TracerSteps.keeping_alone, TracerSteps.keeps, TracerSteps.loses}
use Rattle.dma_explain.proofs.explain.tracer.Tracer.set.Goals as goal

pub returns-in-Fault-clause-err : goal.returns-in-Fault-clause-err
returns-in-Fault-clause-err c =
    let i = Mov c.args.reg c.args.value in
    let x = c.args.self.now in
    let sets = keeping_alone i x.registers c.set_register.new.registers c.set_register.result c.set_register.ensures.exact in
    let none : lacks i x ≡ None = subst (λ (b : Bool). first_unknown x.known (used_by_mov c.args.reg b) ≡ None) c.compares-compared.ensures c.in_ok-need_old.ensures.ok in
    halts i x _ none (λ _. fails i x c.set_register.new.registers c.set_register.result tt c.requires.tracer sets x.known _ refl c.in-Fault.kind c.in-Fault.is)

pub returns-in_default-clause-err : goal.returns-in_default-clause-err
returns-in_default-clause-err c =
    let i = Mov c.args.reg c.args.value in
    let x = c.args.self.now in
    let sets = keeping_alone i x.registers c.set_register.new.registers c.set_register.result c.set_register.ensures.exact in
    let none : lacks i x ≡ None = subst (λ (b : Bool). first_unknown x.known (used_by_mov c.args.reg b) ≡ None) c.compares-compared.ensures c.in_ok-need_old.ensures.ok in
    halts i x _ none
    (λ _. loses i x c.set_register.new.registers c.set_register.result tt c.requires.tracer sets x.known _ refl refl c.in_default.not-Fault (sym c.if-drops.ensures))

pub returns-in_default-2-clause-ok : goal.returns-in_default-2-clause-ok
returns-in_default-2-clause-ok c =
    let i = Mov c.args.reg c.args.value in
    let x = c.args.self.now in
    let after = c.set_register.new.registers in
    let sets = keeping_alone i x.registers after c.set_register.result c.set_register.ensures.exact in
    let known = c.add.new.self in
    let late = late_with c.sets_dar.result x.held x.registers.pc x.late in
    let same =
    ap (λ (b : Bool). late_with b x.held x.registers.pc x.late) c.sets_dar.ensures
    ∙ ap (λ (n : ℕ). late_with (sets_dar c.args.reg) n x.registers.pc x.late) c.requires.tracer.held in
    subst (Takes i x) (sym c.note_move.ensures) (record {
      known = subst (λ (b : Bool). first_unknown x.known (used_by_mov c.args.reg b) ≡ None) c.compares-compared.ensures c.in_ok-need_old.ensures.ok;
      after = c.add.ensures;
      advances = keeps i x after c.set_register.result tt c.requires.tracer sets known late same refl c.in_default.not-Fault (sym c.if-drops.ensures);
    })

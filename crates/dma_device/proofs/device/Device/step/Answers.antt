use Rattle.std.proofs.Common.{◌≡◌, ◌≢◌, ◌∙◌, ℕ, ◌+◌, Bool, [], refl, sym, arith}
use Rattle.std.specs.Prelude.{◌==◌, not}
use Rattle.std.proofs.lemmas.Bool.{eq-eqb, ne_eqb}
use Rattle.dma_insn.specs.ControlWord.{flag}
use Rattle.dma_explain.proofs.InOrder.{in_order_kept, marks_kept}
use Rattle.dma_device.specs.{Device.DeviceValue, Device.irq_abort, Device.irqs, Turns.TakesTurn, Turns.lines_differ}
use Rattle.dma_device.proofs.device.Device.step.Goals.{After-from-2}
use mathlib.Core.Bool.{beq}
use Rattle.dma_device.proofs.device.Device.step.Goals as goal

pub call_if-second-requires-clause-order : goal.call_if-second-requires-clause-order
call_if-second-requires-clause-order c = in_order_kept c.args.regions.now c.call_if-first.new.regions c.call_if-first.ensures.kept.places c.requires

-- whether the lines differ, by the first of them that does
other_lines : (d e : DeviceValue) (a b : ℕ) → a ≡ irqs d → b ≡ irqs e → a ≢ b → not (a == b) ≡ lines_differ d e
other_lines d e a b p q ne = rw (ne_eqb a b ne, ne_eqb (irqs d) (irqs e) (λ same. ne (p ∙ same ∙ sym q))) refl

by_flags : (x y : Bool) → beq x y ≡ (flag x == flag y)
by_flags x y = grind arith

same_lines : (d e : DeviceValue) (a b : ℕ) (x y : Bool) → a ≡ irqs d → b ≡ irqs e → a ≡ b → x ≡ irq_abort d → y ≡ irq_abort e → not (beq x y) ≡ lines_differ d e
same_lines d e a b x y p q same left right = rw (left, right, by_flags (irq_abort d) (irq_abort e), eq-eqb (irqs d) (irqs e) (sym p ∙ same ∙ q)) refl

-- a turn has the outcome of its two calls
turn_is : (c : After-from-2) (changed : Bool) → changed ≡ lines_differ c.args.self.now c.call_if-second.new.self
    → TakesTurn c.args.self.now c.args.regions.now c.args.n c.args.most c.call_if-second.new.self c.call_if-second.new.regions
    (record { written = c.call_if-first.result.written; lines_changed = changed; taken = c.from.result + c.from-2.result })
turn_is c changed lines =
    let one = c.call_if-first.ensures in
    let two = c.call_if-second.ensures in
    let marks = marks_kept c.args.regions.now c.call_if-first.new.regions [] one.kept.places one.kept.read_only in
    let first = rw (c.begins.ensures.value, c.from-n.ensures) at one.calls in
    let second = rw (c.follows.ensures.value, c.from-n.ensures, marks) at two.calls in
    let steps : c.from.result + c.from-2.result ≡ c.call_if-first.result.taken + c.call_if-second.result.taken =
    omega (arith, c.from.ensures, c.from-2.ensures) in
    record {
      is = simp (first, second, lines, steps);
      kept = record {
        places = two.kept.places ∙ one.kept.places;
        read_only = two.kept.read_only ∙ one.kept.read_only;
        names = two.kept.names ∙ one.kept.names;
      };
    }

pub returns-then-before-irqs-clause-turn : goal.returns-then-before-irqs-clause-turn
returns-then-before-irqs-clause-turn c =
    turn_is (goal.at.returns-then-before-irqs-clause-turn c).After-from-2 _
    (other_lines c.args.self.now c.call_if-second.new.self c.irqs.result c.irqs-2.result c.irqs.ensures c.irqs-2.ensures c.if-before-irqs.true)

pub returns-else-before-irqs-clause-turn : goal.returns-else-before-irqs-clause-turn
returns-else-before-irqs-clause-turn c =
    let before = c.irq_abort in
    let after = c.irq_abort-else-before-irqs in
    turn_is (goal.at.returns-else-before-irqs-clause-turn c).After-from-2 _
    (same_lines c.args.self.now c.call_if-second.new.self c.irqs.result c.irqs-2.result before.result after.result c.irqs.ensures c.irqs-2.ensures
    c.if-before-irqs.false before.ensures after.ensures)

use Rattle.std.proofs.Common.{◌≡◌, ◌∙◌, ◌++◌, ℕ, OnOk, Result, subst}
use Rattle.std.specs.Prelude.{codes}
use Rattle.dma_insn.specs.{declared.control.Control.Control, declared.control.ControlFault.ControlFault}
use Rattle.dma_trace.specs.Words.{bytes_text, control_words}
use Rattle.dma_trace.proofs.failures.push_control.Goals as goal

pub returns-in-Ok-clause-ok : goal.returns-in-Ok-clause-ok
returns-in-Ok-clause-ok c =
    let width : ℕ → Type 0 = λ n. OnOk c.push-in-Ok.result
    (c.push-in-Ok.new.out.items ≡ c.args.out.now.items ++ (codes "a beat is wider than the bus, which has " ++ bytes_text n)) in
    let fields : Result Control ControlFault → Type 0 =
    λ r. OnOk c.push-in-Ok.result (c.push-in-Ok.new.out.items ≡ c.args.out.now.items ++ control_words c.args.bus r) in
    subst fields c.in-Ok.ensures.exact (subst width (c.from.ensures ∙ c.widest_beat.ensures) c.push-in-Ok.ensures.ok)

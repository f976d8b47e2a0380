-- The rest of the forms have other bytes if all forms do: none so far has.
use Rattle.std.proofs.Common.{◌≡◌, drop}
use Rattle.dma_manual.specs.Pasted.{is_other_in}
use Rattle.dma_manual.proofs.doubts.is_other_in.Given as goal

abbrev pub invariant-loop-form : goal.invariant-loop-form
invariant-loop-form l = is_other_in (drop l.form-index l.forms) l.text l.bytes ≡ is_other_in l.forms l.text l.bytes

-- The fault so far and the rest of the forms give what all forms give.
use Rattle.std.proofs.Common.{◌≡◌, drop}
use Rattle.dma_manual.specs.Pasted.{fit, nowhere}
use Rattle.dma_manual.proofs.pasted.fit.Given as goal

abbrev pub invariant-loop-form : goal.invariant-loop-form
invariant-loop-form l = fit (drop l.form-index l.forms) l.furthest l.text ≡ fit l.forms nowhere l.text

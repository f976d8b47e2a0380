-- Whether the bytes so far are plain or line feeds.
use Rattle.std.proofs.Common.{◌≡◌, ◌||◌, eqb, take}
use Rattle.std.specs.List.{list_all}
use Rattle.dma_script.specs.Words.{is_plain}
use Rattle.dma_script.proofs.words.is_plain_text.Given as goal

abbrev pub invariant-loop-b : goal.invariant-loop-b
invariant-loop-b l = l.plain ≡ list_all (λ b. is_plain b || eqb b 10) (take l.b-index l.text)

use Rattle.std.proofs.Common.{inl, inr}
use Rattle.std.proofs.lemmas.Bool.{cases_Bool}
use Rattle.dma_mem.specs.Marking.{is_marked}
use Rattle.dma_mem.proofs.marks.Marks.unmarked.Goals as goal

pub returns-clause-none : goal.returns-clause-none
returns-clause-none c = λ a low high. elim (cases_Bool (is_marked c.args.kind c.args.self.now a)) [
  | inl marked ↦ absurd (c.clear_of_ordered.ensures.clear a low high ((c.ranges-2.ensures.same a).1 marked))
  | inr free ↦ free
]

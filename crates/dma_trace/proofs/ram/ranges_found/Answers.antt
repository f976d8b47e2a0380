use Rattle.std.proofs.Common.{◌∙◌, ◌+◌, ◌≤◌, List, ap, sym, subst}
use Rattle.std.specs.Prelude.{All}
use Rattle.std.proofs.lemmas.Result.{IfOk-weaker}
use Rattle.std.proofs.lemmas.List.Sorted.{All-permutation, list_any-IsPermutation}
use Rattle.dma_mem.specs.{declared.segment.Segment.Segment, Lent.lies_in_any, Marking.lies_in, Places.end_of_addresses}
use Rattle.dma_trace.specs.Found.{ranges_of}
use Rattle.dma_trace.proofs.ram.ranges_found.Goals as goal

pub merged-requires-clause-within : goal.merged-requires-clause-within
merged-requires-clause-within c =
    let ends : Segment → Type 0 = λ s. s.addr + s.len ≤ end_of_addresses in
    subst (All ends) (sym c.deref.ensures.value)
    (All-permutation ends (ranges_of c.args.found.now) c.in_ok-sorted.sorted.items c.in_ok-sorted.ensures.same c.requires)

pub returns-clause-places : goal.returns-clause-places
returns-clause-places c =
    IfOk-weaker c.merged.result _ _ (λ ranges same a. same a ∙ ap (λ (ws : List Segment). lies_in_any ws a) c.deref.ensures.value
    ∙ sym (list_any-IsPermutation (lies_in a) (ranges_of c.args.found.now) c.in_ok-sorted.sorted.items c.in_ok-sorted.ensures.same))
    c.merged.ensures.places

use Rattle.std.proofs.Common.{◌<◌, refl, subst, sym, ◌∙◌}
use Rattle.std.specs.List.Sorted.{IsPermutation}
use Rattle.std.proofs.lemmas.List.Sorted.{All-permutation}
use Rattle.dma_mem.specs.declared.segment.Segment.{Segment}
use Rattle.dma_mem.proofs.{NeighboursMeet.ordered_apart, NeighboursMeet.overlap_sorted, transfer.rules.overlap_of_many.Goals.After-sort_by_address}
use Rattle.dma_mem.proofs.transfer.rules.overlap_of_many.Goals as goal

sorted : (c : After-sort_by_address) → IsPermutation c.args.dst.now c.sort_by_address.new.segments
sorted c = subst (λ xs. IsPermutation xs c.sort_by_address.new.segments) c.copy_from_slice.ensures.after c.sort_by_address.ensures.same

pub neighbours_meet-requires-clause-filled : goal.neighbours_meet-requires-clause-filled
neighbours_meet-requires-clause-filled c =
    All-permutation (λ (s : Segment). 0 < s.len) c.args.dst.now _ (sorted (goal.at.neighbours_meet-requires-clause-filled c).After-sort_by_address)
    c.requires.filled

pub any_meets_ordered-requires : goal.any_meets_ordered-requires
any_meets_ordered-requires c =
    let filled = All-permutation (λ (s : Segment). 0 < s.len) c.args.dst.now _ (sorted (goal.at.any_meets_ordered-requires c).After-sort_by_address)
    c.requires.filled in
    ordered_apart c.sort_by_address.new.segments filled c.sort_by_address.ensures.rising (sym c.neighbours_meet.ensures ∙ c.if-neighbours_meet.false)

pub returns-then-neighbours_meet : goal.returns-then-neighbours_meet
returns-then-neighbours_meet c =
    sym (overlap_sorted c.args.src.now c.args.dst.now c.sort_by_address.new.segments _ _ (sorted (goal.at.returns-then-neighbours_meet c).After-sort_by_address)
    (sym c.if-neighbours_meet.true ∙ c.neighbours_meet.ensures) refl)

pub returns-then-any_meets_ordered : goal.returns-then-any_meets_ordered
returns-then-any_meets_ordered c =
    sym (overlap_sorted c.args.src.now c.args.dst.now c.sort_by_address.new.segments _ _
    (sorted (goal.at.returns-then-any_meets_ordered c).After-sort_by_address)
    (sym c.if-neighbours_meet.false ∙ c.neighbours_meet.ensures) (sym c.if-any_meets_ordered.true ∙ c.any_meets_ordered.ensures))

pub returns-else-any_meets_ordered : goal.returns-else-any_meets_ordered
returns-else-any_meets_ordered c =
    sym (overlap_sorted c.args.src.now c.args.dst.now c.sort_by_address.new.segments _ _
    (sorted (goal.at.returns-else-any_meets_ordered c).After-sort_by_address)
    (sym c.if-neighbours_meet.false ∙ c.neighbours_meet.ensures) (sym c.if-any_meets_ordered.false ∙ c.any_meets_ordered.ensures))

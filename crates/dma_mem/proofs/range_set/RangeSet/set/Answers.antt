use Rattle.std.proofs.Common.{◌+◌, ◌<◌, ◌≤◌, ◌++◌, List, length, take, drop, ap, sym, ◌∙◌, subst}
use Rattle.std.specs.List.Sorted.{IsPermutation}
use Rattle.std.proofs.{lemmas.List.take_at, lemmas.List.Sorted.All-permutation, lemmas.List.Sorted.length_permutation}
use Rattle.dma_mem.specs.declared.segment.Segment.{Segment}
use Rattle.dma_mem.proofs.{RangeSets.same_permuted, RangeSets.same_trans, range_set.RangeSet.set.Goals.After-sort_by_address}
use Rattle.dma_mem.proofs.range_set.RangeSet.set.Goals as goal

-- the list that is coalesced has the segments that were given
sorted : (c : After-sort_by_address)
    → IsPermutation c.args.segments.now
    (take c.extend_from_slice.new.self.len (c.sort_by_address.new.segments ++ drop (length c.sort_by_address.new.segments) c.extend_from_slice.new.self.items))
sorted c =
    let list = c.sort_by_address.new.segments in
    let whole = take_at list _ _ (length_permutation _ _ c.sort_by_address.ensures.same ∙ c.deref_mut.ensures.len) in
    let given = c.deref_mut.ensures.value ∙ c.in_ok-extend_from_slice.ensures.items
    ∙ ap (λ (xs : List Segment). xs ++ c.args.segments.now) c.clear.ensures.items in
    subst (λ xs. IsPermutation c.args.segments.now xs) (sym whole) (subst (λ xs. IsPermutation xs list) given c.sort_by_address.ensures.same)

pub coalesce-requires-clause-filled : goal.coalesce-requires-clause-filled
coalesce-requires-clause-filled c =
    All-permutation (λ (t : Segment). 0 < t.len) c.args.segments.now _ (sorted (goal.at.coalesce-requires-clause-filled c).After-sort_by_address)
    c.requires.filled

pub coalesce-requires-clause-within : goal.coalesce-requires-clause-within
coalesce-requires-clause-within c =
    All-permutation (λ (t : Segment). t.addr + t.len ≤ 4294967295) c.args.segments.now _
    (sorted (goal.at.coalesce-requires-clause-within c).After-sort_by_address) c.requires.within

pub returns-clause-same : goal.returns-clause-same
returns-clause-same c =
    same_trans c.coalesce.new.segments.items
    (take c.extend_from_slice.new.self.len
    (c.sort_by_address.new.segments ++ drop (length c.sort_by_address.new.segments) c.extend_from_slice.new.self.items)) c.args.segments.now
    c.coalesce.ensures.same (same_permuted c.args.segments.now _ (sorted (goal.at.returns-clause-same c).After-sort_by_address))

pub invariant_of-self-2 : goal.invariant_of-self-2
invariant_of-self-2 c = c.coalesce.ensures.coalesced

pub returns-clause-coalesced : goal.returns-clause-coalesced
returns-clause-coalesced c = c.coalesce.ensures.coalesced

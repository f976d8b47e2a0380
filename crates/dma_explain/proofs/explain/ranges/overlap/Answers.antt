use Rattle.std.proofs.Common.{◌≡◌, ℕ, ◌<◌, List, ◌++◌, All, ap, subst, sym, ◌∙◌}
use Rattle.std.proofs.{lemmas.Grind.flat_map-append, lemmas.List.Elements.All-append, lemmas.List.Sorted.All-permutation}
use Rattle.dma_mem.specs.{declared.segment.Segment.Segment, Places.places, Places.range_of, Refusals.some_meet, inner.RangesInOrder.IsOrdered}
use Rattle.dma_mem.proofs.NeighboursMeet.{ordered_apart}
use Rattle.dma_explain.specs.Explains.{IsLowest, IsShared, IsTwice, stop_of_lists, unrolled}
use Rattle.dma_explain.proofs.LowestPlaces.{shared_permuted, stores_source, stores_twice, stores_well, twice_permuted}
use Rattle.dma_explain.proofs.explain.ranges.overlap.Goals.{After-deref}
use Rattle.dma_explain.proofs.explain.ranges.overlap.Goals as goal

-- the addresses of the ranges of both lists
both : (dst zeros : List Segment) → places (dst ++ zeros) ≡ places dst ++ places zeros
both dst zeros = flat_map-append range_of dst zeros

filled : (c : After-deref) → All (λ s. 0 < s.len) c.in-Ok.ranges.items
filled c =
    let dst = c.args.dst.now in
    let zeros = c.args.zeros.now in
    All-permutation (λ (s : Segment). 0 < s.len) (dst ++ zeros) c.in-Ok.ranges.items c.in-Ok.ensures.same
    (All-append (λ (s : Segment). 0 < s.len) dst zeros (λ k d l. (c.requires.runs k d l).0) (λ k d l. (c.requires.zeros k d l).0))

pub lowest_twice-requires-clause-filled : goal.lowest_twice-requires-clause-filled
lowest_twice-requires-clause-filled c =
    subst (λ (xs : List Segment). All (λ s. 0 < s.len) xs) (sym c.deref.ensures.value) (filled (goal.at.lowest_twice-requires-clause-filled c).After-deref)

pub returns-in-Some-clause-err : goal.returns-in-Some-clause-err
returns-in-Some-clause-err c = λ _.
    let dst = c.args.dst.now in
    let zeros = c.args.zeros.now in
    ap (stop_of_lists (places (unrolled c.args.src.now))) (sym (both dst zeros))
    ∙ stores_twice c.args.src.now (dst ++ zeros) c.in-Ok.ranges.items c.requires.items c.in-Ok.ensures.same
    (ap some_meet (sym c.deref.ensures.value) ∙ sym c.in-Some.ensures.meets)

pub returns-in-Some-clause-addr : goal.returns-in-Some-clause-addr
returns-in-Some-clause-addr c =
    let dst = c.args.dst.now in
    let zeros = c.args.zeros.now in
    subst (λ (xs : List ℕ). IsLowest (IsTwice xs) c.in-Some.addr) (both dst zeros)
    (twice_permuted (dst ++ zeros) c.in-Ok.ranges.items c.in-Some.addr c.in-Ok.ensures.same
    (subst (λ (xs : List Segment). IsLowest (IsTwice (places xs)) c.in-Some.addr) c.deref.ensures.value c.in-Some.ensures.lowest))

pub any_reads-requires : goal.any_reads-requires
any_reads-requires c =
    subst IsOrdered (sym c.deref-2.ensures.value)
    (ordered_apart c.in-Ok.ranges.items (filled (goal.at.any_reads-requires c).After-deref) c.in-Ok.ensures.rising
    (ap some_meet (sym c.deref.ensures.value) ∙ sym c.in_default-lowest_twice.ensures.meets))

pub returns-then-any_reads-clause-err : goal.returns-then-any_reads-clause-err
returns-then-any_reads-clause-err c = λ _.
    let dst = c.args.dst.now in
    let zeros = c.args.zeros.now in
    ap (stop_of_lists (places (unrolled c.args.src.now))) (sym (both dst zeros))
    ∙ stores_source c.args.src.now (dst ++ zeros) c.in-Ok.ranges.items c.requires.items c.in-Ok.ensures.same
    (ap some_meet (sym c.deref.ensures.value) ∙ sym c.in_default-lowest_twice.ensures.meets) (rw (← c.deref-2.ensures.value) (sym c.if-any_reads.ensures))

pub lowest_read-requires-clause-ranges : goal.lowest_read-requires-clause-ranges
lowest_read-requires-clause-ranges c =
    subst IsOrdered (sym c.deref-then-any_reads.ensures.value)
    (ordered_apart c.in-Ok.ranges.items (filled (goal.at.lowest_read-requires-clause-ranges c).After-deref) c.in-Ok.ensures.rising
    (ap some_meet (sym c.deref.ensures.value) ∙ sym c.in_default-lowest_twice.ensures.meets))

pub lowest_read-requires-clause-some : goal.lowest_read-requires-clause-some
lowest_read-requires-clause-some c = rw c.deref-then-any_reads.ensures.value (rw (← c.deref-2.ensures.value) (sym c.if-any_reads.ensures))

pub returns-then-any_reads-clause-addr : goal.returns-then-any_reads-clause-addr
returns-then-any_reads-clause-addr c =
    let loads = places (unrolled c.args.src.now) in
    let dst = c.args.dst.now in
    let zeros = c.args.zeros.now in
    let lowest = c.lowest_read.result in
    subst (λ (xs : List ℕ). IsLowest (IsShared loads xs) lowest) (both dst zeros)
    (shared_permuted loads (dst ++ zeros) c.in-Ok.ranges.items lowest c.in-Ok.ensures.same
    (subst (λ (xs : List Segment). IsLowest (IsShared loads (places xs)) lowest) c.deref-then-any_reads.ensures.value c.lowest_read.ensures))

pub returns-clause-ok : goal.returns-clause-ok
returns-clause-ok c =
    let dst = c.args.dst.now in
    let zeros = c.args.zeros.now in
    ap (stop_of_lists (places (unrolled c.args.src.now))) (sym (both dst zeros))
    ∙ stores_well c.args.src.now (dst ++ zeros) c.in-Ok.ranges.items c.requires.items c.in-Ok.ensures.same
    (ap some_meet (sym c.deref.ensures.value) ∙ sym c.in_default-lowest_twice.ensures.meets) (rw (← c.deref-2.ensures.value) (sym c.if-any_reads.ensures))

-- The ranges of what runs, and which running transfers conflict by them.
use Rattle.std.proofs.Common.{◌≡◌, ℕ, ◌≤◌, Option, Some, None, Bool, true, false, ◌||◌, not, ap, sym, ◌∙◌, arith, List}
use Rattle.std.proofs.{lemmas.Bool.and_parts, lemmas.Bool.le-leb, lemmas.List.Sums.list_all-from_AllPass, Math.Bool.or_assoc}
use Rattle.dma_mem.specs.declared.segment.Segment.{Segment}
use Rattle.dma_mem.specs.Places.{Descriptor, all_below, destinations, is_free_of, lies_below, places, range_of, share, sources, touches, writes}
use Rattle.dma_mem.proofs.{SharedPlaces.ends_below, RangeSets.is_free_of_ranges, RangeSets.touches_ranges, RangeSets.writes_ranges}
use Rattle.dma_engine.specs.{declared.access.Ranges.Ranges, inner.Ranges.AreOfRunning, inner.Ranges.HasRangesOf, View.RunningTransfer}

-- ---- below a higher address

all_below_more : (list : List Segment) (n m : ℕ) → n ≤ m → all_below list n ≡ true → all_below list m ≡ true
all_below_more list n m l h = grind (arith, list_all-from_AllPass, le-leb, ends_below)

pub below_more_law : (t : Descriptor) (n m : ℕ) → n ≤ m → lies_below t n ≡ true → lies_below t m ≡ true
below_more_law t n m l h = grind (arith, and_parts, all_below_more)

-- ---- what conflicts

pub or_first : (a x y : Bool) → a ≡ x → a ≡ true → a ≡ (x || y)
or_first a x y is h = h ∙ ap (λ b. b || y) (sym h ∙ is)

pub or_second : (a b x y : Bool) → a ≡ x → a ≡ false → b ≡ y → b ≡ (x || y)
or_second a b x y is h next = next ∙ ap (λ c. c || y) (sym h ∙ is)

pub write_way : (r : Ranges) (t : Descriptor) (range : Segment) (b : Bool) → HasRangesOf r t
    → b ≡ (share (range_of range) (places r.destinations) || share (range_of range) (places r.sources)) → b ≡ touches t range
write_way r t range b h is = is ∙ touches_ranges t range r.sources r.destinations h.sources h.destinations

pub read_way : (r : Ranges) (t : Descriptor) (range : Segment) (b : Bool) → HasRangesOf r t → b ≡ share (range_of range) (places r.destinations)
    → b ≡ writes t range
read_way r t range b h is = is ∙ writes_ranges t range r.destinations h.destinations

not_not : (b : Bool) → not (not b) ≡ b
not_not b = grind (arith)

pub start_way : (r : Ranges) (t other : Descriptor) (b : Bool) → HasRangesOf r t
    → b ≡ ((share (destinations other) (places r.destinations) || share (destinations other) (places r.sources)) || share (sources other)
    (places r.destinations)) → b ≡ not (is_free_of other t)
start_way r t other b h is =
    let one = share (destinations other) (places r.destinations) in
    let two = share (destinations other) (places r.sources) in
    let three = share (sources other) (places r.destinations) in
    is ∙ or_assoc one two three ∙ sym (not_not (one || (two || three)))
    ∙ ap not (is_free_of_ranges other t r.sources r.destinations h.sources h.destinations)

-- ---- ranges that are kept

-- what runs if ranges are kept
pub record Kept (r : Ranges) (x : Option RunningTransfer) : Type 0 where
  pub it : RunningTransfer
  pub is : x ≡ Some it
  pub ranges : HasRangesOf r it.transfer

pub kept_ranges : (r : Ranges) (x : Option RunningTransfer) → AreOfRunning (Some r) x → Kept r x
kept_ranges r x h = grind (arith)

-- nothing runs if none are kept
pub no_ranges : (x : Option RunningTransfer) → AreOfRunning None x → x ≡ None
no_ranges x h = grind (arith)

-- they stay while the transfer does
pub ranges_stay : (r : Option Ranges) (x y : RunningTransfer) → x.transfer ≡ y.transfer → AreOfRunning r (Some x) → AreOfRunning r (Some y)
ranges_stay r x y h h2 = grind (arith)

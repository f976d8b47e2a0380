-- The refusals of two lists of segments and two events, in their order: one for each rule of a transfer.
use Rattle.std.specs.Prelude.{◌+◌, ℕ, List, [], ◌∷◌, length, Option, Some, None, Bool, false, ◌||◌, ◌&&◌, not, ◌==◌, nat_lt, if◌then◌else◌, sum_by}
use Rattle.std.specs.List.{list_any}
use Rattle.dma_mem.specs.declared.transfer.TransferFault.TheVariants.{EmptyList, TooManySegments, EmptySegment, SegmentWraps, TotalsDiffer, TooLong}
use Rattle.dma_mem.specs.declared.transfer.TransferFault.TheVariants.{DestinationsMeet, SourceMeetsDestination, BadEvent}
use Rattle.dma_mem.specs.{declared.segment.Segment.Segment, declared.transfer.TransferFault.TransferFault, Limits.last_event, Limits.most_segments}
use Rattle.dma_mem.specs.{Limits.most_transfer_bytes, Places.Descriptor, Places.end_of_addresses, Meeting.meets}

-- whether a test holds of the sources or of the destinations
abbrev pub of_either_list : (List Segment → Bool) → Descriptor → Bool
of_either_list test t = test t.src || test t.dst

-- whether the list has no segment
abbrev pub is_empty_list : List Segment → Bool
is_empty_list list = length list == 0

-- whether the list has more than 64 segments
abbrev pub has_too_many : List Segment → Bool
has_too_many list = nat_lt most_segments (length list)

-- whether a segment of the list has no byte
abbrev pub has_empty_segment : List Segment → Bool
has_empty_segment list = list_any (λ s. s.len == 0) list

-- whether a segment of the list ends above 2^32
abbrev pub has_wrapping_segment : List Segment → Bool
has_wrapping_segment list = list_any (λ s. nat_lt end_of_addresses (s.addr + s.len)) list

-- how many bytes a list has: the sum of its segments' lengths
abbrev pub total : List Segment → ℕ
total list = sum_by (λ s. s.len) list

-- whether two segments of the list meet
abbrev pub some_meet : List Segment → Bool
some_meet [] = false
some_meet (s ∷ later) = list_any (meets s) later || some_meet later

-- whether a segment of the first list meets one of the second
abbrev pub meets_any : List Segment → List Segment → Bool
meets_any list others = list_any (λ s. list_any (meets s) others) list

-- whether the event is above the last one
abbrev pub is_bad_event : Option ℕ → Bool
is_bad_event None = false
is_bad_event (Some event) = nat_lt last_event event

-- this refusal if its test holds, otherwise the one that the others give
abbrev pub cause : Bool → TransferFault → Option TransferFault → Option TransferFault
cause holds fault others = if holds then Some fault else others

-- how two lists overlap, if they do: two destinations meet; or else a source meets a destination
abbrev pub overlap_of : List Segment → List Segment → Option TransferFault
overlap_of src dst = cause (some_meet dst) DestinationsMeet (cause (meets_any src dst) SourceMeetsDestination None)

-- the first refusal that applies, if one does: each is tested over both lists before the next; the lists of a fill may
-- differ in their number of bytes
abbrev pub refusal_of : Descriptor → Option TransferFault
refusal_of t =
    cause (of_either_list is_empty_list t) EmptyList (
    cause (of_either_list has_too_many t) TooManySegments (
    cause (of_either_list has_empty_segment t) EmptySegment (
    cause (of_either_list has_wrapping_segment t) SegmentWraps (
    cause (not t.fill && not (total t.src == total t.dst)) TotalsDiffer (
    cause (nat_lt most_transfer_bytes (total t.dst)) TooLong (
    cause (some_meet t.dst) DestinationsMeet (
    cause (meets_any t.src t.dst) SourceMeetsDestination (
    cause (is_bad_event t.wait || is_bad_event t.signal) BadEvent None))))))))

-- Rows computed from the definitions: the limits, as numbers, and the code's own constants; fills; sets of addresses;
-- pages.
use Rattle.std.proofs.Common.{◌≡◌, ℕ, ◌+◌, ◌*◌, ◌/◌, ◌<◌, ◌≤◌, List, [], ◌∷◌, Option, Some, None, Bool, true, false, length, map, get_or, inl, inr, refl, sym}
use Rattle.std.proofs.Common.{ap, subst, ◌∙◌, arith}
use Rattle.std.specs.{Prelude.nat_eq, List.Contains, List.list_all, List.list_any, List.range_with_len}
use Rattle.dma_mem.specs.declared.transfer.TransferFault.TheVariants.{TooManySegments, SegmentWraps, TooLong, SourceMeetsDestination, BadEvent}
use Rattle.dma_mem.specs.Pages.{Paged, AllMade, Keeps, MakesNoOther, has_page, is_made}
use Rattle.dma_mem.specs.Places.{Descriptor, filling, moves, places, range_of, share, sources}
use Rattle.dma_mem.specs.{declared.segment.Segment.Segment, Ranges.IsCoalesced, Ranges.SameAddresses, Flags.all_clear, Image.is_size, Refusals.refusal_of}
use Rattle.dma_mem.specs.{Rules.IsTransfer, Rules.IsSegmentList}
use Rattle.dma_mem.proofs.TransferRules.{copy_from_no_refusal, length_places, meets_any_places, once_places}
use Rattle.dma_mem.proofs.PageImages.{is_made_from, is_made_parts, segment_made, segment_not_made}
use Rattle.dma_mem.proofs.RangeSets.{coalesced_same, same_trans, spread_from}
use Rattle.dma_mem.proofs.SharedPlaces.{in_range, range_in, share_false, share_none}
use Rattle.std.proofs.lemmas.Bool.{cases_lt, eqb-true, false_from_ne_true, true≢false}
use Rattle.std.proofs.lemmas.List.FromFn.{length-range_with_len, get_or-range_with_len}
use Rattle.std.proofs.{lemmas.List.Sums.AllPass-from_list_all, lemmas.Map.Views.Contains-from_any}
use Rattle.dma_mem.specs.declared.limits.TheConstants as code
use Rattle.dma_mem.specs.Limits as limits

-- ---- the code's constants

largest_size : code.MAX_SIZE ≡ limits.largest_size
largest_size = refl

most_segments : code.MAX_SEGMENTS ≡ limits.most_segments
most_segments = refl

most_transfer_bytes : code.MAX_TRANSFER_BYTES ≡ limits.most_transfer_bytes
most_transfer_bytes = refl

last_event : code.LAST_EVENT ≡ limits.last_event
last_event = refl

most_channels : code.MAX_CHANNELS ≡ limits.most_channels
most_channels = refl

last_channel : code.LAST_CHANNEL ≡ limits.last_channel
last_channel = refl

-- ---- sizes

no_size : is_size 0 ≡ false
no_size = refl

smallest : is_size 1 ≡ true
smallest = refl

largest : is_size 4294963200 ≡ true
largest = refl

above_the_largest : is_size 4294963201 ≡ false
above_the_largest = refl

-- ---- events

thirty_two_flags : length all_clear ≡ 32
unfolding all_clear
thirty_two_flags = refl

-- ---- transfers

-- a number of segments of a byte each, every second address of those from one on
abbrev bytes_from : ℕ → ℕ → List Segment
bytes_from addr n = map (λ k. record { addr = addr + 2 * k; len = 1 }) (range_with_len 0 n)

-- a transfer of a number of segments of a byte each
abbrev of_segments : ℕ → Descriptor
of_segments n = record { fill = false; src = bytes_from 0 n; dst = bytes_from 1000 n; wait = None; signal = None }

-- a transfer of one segment, with an event to wait for and one to signal
abbrev of_bytes : ℕ → ℕ → ℕ → Option ℕ → Option ℕ → Descriptor
of_bytes from to n wait signal =
    record { fill = false; src = record { addr = from; len = n } ∷ []; dst = record { addr = to; len = n } ∷ []; wait = wait; signal = signal }

sixty_four_segments : refusal_of (of_segments 64) ≡ None
unfolding share
sixty_four_segments = refl

sixty_five_segments : refusal_of (of_segments 65) ≡ Some TooManySegments
sixty_five_segments = refl

up_to_the_last_address : refusal_of (of_bytes 0 4294967295 1 None None) ≡ None
unfolding share
up_to_the_last_address = refl

past_the_last_address : refusal_of (of_bytes 0 4294967295 2 None None) ≡ Some SegmentWraps
past_the_last_address = refl

too_many_bytes : refusal_of (of_bytes 0 2097152 1048577 None None) ≡ Some TooLong
too_many_bytes = refl

last_events : refusal_of (of_bytes 0 1 1 (Some 31) (Some 31)) ≡ None
unfolding share
last_events = refl

past_the_last_event_waited : refusal_of (of_bytes 0 1 1 (Some 32) None) ≡ Some BadEvent
unfolding share
past_the_last_event_waited = refl

past_the_last_event_signalled : refusal_of (of_bytes 0 1 1 None (Some 32)) ≡ Some BadEvent
unfolding share
past_the_last_event_signalled = refl

-- ---- what a transfer is

sixty_four_segments_are_few : IsTransfer (of_segments 64)
sixty_four_segments_are_few = copy_from_no_refusal (bytes_from 0 64) (bytes_from 1000 64) None None sixty_four_segments

no_segment_is_not : IsTransfer (of_segments 0) → ⊥
no_segment_is_not t = let some : 0 < 0 = t.source_list.some in omega arith

sixty_five_segments_are_not : IsTransfer (of_segments 65) → ⊥
sixty_five_segments_are_not t = let few : 65 ≤ 64 = t.source_list.few in omega arith

-- two ranges of which the second begins behind the first
ranges_apart : (from n to m : ℕ) → from + n ≤ to → share (range_with_len from n) (range_with_len to m) ≡ false
ranges_apart from n to m behind =
    share_none (range_with_len from n) (range_with_len to m) (λ a (i : Contains (range_with_len from n) a) (j : Contains (range_with_len to m) a).
    let x = length-range_with_len from n in
    let y = length-range_with_len to m in
    let p = get_or-range_with_len from n i.0 a (omega (arith, i.1, x)) in
    let q = get_or-range_with_len to m j.0 a (omega (arith, j.1, y)) in
    omega (arith, i.1, j.1, i.2, j.2, x, y, p, q))

-- a list of one range
one_range : (addr n : ℕ) → 0 < n → addr + n ≤ 4294967296 → IsSegmentList (record { addr = addr; len = n } ∷ [])
one_range addr n some within = record {
  some = omega arith;
  few = omega arith;
  filled = λ k d l. let first : k ≡ 0 = omega arith in rw first some;
  within = λ k d l. let first : k ≡ 0 = omega arith in rw first within;
}

-- a copy from one range to another behind it, of at most a number of bytes
copies_range : (from to n : ℕ) → 0 < n → n ≤ 1048576 → from + n ≤ to → to + n ≤ 4294967296 → IsTransfer (of_bytes from to n None None)
copies_range from to n some few behind within =
    let src : List Segment = record { addr = from; len = n } ∷ [] in
    let dst : List Segment = record { addr = to; len = n } ∷ [] in
    record {
      one_byte = λ e. absurd (cc);
      source_list = one_range from n some (omega arith);
      destination_list = one_range to n some within;
      same_length = length_places src ∙ sym (length_places dst);
      short = omega (arith, length_places dst, few);
      once = once_places dst refl;
      apart = share_false (places src) (places dst) (sym (meets_any_places src dst) ∙ rw (ranges_apart from n to n behind) refl);
      wait_event = tt;
      signal_event = tt;
    }

copies_at_most : (from to n : ℕ) → IsTransfer (of_bytes from to n None None) → n ≤ 1048576
copies_at_most from to n t = omega (arith, t.short, length_places (record { addr = to; len = n } ∷ []))

most_bytes_are_few : IsTransfer (of_bytes 0 2097152 1048576 None None)
most_bytes_are_few = copies_range 0 2097152 1048576 (omega arith) (omega arith) (omega arith) (omega arith)

no_byte_is_not : IsTransfer (of_bytes 0 1 0 None None) → ⊥
no_byte_is_not t = let some : 0 < 0 = t.source_list.filled 0 (record { addr = 0; len = 0 }) (omega arith) in omega arith

one_byte_more_is_not : IsTransfer (of_bytes 0 2097152 1048577 None None) → ⊥
one_byte_more_is_not t = let few = copies_at_most 0 2097152 1048577 t in omega (arith, few)

to_the_last_address : IsTransfer (of_bytes 0 4294967295 1 None None)
to_the_last_address = copy_from_no_refusal (record { addr = 0; len = 1 } ∷ []) (record { addr = 4294967295; len = 1 } ∷ []) None None up_to_the_last_address

beyond_the_last_address : IsTransfer (of_bytes 0 4294967295 2 None None) → ⊥
beyond_the_last_address t = let within : 4294967297 ≤ 4294967296 = t.destination_list.within 0 (record { addr = 0; len = 0 }) (omega arith) in omega arith

both_last_events : IsTransfer (of_bytes 0 1 1 (Some 31) (Some 31))
both_last_events = copy_from_no_refusal (record { addr = 0; len = 1 } ∷ []) (record { addr = 1; len = 1 } ∷ []) (Some 31) (Some 31) last_events

no_later_event_waited : IsTransfer (of_bytes 0 1 1 (Some 32) None) → ⊥
no_later_event_waited t = let event : 32 ≤ 31 = t.wait_event in omega arith

no_later_event_signalled : IsTransfer (of_bytes 0 1 1 None (Some 32)) → ⊥
no_later_event_signalled t = let event : 32 ≤ 31 = t.signal_event in omega arith

-- ---- fills

-- three bytes and one, with the byte at 16
abbrev four_filled : Descriptor
four_filled = filling 16 (record { addr = 32; len = 3 } ∷ record { addr = 48; len = 1 } ∷ []) None None

read_again : sources four_filled ≡ 16 ∷ 16 ∷ 16 ∷ 16 ∷ []
read_again = refl

filled_in_order : moves four_filled 4 ≡ (32, 16) ∷ (33, 16) ∷ (34, 16) ∷ (48, 16) ∷ []
filled_in_order = refl

over_its_byte : refusal_of (filling 16 (record { addr = 14; len = 4 } ∷ []) None None) ≡ Some SourceMeetsDestination
unfolding share
over_its_byte = refl

up_to_its_byte : refusal_of (filling 16 (record { addr = 14; len = 2 } ∷ record { addr = 17; len = 2 } ∷ []) None None) ≡ None
unfolding share
up_to_its_byte = refl

-- ---- sets of addresses

-- four segments in no order, of which three meet or touch, and their addresses as ranges
abbrev given : List Segment
given =
    record { addr = 16; len = 4 } ∷ record { addr = 18; len = 4 } ∷ record { addr = 32; len = 2 } ∷ record { addr = 22; len = 2 } ∷ []

abbrev joined : List Segment
joined = record { addr = 16; len = 8 } ∷ record { addr = 32; len = 2 } ∷ []

addresses_in : (xs ys : List ℕ) → list_all (λ a. list_any (nat_eq a) ys) xs ≡ true → (a : ℕ) → Contains xs a → Contains ys a
addresses_in xs ys h a i =
    let found : list_any (nat_eq (get_or xs i.0 a)) ys ≡ true = AllPass-from_list_all (λ b. list_any (nat_eq b) ys) xs h i.0 a i.1 in
    subst (Contains ys) i.2 (Contains-from_any eqb-true (get_or xs i.0 a) ys found)

joined_same : SameAddresses joined given
joined_same = λ a. (addresses_in (places joined) (places given) refl a, addresses_in (places given) (places joined) refl a)

joined_coalesced : IsCoalesced joined
joined_coalesced = (spread_from 0 joined (omega arith, omega arith, (omega arith, omega arith, tt))).coalesced

-- a set of the four segments has these ranges and no others
joined_alone : (ranges : List Segment) → SameAddresses ranges given → IsCoalesced ranges → ranges ≡ joined
joined_alone ranges same h = coalesced_same ranges joined h joined_coalesced (same_trans ranges given joined same (λ a. ((joined_same a).1, (joined_same a).0)))

-- a set of no segment has none
none_alone : (ranges : List Segment) → SameAddresses ranges [] → IsCoalesced ranges → ranges ≡ []
none_alone ranges same h = coalesced_same ranges [] h (spread_from 0 [] tt).coalesced same

-- whether ranges meet the segment of this address and length
abbrev met : List Segment → ℕ → ℕ → Bool
met ranges addr len = share (range_of (record { addr = addr; len = len })) (places ranges)

meets_the_last_joined : met joined 23 1 ≡ true
unfolding share
meets_the_last_joined = refl

meets_across_a_start : met joined 31 2 ≡ true
unfolding share
meets_across_a_start = refl

between_the_ranges : met joined 24 8 ≡ false
unfolding share
between_the_ranges = refl

before_the_second : met joined 31 1 ≡ false
unfolding share
before_the_second = refl

empty_in_a_range : met joined 18 0 ≡ false
unfolding share
empty_in_a_range = refl

meets_no_range : met [] 0 1 ≡ false
unfolding share
meets_no_range = refl

-- ---- pages

-- a memory of four pages, of which none is made
record HasNoPage (m : Paged) : Type 0 where
  pub size : length m.image ≡ 16384
  pub none : (p : ℕ) → has_page m p ≡ false

-- the last byte of the second page and the first of the third
abbrev prepared : List ℕ
prepared = range_of (record { addr = 8191; len = 2 })

-- the memory before and after a call that prepares them
record IsPrepared (old new : Paged) : Type 0 where
  pub made : AllMade new prepared
  pub keeps : Keeps old new
  pub others : MakesNoOther old new prepared

page_is : (a p : ℕ) → 4096 * p ≤ a → a < 4096 * p + 4096 → a / 4096 ≡ p
page_is a p low high = omega arith

-- an address on a page without the flag isn't made
unflagged : (m : Paged) (a p : ℕ) → a / 4096 ≡ p → has_page m p ≡ false → is_made m a ≡ false
unflagged m a p on none =
    false_from_ne_true _ (λ e. true≢false (sym (is_made_parts m a e).1 ∙ ap (has_page m) on ∙ none))

not_made_at_first : (m : Paged) → HasNoPage m → list_all (is_made m) (range_of (record { addr = 4096; len = 1 })) ≡ false
not_made_at_first m h = segment_not_made m 4096 1 4096 (omega arith) (omega arith) (unflagged m 4096 1 (omega arith) (h.none 1))

-- afterwards both pages are made
second_and_third : (old new : Paged) → HasNoPage old → IsPrepared old new → list_all (is_made new) (range_of (record { addr = 4096; len = 8192 })) ≡ true
second_and_third old new h k =
    let flag : (a p : ℕ) → 8191 ≤ a → a < 8193 → a / 4096 ≡ p → has_page new p ≡ true = λ a p low high on.
    ap (has_page new) (sym on) ∙ (is_made_parts new a (k.made a (in_range 8191 2 a low high))).1 in
    segment_made new 4096 8192 (λ a low high.
    is_made_from new a (omega (arith, high, k.keeps.size, h.size)) (elim (cases_lt a 8192) [
      | inl second ↦ ap (has_page new) (page_is a 1 (omega arith) (omega arith)) ∙ flag 8191 1 (omega arith) (omega arith) (omega arith)
      | inr third ↦ ap (has_page new) (page_is a 2 (omega arith) (omega arith)) ∙ flag 8192 2 (omega arith) (omega arith) (omega arith)
    ]))

-- and the first isn't
first_is_not : (old new : Paged) → HasNoPage old → IsPrepared old new → list_all (is_made new) (range_of (record { addr = 4095; len = 2 })) ≡ false
first_is_not old new h k =
    let same : has_page new 0 ≡ has_page old 0 = k.others 0 (λ a i on. let low = (range_in 8191 2 a i).0 in omega (arith, low, on)) in
    segment_not_made new 4095 2 4095 (omega arith) (omega arith) (unflagged new 4095 0 (omega arith) (same ∙ h.none 0))

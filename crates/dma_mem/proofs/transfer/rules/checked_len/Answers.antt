use Rattle.std.proofs.Common.{◌≡◌, ℕ, ◌≤◌, length, Option, Some, None, Bool, true, false, ◌||◌, ◌&&◌, refl, sym, ◌∙◌, arith}
use Rattle.std.specs.Prelude.{◌==◌, not}
use Rattle.std.proofs.{lemmas.Bool.le-ltb, lemmas.Bool.true≢false, lemmas.Bool.Decides.nat_tests}
use Rattle.dma_mem.specs.Places.{Descriptor}
use Rattle.dma_mem.specs.Refusals.{refusal_of, cause, total, some_meet, meets_any, is_bad_event, has_empty_segment, has_wrapping_segment}
use Rattle.dma_mem.specs.{inner.Checking.may_differ, declared.transfer.TransferFault.TransferFault}
use Rattle.dma_mem.specs.declared.transfer.TransferFault.TheVariants.{EmptyList, TooManySegments, EmptySegment, SegmentWraps}
use Rattle.dma_mem.specs.declared.transfer.TransferFault.TheVariants.{TotalsDiffer, TooLong, DestinationsMeet, SourceMeetsDestination, BadEvent}
use Rattle.dma_mem.proofs.transfer.rules.checked_len.Goals.{in-Same, in_default, else-matches-via-then-matches+else-total-len, else-matches-via-else-matches}
use Rattle.dma_mem.proofs.transfer.rules.checked_len.Goals.{then-is_bad_event-via-then-is_bad_event}
use Rattle.dma_mem.proofs.transfer.rules.checked_len.Goals.{then-is_bad_event-via-else-is_bad_event+then-is_bad_event-2}
use Rattle.dma_mem.proofs.transfer.rules.checked_len.Goals as goal

-- the last cause of a refusal
abbrev of_events : Descriptor → Option TransferFault
of_events t = cause (is_bad_event t.wait || is_bad_event t.signal) BadEvent None

-- the last three causes of a refusal
abbrev of_places : Descriptor → Option TransferFault
of_places t = cause (some_meet t.dst) DestinationsMeet (cause (meets_any t.src t.dst) SourceMeetsDestination (of_events t))

-- Where no test holds, the others decide.
none_holds : (a b c d e f g h i j : Bool) (others : Option TransferFault) → a ≡ false → b ≡ false → c ≡ false → d ≡ false → e ≡ false → f ≡ false
    → g ≡ false → h ≡ false → i ≡ false → j ≡ false
    → cause (a || b) EmptyList (cause (c || d) TooManySegments (cause (e || f) EmptySegment (cause (g || h) SegmentWraps (
    cause i TotalsDiffer (cause j TooLong others))))) ≡ others
none_holds a b c d e f g h i j others k l m n o p q r s t = rw (k, l, m, n, o, p, q, r, s, t) refl

-- What the tests of the lengths leave.
past_lengths : (t : Descriptor) → (length t.src == 0) ≡ false → (length t.dst == 0) ≡ false → length t.src ≤ 64 → length t.dst ≤ 64
    → has_empty_segment t.src ≡ false → has_empty_segment t.dst ≡ false
    → has_wrapping_segment t.src ≡ false → has_wrapping_segment t.dst ≡ false
    → (not t.fill && not (total t.src == total t.dst)) ≡ false
    → (len most : ℕ) → len ≡ total t.dst → most ≡ 1048576 → len ≤ most → refusal_of t ≡ of_places t
past_lengths t a b c d e f g h i len most j k l =
    none_holds _ _ _ _ _ _ _ _ _ _ (of_places t) a b (le-ltb 64 (length t.src) c) (le-ltb 64 (length t.dst) d) e f g h i
    (le-ltb 1048576 (total t.dst) (rw (← j, ← k) l))

overlap_is : (a b : Bool) (others : Option TransferFault) (fault : TransferFault)
    → cause a DestinationsMeet (cause b SourceMeetsDestination None) ≡ Some fault
    → cause a DestinationsMeet (cause b SourceMeetsDestination others) ≡ Some fault
overlap_is true b others fault h = h
overlap_is false true others fault h = h
overlap_is false false others fault h = absurd (cc)

no_overlap : (a b : Bool) (others : Option TransferFault) → cause a DestinationsMeet (cause b SourceMeetsDestination None) ≡ None
    → cause a DestinationsMeet (cause b SourceMeetsDestination others) ≡ others
no_overlap true b others h = absurd (cc)
no_overlap false true others h = absurd (cc)
no_overlap false false others h = refl

no_events : (a b : Bool) → a ≡ false → b ≡ false → cause (a || b) BadEvent None ≡ None
no_events a b h i = rw (h, i) refl

totals_same : (fill : Bool) (a b : ℕ) → a ≡ b → (not fill && not (a == b)) ≡ false
totals_same fill a b h = grind (arith, nat_tests)

pub returns : goal.returns
returns c =
    let t : Descriptor = record { fill = may_differ c.args.totals; src = c.args.src.now; dst = c.args.dst.now; wait = c.args.wait; signal = c.args.signal } in
    let totals : (not (may_differ c.args.totals) && not (total c.args.src.now == total c.args.dst.now)) ≡ false =
    elim c.else-matches.branch [
      | else-matches-via-then-matches+else-total-len w ↦ totals_same _ _ _ (sym w.total.ensures ∙ w.if-total-len.false ∙ c.total-len.ensures)
      | else-matches-via-else-matches w ↦ elim c.match-matches.branch
          [ in-Same x ↦ absurd (true≢false (sym x.matches-is ∙ w.if-matches.false)) | in_default y ↦ rw y.in_default.is refl ]
    ] in
    let past : refusal_of t ≡ of_places t =
    past_lengths t (sym c.is_empty.ensures ∙ c.if-is_empty.false) (sym c.is_empty-else-is_empty.ensures ∙ c.if-is_empty-2.false)
    c.if-src-gt-MAX_SEGMENTS.false c.if-dst-gt-MAX_SEGMENTS.false
    (sym c.has_empty_segment.ensures ∙ c.if-has_empty_segment.false)
    (sym c.has_empty_segment-else-has_empty_segment.ensures ∙ c.if-has_empty_segment-2.false)
    (sym c.has_wrapping_segment.ensures ∙ c.if-has_wrapping_segment.false)
    (sym c.has_wrapping_segment-else-has_wrapping_segment.ensures ∙ c.if-has_wrapping_segment-2.false) totals
    _ _ c.total-len.ensures c.from.ensures c.if-len-from.false in (
      past ∙ no_overlap _ _ _ (sym c.overlap.ensures ∙ c.in_default-overlap.is)
          ∙ no_events _ _ (sym c.is_bad_event.ensures ∙ c.if-is_bad_event.false) (sym c.is_bad_event-else-is_bad_event.ensures ∙ c.if-is_bad_event-2.false),
      c.total-len.ensures,
    )

pub returns-in-Some : goal.returns-in-Some
returns-in-Some c =
    let t : Descriptor = record { fill = may_differ c.args.totals; src = c.args.src.now; dst = c.args.dst.now; wait = c.args.wait; signal = c.args.signal } in
    let totals : (not (may_differ c.args.totals) && not (total c.args.src.now == total c.args.dst.now)) ≡ false =
    elim c.else-matches.branch [
      | else-matches-via-then-matches+else-total-len w ↦ totals_same _ _ _ (sym w.total.ensures ∙ w.if-total-len.false ∙ c.total-len.ensures)
      | else-matches-via-else-matches w ↦ elim c.match-matches.branch
          [ in-Same x ↦ absurd (true≢false (sym x.matches-is ∙ w.if-matches.false)) | in_default y ↦ rw y.in_default.is refl ]
    ] in
    let past : refusal_of t ≡ of_places t =
    past_lengths t (sym c.is_empty.ensures ∙ c.if-is_empty.false) (sym c.is_empty-else-is_empty.ensures ∙ c.if-is_empty-2.false)
    c.if-src-gt-MAX_SEGMENTS.false c.if-dst-gt-MAX_SEGMENTS.false
    (sym c.has_empty_segment.ensures ∙ c.if-has_empty_segment.false)
    (sym c.has_empty_segment-else-has_empty_segment.ensures ∙ c.if-has_empty_segment-2.false)
    (sym c.has_wrapping_segment.ensures ∙ c.if-has_wrapping_segment.false)
    (sym c.has_wrapping_segment-else-has_wrapping_segment.ensures ∙ c.if-has_wrapping_segment-2.false) totals
    _ _ c.total-len.ensures c.from.ensures c.if-len-from.false in
    past ∙ overlap_is _ _ _ _ (sym c.overlap.ensures ∙ c.in-Some.is)

pub returns-then-is_bad_event : goal.returns-then-is_bad_event
returns-then-is_bad_event c =
    let t : Descriptor = record { fill = may_differ c.args.totals; src = c.args.src.now; dst = c.args.dst.now; wait = c.args.wait; signal = c.args.signal } in
    let totals : (not (may_differ c.args.totals) && not (total c.args.src.now == total c.args.dst.now)) ≡ false =
    elim c.else-matches.branch [
      | else-matches-via-then-matches+else-total-len w ↦ totals_same _ _ _ (sym w.total.ensures ∙ w.if-total-len.false ∙ c.total-len.ensures)
      | else-matches-via-else-matches w ↦ elim c.match-matches.branch
          [ in-Same x ↦ absurd (true≢false (sym x.matches-is ∙ w.if-matches.false)) | in_default y ↦ rw y.in_default.is refl ]
    ] in
    let past : refusal_of t ≡ of_places t =
    past_lengths t (sym c.is_empty.ensures ∙ c.if-is_empty.false) (sym c.is_empty-else-is_empty.ensures ∙ c.if-is_empty-2.false)
    c.if-src-gt-MAX_SEGMENTS.false c.if-dst-gt-MAX_SEGMENTS.false
    (sym c.has_empty_segment.ensures ∙ c.if-has_empty_segment.false)
    (sym c.has_empty_segment-else-has_empty_segment.ensures ∙ c.if-has_empty_segment-2.false)
    (sym c.has_wrapping_segment.ensures ∙ c.if-has_wrapping_segment.false)
    (sym c.has_wrapping_segment-else-has_wrapping_segment.ensures ∙ c.if-has_wrapping_segment-2.false) totals
    _ _ c.total-len.ensures c.from.ensures c.if-len-from.false in
    past ∙ no_overlap _ _ _ (sym c.overlap.ensures ∙ c.in_default-overlap.is) ∙ elim c.then-is_bad_event.branch [
      | then-is_bad_event-via-then-is_bad_event w ↦ rw (sym c.is_bad_event.ensures ∙ w.if-is_bad_event.true) refl
      | then-is_bad_event-via-else-is_bad_event+then-is_bad_event-2 w ↦
          rw (sym c.is_bad_event.ensures ∙ w.if-is_bad_event.false, sym w.is_bad_event-else-is_bad_event.ensures ∙ w.if-is_bad_event-2.true) refl
    ]

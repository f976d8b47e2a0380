-- Facts of each submitted transfer, and of a running one.
use Rattle.std.proofs.Common.{◌≡◌, ◌≢◌, ℕ, ◌+◌, ◌-◌, ◌<◌, List, [], ◌∷◌, ◌++◌, length, Option, Some, true, false, refl, ap, ◌∙◌, subst, arith, inl, inr}
use Rattle.std.proofs.Common.{◌⊎◌, zero, suc}
use Rattle.std.specs.{Prelude.slice_get, Prelude.IfSome, List.All}
use Rattle.std.proofs.{lemmas.List.Elements.All-nil, lemmas.List.Elements.All-push, lemmas.Option.slice_get_within, lemmas.Option.get_or_from_slice_get}
use Rattle.dma_mem.specs.Places.{Descriptor, lies_below}
use Rattle.dma_mem.specs.{Meeting.IsFree, Rules.IsTransfer, declared.marks.MarkKind.MarkKind, declared.segment.Segment.Segment}
use Rattle.dma_mem.proofs.SharedPlaces.{is_free_of_true}
use Rattle.dma_engine.specs.declared.entry.Entry.TheVariants.{Submitted, Issued, Passed, Signalled, Finished, Terminated, Marked, Unmarked}
use Rattle.dma_engine.specs.Object.{Object, ChannelState, Allows, IsMark, after, channel, with_channel, front, IsBase, with_flag, with_front_laid}
use Rattle.dma_engine.specs.View.{View, ChannelSchedule, RunningTransfer, AreFree, Fits, IsSound, runs, size, state_at}
use Rattle.dma_engine.specs.inner.Holds.{Holds, Parts, view_of, state_in}
use Rattle.dma_engine.specs.{declared.entry.Entry.Entry, declared.entry.Signaller.TheVariants.Channel, History.object_after, History.IsLegal}
use Rattle.dma_engine.proofs.{Boards.each_with, Sizes.size_after, Sizes.size_object, WhatRuns.All_filter_map, WhatRuns.above, WhatRuns.below}

-- ---- submitted transfers

-- each submitted transfer obeys the rules and lies below the size
abbrev pub IsGood : ℕ → Descriptor → Type 0
IsGood n t = IsTransfer t × (lies_below t n ≡ true)

abbrev pub AreRuled : ℕ → Object → Type 0
AreRuled n o = (ch k : ℕ) (t : Descriptor) → slice_get (channel o ch).submitted k ≡ Some t → IsGood n t

ruled_with : (n : ℕ) (o : Object) (ch : ℕ) (c : ChannelState) → AreRuled n o → ((k : ℕ) (t : Descriptor) → slice_get c.submitted k ≡ Some t → IsGood n t)
    → AreRuled n (with_channel o ch c)
ruled_with n o ch c h g = each_with (λ d. (k : ℕ) (t : Descriptor) → slice_get d.submitted k ≡ Some t → IsGood n t) o ch c h g

push_cases : {X : Type 0} (xs : List X) (y x : X) (k : ℕ) → slice_get (xs ++ y ∷ []) k ≡ Some x → (slice_get xs k ≡ Some x) ⊎ (y ≡ x)
push_cases [] y x zero h = inr cc
push_cases [] y x (suc k) h = absurd cc
push_cases (z ∷ xs) y x zero h = inl h
push_cases (z ∷ xs) y x (suc k) h = push_cases xs y x k h

pub ruled_after : (n : ℕ) (o : Object) (e : Entry) → length o.image ≡ n → AreRuled n o → Allows o e → AreRuled n (after o e)
ruled_after n o (Submitted ch t cookie) m h a =
    let below : lies_below t n ≡ true = rw m at a.2 in
    ruled_with n o ch _ h (λ k u is. elim (push_cases (channel o ch).submitted t u k is) [
      | inl old ↦ h ch k u old
      | inr new ↦ subst (IsGood n) new (a.1, below)
    ])
ruled_after n o (Issued ch) m h a = ruled_with n o ch _ h (h ch)
ruled_after n o (Passed ch event) m h a = ruled_with n (with_flag o event false) ch _ h (h ch)
ruled_after n o (Signalled (Channel ch) event) m h a = ruled_with n (with_flag o event true) ch _ h (h ch)
ruled_after n o (Finished ch result done) m h a = ruled_with n (with_front_laid o ch done) ch _ h (h ch)
ruled_after n o (Terminated ch done count) m h a = ruled_with n (with_front_laid o ch done) ch _ h (h ch)
ruled_after n o e m h a = h

pub ruled_object : (n : ℕ) (o : Object) (es : List Entry) → length o.image ≡ n → AreRuled n o → IsLegal o es → AreRuled n (object_after o es)
ruled_object n o [] m h a = h
ruled_object n o (e ∷ es) m h a = ruled_object n (after o e) es (size_after o e ∙ m) (ruled_after n o e m h a.0) a.1

pub ruled_base : (o : Object) → IsBase o → AreRuled (length o.image) o
ruled_base o h = λ ch k t is.
    let ts = (channel o ch).submitted in
    let rules = (h.each ch).rules k t (slice_get_within ts k t is) in
    subst (IsGood (length o.image)) (get_or_from_slice_get ts k t t is) rules

-- ---- marks

abbrev pub AreMarks : List (MarkKind × Segment) → Type 0
AreMarks = All (λ m. IsMark m.1)

marked_after : (o : Object) (e : Entry) → AreMarks o.marks → Allows o e → AreMarks (after o e).marks
marked_after o (Signalled (Channel ch) event) h a = h
marked_after o (Marked kind segment) h a = All-push (λ m. IsMark m.1) o.marks (kind, segment) h a
marked_after o Unmarked h a = All-nil (λ m. IsMark m.1)
marked_after o e h a = h

pub marked_object : (o : Object) (es : List Entry) → AreMarks o.marks → IsLegal o es → AreMarks (object_after o es).marks
marked_object o [] h a = h
marked_object o (e ∷ es) h a = marked_object (after o e) es (marked_after o e h a.0) a.1

-- ---- the front of a channel

-- each front of a sound view obeys the rules and lies below the size
pub ruled_front : (v : View) (ch : ℕ) (t : Descriptor) → IsSound v → front (state_at v ch) ≡ Some t → IsGood (size v) t
ruled_front v ch t h is =
    let good = ruled_object (length v.base.image) v.base v.history refl (ruled_base v.base h.opens) h.legal ch _ t is in
    let same : size v ≡ length v.base.image = size_object v.base v.history in
    (good.0, ap (lies_below t) same ∙ good.1)

pub good_front : (p : Parts) → Holds p → (ch : ℕ) (t : Descriptor) → front (state_in p ch) ≡ Some t → IsGood (size (view_of p)) t
good_front p h ch t is = ruled_front (view_of p) ch t h.sound is

-- ---- what else runs is free of it

free_at : (x : Option RunningTransfer) (r : RunningTransfer) → AreFree (Some r) x → IfSome x (λ s. IsFree r.transfer s.transfer)
free_at x r h = grind (arith, is_free_of_true)

pub free_others : (o : Object) (s : List ChannelSchedule) (ch : ℕ) (r : RunningTransfer) → Fits o s → ch < length o.channels → runs o s ch ≡ Some r
    → All (λ x. IsFree r.transfer x.transfer) (below o s ch) × All (λ x. IsFree r.transfer x.transfer) (above o s ch)
free_others o s ch r h less is =
    let P : RunningTransfer → Type 0 = λ x. IsFree r.transfer x.transfer in
    let each : (d : ℕ) → d < length o.channels → ch ≢ d → IfSome (runs o s d) P = λ d l k.
    let f : AreFree (Some r) (runs o s d) = rw is at (h.free ch d less l k) in free_at (runs o s d) r f in (
      All_filter_map P (runs o s) 0 ch (λ d l m. each d (omega arith) (omega arith)),
      All_filter_map P (runs o s) (ch + 1) (length o.channels - ch - 1) (λ d l m. each d (omega arith) (omega arith)),
    )

-- The counts of cookies: what bounds them, and that the ticks of a history add up to them.
use Rattle.std.proofs.Common.{◌≡◌, ℕ, ◌+◌, ◌≤◌, List, [], ◌∷◌, ◌++◌, length, drop, true, false, refl, ap, sym, ◌∙◌, arith, ◌⊎◌}
use Rattle.std.specs.Prelude.{slice_set}
use Rattle.std.proofs.lemmas.List.{map-set, length-set, length-map, length-drop, length-append, length_push, get_or-set_same, get_or-set_other, get_or_past}
use Rattle.std.proofs.lemmas.List.{set-get_or}
use Rattle.std.proofs.{lemmas.Bool.cases_eq, lemmas.Bool.cases_lt, Math.ListN.get_or-map}
use Rattle.dma_mem.specs.Places.{Descriptor}
use Rattle.dma_engine.specs.declared.entry.Entry.TheVariants.{Submitted, Issued, Passed, Signalled, Finished, Terminated}
use Rattle.dma_engine.specs.Object.{Object, ChannelState, Allows, after, channel, empty_channel, with_channel, used, finished, last_cookie, aborted, IsBase}
use Rattle.dma_engine.specs.Object.{FrontIs, outcome_of, front_of, with_flag, with_front_laid}
use Rattle.dma_engine.specs.Ticks.{Board, board_after, board_of, counts, counts_of, no_counts, ticks_of, added_up, status_of}
use Rattle.dma_engine.specs.{declared.entry.Entry.Entry, declared.entry.Signaller.TheVariants.Channel, declared.outcome.TransResult.TransResult}
use Rattle.dma_engine.specs.{declared.outcome.TransResult.TheVariants.Aborted, History.object_after, History.IsLegal, declared.queue.Queue.Queue}
use Rattle.dma_engine.specs.{Answer.status_in, View.View, inner.Holds.Holds, inner.Holds.Parts, inner.Holds.view_of}
use Rattle.dma_engine.proofs.Queues.{HoldsAt, front_where}
use Rattle.dma_engine.specs.inner.Holds.{state_in}

-- ---- what bounds the counts

-- no more cookies are finished than issued, no more issued than given, and not more were given than there are
pub record IsCounted (c : ChannelState) : Type 0 where
  pub finish : finished c ≤ used c
  pub order : finished c ≤ c.issued
  pub issue : c.issued ≤ used c
  pub give : used c ≤ last_cookie

abbrev pub AreCounted : Object → Type 0
AreCounted o = (ch : ℕ) → IsCounted (channel o ch)

-- a channel that is there or not, after it was set
pub with_channel_at : (o : Object) (ch : ℕ) (c : ChannelState) → (channel (with_channel o ch c) ch ≡ c) ⊎ (channel (with_channel o ch c) ch ≡ channel o ch)
with_channel_at o ch c = grind (arith, cases_lt, get_or-set_same, get_or_past, length-set)

-- what holds of each channel, after one was set
pub each_with : (P : ChannelState → Type 0) (o : Object) (ch : ℕ) (c : ChannelState) → ((d : ℕ) → P (channel o d)) → P c → (d : ℕ)
    → P (channel (with_channel o ch c) d)
each_with P o ch c h n d = grind (arith, cases_eq, with_channel_at, get_or-set_other)

pub length_aborted : (done : ℕ) (ts : List Descriptor) → length (aborted done ts) ≡ length ts
length_aborted done ts = grind (arith, length-map)

-- the outcomes after all are added
pub finished_all_law : (c : ChannelState) (done : ℕ) → finished c ≤ used c
    → c.forgotten + length (c.outcomes ++ aborted done (drop (length c.outcomes) c.submitted)) ≡ used c
finished_all_law c done h = grind (arith, length-append, length_aborted, length-drop)

-- a front is given and issued
one_more : (c : ChannelState) (P : Descriptor → Type 0) → FrontIs c P → (finished c + 1 ≤ used c) × (finished c + 1 ≤ c.issued)
one_more c P h = let f = front_where c P h.1 in (omega (arith, f.within), omega (arith, f.below))

-- and so is one that finishes
fronts : (o : Object) (ch : ℕ) (result : TransResult) (done : ℕ) → Allows o (Finished ch result done)
    → let c = channel o ch in (finished c + 1 ≤ used c) × (finished c + 1 ≤ c.issued)
fronts o ch Aborted done h = absurd h
fronts o ch result done h = one_more (channel o ch) _ h

pub counted_after : (o : Object) (e : Entry) → AreCounted o → Allows o e → AreCounted (after o e)
counted_after o (Submitted ch t cookie) h a =
    let c = channel o ch in
    let n = length_push c.submitted t in
    let old = h ch in
    each_with IsCounted o ch _ h
    (record { finish = omega (arith, old.finish, n); order = old.order; issue = omega (arith, old.issue, n); give = omega (arith, a.3, a.4, n) })
counted_after o (Issued ch) h a =
    let old = h ch in
    each_with IsCounted o ch _ h (record { finish = old.finish; order = old.finish; issue = omega arith; give = old.give })
counted_after o (Passed ch event) h a =
    let old = h ch in
    each_with IsCounted (with_flag o event false) ch _ h (record { finish = old.finish; order = old.order; issue = old.issue; give = old.give })
counted_after o (Signalled (Channel ch) event) h a =
    let old = h ch in
    each_with IsCounted (with_flag o event true) ch _ h (record { finish = old.finish; order = old.order; issue = old.issue; give = old.give })
counted_after o (Finished ch result done) h a =
    let c = channel o ch in
    let old = h ch in
    let n = length_push c.outcomes (outcome_of result (front_of c) done) in
    each_with IsCounted (with_front_laid o ch done) ch _ h
    (record {
      finish = omega (arith, (fronts o ch result done a).0, n);
      order = omega (arith, (fronts o ch result done a).1, n);
      issue = old.issue;
      give =
          old.give;
    })
counted_after o (Terminated ch done count) h a =
    let c = channel o ch in
    let old = h ch in
    each_with IsCounted (with_front_laid o ch done) ch _ h
    (record {
      finish = omega (arith, finished_all_law c done old.finish);
      order = omega (arith, finished_all_law c done old.finish);
      issue =
          omega arith;
      give = old.give;
    })
counted_after o e h a = h

pub counted_object : (o : Object) (es : List Entry) → AreCounted o → IsLegal o es → AreCounted (object_after o es)
counted_object o [] h a = h
counted_object o (e ∷ es) h a = counted_object (after o e) es (counted_after o e h a.0) a.1

pub counted_base : (o : Object) → IsBase o → AreCounted o
counted_base o h = grind arith

-- ---- the ticks add up to the counts

pub counts_at : (o : Object) (ch : ℕ) → counts (board_of o) ch ≡ counts_of (channel o ch)
counts_at o ch = get_or-map counts_of o.channels ch empty_channel

board_with : (o : Object) (ch : ℕ) (c : ChannelState) → board_of (with_channel o ch c) ≡ slice_set (board_of o) ch (counts_of c)
board_with o ch c = map-set counts_of o.channels ch c

added : (n by : ℕ) → n + by ≤ last_cookie → added_up n by ≡ n + by
added n by h = omega arith

same_counts : (o : Object) (ch : ℕ) (c : ChannelState) → counts_of c ≡ counts_of (channel o ch) → board_of o ≡ board_of (with_channel o ch c)
same_counts o ch c h = sym (board_with o ch c ∙ ap (slice_set (board_of o) ch) (h ∙ sym (counts_at o ch)) ∙ set-get_or (board_of o) ch no_counts)

-- the board after one entry
pub board_after_law : (o : Object) (e : Entry) → AreCounted o → Allows o e → board_after (board_of o) (ticks_of (e ∷ [])) ≡ board_of (after o e)
board_after_law o e h h2 = grind (arith, length_push, counts_at, board_with, same_counts, fronts, finished_all_law)

ticks_cons : (board : Board) (e : Entry) (es : List Entry)
    → board_after board (ticks_of (e ∷ es)) ≡ board_after (board_after board (ticks_of (e ∷ []))) (ticks_of es)
ticks_cons board e es = grind (arith)

pub board_is : (o : Object) (es : List Entry) → AreCounted o → IsLegal o es → board_after (board_of o) (ticks_of es) ≡ board_of (object_after o es)
board_is o [] h a = refl
board_is o (e ∷ es) h a = grind (arith, ticks_cons, board_after_law, counted_after, board_is (after o e) es (counted_after o e h a.0) a.1)

-- ---- the readings

-- what bounds a queue
pub queue_small : {p : Parts} {ch : ℕ} {q : Queue} → HoldsAt p ch q → (q.given ≤ last_cookie) × (q.forgotten + length q.outcomes.items ≤ q.given)
queue_small {p} {ch} at = grind (arith, counted_object, counted_base)

-- how far a cookie is, by the board that the ticks of the history add up to
pub status_by_board : (v : View) (ch cookie : ℕ) → AreCounted v.base → IsLegal v.base v.history
    → status_in v ch cookie ≡ status_of (board_after (board_of v.base) (ticks_of v.history)) ch cookie
status_by_board v ch cookie counted legal = grind (arith, board_is, counts_at)

pub counted_at : (p : Parts) → Holds p → (ch : ℕ) → IsCounted (state_in p ch)
counted_at p h ch = counted_object (view_of p).base p.history (counted_base p.base h.sound.opens) h.sound.legal ch

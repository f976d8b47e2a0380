-- What each call keeps of a desk.
use Rattle.std.proofs.Common.{◌≡◌, ℕ, ◌+◌, ◌<◌, ◌≤◌, List, [], ◌∷◌, ◌++◌, length, refl, ap, sym, ◌∙◌, arith, append-nil, append_assoc}
use Rattle.std.proofs.Common.{subst, inl, inr, zero-add, true, false}
use Rattle.std.specs.{Prelude.slice_set, Prelude.Result, Prelude.Ok, Prelude.if◌then◌else◌, List.All}
use Rattle.std.proofs.{lemmas.Bool.cases_eq, lemmas.Bool.cases_lt, lemmas.List.get_or_past, lemmas.List.ext_get_or, lemmas.List.length-map, lemmas.List.get_or-set_same, lemmas.List.get_or-set_other}
use Rattle.std.proofs.{lemmas.List.FromFn.get_or-map-range_with_len, lemmas.List.Elements.All-head, lemmas.List.Elements.All-tail, Math.ListN.get_or-map}
use Rattle.logbook.specs.Pages.{Book}
use Rattle.dma_mem.specs.declared.call.Call.TheVariants.{Checkpoint, Step, Submit, Terminate}
use Rattle.dma_mem.specs.{Places.Descriptor, declared.call.Call.Call}
use Rattle.dma_engine.specs.declared.call.Reply.TheVariants.{Cookie, Count, Done, Turned}
use Rattle.dma_engine.specs.Answer.{CallAnswers, StepAnswers, checkpoint_fault, checkpointed, reply_of, status_by, status_in}
use Rattle.dma_engine.specs.Object.{Object, empty_channel, forget, used}
use Rattle.dma_engine.specs.Ticks.{Tick, Submitted, Finished, Board, Counts, added_up, board_after, board_of, counts, counts_of, no_counts, tick_channel}
use Rattle.dma_engine.specs.Ticks.{status_of, ticked, ticks_of}
use Rattle.dma_engine.specs.View.{EngineState, IsSound, View, channels, object_of, size, state_at}
use Rattle.dma_engine.specs.{declared.call.Reply.Reply, declared.entry.Entry.Entry, declared.fault.EngineFault.EngineFault}
use Rattle.dma_engine.specs.{declared.turn.Turn.Turn, Laws.Adds, Laws.IsQuiet, Laws.ticks_in, Turn.ends, Turn.finishes_in, Turn.steps_in, Turn.turn}
use Rattle.dma_engine.proofs.CookieCounts.{boards_count, base_counts_bounded, status_by_ticks, submits_add, terminates_add, ticks_name_channels}
use Rattle.dma_engine.proofs.{CallLists.answers_extend, CallLists.quiet_extends}
use Rattle.dma_engine.proofs.{AnswerCounts.ends_as_reported, AnswerCounts.quiet_calls_keep_counts, AnswerCounts.steps_add, Checkpoint.accepted, Checkpoint.checkpoints_keep}
use Rattle.dma_engine.proofs.{Sizes.many_channels, Sizes.size_object}
use Rattle.dma_work.specs.inner.Published.{PublishedList, HasActed, PublisherState, Publishes, list_and, list_with}
use Rattle.dma_work.specs.Ticks.{AreFinished, IsGiven, base_of, board_from, eight, status_after}
use Rattle.dma_work.specs.{declared.worker.Totals.Totals, Desk.Names, Desk.stepped_book, inner.DeskKept.IsKept}
use Rattle.dma_work.proofs.Boards.{after_length, board_append, ticked_length}

-- ---- boards that agree at the channels 0 to 7

Alike : Board → Board → Type 0
Alike a b = (ch : ℕ) → ch < 8 → counts a ch ≡ counts b ch

set_alike : (f : Counts → Counts) (a b : Board) (c ch : ℕ) → c < length a → c < length b → counts a c ≡ counts b c → counts a ch ≡ counts b ch
    → counts (slice_set a c (f (counts a c))) ch ≡ counts (slice_set b c (f (counts b c))) ch
set_alike f a b c ch la lb here e = grind (arith, cases_eq, inl, get_or-set_same, ap, sym, inr, get_or-set_other)

tick_alike : (a b : Board) (t : Tick) → length a ≡ 8 → length b ≤ 8 → tick_channel t < length b → Alike a b → Alike (ticked a t) (ticked b t)
unfolding Alike
tick_alike a b (Submitted c) la few less e ch in_8 =
    set_alike (λ x. record x { used = added_up x.used 1 }) a b c ch (omega arith) less (e c (omega arith)) (e ch in_8)
tick_alike a b (Finished c n) la few less e ch in_8 =
    set_alike (λ x. record x { finished = added_up x.finished n }) a b c ch (omega arith) less (e c (omega arith)) (e ch in_8)

boards_alike : (a b : Board) (ts : List Tick) → length a ≡ 8 → length b ≤ 8 → All (λ t. tick_channel t < length b) ts → Alike a b
    → Alike (board_after a ts) (board_after b ts)
boards_alike a b [] la few below e = e
boards_alike a b (t ∷ ts) la few below e =
    let n = ticked_length b t in
    boards_alike (ticked a t) (ticked b t) ts (ticked_length a t ∙ la) (omega (arith, few, n)) (rw n (All-tail (λ t. tick_channel t < length b) t ts below))
    (tick_alike a b t la few (All-head (λ t. tick_channel t < length b) t ts below) e)

pub counts_eight : (b : Board) (ch : ℕ) → ch < 8 → counts (eight b) ch ≡ counts b ch
counts_eight b ch less = get_or-map-range_with_len (counts b) 0 8 ch ch no_counts less (zero-add ch)

-- ticks of channels that are there leave the same on a board of eight
after_eight : (b : Board) (ts : List Tick) → length b ≤ 8 → All (λ t. tick_channel t < length b) ts → board_after (eight b) ts ≡ eight (board_after b ts)
unfolding Alike
after_eight b ts few below =
    let n = after_length (eight b) ts in
    ext_get_or no_counts (board_after (eight b) ts) (eight (board_after b ts)) n (λ i less.
    boards_alike (eight b) b ts refl few below (counts_eight b) i (omega (arith, n)) ∙ sym (counts_eight (board_after b ts) i (omega (arith, n))))

-- and so those of an engine's history
history_eight : (v : View) → IsSound v → board_after (base_of v) (ticks_of v.history) ≡ eight (board_after (board_of v.base) (ticks_of v.history))
history_eight v h = grind (arith, base_counts_bounded, after_eight, arith, subst, sym, ticks_name_channels)

-- ---- steps

-- a step that its turn doesn't end has no tick
pub goes_on : (v w : View) (ch : ℕ) (r : Result Turn EngineFault) → ends (turn v ch).0 ≡ false → StepAnswers v ch r w → ticks_in ch r ≡ []
goes_on v w ch r on h =
    let is : ends r ≡ false = elim (ends_as_reported v w ch r h) [ inl starved ↦ ap ends starved | inr same ↦ same ∙ on ] in
    ap (λ x. if x then Finished ch 1 ∷ [] else []) is

-- one that its turn ends has one
pub ended : (v w : View) (ch : ℕ) (t : Turn) → ends (turn v ch).0 ≡ true → StepAnswers v ch (Ok t) w → ticks_in ch (Ok t) ≡ Finished ch 1 ∷ []
ended v w ch t over h =
    let is : ends (Ok t) ≡ true = elim (ends_as_reported v w ch (Ok t) h) [ inl starved ↦ absurd (cc starved) | inr same ↦ same ∙ over ] in
    ap (λ x. if x then Finished ch 1 ∷ [] else []) is

-- ---- what is published after a call

-- one more tick was made ready, and the engine has added it
pub acted_next : (p r : PublisherState) (v m w : View) (t u : Tick) → m ≡ v → ticks_of w.history ≡ ticks_of m.history ++ u ∷ [] → t ≡ u
    → (r.shown ≡ p.shown) × (r.before ≡ p.before) → p.before ++ ticks_of v.history ≡ p.shown.ticks → HasActed r w t
acted_next p r v m w t u same more is kept shown =
    rw (kept.0, kept.1, is, more, same) (sym (append_assoc p.before (ticks_of v.history) (u ∷ [])) ∙ ap (λ x. x ++ u ∷ []) shown)

-- no tick more is published
pub publishes_none : (p q : PublisherState) → (q.shown ≡ p.shown) × (q.before ≡ p.before) → q.pending ≡ [] → Publishes p [] q
publishes_none p q kept none = record {
  shown = kept.0 ∙ ap (λ l. record (p.shown) { ticks = l }) (sym (append-nil p.shown.ticks));
  pending = none;
  before = kept.1;
}

-- the sizes of views with one base
same_size : (v w : View) → w.base ≡ v.base → size w ≡ size v
same_size v w same = size_object w.base w.history ∙ ap (λ (o : Object). length o.image) same ∙ sym (size_object v.base v.history)

same_many : (v w : View) → w.base ≡ v.base → channels w ≡ channels v
same_many v w same = many_channels w.base w.history ∙ ap (λ (o : Object). length o.channels) same ∙ sym (many_channels v.base v.history)

-- The published board has the engine's own counts of each channel.
pub board_counts : (base : Board) (before : List Tick) (v : View) → board_from base before ≡ base_of v → IsSound v → (ch : ℕ) → ch < channels v
    → counts (board_from base (before ++ ticks_of v.history)) ch ≡ counts_of (state_at v ch)
board_counts base before v opens h ch less =
    ap (λ b. counts b ch) (board_append base before (ticks_of v.history) ∙ ap (λ b. board_after b (ticks_of v.history)) opens ∙ history_eight v h)
    ∙ counts_eight (board_after (board_of v.base) (ticks_of v.history)) ch (omega (arith, less, (base_counts_bounded v h).1))
    ∙ ap (λ b. counts b ch) (boards_count v h)
    ∙ get_or-map counts_of (object_of v).channels ch empty_channel

-- The published board has the engine's own status of each cookie.
pub board_status : (base : Board) (before : List Tick) (v : View) → board_from base before ≡ base_of v → IsSound v → (ch cookie : ℕ)
    → status_after base (before ++ ticks_of v.history) ch cookie ≡ status_in v ch cookie
board_status base before v opens h ch cookie =
    let b = board_after (board_of v.base) (ticks_of v.history) in
    let bounds = base_counts_bounded v h in
    let few : length b ≤ 8 = omega (arith, after_length (board_of v.base) (ticks_of v.history), bounds.0, bounds.1) in
    let same : counts (eight b) ch ≡ counts b ch = elim (cases_lt ch 8) [
      | inl less ↦ counts_eight b ch less
      | inr past ↦ get_or_past (eight b) ch no_counts past ∙ sym (get_or_past b ch no_counts (omega (arith, few, past)))
    ] in
    ap (λ x. status_of x ch cookie)
    (board_append base before (ticks_of v.history) ∙ ap (λ x. board_after x (ticks_of v.history)) opens ∙ history_eight v h)
    ∙ ap (λ (c : Counts). status_by c.used c.finished cookie) same
    ∙ sym (status_by_ticks v ch cookie h)

-- A desk that gets a new name and an empty book is kept under that name.
pub kept_anew : (opening opening_now : View) (base base_now : Board) (log log_now : Book) (engine : EngineState) (p : PublisherState) (b e : Totals)
    → IsKept opening base log engine p b → Names opening_now base_now log_now (record { engine = engine; base = base; log = log }) → (e.steps ≡ 0)
    × (e.finished ≡ 0) × (e.terminated ≡ 0) → IsKept opening_now base_now log_now engine p e
kept_anew opening opening_now base base_now log log_now engine p b e k names none = grind (arith, arith, ap, sym)

-- what each call keeps of a desk
module _ {opening : View} {base : Board} {log : Book} {old : EngineState} {p : PublisherState} {b : Totals} (k : IsKept opening base log old p b) where
  abbrev Kept : EngineState → PublisherState → Totals → Type 0
  Kept = IsKept opening base log

  board : List Tick → PublishedList
  board ticks = record { base = base; ticks = ticks; log = log }

  -- a call that adds ticks, which are published, and counts in the book as it does in the engine
  kept_by : (new : EngineState) (q : PublisherState) (e : Totals) (more : List Tick) (moves finishes : ℕ) → Adds old.view new.view more moves finishes
      → new.view.base ≡ old.view.base → Publishes p more q → e.steps ≡ b.steps + moves
      → e.finished + e.terminated ≡ b.finished + b.terminated + finishes → Kept new q e
  unfolding board
  kept_by new q e more moves finishes a same is steps done = record {
    shown = is.shown ∙ ap (λ (x : PublishedList). list_and x more) k.shown
        ∙ ap board (append_assoc p.before (ticks_of old.view.history) more ∙ ap (λ l. p.before ++ l) (sym a.ticks)
        ∙ ap (λ l. l ++ ticks_of new.view.history) (sym is.before));
    pending = is.pending;
    opens = ap (board_from base) is.before ∙ k.opens ∙ ap (λ o. eight (board_of o)) (sym same);
    small = k.small;
    counts = record {
      steps = omega (arith, k.counts.steps, a.steps, steps);
      finished = omega (arith, k.counts.finished, a.finished, done);
    };
    bytes_are = same_size old.view new.view same ∙ k.bytes_are;
    many_are = same_many old.view new.view same ∙ k.many_are;
  }

  -- a call that changes no view, and publishes nothing
  pub kept_still : (new : EngineState) (q : PublisherState) → new.view ≡ old.view → Publishes p [] q → Kept new q b
  kept_still new q same is =
      let a : Adds old.view new.view [] 0 0 = rw same (record { ticks = sym (append-nil (ticks_of old.view.history)); steps = omega arith; finished = omega arith }) in
      kept_by new q b [] 0 0 a (ap (λ (v : View). v.base) same) is (omega arith) (omega arith)

  -- a call that gives no cookie and finishes none
  pub kept_quiet : (new : EngineState) (call : Call) (reply : Reply) → IsQuiet call → CallAnswers old.view call reply new.view → Kept new p b
  kept_quiet new call reply q h =
      let t = quiet_calls_keep_counts old.view new.view call reply q h in
      let a : Adds old.view new.view [] 0 0 = grind (arith, sym, append-nil, arith) in
      kept_by new p b [] 0 0 a (answers_extend old.view new.view call reply (quiet_extends call reply q) h).0
      (publishes_none p p (refl, refl) k.pending) (omega arith) (omega arith)

  -- a step
  pub kept_step : (new : EngineState) (q : PublisherState) (ch : ℕ) (r : Result Turn EngineFault) → StepAnswers old.view ch r new.view
      → Publishes p (ticks_in ch r) q → Kept new q (stepped_book b r)
  kept_step new q ch r h is =
      kept_by new q (stepped_book b r) (ticks_in ch r) (steps_in r) (finishes_in r) (steps_add old.view new.view ch r h)
      (answers_extend old.view new.view (Step ch) (reply_of Turned r) refl h).0 is refl (omega arith)

  -- one more tick was made ready, the engine added it, and it was published
  pub kept_next : (m new : EngineState) (r q : PublisherState) (e : Totals) (t u : Tick) (moves finishes : ℕ) → m.view ≡ old.view
      → Adds m.view new.view (u ∷ []) moves finishes → new.view.base ≡ m.view.base → t ≡ u → (r.shown ≡ p.shown) × (r.before ≡ p.before)
      → Publishes r (t ∷ []) q → e.steps ≡ b.steps + moves → e.finished + e.terminated ≡ b.finished + b.terminated + finishes → Kept new q e
  kept_next m new r q e t u moves finishes same a from tick kept is steps done =
      let all : Publishes p (u ∷ []) q = record {
        shown = is.shown ∙ ap (λ x. list_with x t) kept.0 ∙ ap (list_with p.shown) tick;
        pending = is.pending;
        before = is.before ∙ kept.1;
      } in
      kept_by new q e (u ∷ []) moves finishes (subst (λ v. Adds v new.view (u ∷ []) moves finishes) same a)
      (from ∙ ap (λ (v : View). v.base) same) all steps done

  -- a checkpoint: what was published comes before the new history
  pub kept_checkpoint : (new : EngineState) (q : PublisherState) → IsSound old.view → CallAnswers old.view Checkpoint Done new.view
      → q ≡ record p { before = p.shown.ticks } → Kept new q b
  unfolding board
  kept_checkpoint new q sound h is =
      let c = checkpoints_keep old.view new.view sound h in
      let ticks = ticks_of old.view.history in
      let next : new.view ≡ checkpointed old.view = accepted (checkpoint_fault old.view) old.view new.view (checkpointed old.view) h in
      let before : p.shown.ticks ≡ p.before ++ ticks = ap (λ (x : PublishedList). x.ticks) k.shown in
      rw is (record {
        shown = k.shown ∙ ap board (sym before ∙ sym (ap (λ (es : List Entry). p.shown.ticks ++ ticks_of es) c.0 ∙ append-nil p.shown.ticks));
        pending = k.pending;
        opens = ap (board_from base) before ∙ board_append base p.before ticks ∙ ap (λ x. board_after x ticks) k.opens
            ∙ history_eight old.view sound
            ∙ ap eight (boards_count old.view sound ∙ sym c.1);
        small = k.small;
        counts = record { steps = k.counts.steps ∙ sym c.2; finished = k.counts.finished ∙ sym c.3 };
        bytes_are = ap size next ∙ k.bytes_are;
        many_are = ap channels next ∙ length-map (object_of old.view).channels forget ∙ k.many_are;
      })

  -- ---- what a ticket shows

  -- the cookie of a submit is given in the list that is published then
  pub given_in : (v : View) (ch cookie : ℕ) (t : Descriptor) (list : List Tick) → CallAnswers v (Submit ch t) (Cookie cookie) old.view → IsSound old.view
      → list ≡ p.shown.ticks → IsGiven base list ch cookie
  given_in v ch cookie t list h sound is =
      let s = submits_add v old.view ch cookie t h in
      let all = is ∙ ap (λ (x : PublishedList). x.ticks) k.shown in
      let at : (counts (board_from base list) ch).used ≡ used (state_at old.view ch) = grind (arith, ap, board_counts, all) in
      (s.2, omega (arith, at, s.3))

  -- and after a terminate all cookies of its channel are finished
  pub finished_in : (v : View) (ch count through : ℕ) (list : List Tick) → CallAnswers v (Terminate ch) (Count count) old.view → IsSound old.view
      → list ≡ p.shown.ticks → through ≡ used (state_at old.view ch) → AreFinished base list ch through
  finished_in v ch count through list h sound is through_is =
      let s = terminates_add v old.view ch count h in
      let all = is ∙ ap (λ (x : PublishedList). x.ticks) k.shown in
      let at : counts (board_from base list) ch ≡ counts_of (state_at old.view ch) = grind (arith, ap, board_counts, all) in
      (omega (arith, through_is, ap (λ (x : Counts). x.used) at), omega (arith, through_is, ap (λ (x : Counts). x.finished) at, s.3))

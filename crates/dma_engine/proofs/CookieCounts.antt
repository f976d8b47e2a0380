-- The state of a channel after a submit and a terminate on it, and the counts that the ticks of a history sum up to.
use Rattle.std.proofs.Common.{◌≡◌, ℕ, ◌+◌, ◌<◌, ◌≤◌, ◌^◌, List, [], ◌∷◌, length, drop, refl, ap, sym, ◌∙◌, arith, ◌++◌}
use Rattle.std.specs.{List.All, Prelude.Option, Prelude.None}
use Rattle.std.proofs.lemmas.List.{length-map, length_push, get_or-set_same, get_or_past, length-append, length-drop}
use Rattle.std.proofs.lemmas.List.Elements.{All-cons, All-from_get_or, All-nil}
use Rattle.std.proofs.{lemmas.Bool.cases_lt, lemmas.List.Sums.sum_by-le, Math.ListN.get_or-map}
use Rattle.dma_mem.specs.Places.{Descriptor}
use Rattle.dma_engine.specs.Laws.{SubmitsAdd, TerminatesAdd, BoardsCount, StatusByTicks, BaseCountsBounded, TicksAtMostEntries, TicksNameChannels}
use Rattle.dma_engine.specs.Object.{Allows, ChannelState, FrontIs, Object, after, channel, empty_channel, last_cookie, used, finished, finished_all, unfinished}
use Rattle.dma_engine.specs.Object.{aborted, with_transfer, with_all_aborted, with_front_laid}
use Rattle.dma_engine.specs.{declared.call.Reply.Reply, declared.call.Reply.TheVariants.Cookie, declared.call.Reply.TheVariants.Count, View.state_at}
use Rattle.dma_engine.specs.{declared.call.Reply.TheVariants.Refused, declared.fault.EngineFault.EngineFault, declared.entry.Entry.Entry}
use Rattle.dma_engine.specs.{declared.outcome.TransResult.TransResult, Answer.unless, Answer.channel_fault}
use Rattle.dma_engine.specs.{Answer.done_on, Answer.submit_fault, Answer.terminated, History.IsLegal, Ticks.Counts, Ticks.Finished, Ticks.Submitted}
use Rattle.dma_engine.specs.{Ticks.counts_of, Ticks.tick_channel, Ticks.ticks_of, Turn.with_entry, View.IsSound, View.View, View.object_of, View.channels}
use Rattle.dma_engine.proofs.AnswerCounts.{finished_same, finished_with, object_one, ticks_append}
use Rattle.dma_engine.proofs.Boards.{AreCounted, board_is, counted_base, counted_object, length_aborted, status_by_board}
use Rattle.dma_engine.proofs.CallCases.{channel_open, submit_open}
use Rattle.dma_engine.specs.declared.entry.Entry.TheVariants.{Submitted as SubmittedEntry, Finished as FinishedEntry, Terminated as TerminatedEntry}
use Rattle.dma_engine.proofs.Sizes.{made, many_after as channels-after, many_channels as channels-object}

-- ---- a reply that is no refusal

-- Nothing refuses the call, and the reply and the view are those of an accepted one.
not_refused : (f : Option EngineFault) (v w : View) (x : Reply × View) (reply : Reply) → ((fault : EngineFault) → reply ≡ Refused fault → ⊥)
    → (reply, w) ≡ unless f v x → (f ≡ None) × ((reply, w) ≡ x)
not_refused f v w x reply h h2 = grind (arith)

pub submits_add : SubmitsAdd
submits_add v w ch cookie t h =
    let o = object_of v in
    let c = channel o ch in
    let e = SubmittedEntry ch t (used c + 1) in
    let a = not_refused (submit_fault v ch t) v w (Cookie (used c + 1), with_entry v e) (Cookie cookie) (λ fault e. absurd cc) h in
    let less = (submit_open v ch t a.0).0 in
    let number : cookie ≡ used c + 1 = let both : Cookie cookie ≡ Cookie (used c + 1) = ap (λ (x : Reply × View). x.0) a.1 in cc in
    let is : w ≡ with_entry v e = ap (λ (x : Reply × View). x.1) a.1 in
    let becomes : object_of w ≡ after o e = ap object_of is ∙ object_one v e in
    let here : state_at w ch ≡ with_transfer c t = ap (λ (x : Object). channel x ch) becomes
    ∙ get_or-set_same o.channels ch (with_transfer c t) empty_channel less in
    let many : channels w ≡ channels v = ap (λ (x : Object). length x.channels) becomes ∙ channels-after o e in (
      record {
        ticks = ap (λ (u : View). ticks_of u.history) is ∙ ticks_append v.history (e ∷ []);
        steps = omega (arith, ap (λ (u : View). u.steps) is);
        finished = omega (arith, ap finished_all becomes, finished_same o ch (with_transfer c t) refl);
      },
      omega (arith, many, less),
      omega (arith, number),
      omega (arith, number, ap used here, length_push c.submitted t),
    )

pub terminates_add : TerminatesAdd
terminates_add v w ch count h =
    let o = object_of v in
    let c = channel o ch in
    let m = unfinished c in
    let done = done_on v ch in
    let e = TerminatedEntry ch done m in
    let a = not_refused (channel_fault v ch) v w (Count m, terminated v ch) (Count count) (λ fault e. absurd cc) h in
    let less = channel_open v ch a.0 in
    let number : count ≡ m = let both : Count count ≡ Count m = ap (λ (x : Reply × View). x.0) a.1 in cc in
    let is : w ≡ terminated v ch = ap (λ (x : Reply × View). x.1) a.1 in
    let becomes : object_of w ≡ after o e = ap object_of is ∙ object_one v e in
    let here : state_at w ch ≡ with_all_aborted c done = ap (λ (x : Object). channel x ch) becomes
    ∙ get_or-set_same o.channels ch (with_all_aborted c done) empty_channel less in
    let many : channels w ≡ channels v = ap (λ (x : Object). length x.channels) becomes ∙ channels-after o e in
    let more : finished (with_all_aborted c done) ≡ finished c + m =
    omega (
      arith,
      length-append c.outcomes (aborted done (drop (length c.outcomes) c.submitted)),
      length_aborted done
          (drop (length c.outcomes) c.submitted),
      length-drop (length c.outcomes) c.submitted,
    ) in (
      record {
        ticks = ap (λ (u : View). ticks_of u.history) is ∙ ticks_append v.history (e ∷ []) ∙ ap (λ k. ticks_of v.history ++ Finished ch k ∷ []) (sym number);
        steps = omega (arith, ap (λ (u : View). u.steps) is);
        finished = omega (arith, ap finished_all becomes, finished_with (with_front_laid o ch done) ch (with_all_aborted c done) less, more, number);
      },
      omega (arith, many, less),
      number,
      omega (arith, ap used here, ap finished here, more),
    )

-- ---- the board of the ticks

pub boards_count : BoardsCount
boards_count v h = grind (arith, counted_base, board_is)

pub status_by_ticks : StatusByTicks
status_by_ticks v ch cookie h = grind (arith, counted_base, status_by_board)

pub base_counts_bounded : BaseCountsBounded
base_counts_bounded v h =
    let many : channels v ≡ length v.base.channels = channels-object v.base v.history in
    let counted : AreCounted v.base = counted_base v.base h.opens in (
      omega (arith, many, length-map v.base.channels counts_of),
      omega (arith, many, (made (length v.base.image) (length v.base.channels) h.makes).0),
      (λ ch.
          let at = get_or-map counts_of v.base.channels ch empty_channel in
          let c = counted ch in
          (omega (arith, ap (λ (x : Counts). x.used) at, c.give), omega (arith, ap (λ (x : Counts). x.finished) at, c.finish, c.give))),
    )

-- how many cookies are finished, on all channels together
pub finished_bounded : (v : View) → IsSound v → finished_all (object_of v) < 2 ^ 64
finished_bounded v h =
    let o = object_of v in
    let counted : AreCounted o = counted_object v.base v.history (counted_base v.base h.opens) h.legal in
    let P : ChannelState → Type 0 = λ c. finished c ≤ last_cookie in
    let each : All P o.channels = All-from_get_or P o.channels empty_channel (λ i less. omega (arith, (counted i).finish, (counted i).give)) in
    omega (arith, sum_by-le finished last_cookie o.channels each, (base_counts_bounded v h).0, (base_counts_bounded v h).1)

-- a channel with a front exists
front_there_law : (o : Object) (ch : ℕ) (P : Descriptor → Type 0) → FrontIs (channel o ch) P → ch < length o.channels
front_there_law o ch P h = grind (arith, cases_lt, get_or_past)

finish_there : (o : Object) (ch : ℕ) (result : TransResult) (done : ℕ) → Allows o (FinishedEntry ch result done) → ch < length o.channels
finish_there o ch result done h = grind (arith, front_there_law)

-- the ticks of a legal history are of channels that are there
ticks_there : (n : ℕ) (o : Object) (es : List Entry) → length o.channels ≡ n → IsLegal o es → All (λ t. tick_channel t < n) (ticks_of es)
ticks_there n o [] many h = All-nil (λ t. tick_channel t < n)
ticks_there n o (SubmittedEntry ch t cookie ∷ es) many h =
    All-cons (λ t. tick_channel t < n) (Submitted ch) (ticks_of es) (omega (arith, h.0.0, many))
    (ticks_there n (after o (SubmittedEntry ch t cookie)) es (channels-after o (SubmittedEntry ch t cookie) ∙ many) h.1)
ticks_there n o (FinishedEntry ch result done ∷ es) many h =
    All-cons (λ t. tick_channel t < n) (Finished ch 1) (ticks_of es) (omega (arith, finish_there o ch result done h.0, many))
    (ticks_there n (after o (FinishedEntry ch result done)) es (channels-after o (FinishedEntry ch result done) ∙ many) h.1)
ticks_there n o (TerminatedEntry ch done count ∷ es) many h =
    All-cons (λ t. tick_channel t < n) (Finished ch count) (ticks_of es) (omega (arith, h.0.0, many))
    (ticks_there n (after o (TerminatedEntry ch done count)) es (channels-after o (TerminatedEntry ch done count) ∙ many) h.1)
ticks_there n o (e ∷ es) many h = ticks_there n (after o e) es (channels-after o e ∙ many) h.1

pub ticks_name_channels : TicksNameChannels
ticks_name_channels v h = ticks_there (channels v) v.base v.history (sym (channels-object v.base v.history)) h.legal

pub ticks_at_most_entries : TicksAtMostEntries
ticks_at_most_entries [] = omega arith
ticks_at_most_entries (SubmittedEntry ch t cookie ∷ es) = omega (arith, ticks_at_most_entries es)
ticks_at_most_entries (e ∷ es) = omega (arith, ticks_at_most_entries es)

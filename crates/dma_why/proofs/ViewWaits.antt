-- What each wait of a view says.
use Rattle.std.proofs.Common.{◌≡◌, ℕ, ◌+◌, ◌<◌, ◌≤◌, List, [], ◌∷◌, length, map, Option, Some, None, Bool, true, false, refl, ap, sym, ◌∙◌, subst, arith, inl}
use Rattle.std.proofs.Common.{inr, ◌⊎◌}
use Rattle.std.specs.Prelude.{◌==◌, ◌-◌, ◌&&◌, ◌||◌, cond, if◌then◌else◌, nat_le, not, slice_get, Result, Ok}
use Rattle.std.specs.{List.All, List.Contains, List.filter, List.list_all, List.range_with_len}
use Rattle.std.proofs.{lemmas.Bool.eqb-true, lemmas.List.Elements.All-contains, lemmas.List.Sums.AllPass-from_list_all}
use Rattle.dma_mem.specs.Places.{Descriptor, is_free_of}
use Rattle.dma_mem.proofs.SharedPlaces.{in_range, range_in}
use Rattle.dma_engine.specs.declared.turn.Turn.TheVariants.{Held, Waiting}
use Rattle.dma_engine.specs.Object.{ChannelState, Object, channel, finished, front, unfinished}
use Rattle.dma_engine.specs.View.{RunningTransfer, View, channels, object_of, running, running_in, runs, schedule_at}
use Rattle.dma_engine.specs.{declared.fault.EngineFault.EngineFault, declared.turn.Turn.Turn, Turn.turn}
use Rattle.dma_why.specs.Waits.{event_wait, holder, holders, holders_of, signallers, signallers_on, signals, signals_later, waits_by, waits_of, waits_on}
use Rattle.dma_why.specs.{declared.waits.Cookie.Cookie, declared.waits.Wait.Wait}
use Rattle.dma_why.proofs.Members.{All-from_in, filter_in, flat_map_in, in_cases, in_filter, in_filter_map, in_first, in_flat_map, in_map, in_none, map_in}

-- ---- what a channel waits for

-- The step is held, and one of the holders is waited for.
pub record IsHeld (v : View) (ch : ℕ) (r : Result Turn EngineFault) (w : Wait) : Type 0 where
  pub turned : (other : ℕ) × (cookie : ℕ) × (r ≡ Ok (Held other cookie))
  pub by : Contains (holders v ch) w.by

-- The step waits for an event, and each cookie that would signal it is on the channel that is waited for.
pub record AwaitsEvent (v : View) (r : Result Turn EngineFault) (w : Wait) : Type 0 where
  pub event : ℕ
  pub turned : r ≡ Ok (Waiting event)
  pub all : (c : Cookie) → Contains (signallers (object_of v) event) c → c.ch ≡ w.by.ch
  pub by : Contains (signallers (object_of v) event) w.by

-- One of the two, of this channel.
abbrev pub Says : View → ℕ → Result Turn EngineFault → Wait → Type 0
Says v ch r w = (w.ch ≡ ch) × (IsHeld v ch r w ⊎ AwaitsEvent v r w)

all_alike : (first : ℕ) (xs : List Cookie) → list_all (λ c. c.ch == first) xs ≡ true → (c : Cookie) → Contains xs c → c.ch ≡ first
all_alike first xs h c i = eqb-true c.ch first (All-contains (λ c. (c.ch == first) ≡ true) xs c (AllPass-from_list_all (λ c. c.ch == first) xs h) i)

-- the wait for an event, by whether all the cookies are on one channel
says_one : (v : View) (ch event : ℕ) (x : Cookie) (xs : List Cookie) (b : Bool) (w : Wait) → signallers (object_of v) event ≡ x ∷ xs
    → list_all (λ c. c.ch == x.ch) (x ∷ xs) ≡ b → Contains (cond b (record { ch = ch; event = Some event; by = x } ∷ []) []) w
    → Says v ch (Ok (Waiting event)) w
says_one v ch event x xs false w is e i = absurd (in_none w i)
says_one v ch event x xs true w is e i = elim (in_cases _ [] w i) [
  | inr none ↦ absurd (in_none w none)
  | inl same ↦
      let by : w.by ≡ x = ap (λ (y : Wait). y.by) (sym same) in (
        ap (λ (y : Wait). y.ch) (sym same),
        inr (record {
          event = event;
          turned = refl;
          all = λ c h. all_alike x.ch (x ∷ xs) e c (subst (λ l. Contains l c) is h) ∙ ap (λ y. y.ch) (sym by);
          by = rw (is, by) (in_first x xs);
        }),
      )
]

says_event : (v : View) (ch event : ℕ) (found : List Cookie) (w : Wait) → signallers (object_of v) event ≡ found → Contains (event_wait ch event found) w
    → Says v ch (Ok (Waiting event)) w
says_event v ch event [] w is i = absurd (in_none w i)
says_event v ch event (x ∷ xs) w is i = says_one v ch event x xs (list_all (λ c. c.ch == x.ch) (x ∷ xs)) w is refl i

says_held : (v : View) (ch other cookie : ℕ) (w : Wait) → Contains (map (λ by. record { ch = ch; event = None; by = by }) (holders v ch)) w
    → Says v ch (Ok (Held other cookie)) w
says_held v ch other cookie w i =
    let r = in_map (λ by. record { ch = ch; event = None; by = by }) (holders v ch) w i in (
      ap (λ (y : Wait). y.ch) (sym r.2),
      inl (record {
        turned = (other, cookie, refl);
        by = subst (Contains (holders v ch)) (ap (λ (y : Wait). y.by) r.2) r.1;
      }),
    )

pub says : (v : View) (ch : ℕ) (r : Result Turn EngineFault) (w : Wait) → Contains (waits_by v ch r) w → Says v ch r w
says v ch (Ok (Held other cookie)) w i = says_held v ch other cookie w i
says v ch (Ok (Waiting event)) w i = says_event v ch event (signallers (object_of v) event) w refl i
says v ch r w i = absurd (in_none w i)

-- each wait of the view is of a channel that exists, and says so of it
pub wait_says : (v : View) (w : Wait) → Contains (waits_of v) w → (w.ch < channels v) × Says v w.ch (turn v w.ch).0 w
wait_says v w i =
    let r = in_flat_map (waits_on v) (range_with_len 0 (channels v)) w i in
    let less = range_in 0 (channels v) r.0 r.1 in
    let s = says v r.0 (turn v r.0).0 w r.2 in
    (omega (arith, s.0, less.1), subst (λ c. Says v c (turn v c).0 w) (sym s.0) s)

pub wait_of_view : (v : View) (ch : ℕ) (w : Wait) → ch < channels v → Contains (waits_on v ch) w → Contains (waits_of v) w
wait_of_view v ch w less i =
    flat_map_in (waits_on v) (range_with_len 0 (channels v)) ch w (in_range 0 (channels v) ch (omega arith) (omega (arith, less))) i

pub waits_below : (v : View) → All (λ w. w.ch < channels v) (waits_of v)
waits_below v = All-from_in (λ (w : Wait). w.ch < channels v) (waits_of v) (λ w i. (wait_says v w i).0)

-- ---- the fronts that run, and that hold another

-- A transfer runs on a channel, and the front of another isn't free of it.
pub record Holds (v : View) (ch by : ℕ) : Type 0 where
  pub transfer : Descriptor
  pub is : front (channel (object_of v) ch) ≡ Some transfer
  pub other : RunningTransfer
  pub runs : runs (object_of v) v.schedule by ≡ Some other
  pub conflicts : is_free_of transfer other.transfer ≡ false
  pub less : by < channels v

-- what runs on a channel names it, and is its front
pub runs_named : (ch : ℕ) (c : ChannelState) (taken : Option ℕ) (r : RunningTransfer) → running_in ch c taken ≡ Some r → (r.ch ≡ ch)
    × (front c ≡ Some r.transfer)
runs_named ch c taken r h = grind (arith)

-- what runs is on a channel
pub in_running : (v : View) (r : RunningTransfer) → Contains (running (object_of v) v.schedule) r → (r.ch < channels v)
    × (runs (object_of v) v.schedule r.ch ≡ Some r)
unfolding running
in_running v r i =
    let o = object_of v in
    let f = in_filter_map (runs o v.schedule) (range_with_len 0 (channels v)) r i in
    let named = runs_named f.0 (channel o f.0) (schedule_at v f.0).taken r f.2 in
    let less = range_in 0 (channels v) f.0 f.1 in
    (omega (arith, named.0, less.1), subst (λ c. runs o v.schedule c ≡ Some r) (sym named.0) f.2)

held_by : (t : Descriptor) (r : RunningTransfer) (c : Cookie) → holder t r ≡ Some c → (is_free_of t r.transfer ≡ false) × (r.ch ≡ c.ch)
held_by t r c h = grind arith

holders_hold : (v : View) (ch : ℕ) (o : Option Descriptor) (c : Cookie) → front (channel (object_of v) ch) ≡ o → Contains (holders_of v o) c → Holds v ch c.ch
holders_hold v ch None c is i = absurd (in_none c i)
holders_hold v ch (Some t) c is i =
    let f = in_filter_map (holder t) (running (object_of v) v.schedule) c i in
    let h = held_by t f.0 c f.2 in
    let r = in_running v f.0 f.1 in
    record {
      transfer = t;
      is = is;
      other = f.0;
      runs = subst (λ k. runs (object_of v) v.schedule k ≡ Some f.0) h.1 r.1;
      conflicts = h.0;
      less = omega (arith, h.1, r.0);
    }

pub holder_holds : (v : View) (ch : ℕ) (c : Cookie) → Contains (holders v ch) c → Holds v ch c.ch
holder_holds v ch c i = holders_hold v ch (front (channel (object_of v) ch)) c refl i

-- ---- the cookies that would signal an event

-- the transfer of a cookie of a channel in this state
abbrev pub transfer_in : ChannelState → ℕ → Option Descriptor
transfer_in c number = if nat_le number c.forgotten then None else slice_get c.submitted (number - c.forgotten - 1)

-- An unfinished cookie of a channel in this state would signal an event.
abbrev pub WouldBy : ChannelState → ℕ → ℕ → Type 0
WouldBy c event number =
    (finished c < number) × (number ≤ finished c + unfinished c)
    × ((not (c.halted || c.signalled && number == finished c + 1) && signals event (transfer_in c number)) ≡ true)

pub signaller_would : (o : Object) (event : ℕ) (x : Cookie) → Contains (signallers o event) x → (x.ch < length o.channels)
    × WouldBy (channel o x.ch) event x.number
signaller_would o event x i =
    let f = in_flat_map (signallers_on o event) (range_with_len 0 (length o.channels)) x i in
    let ch = f.0 in
    let c = channel o ch in
    let mk : ℕ → Cookie = λ number. record { ch = ch; number = number } in
    let less = range_in 0 (length o.channels) ch f.1 in
    let numbers = range_with_len (finished c + 1) (unfinished c) in
    let m = in_map mk (filter (signals_later o event ch) numbers) x f.2 in
    let k = in_filter (signals_later o event ch) numbers m.0 m.1 in
    let span = range_in (finished c + 1) (unfinished c) m.0 k.0 in
    subst (λ (y : Cookie). (y.ch < length o.channels) × WouldBy (channel o y.ch) event y.number) m.2 (
      omega (arith, less.1),
      (omega (arith, span.0), omega (arith, span.1), k.1),
    )

pub would_signaller : (o : Object) (event ch number : ℕ) → ch < length o.channels → WouldBy (channel o ch) event number
    → Contains (signallers o event) (record { ch = ch; number = number })
would_signaller o event ch number less h =
    let c = channel o ch in
    let mk : ℕ → Cookie = λ number. record { ch = ch; number = number } in
    let numbers = range_with_len (finished c + 1) (unfinished c) in
    let here = in_range (finished c + 1) (unfinished c) number (omega (arith, h.0)) (omega (arith, h.1)) in
    flat_map_in (signallers_on o event) (range_with_len 0 (length o.channels)) ch (mk number)
    (in_range 0 (length o.channels) ch (omega arith) (omega (arith, less)))
    (map_in mk (filter (signals_later o event ch) numbers) number (filter_in (signals_later o event ch) numbers number here h.2))

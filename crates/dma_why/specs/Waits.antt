-- What the channels of an engine wait for.
use Rattle.std.specs.Prelude.{ℕ, ◌+◌, ◌==◌, ◌&&◌, ◌||◌, Bool, false, not, if◌then◌else◌, Option, Some, None, Result, Ok, List, [], ◌∷◌, length, map}
use Rattle.std.specs.{List.filter, List.filter_map, List.flat_map, List.list_all, List.range_with_len, Option.option_and_then, Option.option_map_or}
use Rattle.dma_mem.specs.Places.{Descriptor, is_free_of}
use Rattle.dma_engine.specs.{declared.fault.EngineFault.EngineFault, declared.turn.Turn.Turn, declared.turn.Turn.TheVariants.Held}
use Rattle.dma_engine.specs.{declared.turn.Turn.TheVariants.Waiting, Cookies.transfer_of, Object.Object, Object.channel, Object.finished, Object.front}
use Rattle.dma_engine.specs.{Object.unfinished, Turn.turn, View.RunningTransfer, View.View, View.channels, View.object_of, View.running}
use Rattle.dma_why.specs.{declared.waits.Cookie.Cookie, declared.waits.Wait.Wait}

-- whether a transfer, if any, signals an event
abbrev pub signals : ℕ → Option Descriptor → Bool
signals event transfer = option_map_or (λ e. e == event) (option_and_then (λ t. t.signal) transfer) false

-- Whether an unfinished cookie would signal an event: its channel isn't halted, its transfer signals the event, and it
-- isn't a front that has signalled it already.
abbrev pub signals_later : Object → ℕ → ℕ → ℕ → Bool
signals_later o event ch number =
    let c = channel o ch in
    not (c.halted || c.signalled && number == finished c + 1) && signals event (transfer_of o ch number)

-- the unfinished cookies of a channel that would signal an event
abbrev pub signallers_on : Object → ℕ → ℕ → List Cookie
signallers_on o event ch =
    let c = channel o ch in map (λ number. record { ch = ch; number = number })
    (filter (signals_later o event ch) (range_with_len (finished c + 1) (unfinished c)))

-- the unfinished cookies that would signal an event, by channels and then by numbers
abbrev pub signallers : Object → ℕ → List Cookie
signallers o event = flat_map (signallers_on o event) (range_with_len 0 (length o.channels))

-- the cookie of a running front, if a transfer isn't free of it
abbrev pub holder : Descriptor → RunningTransfer → Option Cookie
holder t r = if is_free_of t r.transfer then None else Some (record { ch = r.ch; number = r.cookie })

-- the running fronts that hold a transfer, if any: those that it isn't free of, from the lowest channel on
abbrev pub holders_of : View → Option Descriptor → List Cookie
holders_of v None = []
holders_of v (Some t) = filter_map (holder t) (running (object_of v) v.schedule)

-- the running fronts that hold the front of a channel
abbrev pub holders : View → ℕ → List Cookie
holders v ch = holders_of v (front (channel (object_of v) ch))

-- the wait of a channel for an event, given the cookies that would signal it: for the first, if all are on one channel
abbrev pub event_wait : ℕ → ℕ → List Cookie → List Wait
event_wait ch event [] = []
event_wait ch event (first ∷ more) =
    if list_all (λ c. c.ch == first.ch) (first ∷ more) then record { ch = ch; event = Some event; by = first } ∷ []
    else []

-- What a channel waits for whose next step has this result: for each front that holds its own, or for an event and the
-- first cookie that would signal it. Nothing if no cookie would, or cookies of several channels, or for another result.
abbrev pub waits_by : View → ℕ → Result Turn EngineFault → List Wait
waits_by v ch (Ok (Held other cookie)) = map (λ by. record { ch = ch; event = None; by = by }) (holders v ch)
waits_by v ch (Ok (Waiting event)) = event_wait ch event (signallers (object_of v) event)
waits_by v ch _ = []

-- what a channel waits for
abbrev pub waits_on : View → ℕ → List Wait
waits_on v ch = waits_by v ch (turn v ch).0

-- what all channels wait for, by channels
abbrev pub waits_of : View → List Wait
waits_of v = flat_map (waits_on v) (range_with_len 0 (channels v))

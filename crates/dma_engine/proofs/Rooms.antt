-- The room that is allocated before it is needed, and transfers found in a history.
use Rattle.std.proofs.Common.{◌≡◌, ℕ, ◌+◌, ◌-◌, ◌<◌, ◌≤◌, List, [], ◌∷◌, ◌++◌, length, map, take, drop, Option, Some, true, false, refl, ap, sym}
use Rattle.std.proofs.Common.{◌∙◌, arith, suc, inl, inr}
use Rattle.std.specs.Prelude.{slice_get, slice_index, slice_index_or, slice_set, nat_lt, unwrap_or}
use Rattle.std.proofs.lemmas.Bool.{cases_eq, cases_lt, le-ltb, lt-ltb}
use Rattle.std.proofs.lemmas.Option.{slice_get-get_or}
use Rattle.std.proofs.lemmas.List.{get_or-drop, get_or-map, get_or-append-add, get_or_append_left, map-set, get_or-set_same, get_or-set_other, length-drop}
use Rattle.std.proofs.lemmas.List.{length-map, take-append-drop}
use Rattle.dma_mem.specs.{Places.Descriptor}
use Rattle.dma_engine.specs.inner.Found.{given_by, transfer_at, transfer_in, transfer_of, transfers_in, unfinished_in}
use Rattle.dma_engine.specs.Object.{ChannelState, channel, no_transfer}
use Rattle.dma_engine.specs.{declared.entry.Entry.Entry, declared.entry.Entry.TheVariants.Submitted}
use Rattle.dma_engine.specs.{inner.Holds.object_in}
use Rattle.dma_engine.specs.{declared.queue.Queue.Queue, inner.Inside.queue_room, Room.no_room, Room.KeepsRoom}
use Rattle.dma_engine.specs.{View.EngineState, View.object_of, inner.Holds.IsQueue, inner.Holds.Parts, inner.Holds.view_of}
use Rattle.dma_engine.proofs.{Changes.changed, Changes.schedule_kept, Changes.view_changed, Queues.HoldsAt}
use Rattle.dma_engine.specs.inner.Holds.{state_in}

-- ---- room

-- a queue with other room
abbrev pub with_room : Queue → ℕ → ℕ → Queue
with_room q a b = record q { indices = record { items = q.indices.items; spare = a }; outcomes = record { items = q.outcomes.items; spare = b } }

-- the room of a channel is that of its queue
pub room_at : (queues : List Queue) (ch : ℕ) (q : Queue) → ch < length queues → q ≡ slice_index_or queues ch q
    → slice_index_or (map queue_room queues) ch no_room ≡ queue_room q
room_at queues ch q less read = get_or-map queue_room queues ch q no_room less ∙ ap queue_room (sym read)

pub room_set : (queues : List Queue) (ch : ℕ) (q : Queue) → ch < length queues
    → slice_index_or (map queue_room (slice_set queues ch q)) ch no_room ≡ queue_room q
room_set queues ch q less = grind (arith, map-set, get_or-set_same, length-map)

module _ {p : Parts} {ch : ℕ} {q : Queue} (at : HoldsAt p ch q) where
  pub view_room : (a b : ℕ) → view_of (changed p ch (with_room q a b) p.memory p.events p.history p.steps) ≡ view_of p
  view_room a b =
      view_changed p ch (with_room q a b) p.memory p.events p.history p.steps
      ∙ ap (λ s. record (view_of p) { schedule = s }) (schedule_kept at (with_room q a b) refl)

  -- every channel's room is kept when one queue is replaced by one with no less room
  pub keeps_room : (r : Queue) (entries : ℕ) (e f : EngineState)
      → record { view = view_of p; memory = p.memory; room = record { entries = entries; queues = map queue_room p.queues } } ≡ e
      → object_of f.view ≡ object_in p → entries ≤ f.room.entries → f.room.queues ≡ map queue_room (slice_set p.queues ch r)
      → q.indices.spare ≤ r.indices.spare → q.outcomes.spare ≤ r.outcomes.spare → KeepsRoom e f
  keeps_room r entries e f is object more queues indices outcomes d h = grind (arith, cases_eq, room_at, room_set, map-set, get_or-set_other)

-- ---- transfers that are found by their indices

map_same : (f : ℕ → Descriptor) (xs : List ℕ) (ts : List Descriptor) → length xs ≡ length ts
    → ((k : ℕ) → k < length ts → f (slice_index xs k) ≡ slice_index_or ts k no_transfer) → map f xs ≡ ts
map_same f [] [] n h = refl
map_same f [] (t ∷ ts) n h = absurd (omega arith)
map_same f (x ∷ xs) [] n h = absurd (omega arith)
map_same f (x ∷ xs) (t ∷ ts) n h =
    let first : f x ≡ t = h 0 (omega arith) in
    let rest = map_same f xs ts (omega (arith, n)) (λ k l. h (suc k) (omega arith)) in
    ap (λ u. u ∷ map f xs) first ∙ ap (λ l. t ∷ l) rest

-- the transfers of a queue that its entries give
later_all : {ch : ℕ} {kept : List Descriptor} {history : List Entry} {memory : List ℕ} {q : Queue} {c : ChannelState} → IsQueue ch kept history memory q c
    → map (transfer_in history) q.indices.items ≡ drop (length kept) c.submitted
later_all {kept = kept} {history = history} {q = q} {c = c} t =
    let n = length kept in
    let many : length q.indices.items ≡ length (drop n c.submitted) = omega (arith, t.many, length-drop n c.submitted) in
    map_same (transfer_in history) q.indices.items (drop n c.submitted) many
    (λ k less. ap transfer_of (t.indexed k (omega (arith, less, many))).1 ∙ sym (get_or-drop n c.submitted k no_transfer))

-- those of its unfinished cookies
pub unfinished_found : {p : Parts} {ch : ℕ} {q : Queue} → HoldsAt p ch q → let c = state_in p ch in
    unfinished_in q (channel p.base ch).submitted p.history ≡ drop (length c.outcomes) c.submitted
unfinished_found {p} {ch} {q} at =
    let c = state_in p ch in
    let t = at.tied in
    let n = length (channel p.base ch).submitted in
    ap (drop (length q.outcomes.items)) (ap (λ l. l ++ map (transfer_in p.history) q.indices.items) (sym t.first)
    ∙ ap (λ l. take n c.submitted ++ l) (later_all t) ∙ take-append-drop n c.submitted)
    ∙ ap (λ l. drop (length l) c.submitted) t.outcomes

-- a transfer of the base or of an entry is the one at its place among all
pub transfer_at_all : (kept : List Descriptor) (history : List Entry) (indices : List ℕ) (n : ℕ) → n < length kept + length indices
    → unwrap_or (transfer_at kept history indices n) no_transfer ≡ slice_index_or (transfers_in kept history indices) n no_transfer
transfer_at_all kept history indices n less = elim (cases_lt n (length kept)) [
  | inl early ↦
      let e : nat_lt n (length kept) ≡ true = lt-ltb n (length kept) early in
      let is : slice_get kept n ≡ Some (slice_index_or kept n no_transfer) = slice_get-get_or kept n no_transfer early in
      rw e (ap (λ o. unwrap_or o no_transfer) is ∙ sym (get_or_append_left kept (map (transfer_in history) indices) no_transfer n early))
  | inr late ↦
      let e : nat_lt n (length kept) ≡ false = le-ltb n (length kept) late in
      let k = n - length kept in
      let at : length kept + k ≡ n = omega (arith, late) in
      let inside : k < length indices = omega (arith, less, late) in
      let right : slice_index_or (transfers_in kept history indices) n no_transfer ≡ transfer_in history (slice_index indices k) =
      grind (arith, get_or-append-add, get_or-map) in
      rw e (given-is (slice_get history (slice_index indices k)) ∙ sym right)
] where
  given-is : (o : Option Entry) → unwrap_or (given_by o) no_transfer ≡ transfer_of o
  given-is (Some (Submitted ch t cookie)) = refl
  given-is o = refl

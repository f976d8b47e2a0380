-- What a new engine keeps.
use Rattle.std.proofs.Common.{◌≡◌, ◌≢◌, ℕ, ◌+◌, ◌<◌, ◌≤◌, List, [], ◌∷◌, length, map, Option, None, true, refl, ap, sym, ◌∙◌, subst, arith}
use Rattle.std.proofs.Common.{zero, suc}
use Rattle.std.specs.{Prelude.List, Prelude.Bool, Prelude.slice_index_or, Prelude.replicate, List.filter_map, List.range_with_len}
use Rattle.dma_mem.specs.{Image.is_size, Image.over, Image.after_moves, Flags.all_clear}
use Rattle.std.proofs.lemmas.Bool.{cases_lt, ne_eqb, le-ltb}
use Rattle.std.proofs.lemmas.List.{length-replicate, get_or-replicate, get_or_past}
use Rattle.dma_engine.specs.View.{View, ChannelSchedule, RunningTransfer, Fits, runs, running_in, running, with_stored, memory_shown, memory_of, object_of}
use Rattle.dma_engine.specs.View.{IsSound, idle, new_fault, new_view, state_at}
use Rattle.dma_engine.specs.inner.Holds.{Holds, IsPrepared, Parts, view_of, schedule_of, new_queue}
use Rattle.dma_engine.specs.{Object.IsBase, Object.channel, Object.empty_channel, Object.opening, declared.queue.Queue.Queue, inner.Ranges.AreOfRunning}
use Rattle.dma_mem.proofs.PageImages.{put_none}
use Rattle.dma_engine.proofs.{Sizes.opening_flags, Sizes.opening_many, Sizes.opening_size}

map_same : (n : ℕ) → map schedule_of (replicate n new_queue) ≡ replicate n idle
map_same zero = refl
map_same (suc n) = ap (λ l. idle ∷ l) (map_same n)

idle_at : (n ch : ℕ) → slice_index_or (replicate n idle) ch idle ≡ idle
idle_at n ch = grind (arith, cases_lt, get_or-replicate, get_or_past, length-replicate)

new_at : (bytes n ch : ℕ) → channel (opening bytes n) ch ≡ empty_channel
unfolding opening
new_at bytes n ch = grind (arith, cases_lt, get_or-replicate, get_or_past, length-replicate)

none_runs : (bytes n ch : ℕ) → runs (opening bytes n) (replicate n idle) ch ≡ None
none_runs bytes n ch = ap (λ (x : ChannelSchedule). running_in ch (channel (opening bytes n) ch) x.taken) (idle_at n ch)

filter_none : (f : ℕ → Option RunningTransfer) (a n : ℕ) → ((c : ℕ) → f c ≡ None) → filter_map f (range_with_len a n) ≡ []
filter_none f a zero h = refl
filter_none f a (suc n) h =
    let head = h a in
    let rest : filter_map f (range_with_len (a + 1) n) ≡ [] = filter_none f (a + 1) n h in
    cc

nothing_runs : (bytes n : ℕ) → running (opening bytes n) (replicate n idle) ≡ []
unfolding running
nothing_runs bytes n = filter_none (runs (opening bytes n) (replicate n idle)) 0 (length (opening bytes n).channels) (none_runs bytes n)

opening_shown : (bytes n : ℕ) → replicate bytes 0 ≡ memory_shown (opening bytes n) (replicate n idle)
unfolding opening after_moves
opening_shown bytes n = sym (ap (λ l. over (opening bytes n).image (map with_stored l)) (nothing_runs bytes n) ∙ put_none (replicate bytes 0))

opening_fits : (bytes n : ℕ) → Fits (opening bytes n) (replicate n idle)
opening_fits bytes n = grind (arith, length-replicate, opening_many, new_at, idle_at, none_runs)

opening_events : (bytes n : ℕ) → all_clear ≡ (opening bytes n).events
unfolding opening all_clear
opening_events bytes n = refl

opening_marks : (bytes n : ℕ) → [] ≡ (opening bytes n).marks
unfolding opening
opening_marks bytes n = refl

-- the opening object is a base
pub base_opening : (bytes n : ℕ) → IsBase (opening bytes n)
base_opening bytes n = grind (arith, opening_flags, opening_marks, new_at)

-- the view of a new engine is sound
pub new_sound : (bytes n : ℕ) → new_fault bytes n ≡ None → IsSound (new_view bytes n)
new_sound bytes n made = record {
  opens = base_opening bytes n;
  makes = rw (opening_size bytes n, opening_many bytes n) made;
  legal = tt;
  fits = opening_fits bytes n;
}

-- the parts of a new engine
abbrev pub new_parts : ℕ → List Bool → ℕ → Parts
new_parts bytes made n = record {
  size = bytes;
  memory = replicate bytes 0;
  made = made;
  events = all_clear;
  marks = [];
  queues = replicate n new_queue;
  base = opening bytes n;
  history =
      [];
  steps = 0;
}

pub new_view_law : (bytes : ℕ) (made : List Bool) (n : ℕ) → view_of (new_parts bytes made n) ≡ new_view bytes n
new_view_law bytes made n = ap (λ s. record { base = opening bytes n; history = []; steps = 0; schedule = s }) (map_same n)

pub holds_new : (bytes : ℕ) (pages : List Bool) (n : ℕ) → new_fault bytes n ≡ None → Holds (new_parts bytes pages n)
holds_new bytes pages n made =
    let v : View = view_of (new_parts bytes pages n) in
    let is : v ≡ new_view bytes n = new_view_law bytes pages n in
    let o = opening bytes n in
    let none : (ch : ℕ) → runs (object_of v) v.schedule ch ≡ None = λ ch. ap (λ (w : View). runs (object_of w) w.schedule ch) is ∙ none_runs bytes n ch in
    record {
      sound = subst IsSound (sym is) (new_sound bytes n made);
      size = sym (opening_size bytes n);
      shown = opening_shown bytes n ∙ ap memory_of (sym is);
      events = opening_events bytes n ∙ ap (λ (w : View). (object_of w).events) (sym is);
      marks = opening_marks bytes n ∙ ap (λ (w : View). (object_of w).marks) (sym is);
      each = λ ch d less.
          let inside : ch < n = omega (arith, less, length-replicate n new_queue) in
          let here : state_at v ch ≡ empty_channel = ap (λ (w : View). state_at w ch) is ∙ new_at bytes n ch in
          rw (get_or-replicate n ch new_queue d inside, here) (record {
            submitted = record { forgotten = refl; given = refl; many = refl; first = refl; indexed = λ k l. absurd (omega arith) };
            outcomes = refl;
            issued = refl;
            halted = refl;
            machine = tt;
          });
      prepared = λ ch. subst (IsPrepared pages) (sym (none ch)) tt;
      ranges = λ ch d less.
          let inside : ch < n = omega (arith, less, length-replicate n new_queue) in
          let slot = get_or-replicate n ch new_queue d inside in
          subst (λ (q : Queue). AreOfRunning q.ranges (runs (object_of v) v.schedule ch)) (sym slot) (subst (AreOfRunning None) (sym (none ch)) tt);
    }

pub made_from : (bytes many : ℕ) → many ≢ 0 → many ≤ 8 → is_size bytes ≡ true → new_fault bytes many ≡ None
made_from bytes many some few size = grind (arith, ne_eqb, le-ltb)

-- What an engine keeps when an entry is added that changes no channel: a write, a read, a mark, an unmark, a raise.
use Rattle.std.proofs.Common.{◌≡◌, ◌≢◌, ℕ, ◌+◌, ◌<◌, ◌≤◌, List, [], ◌∷◌, ◌++◌, length, None, true, refl, ap, sym, ◌∙◌, arith, take, drop, inr, subst, Bool}
use Rattle.std.specs.{Prelude.slice_index, Prelude.slice_index_or, Prelude.slice_set, List.Contains, List.range_with_len}
use Rattle.std.proofs.{lemmas.List.get_or_default, lemmas.List.FromFn.length-range_with_len, lemmas.Map.Made.keys_of-zip}
use Rattle.dma_mem.specs.{Image.put, Image.bytes_at, Places.touches, Places.writes, declared.marks.MarkKind.MarkKind, declared.segment.Segment.Segment}
use Rattle.dma_mem.proofs.{ImagePut.get_or_put_other, SharedPlaces.touches_false}
use Rattle.dma_engine.specs.declared.entry.Entry.TheVariants.{Wrote, ReadBack, Signalled, Marked, Unmarked}
use Rattle.dma_engine.specs.View.{View, ChannelSchedule, running, memory_shown, object_of, channels, memory_of}
use Rattle.dma_engine.specs.{declared.entry.Signaller.TheVariants.Host, Object.Object, Object.channel, Object.after, Answer.write_fault, Answer.read_fault}
use Rattle.dma_engine.specs.{inner.Holds.Holds, inner.Holds.Parts, inner.Holds.view_of, inner.Holds.object_in, Object.Allows, declared.entry.Entry.Entry}
use Rattle.dma_engine.proofs.{CallCases.range_open, CallCases.read_entry, Changes.holds_entered, Changes.run_kept, Changes.with_entry_at, Memory.shown_read}
use Rattle.dma_engine.proofs.{Memory.shown_wrote, Queues.holds_at, Queues.many_queues, Queues.runs_at, StaysSound.entered_sound, WhatRuns.find_none_at}
use Rattle.dma_mem.specs.Marking.{MarkList}

-- ---- a write

-- an address that a write doesn't touch keeps its byte
kept_byte : (memory : List ℕ) (addr : ℕ) (bytes : List ℕ) (a : ℕ) → ¬ Contains (range_with_len addr (length bytes)) a
    → slice_index (put memory (bytes_at addr bytes)) a ≡ slice_index memory a
kept_byte memory addr bytes a h = grind (arith, keys_of-zip, length-range_with_len, get_or_put_other)

pub holds_wrote : (p : Parts) (addr : ℕ) (bytes : List ℕ) → Holds p → write_fault (view_of p) addr (length bytes) ≡ None
    → Holds (with_entry_at p (Wrote addr bytes) (put p.memory (bytes_at addr bytes)) p.events p.marks)
holds_wrote p addr bytes h free =
    let v : View = view_of p in
    let o = object_of v in
    let n = length bytes in
    let range : Segment = record { addr = addr; len = n } in
    let may = range_open v addr n (λ s t. touches t s) free in
    holds_entered p (Wrote addr bytes) (put p.memory (bytes_at addr bytes)) p.events p.marks h (record {
      sound = entered_sound v (Wrote addr bytes) h.sound may.0 refl;
      stay = refl;
      shown = ap (λ m. put m (bytes_at addr bytes)) h.shown ∙ sym (shown_wrote o v.schedule addr bytes may.1);
      events = h.events;
      marks = h.marks;
      machines = λ ch d less machine.
          let q = slice_index_or p.queues ch d in
          run_kept p.memory (put p.memory (bytes_at addr bytes)) q.channel (channel o ch) (λ t loaded is a inside.
          let there : ch < length o.channels = omega (arith, many_queues p h, less) in
          let runs_is = runs_at (holds_at p h ch q less (get_or_default p.queues ch d q less)) t loaded is in
          let clear = find_none_at (λ r. touches r.transfer range) o v.schedule ch _ there may.1 runs_is in
          kept_byte p.memory addr bytes a (λ within. touches_false t range clear (a, within, inr inside))) machine;
    })

-- ---- a read

-- the bytes that are read are the image's
pub read_seen : (p : Parts) (v : View) (addr n : ℕ) (bytes : List ℕ) → Holds p → view_of p ≡ v → read_fault v addr n ≡ None
    → bytes ≡ take n (drop addr p.memory) → bytes ≡ take n (drop addr (object_of v).image)
read_seen p v addr n bytes h is free read =
    read ∙ ap (λ m. take n (drop addr m)) (h.shown ∙ ap memory_of is)
    ∙ shown_read (object_of v) v.schedule addr n (range_open v addr n (λ s t. writes t s) free).1

shown_same : (o p : Object) (s : List ChannelSchedule) → o.image ≡ p.image → o.channels ≡ p.channels → memory_shown o s ≡ memory_shown p s
unfolding running
shown_same o p s image channels = rw (image, channels) refl

-- an entry that changes neither the image nor a channel, on which the memory that is shown depends
noted : (p : Parts) (e : Entry) (events : List Bool) (marks : MarkList) → Holds p → Allows (object_in p) e → let o = object_in p in o.image ≡ (after o e).image
    → o.channels ≡ (after o e).channels → events ≡ (after o e).events → marks ≡ (after o e).marks → Holds (with_entry_at p e p.memory events marks)
noted p e events marks h allowed image channels flags marked =
    holds_entered p e p.memory events marks h (record {
      sound = entered_sound (view_of p) e h.sound allowed channels;
      stay = sym channels;
      shown = h.shown ∙ shown_same (object_in p) (after (object_in p) e) (view_of p).schedule image channels;
      events = flags;
      marks = marked;
      machines = λ ch d less machine. machine;
    })

pub holds_read : (p : Parts) (v : View) (addr n : ℕ) (bytes : List ℕ) → Holds p → view_of p ≡ v → read_fault v addr n ≡ None
    → bytes ≡ take n (drop addr (object_of v).image) → Holds (with_entry_at p (ReadBack addr bytes) p.memory p.events p.marks)
holds_read p v addr n bytes h is free read =
    noted p (ReadBack addr bytes) p.events p.marks h (subst (λ (w : View). Allows (object_of w) (ReadBack addr bytes)) (sym is)
    (read_entry v addr n bytes free read)) refl refl h.events h.marks

-- ---- marks and events

pub holds_marked : (p : Parts) (kind : MarkKind) (s : Segment) → Holds p → s.len ≢ 0 → s.addr + s.len ≤ 4294967296
    → Holds (with_entry_at p (Marked kind s) p.memory p.events (p.marks ++ (kind, s) ∷ []))
holds_marked p kind s h some within =
    noted p (Marked kind s) p.events (p.marks ++ (kind, s) ∷ []) h (omega arith, within) refl refl h.events (ap (λ l. l ++ (kind, s) ∷ []) h.marks)

pub holds_unmarked : (p : Parts) → Holds p → Holds (with_entry_at p Unmarked p.memory p.events [])
holds_unmarked p h = noted p Unmarked p.events [] h tt refl refl h.events refl

pub holds_raised : (p : Parts) (event : ℕ) → Holds p → event ≤ 31
    → Holds (with_entry_at p (Signalled Host event) p.memory (slice_set p.events event true) p.marks)
holds_raised p event h small =
    noted p (Signalled Host event) (slice_set p.events event true) p.marks h small refl refl (ap (λ l. slice_set l event true) h.events) h.marks

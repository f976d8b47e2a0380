-- Lists of cookies, of waits and of channels, one more at a time.
use Rattle.std.proofs.Common.{arith}
use Rattle.std.proofs.Common.{◌≡◌, ℕ, ◌+◌, List, [], ◌∷◌, ◌++◌, map, zero-add, Bool, true, false, ap, sym, ◌∙◌, append_assoc, append-nil, Option}
use Rattle.std.proofs.Common.{Some}
use Rattle.std.specs.List.{filter, filter_map, flat_map, list_all, range_with_len}
use Rattle.std.specs.{Prelude.◌==◌, Prelude.if◌then◌else◌, Prelude.slice_get, Option.option_and_then, Option.option_to_list}
use Rattle.std.proofs.{lemmas.List.flat_map_more, lemmas.List.map-append, lemmas.List.Concat.flat_map-append, lemmas.List.Elements.filter-append}
use Rattle.std.proofs.{lemmas.List.Elements.filter_map-append}
use Rattle.dma_io.specs.Command.{text_of}
use Rattle.dma_mem.specs.Places.{Descriptor}
use Rattle.dma_engine.specs.{Object.Object, View.ChannelSchedule, View.RunningTransfer, View.View, View.channels, View.object_of, View.running, View.runs}
use Rattle.dma_engine.proofs.WhatRuns.{below, below_more_law, range_with_len_add}
use Rattle.dma_why.specs.{declared.waits.Cookie.Cookie, Waits.event_wait, Waits.holder, Waits.holders_of}

-- one number more
pub range_more : (a n : ℕ) → range_with_len a (n + 1) ≡ range_with_len a n ++ (a + n) ∷ []
range_more a n = range_with_len_add a n 1

-- the numbers of a range that pass a test, each as a value, and those of one more number
module _ {X : Type 0} (mk : ℕ → X) (p : ℕ → Bool) (before found : List X) (a n k m : ℕ)
    (so_far : found ≡ before ++ map mk (filter p (range_with_len a n))) (is : a + n ≡ k) (next : m ≡ n + 1) where
  kept_more : found ++ map mk (filter p (k ∷ [])) ≡ before ++ map mk (filter p (range_with_len a m))
  kept_more = grind (arith, append_assoc, map-append, filter-append, range_more)

  -- where that number passes, and where it doesn't
  pub kept_pass : p k ≡ true → found ++ mk k ∷ [] ≡ before ++ map mk (filter p (range_with_len a m))
  kept_pass pass = rw pass at kept_more

  pub kept_fail : p k ≡ false → found ≡ before ++ map mk (filter p (range_with_len a m))
  kept_fail fail = sym (append-nil found) ∙ rw fail at kept_more

-- what follows of one channel more
pub channels_more : {X : Type 0} (f : ℕ → List X) (before : List X) (n : ℕ)
    → (before ++ flat_map f (range_with_len 0 n)) ++ f n ≡ before ++ flat_map f (range_with_len 0 (n + 1))
channels_more f before n = grind (arith, flat_map_more, zero-add, range_more)

-- the text of one channel more
pub text_more : (f : ℕ → List (List ℕ)) (before now new : List ℕ) (n : ℕ) → now ≡ before ++ text_of (flat_map f (range_with_len 0 n))
    → new ≡ now ++ text_of (f n) → new ≡ before ++ text_of (flat_map f (range_with_len 0 (n + 1)))
text_more f before now new n so_far more =
    more ∙ ap (λ l. l ++ text_of (f n)) so_far
    ∙ append_assoc before (text_of (flat_map f (range_with_len 0 n))) (text_of (f n))
    ∙ ap (λ l. before ++ l) (sym (flat_map-append (λ line. line ++ 10 ∷ []) (flat_map f (range_with_len 0 n)) (f n)))
    ∙ ap (λ l. before ++ text_of l) (channels_more f [] n)

-- the items of one channel more, and the item of one channel more
pub items_more : {X : Type 0} (f : ℕ → List X) (now new : List X) (n : ℕ) → now ≡ flat_map f (range_with_len 0 n) → new ≡ now ++ f n
    → new ≡ flat_map f (range_with_len 0 (n + 1))
items_more f now new n so_far more = more ∙ ap (λ l. l ++ f n) so_far ∙ channels_more f [] n

-- ---- the wait for an event

-- by whether all cookies that would signal it are on one channel
pub waits_for : (ch event : ℕ) (found : List Cookie) (by : Cookie) → Some by ≡ slice_get found 0
    → (if list_all (λ c. c.ch == by.ch) found then record { ch = ch; event = Some event; by = by } ∷ [] else []) ≡ event_wait ch event found
waits_for ch event found by h = grind (arith)

-- ---- the fronts that hold a transfer

held_here : (t : Descriptor) (x : Option RunningTransfer) → filter_map (holder t) (option_to_list x) ≡ option_to_list (option_and_then (holder t) x)
held_here t x = grind (arith)

-- those on one channel more
pub held_more : (t : Descriptor) (o : Object) (s : List ChannelSchedule) (ch : ℕ) (found : List Cookie) (x : Option Cookie)
    → found ≡ filter_map (holder t) (below o s ch) → x ≡ option_and_then (holder t) (runs o s ch)
    → found ++ option_to_list x ≡ filter_map (holder t) (below o s (ch + 1))
held_more t o s ch found x so_far here = grind (arith, held_here, filter_map-append, below_more_law)

-- those on all channels
pub held_all : (v : View) (front : Option Descriptor) (t : Descriptor) (n : ℕ) (found : List Cookie) → front ≡ Some t → n ≡ channels v
    → found ≡ filter_map (holder t) (below (object_of v) v.schedule n) → found ≡ holders_of v front
unfolding running
held_all v front t n found is many so_far = rw (is, ← many) so_far

-- What a turn writes: it lies in the regions, and in none that is read-only.
use Rattle.std.proofs.Common.{◌≡◌, ◌∙◌, ℕ, zero, suc, ◌≤◌, Bool, true, List, ap, refl, sym, subst, arith, inl, inr, ◌+◌, ◌-◌, ◌<◌, false, ◌&&◌}
use Rattle.std.proofs.Common.{◌||◌, [], ◌∷◌, ◌++◌, length, Result, true≢false}
use Rattle.std.specs.{Prelude.nat_lt, Prelude.not, List.Contains, List.list_any}
use Rattle.std.proofs.Math.Bool.{or-true}
use Rattle.std.proofs.lemmas.Bool.{and_parts, cases_lt, le-leb, lt-ltb, not-true, or_parts, true_from_ne_false}
use Rattle.std.proofs.lemmas.List.Folds.{list_all_at}
use Rattle.dma_mem.specs.Regions.{Piece, bytes_above, end_of, gaps_above, gaps_of, has, image_of, in_order, pieces_of, read_only_of, rises_from}
use Rattle.dma_mem.specs.{Marking.MarkList, Marking.is_marked, Marking.lies_in, declared.segment.Segment.Segment, Lent.lies_in_any, Lent.stores_at}
use Rattle.dma_mem.specs.{declared.marks.MarkKind.TheVariants.Writing, declared.regions.Region.Region}
use Rattle.dma_chan.specs.Written.{KeepsOutside, LiesIn, also_written, range_at, store_ahead, stored_range}
use Rattle.dma_chan.specs.{Stepping.Machine, Stepping.answer_at, Stepping.written_after, Stepping.Wrote, Stepping.after_steps, declared.turn.ChanTurn.ChanTurn}
use Rattle.dma_chan.specs.{declared.exec.Registers.Registers}
use Rattle.dma_chan.specs.{declared.turn.ChanTurn.TheVariants.Moved, declared.turn.FaultKind.FaultKind, Bursts.reaches, Bursts.touched, Channel.ahead_of}
use Rattle.dma_chan.specs.{Channel.state_of, Exec.State, Exec.act, Exec.destination_of, Exec.exec_fetched, NextWrites.written_by}
use Rattle.dma_chan.proofs.{CallWrites.call_writes_no_other, StepsTaken.steps_few, StepsTaken.steps_move, SteppedOver.writes_each, SteppedOver.steps_size}
use Rattle.dma_chan.proofs.{PlacesKept.long_above}
use Rattle.dma_device.specs.Turns.{Outcome, Setup, begins, called_if, follows, machine_in, setup_of, steps_in}
use Rattle.dma_device.specs.{CallSteps.first_in, CallSteps.marks_in, CallSteps.second_in, Thread.is_store, Writes.CallWrote}
use Rattle.dma_device.specs.{Writes.TurnWritesEach, Writes.TurnWritesInRegions}
use Rattle.dma_insn.specs.{declared.chip.ChipInsn.ChipInsn, declared.chip.ChipInsn.TheVariants.St, declared.chip.ChipInsn.TheVariants.StoreZeros}
use Rattle.dma_mem.proofs.{GapMarks.is_marked_at, GapMarks.stores_in, Pieces.first}
use Rattle.dma_device.proofs.Calls.{call_acts, call_is, follows_storeless, takes, turn_image, turn_written}
use borrow.Author.Tests.{ltb-true}

-- ---- a call

pub call_keeps : (made : Bool) (marks : MarkList) (n most : ℕ) (s : Setup) → let o = called_if made marks n most s in
    KeepsOutside o.called.written s.image o.left.image
call_keeps made marks n most s = elim (call_is made marks n most s) [
  | inl rests ↦
      subst (λ (o : Outcome). KeepsOutside o.called.written s.image o.left.image) (sym rests.is) (record { size = refl; bytes = λ a off. refl })
  | inr acts ↦
      subst (λ (o : Outcome). KeepsOutside o.called.written s.image o.left.image) (sym (call_acts marks most acts))
      (call_writes_no_other marks (machine_in s acts.thread) most _ _ _ (takes marks most acts.thread s))
]

call_writes : (made : Bool) (marks : MarkList) (n most : ℕ) (s : Setup) (a : ℕ) → LiesIn (called_if made marks n most s).called.written a
    → CallWrote marks n a made most s
call_writes made marks n most s a i = elim (call_is made marks n most s) [
  | inl rests ↦ let none = subst (λ (o : Outcome). LiesIn o.called.written a) rests.is i in absurd (omega (arith, none))
  | inr acts ↦ (
    acts,
    writes_each marks (machine_in s acts.thread) (steps_in marks most acts.thread s) a (steps_move (takes marks most acts.thread s))
        (subst (λ (o : Outcome). LiesIn o.called.written a) (call_acts marks most acts) i),
  )
]

-- ---- one more step, which is no store

range_none : (next : Result ChipInsn FaultKind) (r : Registers) → is_store next ≡ false → stored_range next r ≡ range_at 0 0
range_none next r off = grind (arith)

by_answer : (r : Segment) (turn : ChanTurn) → r ≡ range_at 0 0 → also_written turn r (range_at 0 0) ≡ range_at 0 0
by_answer r turn none = grind (arith)

by_count : (marks : MarkList) (s : Machine) (k : ℕ) → k ≤ 1 → is_store (ahead_of s.channel) ≡ false → written_after marks s k ≡ range_at 0 0
by_count marks s zero few off = refl
by_count marks s (suc zero) few off =
    by_answer (store_ahead s.channel) (answer_at marks s) (range_none (ahead_of s.channel) s.channel.registers off)
by_count marks s (suc (suc k)) few off = absurd (omega arith)

-- the second call of a turn writes nothing
second_writes_none : (marks : MarkList) (n : ℕ) (first : Outcome)
    → (called_if (follows first.left.device n first.called) marks n 1 first.left).called.written ≡ range_at 0 0
second_writes_none marks n first =
    let goes = follows first.left.device n first.called in
    elim (call_is goes marks n 1 first.left) [
      | inl rests ↦ ap (λ (o : Outcome). o.called.written) rests.is
      | inr acts ↦
          let t = acts.thread in
          ap (λ (o : Outcome). o.called.written) (call_acts marks 1 acts)
          ∙ by_count marks (machine_in first.left t) (steps_in marks 1 t first.left) (steps_few (takes marks 1 t first.left))
          (follows_storeless first.left.device n first.called t acts.on acts.found)
    ]

-- ---- a turn

pub turn_writes_each : TurnWritesEach
turn_writes_each d regions n most e left turn x =
    let marks = marks_in regions in
    let s = setup_of d regions in
    let first = first_in d regions n most in
    let second = second_in d regions n most in
    let goes = follows first.left.device n first.called in
    let one = call_keeps (begins d n most) marks n most s in
    let two = subst (λ (i : List ℕ). KeepsOutside second.called.written first.left.image i) (turn_image x) (call_keeps goes marks n 1 first.left) in
    record {
      each = λ a i. inl (call_writes (begins d n most) marks n most s a (subst (λ (w : Segment). LiesIn w a) (sym (turn_written x)) i));
      no_other = record {
        size = two.size ∙ one.size;
        bytes = λ a off.
            two.bytes a (λ i.
            let none = subst (λ (w : Segment). LiesIn w a) (second_writes_none marks n first) i in
            absurd (omega (arith, none)))
            ∙ one.bytes a (λ i. off (subst (λ (w : Segment). LiesIn w a) (turn_written x) i));
      };
      places = x.kept.places;
      read_only = x.kept.read_only;
      names = x.kept.names;
    }

-- ---- a store that moved

-- the test of one address
abbrev can_write : MarkList → ℕ → ℕ → Bool
can_write marks size a = nat_lt a size && not (is_marked Writing marks a)

reached : (marks : MarkList) (size : ℕ) (xs : List ℕ) (a : ℕ) → reaches Writing marks size xs ≡ true → Contains xs a → can_write marks size a ≡ true
unfolding reaches
reached marks size xs a all i = grind (arith, true_from_ne_false, list_all_at)

store_reaches : (marks : MarkList) (s : State) → (act marks St s).0 ≡ Moved
    → reaches Writing marks (length s.image) (touched (destination_of s.registers)) ≡ true
store_reaches marks s moved = grind arith

zeros_reach : (marks : MarkList) (s : State) → (act marks StoreZeros s).0 ≡ Moved
    → reaches Writing marks (length s.image) (touched (destination_of s.registers)) ≡ true
zeros_reach marks s moved = grind arith

step_reaches : (marks : MarkList) (next : Result ChipInsn FaultKind) (s : State) (a : ℕ) → (exec_fetched marks next s).0 ≡ Moved
    → Contains (written_by next s.registers) a → can_write marks (length s.image) a ≡ true
step_reaches marks next s a h h2 = grind (arith, reached, store_reaches, zeros_reach)

wrote_fits : (marks : MarkList) (s : Machine) (n a : ℕ) → Wrote marks s n a → can_write marks (length s.image) a ≡ true
wrote_fits marks s n a w =
    let u = after_steps marks s w.0 in
    ap (λ (k : ℕ). can_write marks k a) (sym (steps_size marks s w.0)) ∙ step_reaches marks (ahead_of u.channel) (state_of u.channel u.image u.flags) a w.2 w.3

-- ---- the regions

-- below the end of the pieces, what lies in no gap lies in a piece
in_piece : (at : ℕ) (ps : List Piece) (a : ℕ) → rises_from at ps ≡ true → at ≤ a → a < at + length (bytes_above at ps)
    → lies_in_any (gaps_above at ps) a ≡ false → list_any (has a) ps ≡ true
in_piece at [] a order from below gaps = absurd (omega arith)
in_piece at (p ∷ ps) a order from below gaps =
    let f = first at p ps order in
    let gap : Segment = record { addr = at; len = p.addr - at } in
    let parts = or_parts (lies_in a gap) (lies_in_any (gaps_above (end_of p) ps) a) gaps in
    elim (cases_lt a p.addr) [
      | inl early ↦
          let bad : lies_in a gap ≡ true = rw (le-leb at a from, lt-ltb a (at + (p.addr - at)) (omega (arith, early, f.after))) refl in
          absurd (true≢false (sym bad ∙ parts.0))
      | inr begun ↦ elim (cases_lt a (end_of p)) [
        | inl within ↦
            let here : has a p ≡ true = rw (le-leb p.addr a begun, lt-ltb a (end_of p) within) refl in
            ap (λ (b : Bool). b || list_any (has a) ps) here
        | inr past ↦
            ap (λ (b : Bool). has a p || b) (in_piece (end_of p) ps a f.rest past (omega (arith, below, long_above at p ps, f.after, begun)) parts.1)
            ∙ or-true (has a p)
      ]
    ]

-- an address of a region that isn't read-only
abbrev pub IsWritable : List Region → ℕ → Type 0
IsWritable regions a = (list_any (has a) (pieces_of regions) ≡ true) × (lies_in_any (read_only_of regions) a ≡ false)

-- an address that steps over regions wrote
pub wrote_within : (regions : List Region) (s : Machine) (k a : ℕ) → in_order (pieces_of regions) ≡ true
    → length s.image ≡ length (image_of (pieces_of regions)) → Wrote (marks_in regions) s k a → IsWritable regions a
wrote_within regions s k a order size w =
    let marks = marks_in regions in
    let parts = and_parts (nat_lt a (length s.image)) (not (is_marked Writing marks a)) (wrote_fits marks s k a w) in
    let free : is_marked Writing marks a ≡ false = not-true (is_marked Writing marks a) parts.1 in
    let others = stores_at (read_only_of regions) ++ [] in
    let both = or_parts (lies_in_any (gaps_of (pieces_of regions)) a) (is_marked Writing others a)
    (sym (is_marked_at Writing (gaps_of (pieces_of regions)) others a) ∙ free) in
    let writable = or_parts (lies_in_any (read_only_of regions) a) (is_marked Writing [] a) (sym (stores_in (read_only_of regions) [] a) ∙ both.1) in
    (in_piece 0 (pieces_of regions) a order (omega arith) (omega (arith, size, ltb-true a (length s.image) parts.0)) both.0, writable.0)

call_within : (regions : List Region) (n a : ℕ) (made : Bool) (most : ℕ) (s : Setup) → in_order (pieces_of regions) ≡ true
    → length s.image ≡ length (image_of (pieces_of regions)) → CallWrote (marks_in regions) n a made most s → IsWritable regions a
call_within regions n a made most s order size w =
    wrote_within regions (machine_in s w.0.thread) (steps_in (marks_in regions) most w.0.thread s) a order size w.1

pub turn_writes_in_regions : TurnWritesInRegions
turn_writes_in_regions d regions n most e left turn a order x i =
    let s = setup_of d regions in
    let first = first_in d regions n most in
    elim ((turn_writes_each d regions n most e left turn x).each a i) [
      | inl w ↦ call_within regions n a (begins d n most) most s order refl w
      | inr w ↦ call_within regions n a (follows first.left.device n first.called) 1 first.left order
          (call_keeps (begins d n most) (marks_in regions) n most s).size w
    ]

-- A run of a trace, step after step.
use Rattle.std.proofs.Common.{◌≡◌, ◌≢◌, ℕ, suc, ◌+◌, ◌<◌, Bool, true, List, ◌++◌, map, Option, Some, None, refl, sym, ap, subst, ◌∙◌}
use Rattle.std.proofs.Common.{arith, inl, inr, append_assoc, append-nil}
use Rattle.std.specs.Prelude.{nat_lt, slice_get}
use Rattle.std.proofs.lemmas.Bool.{cases_lt, le-ltb, lt-ltb}
use Rattle.dma_mem.specs.Regions.{image_of, in_order, pieces_of, read_only_of}
use Rattle.dma_mem.specs.{Flags.flags_of, Marking.MarkList, declared.regions.Region.Region}
use Rattle.dma_chan.specs.Channel.{ChannelValue, ahead_of, code_of, loaded_on}
use Rattle.dma_chan.specs.{declared.turn.ChanTurn.ChanTurn, declared.turn.ChanTurn.TheVariants.Moved, LentRegions.segment_of, LentRegions.with_gaps_of}
use Rattle.dma_chan.specs.Stepping.{Machine, after_step, after_steps, answer_at}
use Rattle.dma_explain.proofs.InOrder.{marks_kept}
use Rattle.dma_trace.specs.Traced.{End, StopsAfter, end_after, end_of, front_in, if_wave, last_answer, lines, opening, pieces_in, shown_line, tried}
use Rattle.dma_trace.specs.inner.Running.{Ends, Goes, Runs, Waves, machine_over}
use Rattle.dma_trace.specs.{declared.words.Point.Point, declared.options.TraceOptions.TraceOptions, Front.point_of, Wave.executing, Wave.last_text}
use Rattle.dma_trace.proofs.{Steps.pieces_are, Waves.wave_ends}

-- ---- one more step

-- what a step of a channel over regions does
pub record Took (marks : MarkList) (c d : ChannelValue) (rs left : List Region) (flags after : List Bool) (turn : ChanTurn) : Type 0 where
  pub answer : turn ≡ answer_at marks (machine_over c rs flags)
  pub to : machine_over d left after ≡ after_step marks (machine_over c rs flags)

-- a line was printed of the step from one instruction to the next
pub record Step (o : TraceOptions) (n : ℕ) (d : ChannelValue) (rs left : List Region) (point next : Point) (mid new : List ℕ) : Type 0 where
  pub places : map segment_of left ≡ map segment_of rs
  pub read_only : read_only_of left ≡ read_only_of rs
  pub order : in_order (pieces_of left) ≡ true
  pub next_is : next ≡ point_of (n + 1) d
  pub text : new ≡ mid ++ shown_line o (point.steps + 1) point.ahead point.front next.front (pieces_of left)

-- The end of a run with this answer is printed after the lines and the waveform of n steps. Nothing was appended to `err`
-- before.
pub record Closes (o : TraceOptions) (marks : MarkList) (s : Machine) (n : ℕ) (point : Point) (turn : Option ChanTurn) (stored : ℕ) (good : Bool)
    (mid err wave new_out new_err new_wave : List ℕ) : Type 0 where
  pub now : List ℕ
  pub mid_wave : List ℕ
  pub clean : now ≡ err
  pub ends : Ends (end_of turn (slice_get (code_of s.channel) point.front.registers.pc) point.ahead point.steps point.front stored) good mid now new_out new_err
  pub waves : Waves o marks s n wave mid_wave
  pub waved : new_wave ≡ mid_wave ++ if_wave o (last_text (executing point) turn)

-- a run after n steps that moved
module _ {o : TraceOptions} {marks : MarkList} {first : List Region} {s : Machine} {n : ℕ} {c : ChannelValue} {rs : List Region} {flags : List Bool}
    {point : Point} {old mid : List ℕ} (w : Goes o marks first s n c rs flags point old mid) where
  abbrev u : Machine
  u = after_steps marks s n

  -- a step does the same by the marks over the regions before the run
  pub took : (given : MarkList) (left : List Region) {d : ChannelValue} {after : List Bool} {turn : ChanTurn} → marks ≡ with_gaps_of first given
      → turn ≡ answer_at (with_gaps_of rs given) (machine_over c rs flags)
      → machine_over d left after ≡ after_step (with_gaps_of rs given) (machine_over c rs flags) → Took marks c d rs left flags after turn
  took given left same answer to = grind (arith, marks_kept, sym, ap)

  -- the next instruction of the run
  pub point_there : point ≡ point_of n u.channel
  point_there = w.point_is ∙ ap (λ (m : Machine). point_of n m.channel) w.at

  -- the last answer and the number of stored bytes
  module _ {turn : Option ChanTurn} {stored : ℕ} (is : turn ≡ last_answer marks s o.limit n) (bytes : stored ≡ c.stored) where
    -- the end that is printed is that of the run
    end_same : end_of turn (slice_get (code_of s.channel) point.front.registers.pc) point.ahead point.steps point.front stored ≡ end_after o marks s n
    end_same = grind (arith, sym, ap, point_there, refl)

    -- the run ends with this answer
    finish : {good : Bool} (after : List ℕ) {err wave new_out new_err new_wave : List ℕ} → StopsAfter marks s o.limit n
        → after ≡ (after_steps marks s (tried o.limit n)).image → Closes o marks s n point turn stored good mid err wave new_out new_err new_wave
        → Runs o marks (map segment_of first) s good after old err wave new_out new_err new_wave
    finish after {err} run memory e =
        let end = end_of turn (slice_get (code_of s.channel) point.front.registers.pc) point.ahead point.steps point.front stored in
        let same : end ≡ end_after o marks s n = end_same in
        record {
          count = n;
          run = run;
          succeeds = e.ends.succeeds ∙ ap (λ (x : End). x.succeeds) same;
          memory = memory;
          to_out = e.ends.to_out ∙ ap (λ (xs : List ℕ). xs ++ end.says) w.text
              ∙ ap (λ (x : End). (old ++ lines o marks (map segment_of first) s n) ++ x.says) same;
          to_err = e.ends.to_err ∙ ap (λ (xs : List ℕ). xs ++ end.wrong) e.clean ∙ ap (λ (x : End). err ++ x.wrong) same;
          to_wave = wave_ends o marks s n _ _ _ _ _ e.waves (ap executing point_there) is e.waved;
        }

  -- the limit is reached
  pub ends : {stored : ℕ} {good : Bool} {err wave new_out new_err new_wave : List ℕ} → n ≡ o.limit → stored ≡ c.stored
      → Closes o marks s n point None stored good mid err wave new_out new_err new_wave
      → Runs o marks (map segment_of first) s good (image_of (pieces_of rs)) old err wave new_out new_err new_wave
  ends limit bytes e = grind (arith, le-ltb, arith, finish, refl, ap)

-- one more step
module _ {o : TraceOptions} {marks : MarkList} {first : List Region} {s : Machine} {n : ℕ} {c : ChannelValue} {rs : List Region} {flags : List Bool}
    {point : Point} {old mid : List ℕ} {d : ChannelValue} {left : List Region} {after : List Bool} {turn : ChanTurn}
    (w : Goes o marks first s n c rs flags point old mid) (t : Took marks c d rs left flags after turn) where
  abbrev v : Machine
  v = after_steps marks s n

  answer_there : turn ≡ answer_at marks v
  answer_there = t.answer ∙ ap (answer_at marks) w.at

  to_there : machine_over d left after ≡ after_step marks v
  to_there = t.to ∙ ap (after_step marks) w.at

  -- a step that moves keeps the program, and is counted
  kept : turn ≡ Moved → (d.program ≡ c.program) × (d.taken ≡ c.taken + 1)
  kept moves = grind (arith, ap, sym)

  -- the program stays loaded
  pub program_there : turn ≡ Moved → d.program ≡ s.channel.program
  program_there moves = (kept moves).0 ∙ w.program

  pub goes_on : {next : Point} {new : List ℕ} → turn ≡ Moved → Step o n d rs left point next mid new
      → Goes o marks first s (n + 1) d left after next old new
  goes_on {next} moves x =
      let number : n + 1 ≡ suc n = omega arith in
      let to : machine_over d left after ≡ after_steps marks s (suc n) = to_there in
      let places = x.places ∙ w.places in
      let pieces : pieces_of left ≡ pieces_in (map segment_of first) (after_step marks v).image = grind (arith, pieces_are, places, ap, to_there, refl) in
      let front : next.front ≡ front_in (after_step marks v) = ap (λ (p : Point). p.front) x.next_is ∙ ap front_in to_there in
      let line : shown_line o (point.steps + 1) point.ahead point.front next.front (pieces_of left) ≡ shown_line o (suc n) (ahead_of v.channel) (front_in v)
      (front_in (after_step marks v)) (pieces_in (map segment_of first) (after_step marks v).image) = grind (arith, point_there, refl, front, pieces, number) in
      record {
        at = to ∙ ap (after_steps marks s) (sym number);
        moved = λ k less. elim (cases_lt k n) [
          | inl earlier ↦ w.moved k earlier
          | inr ge ↦
              let is : n ≡ k = omega (arith, less, ge) in
              subst (λ (j : ℕ). answer_at marks (after_steps marks s j) ≡ Moved) is (sym answer_there ∙ moves)
        ];
        point_is = x.next_is;
        program = program_there moves;
        taken = omega (arith, (kept moves).1, w.taken);
        places = places;
        read_only = x.read_only ∙ w.read_only;
        text =
            x.text ∙ ap (λ (xs : List ℕ). xs ++ shown_line o (point.steps + 1) point.ahead point.front next.front (pieces_of left)) w.text
            ∙ ap (λ (xs : List ℕ). (old ++ lines o marks (map segment_of first) s n) ++ xs) line
            ∙ append_assoc old (lines o marks (map segment_of first) s n) _
            ∙ ap (λ (k : ℕ). old ++ lines o marks (map segment_of first) s k) (sym number);
      }

  -- the step doesn't move
  pub stops : {stored : ℕ} {good : Bool} {err wave new_out new_err new_wave : List ℕ} → n < o.limit → turn ≢ Moved → stored ≡ c.stored
      → Closes o marks s n point (Some turn) stored good mid err wave new_out new_err new_wave
      → Runs o marks (map segment_of first) s good (image_of (pieces_of left)) old err wave new_out new_err new_wave
  stops less other bytes e =
      let test : nat_lt n o.limit ≡ true = lt-ltb n o.limit less in
      finish w (rw test (ap Some answer_there)) bytes (image_of (pieces_of left))
      (record { moved = w.moved; few = omega (arith, less); stops = λ more e. other (answer_there ∙ e) })
      (rw test (ap (λ (m : Machine). m.image) to_there))
      e

-- ---- the first step

-- nothing has happened before the first step
pub begins : (o : TraceOptions) (marks : MarkList) (program : List ℕ) (first : List Region) (c : ChannelValue) (flags : List Bool) (point : Point)
    (out : List ℕ) → c ≡ loaded_on o.bus (record { bytes = program; cost = None }) → flags ≡ flags_of o.events → point ≡ point_of 0 c
    → Goes o marks first (opening o program (image_of (pieces_of first))) 0 c first flags point out out
begins o marks program first c flags point out channel events is = grind (arith, refl, arith, ap, sym, append-nil)

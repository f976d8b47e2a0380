-- A transfer's program that is run alone: what it has copied after each instruction, and how it ends.
use Rattle.std.proofs.Common.{◌≡◌, ◌≢◌, ℕ, zero, suc, ◌+◌, ◌-◌, ◌≤◌, ◌<◌, true, false, List, length, None, Ok, Err, refl, sym, ap}
use Rattle.std.proofs.Common.{◌∙◌, arith, add-one, inl, inr}
use Rattle.std.specs.{Prelude.Result, Prelude.IfOk, Prelude.IfErr, List.Contains, List.zip}
use Rattle.std.proofs.lemmas.Bool.{cases_lt, false_from_ne_true}
use Rattle.dma_insn.specs.{declared.chip.ChipInsn.ChipInsn, AssemblyText.most_program_bytes}
use Rattle.dma_insn.specs.declared.chip.ChipInsn.TheVariants.{St}
use Rattle.dma_mem.specs.Places.{Descriptor, sources, destinations, lies_below, size_of}
use Rattle.dma_mem.specs.{Flags.all_clear, Image.laid, Image.put, Marking.MarkList, Marking.is_marked, Marking.meets_mark, Pages.Paged, Rules.IsTransfer}
use Rattle.dma_mem.specs.{declared.marks.MarkKind.MarkKind, declared.marks.MarkKind.TheVariants.Reading, declared.marks.MarkKind.TheVariants.Writing}
use Rattle.dma_mem.proofs.MarkHits.{list_any_of}
use Rattle.dma_chan.specs.declared.turn.ChanTurn.TheVariants.{Moved, Waiting, Ended, Fault}
use Rattle.dma_chan.specs.{declared.turn.ChanTurn.ChanTurn, declared.run.RunEnd.RunEnd, declared.run.RunFault.RunFault}
use Rattle.dma_chan.specs.declared.run.RunFault.TheVariants.{ProgramTooLong, PageRefused, NoMemory}
use Rattle.dma_chan.specs.{Channel.step_of, Compiled.compiled, Compiled.cost, Exec.State, Exec.read_at}
use Rattle.dma_chan.specs.Layer.{Shared, effect_of, step_at}
use Rattle.dma_chan.specs.{Pace.MovesFor, Pace.just_loaded, Stepping.Machine, Stepping.after_steps, inner.At.IsAt}
use Rattle.dma_chan.specs.Run.{GoesOnFor, RunsTo, RunsOver, StopsAfter, opening, turn_after}
use Rattle.dma_chan.specs.{Fails.NeedsPage, Fails.RunFails, Laws.CompiledCopiesAlone, Laws.CopiesAll, Laws.IsUnmarked}
use Rattle.dma_chan.specs.Traffic.{member, burst, read_places, stored_after, written_places}
use Rattle.dma_chan.proofs.{CopyAlone.laid_over_all, CopyAlone.laid_over_more, CopyAlone.laid_none, OthersKept.none_met}
use Rattle.dma_chan.proofs.{Pace.agrees_at, Pace.all_move, Pace.comes_to, Pace.last_ends, Pace.late_ends, Pace.shared, PieceCode.compiled_bytes}
use Rattle.dma_chan.proofs.{LayerLaws.is_store, RunAlone.HasRun, RunAlone.run_on, RunAlone.turn_here, ShapeLaws.shape_is, ShapeLaws.stored_is}
use Rattle.dma_chan.specs.{declared.bus.Bus.TheVariants.Ideal}
use Rattle.dma_chan.specs.declared.run.RunEnd.TheVariants as ends

-- ---- what one instruction copies

-- an instruction that is no store changes no byte
kept_by : (i : ChipInsn) (reads writes : List ℕ) (marks : MarkList) (m : Shared) → i ≢ St → (effect_of i reads writes marks m).1.image ≡ m.image
kept_by i reads writes marks m other = grind (arith)

-- a store over no mark puts its bytes
put_by : (i : ChipInsn) (reads writes : List ℕ) (marks : MarkList) (m : Shared) → i ≡ St → meets_mark Writing marks writes ≡ false
    → (effect_of i reads writes marks m).1.image ≡ put m.image (zip writes (read_at m.image reads))
put_by i reads writes marks m is free = rw (is, free) refl

unmarked_at : (kind : MarkKind) (marks : MarkList) (places : List ℕ) (a : ℕ) → meets_mark kind marks places ≡ false → Contains places a
    → is_marked kind marks a ≡ false
unfolding meets_mark
unmarked_at kind marks places a none i =
    false_from_ne_true _ (λ met. let both = sym none ∙ list_any_of (is_marked kind marks) places a i met in absurd cc)

module _ (t : Descriptor) (n : ℕ) (image : List ℕ) (marks : MarkList) (m : Shared) (h : IsTransfer t)
    (free : meets_mark Writing marks (written_places t n) ≡ false) (so_far : m.image ≡ laid image t (stored_after t n)) where
  copied_on : (step_at t n marks m).1.image ≡ laid image t (stored_after t (n + 1))
  copied_on =
      let k = stored_after t n in
      let over = so_far ∙ sym (laid_over_all image t k) in
      elim (is_store (member t n)) [
        | inl is ↦ put_by (member t n) (read_places t n) (written_places t n) marks m is free
            ∙ ap (λ (b : List ℕ). put b (zip (written_places t n) (read_at b (read_places t n)))) over
            ∙ laid_over_more image t k (burst t n) h ∙ laid_over_all image t (k + burst t n) ∙ ap (laid image t) (sym ((stored_is t h).by_store n is))
        | inr other ↦ kept_by (member t n) (read_places t n) (written_places t n) marks m other ∙ so_far
            ∙ ap (laid image t) (sym ((stored_is t h).by_other n other))
      ]

-- ---- a run over a memory that has the transfer's ranges

module _ (t : Descriptor) (marks : MarkList) (image : List ℕ) (h : IsTransfer t) (none : t.wait ≡ None) (below : lies_below t (length image) ≡ true)
    (free : IsUnmarked marks t) where
  abbrev bytes : List ℕ
  bytes = (compiled t).bytes

  abbrev here : ℕ → Machine
  here n = after_steps marks (just_loaded t image all_clear) n

  -- the number of the last instruction
  abbrev last : ℕ
  last = cost t - 1

  last_is : last + 1 ≡ cost t
  last_is = omega (arith, (shape_is t h).some)

  reads_free : (n : ℕ) → meets_mark Reading marks (read_places t n) ≡ false
  reads_free n =
      none_met Reading marks (sources t) (stored_after t n) (burst t n) (λ a i. unmarked_at Reading marks (sources t) a free.0 i)

  writes_free : (n : ℕ) → meets_mark Writing marks (written_places t n) ≡ false
  writes_free n =
      none_met Writing marks (destinations t) (stored_after t n) (burst t n) (λ a i. unmarked_at Writing marks (destinations t) a free.1 i)

  moves : (n : ℕ) → n < cost t → MovesFor marks (just_loaded t image all_clear) n
  moves n l = all_move t marks image all_clear h below (rw none tt) reads_free writes_free n l

  is_at : (n : ℕ) → n < cost t → IsAt t n (here n).image (here n).channel
  is_at n l = comes_to t marks image all_clear h below n (moves n l)

  agreed : (n : ℕ) (l : n < cost t) → (step_of marks (here n).channel (here n).image (here n).flags).1.image ≡ (step_at t n marks (shared (here n))).1.image
  agreed n l = (agrees_at t marks image all_clear h below n (is_at n l)).image

  copied : (n : ℕ) → n < cost t → (here n).image ≡ laid image t (stored_after t n)
  copied zero l = sym (laid_none image t) ∙ ap (laid image t) (sym (stored_is t h).none)
  copied (suc n) l =
      let before : n < cost t = omega (arith, l) in
      rw add-one at (agreed n before ∙ copied_on t n image marks (shared (here n)) h (writes_free n) (copied n before))

  runs : (n : ℕ) → n < cost t → HasRun marks bytes (opening image) n (here n).channel (here n).image (here n).flags
  runs zero l = record { goes_on = λ k f. absurd (omega (arith, f)); here = refl; code = refl; is_loaded = refl; count = refl }
  runs (suc n) l = rw add-one at (run_on (runs n (omega (arith, l))) refl (moves (suc n) l n (omega arith)) refl refl refl)

  ends_there : turn_after marks bytes (opening image) last ≡ step_of marks (here last).channel (here last).image (here last).flags
  ends_there = turn_here (runs last (omega (arith, last_is)))

  -- the last instruction ends the run
  last_turn : (turn_after marks bytes (opening image) last).0 ≡ Ended
  last_turn =
      ap (λ (x : ChanTurn × State). x.0) ends_there
      ∙ last_ends t marks image all_clear h below last (is_at last (omega (arith, last_is))) last_is

  last_image : (turn_after marks bytes (opening image) last).1.image ≡ laid image t (size_of t)
  last_image =
      let l : last < cost t = omega (arith, last_is) in
      let end : member t last ≢ St = λ is. let both = sym (late_ends t h last (omega (arith, last_is))) ∙ is in cc in
      ap (λ (x : ChanTurn × State). x.1.image) ends_there ∙ agreed last l
      ∙ kept_by (member t last) (read_places t last) (written_places t last) marks (shared (here last)) end ∙ copied last l
      ∙ ap (laid image t) (stored_is t h).all

  -- the run stops nowhere before
  goes : GoesOnFor marks bytes (opening image) last
  goes = (runs last (omega (arith, last_is))).goes_on

  -- no run goes on past the last instruction
  within : (n : ℕ) → GoesOnFor marks bytes (opening image) n → n < cost t
  within n on = elim (cases_lt last n) [
    | inl past ↦ let both : Ended ≡ Moved = sym last_turn ∙ on last past in absurd cc
    | inr le ↦ omega (arith, last_is, le)
  ]

  stops_last : (limit n : ℕ) (turn : ChanTurn) (after : State) → turn ≢ Moved → StopsAfter marks bytes (opening image) limit n turn after → n ≡ last
  stops_last limit n turn after stops stop =
      let l = within n stop.goes_on in
      elim (cases_lt n last) [
        | inl early ↦ absurd (stops (sym stop.answer ∙ goes n early))
        | inr le ↦ omega (arith, last_is, le, l)
      ]

  decides : (limit : ℕ) (how : RunEnd) (after : State) → cost t ≤ limit → RunsTo marks bytes (opening image) limit how after
      → (how ≡ ends.Ended (cost t)) × (after.image ≡ laid image t (size_of t))
  decides limit ends.OutOfTurns after enough r = absurd (omega (arith, within limit r.0, enough))
  decides limit (ends.Ended turns) after enough r =
      let e : r.0 ≡ last = stops_last limit r.0 Ended after (λ z. cc) r.2 in (
        ap ends.Ended (r.1 ∙ ap (λ (k : ℕ). k + 1) e ∙ last_is),
        sym (ap (λ (s : State). s.image) r.2.ends_at) ∙ ap (λ (k : ℕ). (turn_after marks bytes (opening image) k).1.image) e ∙ last_image,
      )
  decides limit (ends.Waiting x) after enough r =
      let e : r.0 ≡ last = stops_last limit r.0 (Waiting x) after (λ z. cc) r.1 in
      let both : Ended ≡ Waiting x = sym last_turn ∙ ap (λ (k : ℕ). (turn_after marks bytes (opening image) k).0) (sym e) ∙ r.1.answer in absurd cc
  decides limit (ends.Fault kind pc) after enough r =
      let e : r.0 ≡ last = stops_last limit r.0 (Fault kind) after (λ z. cc) r.2 in
      let both : Ended ≡ Fault kind = sym last_turn ∙ ap (λ (k : ℕ). (turn_after marks bytes (opening image) k).0) (sym e) ∙ r.2.answer in absurd cc

  -- a page that was refused
  refused_at : (limit turns : ℕ) (new : Paged) → NeedsPage marks bytes (opening image) limit turns new
      → (turns < cost t) × (new.image ≡ laid image t (stored_after t turns))
  refused_at limit turns new needs =
      let l = within turns needs.goes_on in
      (l, sym needs.ends_at ∙ ap (λ (s : State). s.image) (runs turns l).here ∙ copied turns l)

-- ---- the law

fits : (t : Descriptor) → IsTransfer t → length (compiled t).bytes ≤ most_program_bytes
unfolding compiled
fits t h = omega (arith, compiled_bytes Ideal t h)

copies_by : (t : Descriptor) (marks : MarkList) (old new : Paged) (limit : ℕ) (result : Result RunEnd RunFault) → IsTransfer t → t.wait ≡ None
    → lies_below t (length old.image) ≡ true → IsUnmarked marks t → cost t ≤ limit
    → IfOk result (λ how. RunsOver marks (compiled t).bytes old.image limit how new.image)
    → IfErr result (λ fault. RunFails marks (compiled t).bytes old limit fault new) → CopiesAll t old result new
copies_by t marks old new limit (Ok how) h none below free enough ok err =
    let d = decides t marks old.image h none below free limit how ok.0 enough ok.1 in (d.0, sym ok.2 ∙ d.1)
copies_by t marks old new limit (Err (PageRefused turns)) h none below free enough ok err =
    refused_at t marks old.image h none below free limit turns new err.1
copies_by t marks old new limit (Err NoMemory) h none below free enough ok err = err.1
copies_by t marks old new limit (Err ProgramTooLong) h none below free enough ok err = absurd (omega (arith, fits t h, err.0))

pub compiled_copies_alone : CompiledCopiesAlone
compiled_copies_alone = copies_by

-- The turns that were taken on a shift.
use Rattle.std.proofs.Common.{◌≡◌, ℕ, zero, suc, ◌+◌, ◌-◌, ◌<◌, true, List, [], ◌∷◌, ◌++◌, length, sum_by, take, map, refl, sym, ap, ◌∙◌, subst, inl, inr, arith, add-one}
use Rattle.std.specs.{Prelude.Result, Prelude.slice_index_or, Prelude.slice_set, List.All}
use Rattle.std.proofs.lemmas.Bool.{cases_eq}
use Rattle.std.proofs.lemmas.List.{get_or-map, get_or-set_other, get_or-set_same, get_or_default, length-map, length-set, map-append, map-set, take_more}
use Rattle.std.proofs.lemmas.List.Elements.{All-head, All-push, All-tail}
use Rattle.std.proofs.{Math.Seq.map-set_same, lemmas.List.Sums.sum_by-append}
use Rattle.dma_engine.specs.Interleaved.{Interleaves, JobTurn, channel_at, rotation, turns_taken}
use Rattle.dma_mem.specs.declared.call.Call.TheVariants.{Step}
use Rattle.dma_engine.specs.{Answer.takes_memory, Turn.finishes_in, Turn.steps_in, Turn.turn, View.View}
use Rattle.dma_engine.specs.{declared.fault.EngineFault.EngineFault, declared.turn.Turn.Turn}
use Rattle.dma_engine.proofs.Interleavings.{interleaves_more, taken_append}
use Rattle.dma_work.specs.Shift.{AreNewSeats, HasNoTurn, IsDone, IsInTurn, LacksMemory, ShiftState, TakesATurn, TakesNext, TakesStep}
use Rattle.dma_work.specs.Shift.{TookAllTurns, TookTurnsOn, channels_of_job, channels_taken, jobs_of}
use Rattle.dma_work.specs.{declared.job.Job.Job, declared.seat.Seat.Seat, declared.worker.Totals.Totals, Desk.DeskState, Desk.stepped_book}
use Rattle.dma_work.specs.inner.InTurn.{GoesOn, HasLeft, IsAtWork}

-- ---- one turn more

-- A step of the channel that the seats want next.
pub in_turn_more : (opening : View) (jobs : List Job) (old new : DeskState) (worker ch : ℕ) (seats now : List Seat) → TakesStep ch old new
    → TakesNext worker ch seats now → IsInTurn opening jobs old.engine.view old.book seats → IsInTurn opening jobs new.engine.view new.book now
in_turn_more opening jobs old new worker ch seats now step next h =
    let seat = next.seat in
    let was = slice_index_or seats worker seat in
    let t : JobTurn = record { job = worker; channel = ch } in
    let before = turns_taken opening h.1.turns in
    let r = (turn before.1 ch).0 in
    let all : turns_taken opening (h.1.turns ++ t ∷ []) ≡ (before.0 ++ r ∷ [], (turn before.1 ch).1) = taken_append opening h.1.turns (t ∷ []) in
    let found : old.engine.view ≡ before.1 = h.1.leads in
    let book : new.book ≡ stepped_book old.book r = step.book ∙ ap (λ v. stepped_book old.book (turn v ch).0) found in
    let there : worker < length (map channels_taken seats) = omega (arith, next.there, length-map seats channels_taken) in
    let its : channels_taken seat ≡ slice_index_or (map channels_taken seats) worker [] ++ ch ∷ [] =
    ap (rotation seat.job.first seat.job.last) (next.taken seat ∙ add-one was.taken)
    ∙ ap (λ c. rotation seat.job.first seat.job.last was.taken ++ c ∷ []) (sym (next.channel seat))
    ∙ ap (λ (j : Job). rotation j.first j.last was.taken ++ ch ∷ []) (next.job seat)
    ∙ ap (λ l. l ++ ch ∷ []) (sym (get_or-map channels_taken seats worker seat [] next.there)) in (
      ap jobs_of next.now ∙ map-set_same (λ (s : Seat). s.job) seats worker seat seat (next.job seat) ∙ h.0,
      record {
        turns = h.1.turns ++ t ∷ [];
        interleaved = subst (λ l. Interleaves l (h.1.turns ++ t ∷ []))
            (sym (ap (map channels_taken) next.now ∙ map-set channels_taken seats worker seat ∙ ap (slice_set (map channels_taken seats) worker) its))
            (interleaves_more (map channels_taken seats) h.1.turns t there h.1.interleaved);
        leads = step.view ∙ ap (λ v. (turn v ch).1) found ∙ sym (ap (λ (x : List (Result Turn EngineFault) × View). x.1) all);
        steps = omega (
          arith,
          ap (λ (b : Totals). b.steps) book,
          h.1.steps,
          sum_by-append steps_in before.0 (r ∷ []),
          ap
              (λ (x : List (Result Turn EngineFault) × View). sum_by steps_in x.0) all,
        );
        finished = omega (
          arith,
          ap (λ (b : Totals). b.finished) book,
          h.1.finished,
          sum_by-append finishes_in before.0 (r ∷ []),
          ap
              (λ (x : List (Result Turn EngineFault) × View). sum_by finishes_in x.0) all,
        );
      },
    )

-- ---- a new rota

none_taken : (seats : List Seat) → All (λ (s : Seat). s.taken ≡ 0) seats → (k : ℕ) → [] ≡ slice_index_or (map channels_taken seats) k []
none_taken [] fresh k = refl
none_taken (s ∷ seats) fresh zero = sym (ap (rotation s.job.first s.job.last) (All-head (λ (s : Seat). s.taken ≡ 0) s seats fresh))
none_taken (s ∷ seats) fresh (suc k) = none_taken seats (All-tail (λ (s : Seat). s.taken ≡ 0) s seats fresh) k

pub in_turn_new : (opening : View) (jobs : List Job) (v : View) (book : Totals) (seats : List Seat) → opening ≡ v → book.steps ≡ 0 → book.finished ≡ 0
    → AreNewSeats jobs seats → IsInTurn opening jobs v book seats
in_turn_new opening jobs v book seats same steps finished new = grind (arith, none_taken, sym)

-- one more seat of it
pub new_more : (jobs : List Job) (n : ℕ) (job : Job) (seats : List Seat) (seat : Seat) → n < length jobs → slice_index_or jobs n job ≡ job → seat.job ≡ job
    → seat.taken ≡ 0 → AreNewSeats (take n jobs) seats → AreNewSeats (take (n + 1) jobs) (seats ++ seat ∷ [])
new_more jobs n job seats seat less at is fresh new = (
  map-append (λ (s : Seat). s.job) seats (seat ∷ []) ∙ ap (λ l. l ++ seat.job ∷ []) new.0
      ∙ ap (λ j. take n jobs ++ j ∷ []) (is ∙ sym at) ∙ sym (take_more jobs n job less),
  All-push (λ (s : Seat). s.taken ≡ 0) seats seat new.1 fresh,
)

-- a turn on the channel that is next
pub takes_next : (worker : ℕ) (seats now : List Seat) (was seat : Seat) → seats ≡ now → worker < length seats → was ≡ slice_index_or seats worker was
    → (seat.job ≡ was.job) × (seat.taken ≡ was.taken + 1) → TakesNext worker was.next now (slice_set now worker seat)
takes_next worker seats now was seat same less at more =
    let item : (s : Seat) → was ≡ slice_index_or now worker s = λ s. at ∙ get_or_default seats worker was s less ∙ ap (λ l. slice_index_or l worker s) same in
    record {
      seat = seat;
      there = subst (λ l. worker < length l) same less;
      now = refl;
      job = λ s. more.0 ∙ ap (λ (x : Seat). x.job) (item s);
      taken = λ s. more.1 ∙ ap (λ (x : Seat). x.taken + 1) (item s);
      channel = λ s.
          was.there ∙ ap (λ (j : Job). channel_at j.first j.last was.taken) (sym more.0)
          ∙ ap (λ (x : Seat). channel_at seat.job.first seat.job.last x.taken) (item s);
    }

-- ---- a turn that is out of memory

pub out_of_memory : (opening : View) (jobs : List Job) (old new : DeskState) (worker ch : ℕ) (seats after : List Seat) → LacksMemory ch old new
    → TakesNext worker ch seats after → IsInTurn opening jobs old.engine.view old.book seats
    → IsAtWork opening jobs new.engine.view new.book seats true
out_of_memory opening jobs old new worker ch seats after lacks next h =
    let same : new.engine.view ≡ old.engine.view = lacks.still.0 in record {
      in_turn = (
        h.0,
        subst (λ b. TookTurnsOn opening (map channels_taken seats) new.engine.view b) (sym lacks.still.1.0)
            (subst (λ v. TookTurnsOn opening (map channels_taken seats) v old.book) (sym same) h.1),
      );
      starved = λ _. (
        worker,
        record { channel = ch; after = after; next = next; memory = ap (λ v. takes_memory v (Step ch)) same ∙ lacks.memory },
      );
    }

-- ---- the turns that are left

pub left_is : (worker : ℕ) (seats now : List Seat) (seat : Seat) → seats ≡ now → worker < length seats → seat ≡ slice_index_or seats worker seat
    → HasLeft worker (seat.job.turns - seat.taken) now
left_is worker seats now seat same less at s _ =
    let item : seat ≡ slice_index_or now worker s = at ∙ get_or_default seats worker seat s less ∙ ap (λ l. slice_index_or l worker s) same in
    omega (arith, ap (λ (x : Seat). x.taken) item, ap (λ (x : Seat). x.job.turns) item, seat.within)

-- one turn fewer is left of the worker's job
pub left_less : (worker ch more left : ℕ) (old new : List Seat) → TakesNext worker ch old new → more ≡ left + 1 → HasLeft worker more old
    → HasLeft worker left new
left_less worker ch more left old new next is had s _ =
    let seat = next.seat in
    let item : slice_index_or new worker s ≡ seat = ap (λ l. slice_index_or l worker s) next.now ∙ get_or-set_same old worker seat s next.there in
    omega (
      arith,
      ap (λ (x : Seat). x.taken) item,
      ap (λ (x : Seat). x.job.turns) item,
      next.taken s,
      ap (λ (j : Job). j.turns) (next.job s),
      had s next.there,
      is,
    )

next_done : (worker ch k : ℕ) (old new : List Seat) → TakesNext worker ch old new → HasNoTurn k old → HasNoTurn k new
next_done worker ch k old new next done s less =
    let many : length new ≡ length old = ap length next.now ∙ length-set old worker next.seat in
    elim (cases_eq k worker) [
      | inl same ↦
          let was = subst (λ i. HasNoTurn i old) same done s next.there in
          absurd (omega (arith, was, next.taken s, ap (λ (j : Job). j.turns) (next.job s), next.seat.within))
      | inr other ↦
          let item : slice_index_or new k s ≡ slice_index_or old k s =
          ap (λ l. slice_index_or l k s) next.now ∙ get_or-set_other old worker k next.seat s other in
          subst IsDone (sym item) (done s (omega (arith, less, many)))
    ]

pub goes_on_then : (a b c : ShiftState) → GoesOn a b → GoesOn b c → GoesOn a c
goes_on_then a b c first next = record {
  starved = λ was. next.starved (first.starved was);
  done = λ worker none. next.done worker (first.done worker none);
  many = next.many ∙ first.many;
}

pub goes_on_turn : (worker : ℕ) (old new : ShiftState) → TakesATurn worker old new → GoesOn old new
goes_on_turn worker old new turn = record {
  starved = λ was. absurd (cc (was, turn.not_starved.0));
  done = λ k. next_done worker turn.channel k old.seats new.seats turn.next;
  many = ap length turn.next.now ∙ length-set old.seats worker turn.next.seat;
}

-- ---- all turns

all_channels : (seats : List Seat) → All IsDone seats → map channels_taken seats ≡ map channels_of_job (jobs_of seats)
all_channels [] done = refl
all_channels (s ∷ seats) done =
    ap (λ c. c ∷ map channels_taken seats) (ap (rotation s.job.first s.job.last) (All-head IsDone s seats done))
    ∙ ap (λ l. channels_of_job s.job ∷ l) (all_channels seats (All-tail IsDone s seats done))

pub all_taken : (opening : View) (jobs : List Job) (v : View) (book : Totals) (seats : List Seat) → All IsDone seats → IsInTurn opening jobs v book seats
    → TookAllTurns opening jobs v book
all_taken opening jobs v book seats done h =
    subst (λ l. TookTurnsOn opening l v book) (all_channels seats done ∙ ap (map channels_of_job) h.0) h.1

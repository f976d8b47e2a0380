use Rattle.std.proofs.Common.{◌≡◌, ◌≤◌, length, take}
use Rattle.std.specs.Prelude.{vec_capacity, vec_len}
use Rattle.dma_work.specs.Shift.{AreNewSeats}
use Rattle.dma_work.proofs.rota.Seats.new.Given as goal

abbrev pub invariant-loop-at : goal.invariant-loop-at
invariant-loop-at l = record {
  count : vec_len l.seats ≡ l.at;
  room : length l.jobs ≤ vec_capacity l.seats;
  new : AreNewSeats (take l.at l.jobs) l.seats.items;
}

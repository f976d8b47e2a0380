-- How far a program that a DMAGO starts has got after a turn.
use Rattle.std.proofs.Common.{◌≡◌, ℕ, ◌-◌, ◌<◌, Bool, true, false, List, [], Some, refl, subst, arith, inl, inr}
use Rattle.std.specs.Prelude.{if◌then◌else◌, slice_get}
use Rattle.dma_explain.specs.Explains.{all_of}
use Rattle.dma_chan.specs.{Channel.ChannelValue, Stepping.machine}
use Rattle.dma_explain.proofs.{CallsAmongOthers.done_at, SinceLoads.all_done, SinceLoads.part_first, SinceLoads.runs_so, SinceLoads.worked_part}
use Rattle.dma_device.specs.Dmago.{image_in}
use Rattle.dma_device.specs.Underway.{DmagoUnderway, HasCountsOf, HasDone, KilledKeepsCounts}
use Rattle.dma_device.specs.{Thread.is_at_next, Thread.killed, declared.thread.Thread.Thread}
use Rattle.dma_device.proofs.Driven.{Call, Copying, Drive, Stands, Steps, along, copying, drive, one_at, turned, two_at}

-- no more is known of a call than that its program goes on or has ended
pub steps_plain : (c : Copying) (n : ℕ) (k : Call) → Steps c n (Unit {0}) (λ th. Unit {0}) (Unit {0}) (λ th. Unit {0}) k
steps_plain c n k = grind arith

module _ (x : Drive) where
  abbrev c : Copying
  c = copying x

  -- what is done once the program has ended, and while it goes on
  stands_done : (image : List ℕ) (th : Thread) → Stands c (Unit {0}) (λ t. Unit {0}) image th
      → HasDone x.go x.work x.count c.first image th.channel
  stands_done image th (inl over) = record {
    done = all_of x.work;
    count = over.0.stored;
    reached = (x.count, omega arith, all_done c.start c.program x.work x.count c.explains);
    bytes = part_first x.work c.first (all_of x.work) image c.explains.work c.fits (worked_part x.work c.first image over.0.done);
  }
  stands_done image th (inr going) =
      let u = machine th.channel image [] in
      let so = runs_so c.start c.program x.work x.count c.first c.explains u going.0.runs in
      record {
        done = done_at c.start c.program u;
        count = so.count;
        reached = so.reached;
        bytes = part_first x.work c.first (done_at c.start c.program u) image c.explains.work c.fits so.part;
      }

  done_after : (k : ℕ) (th : Thread) → k < x.run.count → slice_get (x.run.after k).threads x.go.channel ≡ Some th
      → HasDone x.go x.work x.count c.first (image_in (x.run.left k)) th.channel
  done_after k th less is =
      let g = along x (λ j. Unit {0}) (λ j th. Unit {0}) tt
      (λ j l. turned x j l (steps_plain c x.go.channel (one_at x j)) (steps_plain c x.go.channel (two_at x j))) k less in
      let same : g.thread ≡ th = let here = g.is in cc in
      subst (λ (t : Thread). HasDone x.go x.work x.count c.first (image_in (x.run.left k)) t.channel) same
      (stands_done (image_in (x.run.left k)) g.thread g.holds)

pub dmago_underway : DmagoUnderway
dmago_underway go work n run h k th less is = done_after (drive go work n run h k less) k th less is

-- ---- what a thread shows

-- what it shows, by whether CPC is the address of the next instruction
abbrev pub shown_if : Bool → Thread → ChannelValue
shown_if here t =
    if here then t.channel else record (t.channel) {
      registers = record (t.channel.registers) { pc = t.channel.registers.pc - 2 };
      taken = t.channel.taken - 1;
    }

killed_shows : (here : Bool) (t : Thread) → HasCountsOf (shown_if here (killed t)) (shown_if here t)
killed_shows true t = record { registers = refl; taken = refl; stored = refl }
killed_shows false t = record { registers = refl; taken = refl; stored = refl }

shows_stored : (here : Bool) (t : Thread) → (shown_if here t).stored ≡ t.channel.stored
shows_stored true t = refl
shows_stored false t = refl

pub killed_keeps_counts : KilledKeepsCounts
killed_keeps_counts = record {
  kept = λ t. record { registers = refl; taken = refl; stored = refl };
  seen = λ t. killed_shows (is_at_next t) t;
  stored = λ t. shows_stored (is_at_next t) t;
}

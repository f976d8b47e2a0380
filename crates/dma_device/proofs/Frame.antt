-- What turns and writes leave as it is.
use Rattle.std.proofs.Common.{arith}
use Rattle.std.proofs.Common.{◌≡◌, ◌≢◌, ◌⊎◌, ℕ, ◌%◌, ◌/◌, Bool, List, inl, inr, length, refl}
use Rattle.std.proofs.{lemmas.Bool.cases_eq, lemmas.Bool.eqb-true, lemmas.List.length-set}
use Rattle.dma_mem.specs.{Marking.MarkList, Regions.Piece}
use Rattle.dma_device.specs.Device.{DeviceValue, debugged, is_interrupt, with_thread}
use Rattle.dma_device.specs.Frame.{IsSame, KeepsThreads, LeavesOthers, MayChange, Names, TurnLeavesOthers, WriteLeavesThreads}
use Rattle.dma_device.specs.{declared.thread.Thread.Thread, Faults.TheChannel, Faults.TheManager, Faults.Who}
use Rattle.dma_device.specs.{Turns.Setup, Turns.called_if}
use Rattle.dma_device.proofs.{Calls.call_keeps, Calls.turn_keeps, Cases.branch, Cases.debug_cases, Cases.write_cases}
use Rattle.dma_device.proofs.{Found.set_other}
use Rattle.dma_device.specs.Offsets as offset

-- ---- a turn

call_leaves : (d : DeviceValue) (made : Bool) (marks : MarkList) (n most : ℕ) (s : Setup) → LeavesOthers n d s.device
    → LeavesOthers n d (called_if made marks n most s).left.device
call_leaves d made marks n most s h = grind (arith, call_keeps, set_other, length-set)

pub turn_leaves_others : TurnLeavesOthers
turn_leaves_others d e regions left n most turn x =
    turn_keeps x (LeavesOthers n d) (λ made marks m s h. call_leaves d made marks n m s h)
    (record { threads = λ m other. refl; count = refl; manager = refl; config = refl; inten = refl; dbginst0 = refl; dbginst1 = refl })

-- ---- a write

-- threads are the same in a device with the same manager and threads
same_who : (who : Who) (d e : DeviceValue) → e.threads ≡ d.threads → e.manager ≡ d.manager → IsSame who d e
same_who who d e h h2 = grind (arith)

-- all but the manager are the same
same_channel : (who : Who) (d e : DeviceValue) → e.threads ≡ d.threads → who ≢ TheManager → IsSame who d e
same_channel who d e h h2 = grind (arith)

-- all but thread n are the same
same_elsewhere : (who : Who) (n : ℕ) (t : Thread) (d : DeviceValue) → who ≢ TheChannel n → IsSame who d (with_thread n t d)
same_elsewhere who n t d h = grind (arith, set_other)

decide_who : (who other : Who) → (who ≡ other) ⊎ (who ≢ other)
decide_who who other = grind (arith, cases_eq)

-- If all threads but one are the same, a thread that isn't is this one.
is_that : (who one : Who) (d e : DeviceValue) → (who ≢ one → IsSame who d e) → ¬ IsSame who d e → who ≡ one
is_that who one d e others differs = elim (decide_who who one) [ inl same ↦ same | inr apart ↦ absurd (differs (others apart)) ]

-- a write may change one thread, and leaves the others
changes_one : (one : Who) (at value : ℕ) (d e : DeviceValue) → MayChange one at value d → ((who : Who) → who ≢ one → IsSame who d e)
    → length e.threads ≡ length d.threads → e.config ≡ d.config → KeepsThreads at value d e
changes_one one at value d e may others count config = grind (arith, is_that)

-- a write that may change no thread
none_changes : (at value : ℕ) (d e : DeviceValue) → e.threads ≡ d.threads → e.manager ≡ d.manager → e.config ≡ d.config → KeepsThreads at value d e
none_changes at value d e threads manager config = grind (arith, same_who)

module _ (ram : List Piece) (at value : ℕ) (d : DeviceValue) where
  debug_keeps : at ≡ offset.dbgcmd → value % 4 ≡ 0 → KeepsThreads at value d (debugged ram d)
  debug_keeps debug command = debug_cases (KeepsThreads at value d) ram d (record {
    same = none_changes at value d d refl refl refl;
    manager = λ off m _.
        changes_one TheManager at value d _ (record { debug = debug; command = command; names = off }) (λ who. same_channel who d _ refl) refl refl;
    sev = λ byte _.
        branch (KeepsThreads at value d) (is_interrupt d (byte / 8)) _ _ (λ _. none_changes at value d _ refl refl refl)
        (λ _. none_changes at value d _ refl refl refl);
    kills = λ t on _. thread_changes _ _ (inl (on, refl));
    fails = λ why t on _. thread_changes _ _ (inl (on, refl));
    starts = λ n t nonsecure names _ _. thread_changes n _ names;
  })
    where
      thread_changes : (n : ℕ) (t : Thread) → Names d (TheChannel n) → KeepsThreads at value d (with_thread n t d)
      thread_changes n t names =
          changes_one (TheChannel n) at value d (with_thread n t d) (record { debug = debug; command = command; names = names })
          (λ who. same_elsewhere who n t d) (length-set d.threads n t) refl

pub write_leaves_threads : WriteLeavesThreads
write_leaves_threads ram at value d = write_cases (KeepsThreads at value d) ram at value d (record {
  inten = none_changes at value d _ refl refl refl;
  intclr = λ _. none_changes at value d _ refl refl refl;
  dbgcmd = λ is even. debug_keeps ram at value d (eqb-true at offset.dbgcmd is) (eqb-true (value % 4) 0 even);
  dbginst0 = none_changes at value d _ refl refl refl;
  dbginst1 = none_changes at value d _ refl refl refl;
  other = none_changes at value d _ refl refl refl;
})

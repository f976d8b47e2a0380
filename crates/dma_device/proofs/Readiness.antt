-- Turns that are ready: each of a run's turns, and those of a program that waits.
use Rattle.std.proofs.Common.{◌≡◌, ℕ, zero, suc, ◌+◌, ◌<◌, ◌≤◌, true, false, List, [], ◌∷◌, get_or, refl, subst, arith, Bool, Result, Ok}
use Rattle.dma_insn.specs.{declared.chip.ChipInsn.ChipInsn, declared.chip.ChipInsn.TheVariants.Wfe}
use Rattle.dma_mem.specs.{Flags.flags_of, Regions.Piece}
use Rattle.dma_explain.specs.Explains.{IsWait, Work, next_in, traced}
use Rattle.dma_chan.specs.declared.turn.FaultKind.{FaultKind}
use Rattle.dma_device.specs.{Accesses.Access, Accesses.Reads, Accesses.Turns, Accesses.Value, Accesses.Writes, Copies.IsFit, Device.DeviceValue}
use Rattle.dma_device.specs.{Device.reset_device, Dmago.GivenTurns, Dmago.Go, Dmago.RunsCopy, Dmago.csr_status, Dmago.start_of, Events.IsVisible}
use Rattle.dma_device.specs.{Progress.IsReady, Progress.MayPass, Progress.ReadyTurns, Progress.vain, Progress.waits_in_vain, Run.LentDevice, Run.next, Run.run}
use Rattle.dma_device.proofs.{Progress.dmago_finishes, Rows.largest}

-- If each turn is ready, then the program ends after as many turns as it executes instructions with its DMAEND.
finishes_in_each : (go : Go) (w : Work) (n : ℕ) (run : GivenTurns) → RunsCopy go w n run → ((k : ℕ) → k < run.count → IsFit go w n (run.before k) (run.lent k))
    → ((k : ℕ) → k < run.count → IsReady go n run k k) → (k : ℕ) → k < run.count → n ≤ k → csr_status (run.after k) go.channel ≡ 0
finishes_in_each go w n run h fit all k less long =
    let ready : ReadyTurns go n run = record { turn = λ j. j; rising = λ j l. omega arith; ready = λ j l. all j (omega (arith, l, long, less)) } in
    dmago_finishes go w n run h fit ready k long less

-- ---- a program that waits: DMAWFE 1 and DMAEND at 0x100

abbrev program : List ℕ
program = 0x36 ∷ 0x08 ∷ 0x00 ∷ []

abbrev ram : List Piece
ram = record { addr = 0x100; bytes = program } ∷ []

abbrev go : Go
go = record { device = reset_device largest; ram = ram; program = program; addr = 0x100; channel = 3; nonsecure = false }

-- DMAGO of channel 3, a turn in which it waits, DMASEV 1 by the manager, a turn of one step, and another turn
abbrev accesses : List Access
accesses =
    Writes 0xD08 0x03A00000 ∷ Writes 0xD0C 0x100 ∷ Writes 0xD04 0 ∷ Turns 3 10 ∷ Writes 0xD08 0x08340000 ∷ Writes 0xD04 0
    ∷ Turns 3 1 ∷ Turns 3 10 ∷ []

abbrev access : ℕ → Access
access k = get_or accesses k (Reads 0x028)

abbrev start : LentDevice
start = record { device = reset_device largest; ram = record { pieces = ram; read_only = [] } }

abbrev at : ℕ → DeviceValue
at k = (run access start k).device

-- the device before and after each of the three turns, which have no regions here
abbrev turns : GivenTurns
turns = record {
  count = 3;
  most = λ k. get_or (10 ∷ 1 ∷ []) k 10;
  before = λ k. at (get_or (3 ∷ 6 ∷ 7 ∷ []) k 0);
  after = λ k. at (get_or (4 ∷ 7 ∷ 8 ∷ []) k 0);
  lent = λ k. [];
  left = λ k. [];
}

-- the channel waits for event 1 after the first turn, and is stopped after the third
csr_first : (next (Reads 0x118) (run access start 4)).1 ≡ Value 0x14
unfolding flags_of
csr_first = refl

csr_third : (next (Reads 0x118) (run access start 8)).1 ≡ Value 0
unfolding flags_of
csr_third = refl

-- event 1 isn't visible before the first turn, and is before the second
hidden_first : ¬ IsVisible (turns.before 0) 1
unfolding flags_of
hidden_first v = let set = v.1.0 in absurd (omega (arith, set))

visible_second : IsVisible (turns.before 1) 1
unfolding flags_of
visible_second = (record { events = omega arith; event = omega arith; inten = omega arith }, (refl, λ high. absurd (omega (arith, high))))

-- so the first turn waits in vain, and the others don't
first_in_vain : waits_in_vain (turns.before 0) 3 ≡ true
unfolding flags_of
first_in_vain = refl

one_in_vain : vain turns 3 3 ≡ 1
unfolding flags_of
one_in_vain = refl

-- the program's first instruction is its DMAWFE, and DMAEND is the second
first_insn : next_in program (traced (start_of go) program 0) ≡ Ok (Wfe 1 false)
first_insn = refl

same_event : (i : Result ChipInsn FaultKind) (e f : ℕ) (v w : Bool) → i ≡ Ok (Wfe e v) → i ≡ Ok (Wfe f w) → e ≡ f
same_event i e f v w one other = cc (one, other)

waits_for_one : (e : ℕ) → IsWait (start_of go) program 1 e → 1 ≡ e
waits_for_one e wait =
    let first : wait.step ≡ 0 = omega (arith, wait.within) in
    let waits = subst (λ (k : ℕ). next_in program (traced (start_of go) program k) ≡ Ok (Wfe e wait.invalid)) first wait.waits in
    same_event (next_in program (traced (start_of go) program 0)) 1 e false wait.invalid first_insn waits

-- so the second and the third turn are ready, one for each instruction
ready_turns : ReadyTurns go 1 turns
ready_turns = record {
  turn = λ j. j + 1;
  rising = λ j less. omega arith;
  ready = ready;
}
  where
    second : MayPass go 1 (turns.before 1) 0
    second th e wait found in_program long = subst (IsVisible (turns.before 1)) (waits_for_one e wait) visible_second

    ready : (j : ℕ) → j ≤ 1 → IsReady go 1 turns (j + 1) j
    ready zero less = record { some = omega arith; passes = second }
    ready (suc zero) less = record { some = omega arith; passes = λ th e wait found in_program long. absurd (omega (arith, wait.within, long)) }
    ready (suc (suc j)) less = absurd (omega (arith, less))

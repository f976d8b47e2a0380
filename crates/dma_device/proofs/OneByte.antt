-- A driver's DMAGO of a program that copies one byte, and two turns of its channel: what the laws of a DMAGO suppose
-- holds of them.
use Rattle.std.proofs.Common.{◌≡◌, ℕ, zero, suc, ◌+◌, ◌<◌, true, false, List, [], ◌∷◌, get_or, ◌∙◌, Bool, Result, ap, subst, true≢false, None, Ok, refl, sym}
use Rattle.std.proofs.Common.{arith, inl, inr}
use Rattle.std.specs.{Prelude.IsTrue, Prelude.slice_index, Prelude.slice_index_or, Prelude.slice_get, List.Contains, List.list_any}
use Rattle.std.proofs.lemmas.Bool.{le-leb, lt-ltb}
use Rattle.dma_insn.specs.ControlWord.{control_of, end_at, is_control}
use Rattle.dma_insn.specs.{declared.chip.ChipInsn.ChipInsn, declared.chip.ChipInsn.TheVariants.Sev, declared.chip.ChipInsn.TheVariants.Wfe}
use Rattle.dma_mem.specs.Regions.{has, pieces_of, read_only_of}
use Rattle.dma_mem.specs.{Flags.flags_of, Image.put, Lent.lies_in_any, Places.copying, declared.regions.Region.Region}
use Rattle.dma_chan.specs.{declared.bus.BusWidth.TheVariants.Bits32, declared.exec.Registers.Registers, declared.turn.FaultKind.FaultKind, Bursts.burst_at}
use Rattle.dma_chan.specs.{Bursts.reaches, LentRegions.with_gaps_of}
use Rattle.dma_explain.specs.Explains.{Explains, GoesOn, IsWork, Work, next_in, only, traced}
use Rattle.dma_explain.specs.RegionsHave.{HaveAll}
use Rattle.dma_explain.proofs.CallStays.{load_executes}
use Rattle.dma_device.specs.Dmago.{GivenTurns, Go, HasProgram, MayGo, RunsCopy, csr_status, image_in, start_of, started_by}
use Rattle.dma_device.specs.Turns.{Setup, TakesTurn, setup_of, turned}
use Rattle.dma_device.specs.{declared.config.Config.Config, declared.config.Revision.TheVariants.R1p2, declared.device.turns.Turn.Turn, Config.is_valid}
use Rattle.dma_device.specs.{Copies.IsFit, Device.reset_device, Explaining.IsUnderway, Progress.vain}
use Rattle.dma_device.proofs.InMemory.{image_has_bytes}

-- one channel and two events
abbrev pub small : Config
small = record { channels = 1; events = 2; nonsecure = false; bus = Bits32; lines = 8; revision = R1p2 }

valid_small : is_valid small ≡ true
valid_small = refl

-- DMAMOV SAR, 0x30; DMAMOV DAR, x; DMAMOV CCR, which rises by one byte at both ends; DMALD; DMAST; DMAEND
abbrev pub program_to : ℕ → List ℕ
program_to x =
    0xBC ∷ 0x00 ∷ 0x30 ∷ 0x00 ∷ 0x00 ∷ 0x00 ∷ 0xBC ∷ 0x02 ∷ x ∷ 0x00 ∷ 0x00 ∷ 0x00 ∷ 0xBC ∷ 0x01 ∷ 0x01 ∷ 0x40 ∷ 0x00
    ∷ 0x00 ∷ 0x04 ∷ 0x08 ∷ 0x00 ∷ []

abbrev pub program : List ℕ
program = program_to 0x31

abbrev pub region : ℕ → ℕ → List ℕ → Region
region name addr bytes = record { addr = addr; bytes = record { ref_ptr = (0, 0); ghost_name = name; now = bytes }; read_only = 0 }

-- the program at 0x10, and two bytes at 0x30
abbrev memory : ℕ → ℕ → List Region
memory a b = region 0 0x10 program ∷ region 1 0x30 (a ∷ b ∷ []) ∷ []

abbrev pub go : Go
go = record { device = reset_device small; ram = pieces_of (memory 7 0); program = program; addr = 0x10; channel = 0; nonsecure = false }

-- the byte at 0x30 is copied to another address, as 0x31
abbrev pub copied_to : ℕ → Work
copied_to x = only (copying (record { addr = 0x30; len = 1 } ∷ []) (record { addr = x; len = 1 } ∷ []) None None)

abbrev pub work : Work
work = copied_to 0x31

abbrev pub start : Registers
start = start_of go

-- ---- the program

in_program : (k : ℕ) → k < 21 → IsTrue (list_any (has (0x10 + k)) go.ram)
in_program k less = grind (arith, lt-ltb, le-leb)

has_program : HasProgram go.ram go.addr go.program
has_program = record {
  order = refl;
  short = omega arith;
  lies = in_program;
  bytes = λ k less. image_has_bytes (memory 7 0) 0 k (region 0 0x10 program) refl refl less;
}

pub one_place : (x a : ℕ) → Contains (x ∷ []) a → x ≡ a
one_place x a i = here i.0 i.1 i.2
  where
    here : (k : ℕ) → k < 1 → slice_index_or (x ∷ []) k a ≡ a → x ≡ a
    here zero less is = is
    here (suc k) less is = absurd (omega arith)

pub no_place : (a : ℕ) → Contains [] a → ⊥
no_place a i = let less = i.1 in omega (arith, less)

pub is_work : (x : ℕ) → 0x30 < x → IsWork (copied_to x)
is_work x above = record {
  same_length = refl;
  once = λ i j d less within. absurd (omega arith);
  apart = λ a i j. (let e = one_place 0x30 a i in let f = one_place x a j in omega (arith, e, f, above));
}

-- whether an instruction is a DMAWFE or a DMASEV
is_sync : Result ChipInsn FaultKind → Bool
is_sync (Ok (Wfe e v)) = true
is_sync (Ok (Sev e)) = true
is_sync next = false

-- what is true of each of the first five numbers
pub all_five : (P : ℕ → Type 0) → P 0 → P 1 → P 2 → P 3 → P 4 → (k : ℕ) → k < 5 → P k
all_five P h h2 h3 h4 h5 zero less = h
all_five P h h2 h3 h4 h5 (suc zero) less = h2
all_five P h h2 h3 h4 h5 (suc (suc zero)) less = h3
all_five P h h2 h3 h4 h5 (suc (suc (suc zero))) less = h4
all_five P h h2 h3 h4 h5 (suc (suc (suc (suc zero)))) less = h5
all_five P h h2 h3 h4 h5 (suc (suc (suc (suc (suc k))))) less = absurd (omega arith)

goes_on : (k : ℕ) → k < 5 → GoesOn (next_in program (traced start program k)) (traced start program k)
unfolding is_control control_of end_at burst_at
goes_on = all_five _ ((λ bad. cc), refl) ((λ bad. cc), refl) ((λ bad. cc), refl) ((λ bad. cc), refl) ((λ bad. cc), refl)

no_sync : (k : ℕ) → k < 5 → is_sync (next_in program (traced start program k)) ≡ false
unfolding is_sync is_control control_of end_at burst_at
no_sync = all_five _ refl refl refl refl refl

pub explains : Explains start program work 5
unfolding is_control control_of end_at burst_at
explains = record { goes = goes_on; ends = refl; loads = refl; stores = refl; zeros = refl; few = omega arith; work = is_work 0x31 (omega arith) }

-- ---- the turns

may_go : MayGo go
may_go = record { there = omega arith; few = omega arith; stopped = refl; manager = refl; allowed = refl }

-- a turn of at most two steps, and one that ends the program
abbrev first : Setup × Turn
first = turned (with_gaps_of (memory 7 0) []) 0 2 (setup_of (started_by go) (memory 7 0))

abbrev second : Setup × Turn
second = turned (with_gaps_of (memory 7 0) []) 0 10 (setup_of first.0.device (memory 7 0))

abbrev turns : GivenTurns
turns = record {
  count = 2;
  most = λ k. get_or (2 ∷ []) k 10;
  before = λ k. get_or (started_by go ∷ []) k first.0.device;
  after = λ k. get_or (first.0.device ∷ []) k second.0.device;
  lent = λ k. memory 7 0;
  left = λ k. memory 7 (get_or (0 ∷ []) k 7);
}

takes_first : TakesTurn (started_by go) (memory 7 0) 0 2 first.0.device (memory 7 0) first.1
unfolding flags_of is_control control_of end_at
takes_first = record { is = refl; kept = record { places = refl; read_only = refl; names = refl } }

takes_second : TakesTurn first.0.device (memory 7 0) 0 10 second.0.device (memory 7 7) second.1
unfolding flags_of is_control control_of end_at burst_at reaches put
takes_second = record { is = refl; kept = record { places = refl; read_only = refl; names = refl } }

runs_copy : RunsCopy go work 5 turns
runs_copy = record {
  in_ram = has_program;
  may_go = may_go;
  explains = explains;
  begins = refl;
  takes = takes;
  below = λ k less. refl;
  goes_on = λ k less. same k less;
  unchanged = λ k a less uses. left k a less;
}
  where
    takes : (k : ℕ) → k < 2 → (turn : Turn) × TakesTurn (turns.before k) (memory 7 0) 0 (turns.most k) (turns.after k) (turns.left k) turn
    takes zero less = (first.1, takes_first)
    takes (suc zero) less = (second.1, takes_second)
    takes (suc (suc k)) less = absurd (omega arith)

    same : (k : ℕ) → k + 1 < 2 → slice_get (turns.before (k + 1)).threads 0 ≡ slice_get (turns.after k).threads 0
    same zero less = refl
    same (suc k) less = absurd (omega arith)

    left : (k a : ℕ) → k + 1 < 2 → slice_index (image_in (turns.lent (k + 1))) a ≡ slice_index (image_in (turns.left k)) a
    left zero a less = refl
    left (suc k) a less = absurd (omega arith)

-- ---- after the DMAGO the channel is underway, in six instructions with DMAEND

underway : IsUnderway (started_by go) 0 6
underway = load_executes start program 5 _ (record { bytes = program; cost = None }, ([], refl), refl)

-- It is so after the first turn too, in its third instruction, since the program sets each register before it uses it.
still_underway : IsUnderway first.0.device 0 6
unfolding flags_of is_control control_of end_at
still_underway = (2, record { begins = ([], refl); within = omega arith; registers = refl })

-- ---- the memory and the device are fit

have_all : HaveAll (memory 7 0) work
have_all = record {
  touched = λ a uses. elim uses [
    | inl touches ↦ elim touches [ inl i ↦ lies 0x30 a (one_place 0x30 a i) refl | inr i ↦ lies 0x31 a (one_place 0x31 a i) refl ]
    | inr i ↦ absurd (no_place a i)
  ];
  writable = λ a i. subst (λ (b : ℕ). lies_in_any (read_only_of (memory 7 0)) b ≡ false) (one_place 0x31 a i) refl;
}
  where
    lies : (x a : ℕ) → x ≡ a → list_any (has x) (pieces_of (memory 7 0)) ≡ true → list_any (has a) (pieces_of (memory 7 0)) ≡ true
    lies x a is there = subst (λ (b : ℕ). list_any (has b) (pieces_of (memory 7 0)) ≡ true) is there

fit : (k : ℕ) → k < 2 → IsFit go work 5 (turns.before k) (turns.lent k)
unfolding is_sync
fit k less = record {
  order = refl;
  have = have_all;
  events = record {
    waits = λ e w. absurd (true≢false (ap is_sync (sym w.waits) ∙ no_sync w.step w.within));
    signals = λ e done w. absurd (true≢false (ap is_sync (sym w.signals) ∙ no_sync w.step w.within));
  };
}

-- ---- CSR is executing after the first turn, and stopped after the second

csr_first : csr_status (turns.after 0) 0 ≡ 1
unfolding flags_of is_control control_of end_at
csr_first = refl

csr_second : csr_status (turns.after 1) 0 ≡ 0
unfolding flags_of is_control control_of end_at burst_at reaches put
csr_second = refl

-- no turn waits in vain, so the laws say that six turns suffice
none_in_vain : vain turns 2 0 ≡ 0
unfolding flags_of is_control control_of end_at
none_in_vain = refl

-- Two devices over one memory, on each of which a driver starts a program that copies one byte, and two turns of each:
-- what the laws of a board suppose holds of them. The writes to DBGCMD are lent only the programs, and no device is lent
-- the byte that the other writes.
use Rattle.std.proofs.Common.{◌≡◌, ◌∙◌, ◌≢◌, ℕ, zero, suc, ◌+◌, ◌<◌, Bool, true, false, ◌&&◌, List, [], ◌∷◌, ap, get_or, true≢false, refl, sym, subst, arith, inl, inr}
use Rattle.std.specs.{Prelude.IsTrue, Prelude.◌==◌, Prelude.◌++◌, Prelude.length, Prelude.replicate, Prelude.slice_index, List.list_any}
use Rattle.std.proofs.{Math.Bool.and-false, lemmas.Bool.le-leb, lemmas.Bool.lt-ltb}
use Rattle.dma_insn.specs.ControlWord.{control_of, end_at, is_control}
use Rattle.dma_mem.specs.{Flags.flags_of, Image.put, Regions.has, Regions.pieces_of, declared.regions.Region.Region}
use Rattle.dma_chan.specs.{Bursts.burst_at, Bursts.reaches, LentRegions.with_gaps_of}
use Rattle.dma_explain.specs.{Explains.Explains, Explains.GoesOn, Explains.next_in, Explains.traced, Works.IsWorked, Works.Uses, Works.work_below}
use Rattle.dma_device.specs.Board.{CopiesOn, Happens, BoardEvents, Meets, RunsOn, Shares, SparesBytes, SparesThread, WritesApart, is_lent, is_turn_at, later, own_turns}
use Rattle.dma_device.specs.{Accesses.Does, Accesses.Done, Accesses.Turned, Accesses.Turns, Accesses.Writes, Device.DeviceValue, Device.reset_device, Device.written, Dmago.Go}
use Rattle.dma_device.specs.{Dmago.csr_status, Dmago.image_in, Turns.Setup, Turns.setup_of, Turns.turned, declared.device.turns.Turn.Turn}
use Rattle.dma_device.proofs.OneByte.{all_five, copied_to, explains, is_work, no_place, one_place, program, program_to, region, small, start, work}
use Rattle.dma_device.proofs.{Boards.a_board_copies, Boards.board_leaves_bytes, Boards.board_leaves_thread, Boards.board_spares, Boards.happens_later, Boards.spares_here, InMemory.image_has_bytes}
use Rattle.dma_device.specs.Offsets as offset

-- ---- a second program

abbrev other : List ℕ
other = program_to 0x32

goes_on : (k : ℕ) → k < 5 → GoesOn (next_in other (traced start other k)) (traced start other k)
unfolding is_control control_of end_at burst_at
goes_on = all_five _ ((λ bad. cc), refl) ((λ bad. cc), refl) ((λ bad. cc), refl) ((λ bad. cc), refl) ((λ bad. cc), refl)

explains_other : Explains start other (copied_to 0x32) 5
unfolding is_control control_of end_at burst_at
explains_other = record { goes = goes_on; ends = refl; loads = refl; stores = refl; zeros = refl; few = omega arith; work = is_work 0x32 (omega arith) }

-- ---- the board

-- the programs at 0x10 and 0x40
abbrev program_one : List Region
program_one = region 0 0x10 program ∷ []

abbrev program_two : List Region
program_two = region 2 0x40 other ∷ []

-- three bytes at 0x30, of which device 0 is lent the first and the second, and device 1 the first and the third
abbrev bytes_one : ℕ → List Region
bytes_one b = region 1 0x30 (7 ∷ b ∷ []) ∷ []

abbrev bytes_two : ℕ → List Region
bytes_two c = region 1 0x30 (7 ∷ []) ∷ region 3 0x32 (c ∷ []) ∷ []

-- all of the memory
abbrev memory : ℕ → ℕ → List ℕ
memory b c = image_in (region 0 0x10 program ∷ region 1 0x30 (7 ∷ b ∷ c ∷ []) ∷ region 2 0x40 other ∷ [])

-- a device whose debug registers have a DMAGO of channel 0, of the program at an address, and ones in all bits of
-- DBGINST0 that don't matter
abbrev ready : ℕ → DeviceValue
ready addr = record (reset_device small) { dbginst0 = 0xA0FFFE; dbginst1 = addr }

abbrev go_to : List ℕ → ℕ → List Region → Go
go_to code addr ram = record { device = ready addr; ram = pieces_of ram; program = code; addr = addr; channel = 0; nonsecure = false }

-- the DMAGO on device 0, and that on device 1
abbrev one : Go
one = go_to program 0x10 program_one

abbrev two : Go
two = go_to other 0x40 program_two

abbrev turn_of : ℕ → DeviceValue → List Region → Setup × Turn
turn_of most d regions = turned (with_gaps_of regions []) 0 most (setup_of d regions)

-- the device after a write to DBGCMD
abbrev gone : Go → ℕ → DeviceValue
gone go value = written go.ram offset.dbgcmd value go.device

-- a turn of at most two steps after a DMAGO, and one that ends the program
abbrev begun : Go → ℕ → List Region → Setup × Turn
begun go value regions = turn_of 2 (gone go value) regions

abbrev ended : Go → ℕ → List Region → Setup × Turn
ended go value regions = turn_of 10 (begun go value regions).0.device regions

abbrev begun_one : Setup × Turn
begun_one = begun one 4 (bytes_one 0)

abbrev ended_one : Setup × Turn
ended_one = ended one 4 (bytes_one 0)

abbrev begun_two : Setup × Turn
begun_two = begun two 0 (bytes_two 0)

abbrev ended_two : Setup × Turn
ended_two = ended two 0 (bytes_two 0)

-- device 0 before event number k, and device 1
abbrev device_one : ℕ → DeviceValue
device_one k = get_or (ready 0x10 ∷ gone one 4 ∷ gone one 4 ∷ begun_one.0.device ∷ begun_one.0.device ∷ []) k ended_one.0.device

abbrev device_two : ℕ → DeviceValue
device_two k = get_or (ready 0x40 ∷ ready 0x40 ∷ gone two 0 ∷ gone two 0 ∷ begun_two.0.device ∷ begun_two.0.device ∷ []) k ended_two.0.device

-- a DMAGO on each device, a turn of each, and another of each
abbrev board : BoardEvents
board = record {
  count = 6;
  access = λ k. get_or (Writes offset.dbgcmd 4 ∷ Writes offset.dbgcmd 0 ∷ Turns 0 2 ∷ Turns 0 2 ∷ []) k (Turns 0 10);
  device = λ k. get_or (0 ∷ 1 ∷ 0 ∷ 1 ∷ 0 ∷ []) k 1;
  answer = λ k. get_or (Done ∷ Done ∷ Turned begun_one.1 ∷ Turned begun_two.1 ∷ Turned ended_one.1 ∷ []) k (Turned ended_two.1);
  before = λ k b. get_or (device_one k ∷ device_two k ∷ []) b (reset_device small);
  lent = λ k. get_or (program_one ∷ program_two ∷ bytes_one 0 ∷ bytes_two 0 ∷ bytes_one 0 ∷ []) k (bytes_two 0);
  left = λ k. get_or (program_one ∷ program_two ∷ bytes_one 0 ∷ bytes_two 0 ∷ bytes_one 7 ∷ []) k (bytes_two 7);
}

-- the memory before event number k
abbrev memory_at : ℕ → List ℕ
memory_at k = get_or (memory 0 0 ∷ memory 0 0 ∷ memory 0 0 ∷ memory 0 0 ∷ memory 0 0 ∷ memory 7 0 ∷ []) k (memory 7 7)

-- ---- what happens

abbrev DoesAt : ℕ → Type 0
DoesAt k =
    let b = board.device k in
    Does (board.access k) (board.before k b) (board.lent k) (board.answer k) (board.before (k + 1) b) (board.left k)

does : (k : ℕ) → k < 6 → DoesAt k
unfolding flags_of is_control control_of end_at burst_at reaches put
does zero less = (refl, refl, record { pieces = refl; read_only = refl })
does (suc zero) less = (refl, refl, record { pieces = refl; read_only = refl })
does (suc (suc zero)) less = (begun_one.1, (refl, record { is = refl; kept = record { places = refl; read_only = refl; names = refl } }))
does (suc (suc (suc zero))) less = (begun_two.1, (refl, record { is = refl; kept = record { places = refl; read_only = refl; names = refl } }))
does (suc (suc (suc (suc zero)))) less = (ended_one.1, (refl, record { is = refl; kept = record { places = refl; read_only = refl; names = refl } }))
does (suc (suc (suc (suc (suc zero))))) less = (ended_two.1, (refl, record { is = refl; kept = record { places = refl; read_only = refl; names = refl } }))
does (suc (suc (suc (suc (suc (suc k)))))) less = absurd (omega arith)

others : (k b : ℕ) → k < 6 → b ≢ board.device k → board.before (k + 1) b ≡ board.before k b
others k (suc (suc b)) less other = refl
others zero zero less other = absurd (other refl)
others zero (suc zero) less other = refl
others (suc zero) zero less other = refl
others (suc zero) (suc zero) less other = absurd (other refl)
others (suc (suc zero)) zero less other = absurd (other refl)
others (suc (suc zero)) (suc zero) less other = refl
others (suc (suc (suc zero))) zero less other = refl
others (suc (suc (suc zero))) (suc zero) less other = absurd (other refl)
others (suc (suc (suc (suc zero)))) zero less other = absurd (other refl)
others (suc (suc (suc (suc zero)))) (suc zero) less other = refl
others (suc (suc (suc (suc (suc zero))))) zero less other = refl
others (suc (suc (suc (suc (suc zero))))) (suc zero) less other = absurd (other refl)
others (suc (suc (suc (suc (suc (suc k)))))) b less other = absurd (omega arith)

happens : Happens board
happens = record { does = does; others = others }

-- ---- the drivers

lies_one : (k : ℕ) → k < 21 → IsTrue (list_any (has (0x10 + k)) one.ram)
lies_one k less = grind (arith, lt-ltb, le-leb)

lies_two : (k : ℕ) → k < 21 → IsTrue (list_any (has (0x40 + k)) two.ram)
lies_two k less = grind (arith, lt-ltb, le-leb)

runs_one : RunsOn one work 5 0 board
runs_one = record {
  happens = happens;
  begins = record {
    some = omega arith;
    number = refl;
    value = 4;
    command = refl;
    access = refl;
    device = refl;
    ram = refl;
    dmago = record { manager = refl; opcode = refl; channel = refl; addr = refl };
  };
  in_ram = record {
    order = refl;
    short = omega arith;
    lies = lies_one;
    bytes = λ k less. image_has_bytes program_one 0 k (region 0 0x10 program) refl refl less;
  };
  may_go = record { there = omega arith; few = omega arith; stopped = refl; manager = refl; allowed = refl };
  explains = explains;
  thread = λ k past less own off. (
      let on_it : is_turn_at board 0 0 k ≡ false = ap (λ (c : Bool). (board.device k == 0) && c) off ∙ and-false (board.device k == 0) in
      board_leaves_thread board 0 0 k happens less on_it (thread k past less)
      );
}
  where
    thread : (k : ℕ) → 0 < k → k < 6 → board.device k ≡ 0 → SparesThread 0 (board.access k) (board.before k 0)
    thread zero past less own = absurd (omega (arith, past))
    thread (suc zero) past less own = absurd (omega (arith, own))
    thread (suc (suc zero)) past less own = tt
    thread (suc (suc (suc zero))) past less own = tt
    thread (suc (suc (suc (suc k)))) past less own = tt

runs_two : RunsOn two (copied_to 0x32) 5 1 (later 1 board)
runs_two = record {
  happens = happens_later board 1 happens;
  begins = record {
    some = omega arith;
    number = refl;
    value = 0;
    command = refl;
    access = refl;
    device = refl;
    ram = refl;
    dmago = record { manager = refl; opcode = refl; channel = refl; addr = refl };
  };
  in_ram = record {
    order = refl;
    short = omega arith;
    lies = lies_two;
    bytes = λ k less. image_has_bytes program_two 0 k (region 2 0x40 other) refl refl less;
  };
  may_go = record { there = omega arith; few = omega arith; stopped = refl; manager = refl; allowed = refl };
  explains = explains_other;
  thread = λ k past less own off. (
      let on_it : is_turn_at (later 1 board) 1 0 k ≡ false = ap (λ (c : Bool). (board.device (1 + k) == 1) && c) off ∙ and-false (board.device (1 + k) == 1) in
      board_leaves_thread (later 1 board) 0 1 k (happens_later board 1 happens) less on_it (thread k past less)
      );
}
  where
    thread : (k : ℕ) → 0 < k → k < 5 → board.device (1 + k) ≡ 1 → SparesThread 0 (board.access (1 + k)) (board.before (1 + k) 1)
    thread zero past less own = absurd (omega (arith, past))
    thread (suc zero) past less own = tt
    thread (suc (suc zero)) past less own = tt
    thread (suc (suc (suc zero))) past less own = tt
    thread (suc (suc (suc (suc zero)))) past less own = tt
    thread (suc (suc (suc (suc (suc k))))) past less own = absurd (omega arith)

-- ---- the copies

-- copies to two addresses, neither of which is the source, are apart
apart : (x y : ℕ) → 0x30 < x → x ≢ y → WritesApart (copied_to x) (copied_to y)
apart x y above differ a i uses = elim uses [
  | inl touches ↦ elim touches [
    | inl j ↦ (let e = one_place x a i in let f = one_place 0x30 a j in omega (arith, e, f, above))
    | inr j ↦ differ (one_place x a i ∙ sym (one_place y a j))
  ]
  | inr j ↦ no_place a j
]

-- each event of the board: what it lends, and that it shares the memory at an address
meets_if : (h : BoardEvents) (memory : ℕ → List ℕ) (k a : ℕ) → is_lent (h.lent k) a ≡ true → Meets memory h k a → Shares memory h k a
meets_if h memory k a on meets = record { lent = λ is. meets; other = λ off. absurd (true≢false (sym on ∙ off)) }

keeps_if : (h : BoardEvents) (memory : ℕ → List ℕ) (k a : ℕ) → is_lent (h.lent k) a ≡ false
    → slice_index (memory (k + 1)) a ≡ slice_index (memory k) a → Shares memory h k a
keeps_if h memory k a off keeps = record { lent = λ on. absurd (true≢false (sym on ∙ off)); other = λ off. keeps }

-- what holds of the address that a copy reads and of that it writes
each_used : (P : ℕ → Type 0) (x a : ℕ) → P 0x30 → P x → Uses (copied_to x) a → P a
each_used P x a source destination uses = elim uses [
  | inl touches ↦ elim touches [ inl j ↦ subst P (one_place 0x30 a j) source | inr j ↦ subst P (one_place x a j) destination ]
  | inr j ↦ absurd (no_place a j)
]

-- every event meets the memory at the address that both copies read, but for the writes to DBGCMD
module _ (h : BoardEvents) (memory : ℕ → List ℕ) where
  abbrev SharesBoth : ℕ → ℕ → Type 0
  SharesBoth x k = (a : ℕ) → Uses (copied_to x) a → Shares memory h k a

  shares_both : (x k : ℕ) → Shares memory h k 0x30 → Shares memory h k x → SharesBoth x k
  shares_both x k source destination a uses = each_used (Shares memory h k) x a source destination uses

  meets_both : (x k : ℕ) → Meets memory h k 0x30 → Meets memory h k x → (a : ℕ) → Uses (copied_to x) a → Meets memory h k a
  meets_both x k source destination a uses = each_used (Meets memory h k) x a source destination uses

copies_one : CopiesOn one work 5 0 board memory_at
copies_one = record {
  runs = runs_one;
  others = λ k a less off uses. board_leaves_bytes board memory_at work k a happens less (bytes k less off) uses (shares k less off a uses);
  meets = λ k a less on. meets k less on a;
  below = below;
  fits = refl;
}
  where
    spares : (k : ℕ) → 1 < k → k < 6 → is_turn_at board 1 0 k ≡ true → SparesBytes work (board.access k) (board.answer k)
    spares k past less on = board_spares two (copied_to 0x32) work 5 1 1 board runs_two (apart 0x32 0x31 (omega arith) (λ e. absurd (omega (arith, e)))) k
        (omega (arith, past)) less on

    bytes : (k : ℕ) → k < 6 → is_turn_at board 0 0 k ≡ false → SparesBytes work (board.access k) (board.answer k)
    bytes zero less off = tt
    bytes (suc zero) less off = tt
    bytes (suc (suc zero)) less off = absurd (true≢false off)
    bytes (suc (suc (suc zero))) less off = spares 3 (omega arith) less refl
    bytes (suc (suc (suc (suc zero)))) less off = absurd (true≢false off)
    bytes (suc (suc (suc (suc (suc zero))))) less off = spares 5 (omega arith) less refl
    bytes (suc (suc (suc (suc (suc (suc k)))))) less off = absurd (omega arith)

    shares : (k : ℕ) → k < 6 → is_turn_at board 0 0 k ≡ false → SharesBoth board memory_at 0x31 k
    shares zero less off = shares_both board memory_at 0x31 0 (keeps_if board memory_at 0 0x30 refl refl) (keeps_if board memory_at 0 0x31 refl refl)
    shares (suc zero) less off = shares_both board memory_at 0x31 1 (keeps_if board memory_at 1 0x30 refl refl) (keeps_if board memory_at 1 0x31 refl refl)
    shares (suc (suc zero)) less off = absurd (true≢false off)
    shares (suc (suc (suc zero))) less off =
        shares_both board memory_at 0x31 3 (meets_if board memory_at 3 0x30 refl (record { finds = refl; leaves = refl }))
        (keeps_if board memory_at 3 0x31 refl refl)
    shares (suc (suc (suc (suc zero)))) less off = absurd (true≢false off)
    shares (suc (suc (suc (suc (suc zero))))) less off =
        shares_both board memory_at 0x31 5 (meets_if board memory_at 5 0x30 refl (record { finds = refl; leaves = refl }))
        (keeps_if board memory_at 5 0x31 refl refl)
    shares (suc (suc (suc (suc (suc (suc k)))))) less off = absurd (omega arith)

    meets : (k : ℕ) → k < 6 → is_turn_at board 0 0 k ≡ true → (a : ℕ) → Uses work a → Meets memory_at board k a
    meets zero less on = absurd (true≢false (sym on))
    meets (suc zero) less on = absurd (true≢false (sym on))
    meets (suc (suc zero)) less on = meets_both board memory_at 0x31 2 (record { finds = refl; leaves = refl }) (record { finds = refl; leaves = refl })
    meets (suc (suc (suc zero))) less on = absurd (true≢false (sym on))
    meets (suc (suc (suc (suc zero)))) less on =
        meets_both board memory_at 0x31 4 (record { finds = refl; leaves = refl }) (record { finds = refl; leaves = refl })
    meets (suc (suc (suc (suc (suc zero))))) less on = absurd (true≢false (sym on))
    meets (suc (suc (suc (suc (suc (suc k)))))) less on = absurd (omega arith)

    below : (k : ℕ) → k < 6 → is_turn_at board 0 0 k ≡ true → work_below work (length (image_in (board.lent k))) ≡ true
    below zero less on = absurd (true≢false (sym on))
    below (suc zero) less on = absurd (true≢false (sym on))
    below (suc (suc zero)) less on = refl
    below (suc (suc (suc zero))) less on = absurd (true≢false (sym on))
    below (suc (suc (suc (suc zero)))) less on = refl
    below (suc (suc (suc (suc (suc zero))))) less on = absurd (true≢false (sym on))
    below (suc (suc (suc (suc (suc (suc k)))))) less on = absurd (omega arith)

-- the events from the second DMAGO on, and the memory before each
abbrev rest : BoardEvents
rest = later 1 board

abbrev memory_then : ℕ → List ℕ
memory_then k = memory_at (1 + k)

copies_two : CopiesOn two (copied_to 0x32) 5 1 rest memory_then
copies_two = record {
  runs = runs_two;
  others = λ k a less off uses.
      board_leaves_bytes rest memory_then (copied_to 0x32) k a (happens_later board 1 happens) less (bytes k less off) uses (shares k less off a uses);
  meets = λ k a less on. meets k less on a;
  below = below;
  fits = refl;
}
  where
    spares : (k : ℕ) → k < 6 → is_turn_at board 0 0 k ≡ true → SparesBytes (copied_to 0x32) (board.access k) (board.answer k)
    spares k less on = spares_here one work (copied_to 0x32) 5 0 board runs_one (apart 0x31 0x32 (omega arith) (λ e. absurd (omega (arith, e)))) k less on

    bytes : (k : ℕ) → k < 5 → is_turn_at (later 1 board) 1 0 k ≡ false → SparesBytes (copied_to 0x32) (board.access (1 + k)) (board.answer (1 + k))
    bytes zero less off = tt
    bytes (suc zero) less off = spares 2 (omega arith) refl
    bytes (suc (suc zero)) less off = absurd (true≢false off)
    bytes (suc (suc (suc zero))) less off = spares 4 (omega arith) refl
    bytes (suc (suc (suc (suc zero)))) less off = absurd (true≢false off)
    bytes (suc (suc (suc (suc (suc k))))) less off = absurd (omega arith)

    shares : (k : ℕ) → k < 5 → is_turn_at rest 1 0 k ≡ false → SharesBoth rest memory_then 0x32 k
    shares zero less off = shares_both rest memory_then 0x32 0 (keeps_if rest memory_then 0 0x30 refl refl) (keeps_if rest memory_then 0 0x32 refl refl)
    shares (suc zero) less off =
        shares_both rest memory_then 0x32 1 (meets_if rest memory_then 1 0x30 refl (record { finds = refl; leaves = refl }))
        (keeps_if rest memory_then 1 0x32 refl refl)
    shares (suc (suc zero)) less off = absurd (true≢false off)
    shares (suc (suc (suc zero))) less off =
        shares_both rest memory_then 0x32 3 (meets_if rest memory_then 3 0x30 refl (record { finds = refl; leaves = refl }))
        (keeps_if rest memory_then 3 0x32 refl refl)
    shares (suc (suc (suc (suc zero)))) less off = absurd (true≢false off)
    shares (suc (suc (suc (suc (suc k))))) less off = absurd (omega arith)

    meets : (k : ℕ) → k < 5 → is_turn_at rest 1 0 k ≡ true → (a : ℕ) → Uses (copied_to 0x32) a → Meets memory_then rest k a
    meets zero less on = absurd (true≢false (sym on))
    meets (suc zero) less on = absurd (true≢false (sym on))
    meets (suc (suc zero)) less on = meets_both rest memory_then 0x32 2 (record { finds = refl; leaves = refl }) (record { finds = refl; leaves = refl })
    meets (suc (suc (suc zero))) less on = absurd (true≢false (sym on))
    meets (suc (suc (suc (suc zero)))) less on =
        meets_both rest memory_then 0x32 4 (record { finds = refl; leaves = refl }) (record { finds = refl; leaves = refl })
    meets (suc (suc (suc (suc (suc k))))) less on = absurd (omega arith)

    below : (k : ℕ) → k < 5 → is_turn_at rest 1 0 k ≡ true → work_below (copied_to 0x32) (length (image_in (rest.lent k))) ≡ true
    below zero less on = absurd (true≢false (sym on))
    below (suc zero) less on = absurd (true≢false (sym on))
    below (suc (suc zero)) less on = refl
    below (suc (suc (suc zero))) less on = absurd (true≢false (sym on))
    below (suc (suc (suc (suc zero)))) less on = refl
    below (suc (suc (suc (suc (suc k))))) less on = absurd (omega arith)

-- ---- both copies are done

stopped : (csr_status (board.before 6 0) 0 ≡ 0) × (csr_status (board.before 6 1) 0 ≡ 0)
unfolding flags_of is_control control_of end_at burst_at reaches put
stopped = (refl, refl)

both_done : IsWorked work (memory 0 0) (memory 7 7) × IsWorked (copied_to 0x32) (memory 0 0) (memory 7 7)
both_done = (
  a_board_copies one work 5 0 board memory_at copies_one 5 (omega arith) stopped.0,
  a_board_copies two (copied_to 0x32) 5 1 rest memory_then copies_two 4 (omega arith) stopped.1,
)

-- the memory at the end
memory_at_end : memory_at 6 ≡ replicate 16 0 ++ program ++ replicate 11 0 ++ (7 ∷ 7 ∷ 7 ∷ []) ++ replicate 13 0 ++ other
memory_at_end = refl

-- the events that are turns of device 0, and those of device 1
turns_numbered : (own_turns board 0 0 6 ≡ 2 ∷ 4 ∷ []) × (own_turns board 1 0 6 ≡ 3 ∷ 5 ∷ [])
turns_numbered = (refl, refl)

-- A board whose events are lent the whole memory, on which a driver writes a DMAGO as drivers mostly do.
use Rattle.std.proofs.Common.{◌≡◌, ◌∙◌, ℕ, zero, suc, ◌+◌, ◌<◌, Bool, true, false, ◌&&◌, List, length, add-one, ap, refl, subst, sym, arith}
use Rattle.std.specs.Prelude.{◌==◌, slice_index}
use Rattle.std.proofs.Math.Bool.{and-false}
use Rattle.dma_mem.specs.{Limits.most_channels, Regions.pieces_of}
use Rattle.dma_explain.specs.{Explains.Explains, Explains.Work, Works.IsWorked, Works.Uses, Works.work_below}
use Rattle.dma_device.specs.Accesses.{Writes}
use Rattle.dma_device.specs.Board.{BoardEvents, CopiesOn, Happens, HasDmago, Meets, RunsOn, SparesBytes, SparesThread, is_turn, is_turn_at}
use Rattle.dma_device.specs.Dmago.{Go, HasProgram, MayGo, csr_status, dmago_word, image_in, start_of}
use Rattle.dma_device.proofs.{Boards.a_board_copies, Boards.board_leaves_thread, Boards.byte_same, FlagNumber.flag_few}
use Rattle.dma_device.specs.Offsets as offset

-- what a driver writes to the debug registers is a DMAGO
pub has_dmago : (go : Go) → go.channel < most_channels → go.device.dbginst0 ≡ dmago_word go → go.device.dbginst1 ≡ go.addr → HasDmago go
has_dmago go few is at =
    let one = flag_few go.nonsecure in
    record { manager = omega (arith, is); opcode = omega (arith, is, few); channel = omega (arith, is, few); addr = at }

-- A driver starts the program by a write of 0 to DBGCMD, and no other access to its device may change the channel's
-- thread.
pub record RunsPlainly (go : Go) (w : Work) (n b : ℕ) (h : BoardEvents) : Type 0 where
  pub happens : Happens h
  pub some : 0 < h.count
  pub number : h.device 0 ≡ b
  pub access : h.access 0 ≡ Writes offset.dbgcmd 0
  pub device : h.before 0 b ≡ go.device
  pub ram : pieces_of (h.lent 0) ≡ go.ram
  pub dbginst0 : go.device.dbginst0 ≡ dmago_word go
  pub dbginst1 : go.device.dbginst1 ≡ go.addr
  pub in_ram : HasProgram go.ram go.addr go.program
  pub may_go : MayGo go
  pub explains : Explains (start_of go) go.program w n
  pub thread : (k : ℕ) → 0 < k → k < h.count → h.device k ≡ b → SparesThread go.channel (h.access k) (h.before k b)

pub runs_on : (go : Go) (w : Work) (n b : ℕ) (h : BoardEvents) → RunsPlainly go w n b h → RunsOn go w n b h
runs_on go w n b h c = record {
  happens = c.happens;
  begins = record {
    some = c.some;
    number = c.number;
    value = 0;
    command = refl;
    access = c.access;
    device = c.device;
    ram = c.ram;
    dmago = has_dmago go c.may_go.few c.dbginst0 c.dbginst1;
  };
  in_ram = c.in_ram;
  may_go = c.may_go;
  explains = c.explains;
  thread = λ k past less own other.
      board_leaves_thread h go.channel b k c.happens less (not_turn k other) (λ _. c.thread k past less own);
}
  where
    not_turn : (k : ℕ) → is_turn go.channel (h.access k) ≡ false → is_turn_at h b go.channel k ≡ false
    not_turn k other = ap (λ (x : Bool). (h.device k == b) && x) other ∙ and-false (h.device k == b)

-- Besides, only turns of the channel write addresses that w uses. At these addresses each event is lent the bytes that
-- the one before it left, and the ranges of w lie below the end of all regions.
pub record CopiesPlainly (go : Go) (w : Work) (n b : ℕ) (h : BoardEvents) : Type 0 where
  pub runs : RunsPlainly go w n b h
  pub bytes : (k : ℕ) → k < h.count → is_turn_at h b go.channel k ≡ false → SparesBytes w (h.access k) (h.answer k)
  pub stays : (k a : ℕ) → k + 1 < h.count → Uses w a → slice_index (image_in (h.lent (k + 1))) a ≡ slice_index (image_in (h.left k)) a
  pub below : (k : ℕ) → k < h.count → work_below w (length (image_in (h.lent k))) ≡ true

-- then the memory is what each event is lent and leaves
abbrev pub memory_of : BoardEvents → ℕ → List ℕ
memory_of h zero = image_in (h.lent 0)
memory_of h (suc k) = image_in (h.left k)

module _ (go : Go) (w : Work) (n b : ℕ) (h : BoardEvents) (c : CopiesPlainly go w n b h) where
  met : (k a : ℕ) → k < h.count → Uses w a → Meets (memory_of h) h k a
  met k a less uses = record { finds = finds k less; leaves = ap (λ (j : ℕ). slice_index (memory_of h j) a) (add-one k) }
    where
      finds : (k : ℕ) → k < h.count → slice_index (image_in (h.lent k)) a ≡ slice_index (memory_of h k) a
      finds zero less = refl
      finds (suc k) less = ap (λ (j : ℕ). slice_index (image_in (h.lent j)) a) (sym (add-one k)) ∙ c.stays k a (omega (arith, less)) uses

  pub copies_on : CopiesOn go w n b h (memory_of h)
  copies_on = record {
    runs = runs_on go w n b h c.runs;
    others = λ k a less off uses. (
        let here = met k a less uses in
        let m = h.device k in
        let does = c.runs.happens.does k less in
        here.leaves
        ∙ byte_same w (h.access k) (h.before k m) (h.before (k + 1) m) (h.lent k) (h.left k) (h.answer k) a does (c.bytes k less off) uses
        ∙ here.finds
        );
    meets = λ k a less on uses. met k a less uses;
    below = λ k less on. c.below k less;
    fits = c.below 0 c.runs.some;
  }

  pub plain_copies : (k : ℕ) → k < h.count → csr_status (h.before (k + 1) b) go.channel ≡ 0 → IsWorked w (image_in (h.lent 0)) (image_in (h.left k))
  plain_copies k less stopped =
      subst (λ (j : ℕ). IsWorked w (image_in (h.lent 0)) (memory_of h j)) (add-one k) (a_board_copies go w n b h (memory_of h) copies_on k less stopped)

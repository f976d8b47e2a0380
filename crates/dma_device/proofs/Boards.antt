-- A copy on a board.
use Rattle.std.proofs.Common.{◌≡◌, ◌∙◌, ℕ, zero, suc, ◌+◌, ◌-◌, ◌<◌, ◌≤◌, Bool, true, false, ◌&&◌, List, [], ◌∷◌, ◌++◌, append-nil, get_or, length, Option, Some, None, ap, refl}
use Rattle.std.proofs.Common.{sym, subst, arith, inl, inr, true≢false, add-one}
use Rattle.std.specs.Prelude.{◌==◌, if◌then◌else◌, slice_get, slice_index}
use Rattle.std.proofs.lemmas.Bool.{and_parts, cases_Bool, cases_eq, cases_lt, eqb-false, eqb-true}
use Rattle.std.proofs.lemmas.List.{get_or-append_right, get_or-set_other, get_or_append_left, get_or_past, length-append, length-set}
use Rattle.dma_mem.specs.{Regions.Piece, Regions.image_of, Regions.pieces_of, declared.regions.Region.Region}
use Rattle.dma_explain.specs.{Explains.Work, Works.IsWorked, Works.Uses, Works.work_below}
use Rattle.dma_chan.specs.Written.{range_at}
use Rattle.dma_explain.proofs.CallStays.{load_executes}
use Rattle.dma_device.specs.Accesses.{Access, Answer, Does, Resets, Restores, Stores, Turns, Writes}
use Rattle.dma_device.specs.Board.{ABoardCopies, BoardEvents, BoardLeavesBytes, BoardLeavesThread, BoardRests, BoardRunsCopy, BoardSpares, BoardStaysIn}
use Rattle.dma_device.specs.Board.{CopiesOn, Happens, LeavesThread, Rests, RunsOn, SparesBytes, SparesThread, WritesApart, event_of, is_lent, is_turn, is_turn_at, later, most_of, own_turns, turns_of}
use Rattle.dma_device.specs.Device.{DeviceValue, program_at, written}
use Rattle.dma_device.specs.Dmago.{GivenTurns, Go, RunsCopy, image_in, start_of, started_by}
use Rattle.dma_device.specs.{Faults.TheChannel, Thread.reset_thread, Thread.started, Turns.TakesTurn, Turns.lines_differ, declared.device.turns.Turn.Turn}
use Rattle.dma_device.specs.declared.thread.Thread.{Thread}
use Rattle.dma_device.proofs.Frame.{turn_leaves_others, write_leaves_threads}
use Rattle.dma_device.proofs.{Copies.dmago_copies, History.kept_along, InMemory.program_is_read, Starts.command_starts, Starts.dmago_starts, Writes.turn_writes_each}
use Rattle.dma_device.specs.Offsets as offset
use Rattle.dma_device.proofs.Explaining as explaining

-- ---- an access

-- a turn of no steps does nothing
rests : (e : DeviceValue) (regions : List Region) (n : ℕ)
    → TakesTurn e regions n 0 e regions (record { written = range_at 0 0; lines_changed = lines_differ e e; taken = 0 })
rests e regions n = record { is = refl; kept = record { places = refl; read_only = refl; names = refl } }

turn_access : (n : ℕ) (a : Access) → is_turn n a ≡ true → a ≡ Turns n (most_of a)
turn_access n a h = grind (arith, eqb-true)

-- what is true in both cases of a test
by_test : (P : Bool → Type 0) (b : Bool) → (b ≡ true → P true) → (b ≡ false → P false) → P b
by_test P b h h2 = grind (arith)

-- a turn of channel n of device b
own_parts : (h : BoardEvents) (b n k : ℕ) → is_turn_at h b n k ≡ true → (h.device k ≡ b) × (h.access k ≡ Turns n (most_of (h.access k)))
own_parts h b n k on = grind (arith, and_parts, eqb-true, turn_access)

-- an access that spares thread n leaves it as it is
thread_same : (n : ℕ) (a : Access) (d e : DeviceValue) (regions left : List Region) (answer : Answer) → Does a d regions answer e left → is_turn n a ≡ false
    → SparesThread n a d → slice_get e.threads n ≡ slice_get d.threads n
thread_same n (Writes at value) d e regions left answer does off spares =
    ap (λ (v : DeviceValue). slice_get v.threads n) does.1 ∙ (write_leaves_threads (pieces_of regions) at value d).others (TheChannel n) spares
thread_same n (Turns m most) d e regions left answer does off spares =
    (turn_leaves_others d e regions left m most does.0 does.1.1).threads n (λ same. eqb-false m n off (sym same))
thread_same n Resets d e regions left answer does off spares = absurd spares
thread_same n (Restores saved) d e regions left answer does off spares = ap (λ (v : DeviceValue). slice_get v.threads n) does.1 ∙ spares
thread_same n a d e regions left answer does off spares = ap (λ (v : DeviceValue). slice_get v.threads n) does.1

-- an access that spares a work leaves each byte of its regions that the work uses
pub byte_same : (w : Work) (a : Access) (d e : DeviceValue) (regions left : List Region) (answer : Answer) (x : ℕ) → Does a d regions answer e left
    → SparesBytes w a answer → Uses w x → slice_index (image_in left) x ≡ slice_index (image_in regions) x
byte_same w (Stores addr byte) d e regions left answer x does spares uses = grind (arith, get_or-set_other)
byte_same w (Turns m most) d e regions left answer x does spares uses =
    (turn_writes_each d regions m most e left does.0 does.1.1).no_other.bytes x (spares does.0 x does.1.0 uses)
byte_same w a d e regions left answer x does spares uses = ap (λ (ps : List Piece). slice_index (image_of ps) x) does.2.pieces

-- each access keeps the memory's size
size_same : (a : Access) (d e : DeviceValue) (regions left : List Region) (answer : Answer) → Does a d regions answer e left
    → length (image_in left) ≡ length (image_in regions)
size_same (Stores addr byte) d e regions left answer does = ap length does.4 ∙ length-set (image_in regions) addr byte
size_same (Turns m most) d e regions left answer does = (turn_writes_each d regions m most e left does.0 does.1.1).no_other.size
size_same a d e regions left answer does = ap (λ (ps : List Piece). length (image_of ps)) does.2.pieces

-- the events from number s on happen
pub happens_later : (h : BoardEvents) (s : ℕ) → Happens h → Happens (later s h)
happens_later h s c = grind arith

-- an event that isn't a turn of the channel leaves its thread as it is, if this is so of one on the channel's device
leaves_thread : (h : BoardEvents) (n b k : ℕ) → Happens h → k < h.count → is_turn_at h b n k ≡ false
    → (h.device k ≡ b → is_turn n (h.access k) ≡ false → LeavesThread h n b k) → LeavesThread h n b k
leaves_thread h n b k c less off here = elim (cases_Bool (h.device k == b)) [
  | inl own ↦ here (eqb-true (h.device k) b own) (sym (ap (λ (x : Bool). x && is_turn n (h.access k)) own) ∙ off)
  | inr other ↦ ap (λ (v : DeviceValue). slice_get v.threads n) (c.others k b less (λ same. eqb-false (h.device k) b other (sym same)))
]

pub board_leaves_thread : BoardLeavesThread
board_leaves_thread h n b k c less off spares =
    leaves_thread h n b k c less off (λ own turns.
    let does = subst (λ (m : ℕ). Does (h.access k) (h.before k m) (h.lent k) (h.answer k) (h.before (k + 1) m) (h.left k)) own (c.does k less) in
    thread_same n (h.access k) (h.before k b) (h.before (k + 1) b) (h.lent k) (h.left k) (h.answer k) does turns (spares own))

pub board_leaves_bytes : BoardLeavesBytes
board_leaves_bytes h memory w k a c less spares uses shares =
    let m = h.device k in
    let same = byte_same w (h.access k) (h.before k m) (h.before (k + 1) m) (h.lent k) (h.left k) (h.answer k) a (c.does k less) spares uses in
    elim (cases_Bool (is_lent (h.lent k) a)) [
      | inl on ↦ (let meets = shares.lent on in meets.leaves ∙ same ∙ meets.finds)
      | inr off ↦ shares.other off
    ]

-- what each step from i to k - 1 keeps is at k as it is at i
rests_along : {A : Type 0} (f : ℕ → A) (i k : ℕ) → i ≤ k → ((j : ℕ) → i ≤ j → j < k → f (j + 1) ≡ f j) → f k ≡ f i
rests_along f i zero from steps = let same : zero ≡ i = omega arith in ap f same
rests_along f i (suc k) from steps = elim (cases_eq i (suc k)) [
  | inl here ↦ ap f (sym here)
  | inr other ↦
      ap f (sym (add-one k))
      ∙ steps k (omega arith) (omega arith)
      ∙ rests_along f i k (omega arith) (λ j after less. steps j after (omega (arith, less)))
]

-- ---- the numbers of a channel's turns

module _ (h : BoardEvents) (b n : ℕ) where
  abbrev is_turn_now : ℕ → Bool
  is_turn_now k = is_turn_at h b n k

  -- how many of the first k events are turns
  abbrev pub turns_before : ℕ → ℕ
  turns_before k = length (own_turns h b n k)

  one_more : (k : ℕ) → is_turn_now k ≡ true → own_turns h b n (suc k) ≡ own_turns h b n k ++ (k ∷ [])
  one_more k on = rw on refl

  none_more : (k : ℕ) → is_turn_now k ≡ false → own_turns h b n (suc k) ≡ own_turns h b n k
  none_more k off = rw off refl

  counts : (k : ℕ) → is_turn_now k ≡ true → turns_before (suc k) ≡ turns_before k + 1
  counts k on = ap length (one_more k on) ∙ length-append (own_turns h b n k) (k ∷ [])

  grows : (k : ℕ) → turns_before k ≤ turns_before (suc k)
  grows k = elim (cases_Bool (is_turn_now k)) [ inl on ↦ (let e = counts k on in omega arith) | inr off ↦ (let e = ap length (none_more k off) in omega arith) ]

  rises : (i k : ℕ) → i ≤ k → turns_before i ≤ turns_before k
  rises i zero from = let same : i ≡ zero = omega arith in subst (λ (j : ℕ). turns_before j ≤ turns_before zero) (sym same) (omega arith)
  rises i (suc k) from = elim (cases_eq i (suc k)) [
    | inl here ↦ subst (λ (j : ℕ). turns_before j ≤ turns_before (suc k)) (sym here) (omega arith)
    | inr other ↦ (let early = rises i k (omega arith) in let last = grows k in omega arith)
  ]

  -- an event below number k is turn number j
  pub record IsTurn (k j e : ℕ) : Type 0 where
    pub early : e < k
    pub turn : is_turn_now e ≡ true
    pub number : turns_before e ≡ j

  numbered : (k j d : ℕ) → j < turns_before k → IsTurn k j (get_or (own_turns h b n k) j d)
  numbered zero j d less = absurd (omega (arith, less))
  numbered (suc k) j d less = elim (cases_Bool (is_turn_now k)) [
    | inr off ↦
        let same = none_more k off in
        let x = numbered k j d (subst (λ (ks : List ℕ). j < length ks) same less) in
        subst (λ (ks : List ℕ). IsTurn (suc k) j (get_or ks j d)) (sym same)
        (record { early = omega (arith, x.early); turn = x.turn; number = x.number })
    | inl on ↦
        subst (λ (ks : List ℕ). IsTurn (suc k) j (get_or ks j d)) (sym (one_more k on)) (elim (cases_lt j (turns_before k)) [
          | inl old ↦
              let x = numbered k j d old in
              subst (IsTurn (suc k) j) (sym (get_or_append_left (own_turns h b n k) (k ∷ []) d j old))
              (record { early = omega (arith, x.early); turn = x.turn; number = x.number })
          | inr new ↦
              let last : turns_before k ≡ j = omega (arith, less, new, counts k on) in
              let none : j - j ≡ 0 = omega arith in
              let at : get_or (own_turns h b n k ++ (k ∷ [])) j d ≡ k =
              get_or-append_right (own_turns h b n k) (k ∷ []) j j d last (omega arith)
              ∙ ap (λ (i : ℕ). get_or (k ∷ []) i d) none in
              subst (IsTurn (suc k) j) (sym at) (record { early = omega arith; turn = on; number = last })
        ])
  ]

  abbrev pub event : ℕ → ℕ
  event j = event_of h b n j

  pub is_event : (j : ℕ) → j < turns_before h.count → IsTurn h.count j (event j)
  is_event j less = numbered h.count j h.count less

  -- between two events with as many turns before them no event is a turn
  pub none_between : (i k j : ℕ) → turns_before k ≡ turns_before i → i ≤ j → j < k → is_turn_now j ≡ false
  none_between i k j same from less = elim (cases_Bool (is_turn_now j)) [
    | inr off ↦ off
    | inl on ↦ absurd (omega (arith, same, rises i j from, counts j on, rises (suc j) k (omega arith)))
  ]

  -- there is no turn number j
  pub event_past : (j : ℕ) → turns_before h.count ≤ j → event j ≡ h.count
  event_past j few = get_or_past (own_turns h b n h.count) j h.count few

  -- the event of the first turn, or the end of the events
  pub first_event : (event 0 ≤ h.count) × (turns_before (event 0) ≡ 0)
  first_event = elim (cases_lt 0 (turns_before h.count)) [
    | inl some ↦ (let x = is_event 0 some in (omega (arith, x.early), x.number))
    | inr none ↦
        let empty : turns_before h.count ≡ 0 = omega arith in
        let at = event_past 0 none in
        (omega (arith, at), ap turns_before at ∙ empty)
  ]

  -- after a turn
  pub turns_after : (j : ℕ) → j < turns_before h.count → turns_before (event j + 1) ≡ j + 1
  turns_after j less =
      let x = is_event j less in
      ap turns_before (add-one (event j)) ∙ counts (event j) x.turn ∙ ap (λ (i : ℕ). i + 1) x.number

  pub next_later : (j : ℕ) → j + 1 < turns_before h.count → event j + 1 ≤ event (j + 1)
  next_later j less = elim (cases_lt (event j) (event (j + 1))) [
    | inl ok ↦ omega arith
    | inr back ↦
        let x = is_event j (omega (arith, less)) in
        let y = is_event (j + 1) less in
        absurd (omega (arith, rises (event (j + 1)) (event j) back, x.number, y.number))
  ]

  -- between two turns there is no other
  pub calm_between : (j : ℕ) → j + 1 < turns_before h.count → (i : ℕ) → event j + 1 ≤ i → i < event (j + 1) → is_turn_now i ≡ false
  calm_between j less i from before =
      none_between (event j + 1) (event (j + 1)) i ((is_event (j + 1) less).number ∙ sym (turns_after j (omega (arith, less)))) from before

-- ---- a program that a DMAGO starts

module _ (go : Go) (w : Work) (n b : ℕ) (h : BoardEvents) (c : RunsOn go w n b h) where
  abbrev is_own : ℕ → Bool
  is_own k = is_turn_at h b go.channel k

  -- the event is an access to device b
  abbrev DoesAt : ℕ → ℕ → Access → Type 0
  DoesAt k m a = Does a (h.before k m) (h.lent k) (h.answer k) (h.before (k + 1) m) (h.left k)

  does_at : (k : ℕ) → k < h.count → h.device k ≡ b → DoesAt k b (h.access k)
  does_at k less own = subst (λ (m : ℕ). DoesAt k m (h.access k)) own (c.happens.does k less)

  -- a turn of the channel
  abbrev OwnTurn : ℕ → Type 0
  OwnTurn k = (turn : Turn) × TakesTurn (h.before k b) (h.lent k) go.channel (most_of (h.access k)) (h.before (k + 1) b) (h.left k) turn

  own_turn : (k : ℕ) → k < h.count → is_own k ≡ true → OwnTurn k
  own_turn k less on =
      let both = own_parts h b go.channel k on in
      let does = subst (DoesAt k b) both.1 (does_at k less both.0) in
      (does.0, does.1.1)

  -- any other event leaves the thread as it is
  thread_kept : (k : ℕ) → 0 < k → k < h.count → is_own k ≡ false → LeavesThread h go.channel b k
  thread_kept k past less off = leaves_thread h go.channel b k c.happens less off (c.thread k past less)

  -- ---- event number 0

  not_own : is_own 0 ≡ false
  not_own = grind (arith, cases_Bool, own_parts)

  first_does : DoesAt 0 b (Writes offset.dbgcmd c.begins.value)
  first_does = subst (DoesAt 0 b) c.begins.access (does_at 0 c.begins.some c.begins.number)

  -- the thread after it
  abbrev new_thread : Thread
  new_thread =
      started go.nonsecure go.addr (program_at go.ram go.addr) (get_or go.device.threads go.channel (reset_thread go.device.config.bus))

  starts : slice_get (h.before 1 b).threads go.channel ≡ Some new_thread
  starts =
      let value = c.begins.value in
      let dmago = c.begins.dmago in
      ap (λ (v : DeviceValue). slice_get v.threads go.channel) (
      first_does.1
      ∙ ap (λ (v : DeviceValue). written (pieces_of (h.lent 0)) offset.dbgcmd value v) c.begins.device
      ∙ ap (λ (ps : List Piece). written ps offset.dbgcmd value go.device) c.begins.ram
      )
      ∙ command_starts go value c.begins.command dmago.manager dmago.opcode dmago.channel dmago.addr c.may_go

  -- ---- the channel executes the program

  abbrev InCopy : Option Thread → Type 0
  InCopy o = explaining.InCopy w go.channel (explaining.channel_if o)

  abbrev HasCopy : ℕ → Type 0
  HasCopy k = InCopy (slice_get (h.before k b).threads go.channel)

  copy_begins : HasCopy 1
  copy_begins =
      subst InCopy (sym starts) (inr (
        start_of go,
        go.program,
        n,
        c.explains,
        load_executes (start_of go) go.program n _
            (record { bytes = program_at go.ram go.addr; cost = None }, program_is_read go.ram go.addr go.program c.in_ram, refl),
      ))

  copy_kept : (k : ℕ) → 0 < k → k < h.count → HasCopy k → HasCopy (k + 1)
  copy_kept k past less g = elim (cases_Bool (is_own k)) [
    | inl on ↦
        let x = own_turn k less on in
        explaining.after_turn w go.channel (h.before k b) (h.lent k) (most_of (h.access k)) (h.before (k + 1) b) (h.left k) x.0 g x.1
    | inr off ↦ subst InCopy (sym (thread_kept k past less off)) g
  ]

  -- while the channel has no turn its thread stays as it is
  thread_rests : (i k : ℕ) → 0 < i → i ≤ k → k ≤ h.count → ((j : ℕ) → i ≤ j → j < k → is_own j ≡ false)
      → slice_get (h.before k b).threads go.channel ≡ slice_get (h.before i b).threads go.channel
  thread_rests i k past from within calm =
      rests_along (λ j. slice_get (h.before j b).threads go.channel) i k from
      (λ j after less. thread_kept j (omega (arith, after)) (omega (arith, less)) (calm j after less))

  copies_at : (k : ℕ) → suc k < h.count → HasCopy (suc k)
  copies_at k less =
      let e : k + 1 ≡ suc k = omega arith in
      subst HasCopy e (kept_along (λ j. HasCopy (j + 1)) k copy_begins (λ j l g. copy_kept (j + 1) (omega arith) (omega (arith, l, less)) g) k (omega arith))

pub board_stays_in : BoardStaysIn
board_stays_in go w n b h zero most turn c less own is reply = absurd (let bad = sym c.begins.access ∙ is in cc)
board_stays_in go w n b h (suc k) most turn c less own is reply =
    let d = h.before (suc k) b in
    let e = h.before (suc k + 1) b in
    let does = subst (λ (a : Access). Does a d (h.lent (suc k)) (h.answer (suc k)) e (h.left (suc k))) is (does_at go w n b h c (suc k) less own) in
    let same : does.0 ≡ turn = let given = sym does.1.0 ∙ reply in cc in
    explaining.turn_stays w go.channel d (h.lent (suc k)) most e (h.left (suc k)) turn (copies_at go w n b h c k less)
    (subst (TakesTurn d (h.lent (suc k)) go.channel most e (h.left (suc k))) same does.1.1)

pub spares_here : (go : Go) (v w : Work) (n b : ℕ) (h : BoardEvents) → RunsOn go v n b h → WritesApart v w → (k : ℕ) → k < h.count
    → is_turn_at h b go.channel k ≡ true → SparesBytes w (h.access k) (h.answer k)
spares_here go v w n b h c apart k less on =
    let both = own_parts h b go.channel k on in
    subst (λ (t : Access). SparesBytes w t (h.answer k)) (sym both.1)
    (λ turn a reply uses lies. apart a ((board_stays_in go v n b h k (most_of (h.access k)) turn c less both.0 both.1 reply).writes a lies) uses)

pub board_spares : BoardSpares
board_spares go v w n b s h c apart k from less on =
    let e : s + (k - s) ≡ k = omega (arith, from) in
    subst (λ (j : ℕ). SparesBytes w (h.access j) (h.answer j)) e
    (spares_here go v w n b (later s h) c apart (k - s) (omega (arith, from, less)) (subst (λ (j : ℕ). is_turn_at h b go.channel j ≡ true) (sym e) on))

-- ---- a copy

-- a region from address 0 on that has these bytes
abbrev whole : List ℕ → List Region
whole bytes = record { addr = 0; bytes = record { ref_ptr = (0, 0); ghost_name = 0; now = bytes }; read_only = 0 } ∷ []

module _ (go : Go) (w : Work) (n b : ℕ) (h : BoardEvents) (memory : ℕ → List ℕ) (c : CopiesOn go w n b h memory) where
  abbrev r : RunsOn go w n b h
  r = c.runs

  abbrev is_now : ℕ → Bool
  is_now k = is_turn_at h b go.channel k

  abbrev event_now : ℕ → ℕ
  event_now j = event_of h b go.channel j

  abbrev all_turns : ℕ
  all_turns = length (own_turns h b go.channel h.count)

  -- ---- the memory

  size_kept : (k : ℕ) → k < h.count → length (image_in (h.left k)) ≡ length (image_in (h.lent k))
  size_kept k less = grind (arith, size_same)

  memory_rests : (i k a : ℕ) → i ≤ k → k ≤ h.count → ((j : ℕ) → i ≤ j → j < k → is_now j ≡ false) → Uses w a
      → slice_index (memory k) a ≡ slice_index (memory i) a
  memory_rests i k a from within calm uses =
      rests_along (λ j. slice_index (memory j) a) i k from (λ j after less. c.others j a (omega (arith, less)) (calm j after less) uses)

  rests_till : (i k : ℕ) → i ≤ k → k ≤ h.count → ((j : ℕ) → i ≤ j → j < k → is_now j ≡ false) → Rests go w b h memory i k
  rests_till i k from within calm = record {
    thread = λ past. thread_rests go w n b h r i k past from within calm;
    bytes = λ a uses. memory_rests i k a from within calm uses;
  }

  -- ---- the channel's turns

  none_first : length (own_turns h b go.channel 1) ≡ 0
  none_first = ap length (none_more h b go.channel 0 (not_own go w n b h r))

  past_first : 1 ≤ event_now 0
  past_first = elim (cases_eq (event_now 0) 0) [
    | inr other ↦ omega arith
    | inl none ↦ elim (cases_lt 0 all_turns) [
      | inl some ↦ absurd (true≢false (sym (is_event h b go.channel 0 some).turn ∙ ap is_now none ∙ not_own go w n b h r))
      | inr few ↦ (let at = event_past h b go.channel 0 (omega arith) in let some = r.begins.some in omega arith)
    ]
  ]

  runs_copy : RunsCopy go w n (turns_of h b go.channel)
  runs_copy = record {
    in_ram = r.in_ram;
    may_go = r.may_go;
    explains = r.explains;
    begins =
        thread_rests go w n b h r 1 (event_now 0) (omega arith) past_first (first_event h b go.channel).0
        (λ j after less. none_between h b go.channel 1 (event_now 0) j ((first_event h b go.channel).1 ∙ sym none_first) after less)
        ∙ starts go w n b h r
        ∙ sym (dmago_starts go r.may_go);
    takes = λ j less. let x = is_event h b go.channel j less in own_turn go w n b h r (event_now j) x.early x.turn;
    below = λ j less. let x = is_event h b go.channel j less in c.below (event_now j) x.early x.turn;
    goes_on = λ j less. (
        let y = is_event h b go.channel (j + 1) less in
        thread_rests go w n b h r (event_now j + 1) (event_now (j + 1)) (omega arith) (next_later h b go.channel j less) (omega (arith, y.early))
        (calm_between h b go.channel j less)
        );
    unchanged = λ j a less uses. (
        let x = is_event h b go.channel j (omega (arith, less)) in
        let y = is_event h b go.channel (j + 1) less in
        (c.meets (event_now (j + 1)) a y.early y.turn uses).finds
        ∙ memory_rests (event_now j + 1) (event_now (j + 1)) a (next_later h b go.channel j less) (omega (arith, y.early))
        (calm_between h b go.channel j less) uses
        ∙ (c.meets (event_now j) a x.early x.turn uses).leaves
        );
  }

  -- ---- the memory at the DMAGO and after each event

  -- what the channel's last turn before event number k left, or the memory at the DMAGO
  abbrev last_left : ℕ → List Region
  last_left zero = whole (memory 0)
  last_left (suc k) = if is_now k then h.left k else last_left k

  last_is : (k a : ℕ) → k ≤ h.count → Uses w a → slice_index (image_in (last_left k)) a ≡ slice_index (memory k) a
  last_is zero a within uses = ap (λ (bytes : List ℕ). slice_index bytes a) (append-nil (memory 0))
  last_is (suc k) a within uses =
      by_test (λ own. slice_index (image_in (if own then h.left k else last_left k)) a ≡ slice_index (memory (k + 1)) a) (is_now k)
      (λ on. sym (c.meets k a (omega arith) on uses).leaves) (λ off. last_is k a (omega arith) uses ∙ sym (c.others k a (omega arith) off uses))
      ∙ ap (λ (j : ℕ). slice_index (memory j) a) (add-one k)

  last_below : (k : ℕ) → k ≤ h.count → work_below w (length (image_in (last_left k))) ≡ true
  last_below zero within = ap (λ (bytes : List ℕ). work_below w (length bytes)) (append-nil (memory 0)) ∙ c.fits
  last_below (suc k) within =
      by_test (λ own. work_below w (length (image_in (if own then h.left k else last_left k))) ≡ true) (is_now k)
      (λ on. ap (work_below w) (size_kept k (omega arith)) ∙ c.below k (omega arith) on) (λ off. last_below k (omega arith))

  -- At each other event the channel has a turn of no steps, which does nothing, right after the event.
  abbrev every_event : GivenTurns
  every_event = record {
    count = h.count;
    most = λ k. if is_now k then most_of (h.access k) else 0;
    before = λ k. if is_now k then h.before k b else h.before (k + 1) b;
    after = λ k. h.before (k + 1) b;
    lent = λ k. if is_now k then h.lent k else last_left k;
    left = λ k. last_left (suc k);
  }

  abbrev First : Bool → Type 0
  First own = slice_get (if own then h.before 0 b else h.before 1 b).threads go.channel ≡ slice_get (started_by go).threads go.channel

  runs_every : RunsCopy go w n every_event
  runs_every = record {
    in_ram = r.in_ram;
    may_go = r.may_go;
    explains = r.explains;
    begins = subst First (sym (not_own go w n b h r)) (starts go w n b h r ∙ sym (dmago_starts go r.may_go));
    takes = λ k less.
        by_test (λ own. (turn : Turn)
        × TakesTurn (if own then h.before k b else h.before (k + 1) b) (if own then h.lent k else last_left k) go.channel
        (if own then most_of (h.access k) else 0) (h.before (k + 1) b) (if own then h.left k else last_left k) turn) (is_now k)
        (own_turn go w n b h r k less) (λ _. (_, rests (h.before (k + 1) b) (last_left k) go.channel));
    below = λ k less.
        by_test (λ own. work_below w (length (image_in (if own then h.lent k else last_left k))) ≡ true) (is_now k) (c.below k less)
        (λ _. last_below k (omega (arith, less)));
    goes_on = λ k less. (
        let j = k + 1 in
        by_test (λ own. slice_get (if own then h.before j b else h.before (j + 1) b).threads go.channel ≡ slice_get (h.before j b).threads go.channel)
        (is_now j) (λ _. refl) (thread_kept go w n b h r j (omega arith) less)
        );
    unchanged = λ k a less uses. (
        let j = k + 1 in
        by_test (λ own. slice_index (image_in (if own then h.lent j else last_left j)) a ≡ slice_index (memory j) a) (is_now j)
        (λ on. (c.meets j a less on uses).finds) (λ _. last_is j a (omega (arith, less)) uses)
        ∙ ap (λ (i : ℕ). slice_index (memory i) a) (add-one k)
        ∙ sym (last_is (suc k) a (omega (arith, less)) uses)
        );
  }

  abbrev Copied : ℕ → Bool → Type 0
  Copied k own = IsWorked w (image_in (if own then h.lent 0 else whole (memory 0))) (image_in (last_left (suc k)))

  works : (k : ℕ) → k < h.count → Copied k (is_now 0) → IsWorked w (memory 0) (memory (k + 1))
  works k less worked =
      let first = subst (Copied k) (not_own go w n b h r) worked in
      let done = subst (λ (bytes : List ℕ). IsWorked w bytes (image_in (last_left (suc k)))) (append-nil (memory 0)) first in
      let at = λ (a : ℕ) (uses : Uses w a). ap (λ (j : ℕ). slice_index (memory j) a) (add-one k) ∙ sym (last_is (suc k) a (omega arith) uses) in
      record { copied = λ a i. at a (inl i) ∙ done.copied a i; zeros = λ a i. at a (inr i) ∙ done.zeros a i }

pub board_runs_copy : BoardRunsCopy
board_runs_copy = runs_copy

pub board_rests : BoardRests
board_rests go w n b h memory i k c from within calm = rests_till go w n b h memory c i k from within calm

pub a_board_copies : ABoardCopies
a_board_copies go w n b h memory c k less stopped =
    works go w n b h memory c k less (dmago_copies go w n (every_event go w n b h memory c) (runs_every go w n b h memory c) k less stopped)

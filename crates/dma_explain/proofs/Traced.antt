-- A run without memory, and one instruction of the machine beside it.
use Rattle.std.proofs.Common.{◌≡◌, ℕ, zero, suc, ◌+◌, ◌-◌, ◌≤◌, ◌<◌, Bool, true, false, ltb, List, [], ◌++◌, length, get_or, take, drop, refl, sym, ap, ◌∙◌}
use Rattle.std.proofs.Common.{subst, arith, append_assoc, append-nil, length-append, inl, inr, Result}
use Rattle.std.specs.Prelude.{Option, Some, ◌≢◌, ◌⊎◌, replicate, nat_eq, slice_index, slice_index_or, slice_set, unwrap_or}
use Rattle.std.specs.{List.Contains, List.list_any, List.range_with_len, List.zip, Map.keys_of, Map.lookup}
use Rattle.std.proofs.lemmas.Bool.{cases_Bool, cond_both, eq-eqb, eqb-true, le-ltb, cases_lt, true≢false}
use Rattle.std.proofs.lemmas.List.{get_or_append_left, get_or-replicate, length-replicate, take_all, map-append, drop-append-le, take_at, drop_at, drop-drop}
use Rattle.std.proofs.lemmas.List.{length-drop, length-map, length-take-le, take-map, drop-map, take-append-le}
use Rattle.std.proofs.lemmas.List.Elements.{Contains-append_cases, Contains-append_left, Contains-append_right}
use Rattle.std.proofs.{lemmas.List.Folds.Any-from_list_any, Math.Seq.take-add}
use Rattle.dma_insn.specs.declared.insn.Reg.TheVariants.{Ccr, Dar}
use Rattle.dma_insn.specs.declared.chip.ChipInsn.TheVariants.{Mov, Ld, St, End, LpEnd, Sev, Wfe, StoreZeros, AddHalfword, LoopAgain}
use Rattle.dma_insn.specs.{declared.chip.Address.TheVariants.Destination, declared.chip.ChipInsn.ChipInsn}
use Rattle.dma_mem.specs.Image.{bytes_at, put, after_moves, carried, laid}
use Rattle.dma_mem.specs.Places.{Descriptor, Apart, sources, destinations, moves}
use Rattle.dma_mem.specs.{Marking.MarkList, declared.marks.MarkKind.TheVariants.Reading, declared.marks.MarkKind.TheVariants.Writing}
use Rattle.dma_mem.proofs.OverTransfers.{keys_in, once_parts, moves_writes, drop_zip, take_zip, carried_zip}
use Rattle.dma_mem.proofs.{ImageOver.after_moves_more, ImageOver.get_or_after_moves_other, ImageOver.length_after_moves, BytesPut.lookup_bytes_at}
use Rattle.dma_mem.proofs.{ImagePut.get_or_put, ImagePut.get_or_put_other, ImagePut.length_put, MarkHits.list_any_of, SharedPlaces.range_in}
use Rattle.dma_chan.specs.declared.turn.ChanTurn.TheVariants.{Moved, Waiting, Ended, Fault}
use Rattle.dma_chan.specs.Bursts.{burst_len, reaches, span_of, touched, writes_of, zeros_of}
use Rattle.dma_chan.specs.Exec.{source_of, destination_of, counter_of, State, state, act, read_at, moved, moves_keeping}
use Rattle.dma_chan.specs.{declared.exec.Registers.Registers, declared.turn.ChanTurn.ChanTurn, declared.turn.FaultKind.FaultKind, declared.bursts.Burst.Burst}
use Rattle.dma_chan.specs.{Others.Touches}
use Rattle.dma_explain.specs.Works.{MissesAll, Uses}
use Rattle.dma_explain.specs.Explains.{Trace, after_insn, after_fetch, cleared, next_in, traced, IsCopy, IsWork, Work}
use Rattle.dma_chan.proofs.{BurstReach.reaches_all, BurstsInTurn.left_up, ControlWords.moves_some, ControlWords.touched_up, KeptBytes.kept_held}
use Rattle.dma_chan.proofs.{MemberActs.cannot_jump, OthersKept.left_touched, OthersKept.zeros_touched, ReadsOnly.read_at_agrees}
use Rattle.dma_explain.proofs.GoingOn.{Can, dropped, length_up}

-- ---- the lists grow

-- a trace that is longer by these addresses
pub record Grows (x y : Trace) : Type 0 where
  pub more_loads : List ℕ
  pub more_stores : List ℕ
  pub more_zeros : List ℕ
  pub loads : y.loads ≡ x.loads ++ more_loads
  pub stores : y.stores ≡ x.stores ++ more_stores
  pub zeros : y.zeros ≡ x.zeros ++ more_zeros

grows_none : (x y : Trace) → y.loads ≡ x.loads → y.stores ≡ x.stores → y.zeros ≡ x.zeros → Grows x y
grows_none x y e f g = record {
  more_loads = [];
  more_stores = [];
  more_zeros = [];
  loads = e ∙ sym (append-nil x.loads);
  stores = f ∙ sym (append-nil x.stores);
  zeros = g ∙ sym (append-nil x.zeros);
}

pub grows_insn : (i : ChipInsn) (x : Trace) → Grows x (after_insn i x)
grows_insn Ld x = record {
  more_loads = touched (source_of x.registers);
  more_stores = [];
  more_zeros = [];
  loads = refl;
  stores = sym (append-nil x.stores);
  zeros = sym (append-nil x.zeros);
}
grows_insn St x = record {
  more_loads = [];
  more_stores = touched (destination_of x.registers);
  more_zeros = [];
  loads = sym (append-nil x.loads);
  stores = refl;
  zeros = sym (append-nil x.zeros);
}
grows_insn StoreZeros x = record {
  more_loads = [];
  more_stores = [];
  more_zeros = touched (destination_of x.registers);
  loads = sym (append-nil x.loads);
  stores = sym (append-nil x.stores);
  zeros = refl;
}
grows_insn i x = grows_none x (after_insn i x) refl refl refl

grows_fetch : (r : Result ChipInsn FaultKind) (x : Trace) → Grows x (after_fetch r x)
grows_fetch r x = grind (arith, grows_insn, grows_none)

pub grows_on : (x y z : Trace) → Grows x y → Grows y z → Grows x z
grows_on x y z f g = grind (arith, append_assoc)

grows_same : (x y : Trace) → y ≡ x → Grows x y
grows_same x y e = grows_none x y (ap (λ (z : Trace). z.loads) e) (ap (λ (z : Trace). z.stores) e) (ap (λ (z : Trace). z.zeros) e)

pub grows_to : (start : Registers) (program : List ℕ) (k m : ℕ) → k ≤ m → Grows (traced start program k) (traced start program m)
grows_to start program k zero l = grind (arith, grows_same)
grows_to start program k (suc m) l =
    elim (cases_lt m k) [
      | inl last ↦
          let e : k ≡ suc m = omega arith in
          grows_same (traced start program k) (traced start program (suc m)) (ap (traced start program) (sym e))
      | inr le ↦ grows_on (traced start program k) (traced start program m) (traced start program (suc m)) (grows_to start program k m le)
          (grows_fetch (next_in program (traced start program m)) (traced start program m))
    ]

-- if two images have the same byte at an address, they still do after the same bytes are put into both
pub put_agrees : (x y : List ℕ) (es : List (ℕ × ℕ)) (a : ℕ) → a < length x → a < length y → get_or x a 0 ≡ get_or y a 0
    → get_or (put x es) a 0 ≡ get_or (put y es) a 0
put_agrees x y es a in_x in_y same = get_or_put x es a in_x ∙ ap (unwrap_or (lookup (nat_eq a) es)) same ∙ sym (get_or_put y es a in_y)

-- ---- a copy that goes on

-- what is put at the next destinations
pub laid_more : (first : List ℕ) (t : Descriptor) (k n : ℕ) → IsCopy t
    → put (laid first t k) (zip (take n (drop k (destinations t))) (read_at first (take n (drop k (sources t))))) ≡ laid first t (k + n)
laid_more first t k n copy =
    let ds = destinations t in
    let ss = sources t in
    let zs = zip ds ss in
    let more = take n (drop k zs) in
    let same : carried first more ≡ zip (take n (drop k ds)) (read_at first (take n (drop k ss))) = grind (arith, drop_zip, take_zip, carried_zip) in
    let apart : Apart (keys_of more) (keys_of (take k zs)) =
    λ a i j. once_parts ds k n copy.once a (keys_in n (drop k ds) (drop k ss) a (rw drop_zip at i)) (keys_in k ds ss a j) in
    let all = after_moves_more first (take k zs) more [] apart in
    ap (put (laid first t k)) (sym same)
    ∙ ap (λ (ms : List (ℕ × ℕ)). put (after_moves first ms) (carried first more)) (sym (append-nil (take k zs)))
    ∙ sym all
    ∙ ap (λ (ms : List (ℕ × ℕ)). after_moves first (take k zs ++ ms)) (append-nil more)
    ∙ ap (after_moves first) (sym (take-add k n zs))

-- a source keeps its byte
pub source_kept : (first : List ℕ) (t : Descriptor) (k a : ℕ) → IsCopy t → Contains (sources t) a → get_or (laid first t k) a 0 ≡ get_or first a 0
source_kept first t k a copy i = get_or_after_moves_other first (moves t k) a (λ j. copy.apart a i (moves_writes t k a j))

pub length_laid : (first : List ℕ) (t : Descriptor) (k : ℕ) → length (laid first t k) ≡ length first
length_laid first t k = length_after_moves first (moves t k)

-- ---- works

-- its copy is one
pub copy_of : (work : Work) → IsWork work → IsCopy work.copy
copy_of work h =
    let ds = destinations work.copy in
    let zs = cleared work in
    record {
      same_length = h.same_length;
      once = λ i j d l m.
          let long = length-append ds zs in
          subst (λ (x : ℕ). x ≢ get_or ds j d) (get_or_append_left ds zs d i (omega arith))
          (subst (λ (x : ℕ). get_or (ds ++ zs) i d ≢ x) (get_or_append_left ds zs d j (omega arith)) (h.once i j d l (omega (arith, long))));
      apart = λ a i j. h.apart a i (Contains-append_left ds zs a j);
    }

-- what it sets to 0 is no part of its copy
pub zeros_apart : (work : Work) (a : ℕ) → IsWork work → Contains (cleared work) a → ¬ Touches work.copy a
zeros_apart work a h i (inl read) = h.apart a read (Contains-append_right (destinations work.copy) (cleared work) a i)
zeros_apart work a h i (inr stored) =
    let ds = destinations work.copy in
    let zs = cleared work in
    let behind : take (length zs) (drop (length ds) (ds ++ zs)) ≡ zs = ap (take (length zs)) (drop_at ds zs (length ds) refl)
    ∙ take_all (length zs) zs (omega arith) in
    once_parts (ds ++ zs) (length ds) (length zs) h.once a (subst (λ (xs : List ℕ). Contains xs a) (sym behind) i)
    (subst (λ (xs : List ℕ). Contains xs a) (sym (take_at ds zs (length ds) refl)) stored)

pub in_or_not : (xs : List ℕ) (a : ℕ) → Contains xs a ⊎ ¬ Contains xs a
in_or_not xs a = elim (cases_Bool (list_any (nat_eq a) xs)) [
  | inl some ↦ let w = Any-from_list_any (nat_eq a) xs some in inl (subst (Contains xs) (sym (eqb-true a w.1 w.4)) (w.0, w.2, w.3))
  | inr none ↦ inr (λ i. true≢false (sym (list_any_of (nat_eq a) xs a i (eq-eqb a a refl)) ∙ none))
]

-- a burst of zeros sets each of its addresses to 0
put_zeros : (image : List ℕ) (b : Burst) (a : ℕ) → b.increments ≡ true → a < length image → Contains (touched b) a → get_or (put image (zeros_of b)) a 0 ≡ 0
put_zeros image b a up low i =
    let n = burst_len b in
    let span : span_of b ≡ n = rw up refl in
    let within = range_in b.addr n a (subst (λ (xs : List ℕ). Contains xs a) (touched_up b up) i) in
    let zeros : List ℕ = replicate n 0 in
    let k = a - b.addr in
    let less : k < n = omega arith in
    let found : lookup (nat_eq a) (bytes_at b.addr zeros) ≡ Some (get_or zeros k 0) = grind (arith, lookup_bytes_at, length-replicate) in
    ap (λ (m : ℕ). get_or (put image (bytes_at b.addr (replicate m 0))) a 0) span
    ∙ get_or_put image (bytes_at b.addr zeros) a low
    ∙ ap (λ (o : Option ℕ). unwrap_or o (get_or image a 0)) found
    ∙ get_or-replicate n k 0 0 less

-- ---- the machine beside the run without memory

-- Registers, buffer and memory after a run, if the memory was `first` before it: the buffer has the bytes that were at
-- the addresses that are read and not yet written, and the memory those that are stored so far, and the zeros.
pub record Mirrors (work : Work) (first : List ℕ) (x : Trace) (registers : Registers) (buffer image : List ℕ) : Type 0 where
  pub registers_are : registers ≡ x.registers
  pub buffer_is : buffer ≡ drop (length x.stores) (read_at first x.loads)
  pub few : length x.stores ≤ length x.loads
  pub same : (a : ℕ) → Touches work.copy a → get_or image a 0 ≡ get_or (laid first work.copy (length x.stores)) a 0
  pub zeros : (a : ℕ) → Contains x.zeros a → get_or image a 0 ≡ 0
  pub rest : (a : ℕ) → Contains (cleared work) a → ¬ Contains x.zeros a → get_or image a 0 ≡ get_or first a 0
  pub fits : (a : ℕ) → Uses work a → a < length image

-- what is read and written so far is a part of the work
pub record Inside (work : Work) (x : Trace) : Type 0 where
  pub loads_rest : List ℕ
  pub stores_rest : List ℕ
  pub zeros_rest : List ℕ
  pub loads : sources work.copy ≡ x.loads ++ loads_rest
  pub stores : destinations work.copy ≡ x.stores ++ stores_rest
  pub zeros : cleared work ≡ x.zeros ++ zeros_rest

-- what each answer of an instruction that goes on says
abbrev pub Answers : Work → List ℕ → MarkList → ChipInsn → Trace → ChanTurn × State → Type 0
Answers work first marks i x (Moved, s) = Mirrors work first x s.registers s.buffer s.image
Answers work first marks i x (Waiting e, s) = (v : Bool) × (i ≡ Wfe e v)
Answers work first marks i x (Ended, s) = ⊥
Answers work first marks i x (Fault kind, s) = ¬ MissesAll marks work

module _ (work : Work) (first : List ℕ) (marks : MarkList) (whole : IsWork work) (low : (a : ℕ) → Uses work a → a < length first) (x : Trace)
    (buffer image : List ℕ) (flags : List Bool) (m : Mirrors work first x x.registers buffer image) where
  abbrev here : State
  here = state x.registers buffer image flags

  abbrev t : Descriptor
  t = work.copy

  copy : IsCopy t
  copy = copy_of work whole

  held : length buffer ≡ length x.loads - length x.stores
  held = grind (arith, length-drop, length-map)

  -- an instruction that moves no byte
  quiet : (i : ChipInsn) (r : Registers) (new : List Bool) → Answers work first marks i (record x { registers = r }) (Moved, state r buffer image new)
  quiet i r new = record { registers_are = refl; buffer_is = m.buffer_is; few = m.few; same = m.same; zeros = m.zeros; rest = m.rest; fits = m.fits }

  -- one that changes the next store and drops no byte
  keeps : (i : ChipInsn) → dropped i x ≡ false
      → Answers work first marks i (record x { registers = moved i x.registers }) (moves_keeping (moved i x.registers) here)
  keeps i none = record {
    registers_are = refl;
    buffer_is = kept_held x.registers (moved i x.registers) buffer _ held none ∙ m.buffer_is;
    few = m.few;
    same = m.same;
    zeros = m.zeros;
    rest = m.rest;
    fits = m.fits;
  }

  load_answers : Inside work (after_insn Ld x) → Can Ld x → Answers work first marks Ld (after_insn Ld x) (act marks Ld here)
  load_answers part c =
      let b = source_of x.registers in
      let new = touched b in
      let room : ltb 256 (length buffer + burst_len b) ≡ false = le-ltb 256 _ (omega (arith, held, c, m.few)) in
      let source : (a : ℕ) → Contains new a → Contains (sources t) a =
      λ a i. subst (λ (xs : List ℕ). Contains xs a) (sym part.loads)
      (Contains-append_left (x.loads ++ new) part.loads_rest a (Contains-append_right x.loads new a i)) in
      let bytes : read_at image new ≡ read_at first new =
      read_at_agrees image first new (λ a i. m.same a (inl (source a i)) ∙ source_kept first t (length x.stores) a copy (source a i)) in
      rw room (cond_both (reaches Reading marks (length image) new) _ _ (Answers work first marks Ld (after_insn Ld x)) (λ e. record {
        registers_are = refl;
        buffer_is =
            ap (λ (xs : List ℕ). xs ++ read_at image new) m.buffer_is
            ∙ ap (λ (xs : List ℕ). drop (length x.stores) (read_at first x.loads) ++ xs) bytes
            ∙ sym (drop-append-le (length x.stores) (read_at first x.loads) (read_at first new) (omega (arith, m.few, length-map x.loads (slice_index first))))
            ∙ ap (drop (length x.stores)) (sym (map-append (λ (a : ℕ). slice_index first a) x.loads new));
        few = omega (arith, m.few, length-append x.loads new);
        same = m.same;
        zeros = m.zeros;
        rest = m.rest;
        fits = m.fits;
      }) (λ e misses. true≢false
      (sym (reaches_all Reading marks (length image) new (λ a i. m.fits a (inl (inl (source a i)))) (λ a i. misses.copy.reads a (source a i))) ∙ e)))

  -- what is set to 0 so far is a part of all that is
  zero_in : Inside work x → (a : ℕ) → Contains x.zeros a → Contains (cleared work) a
  zero_in part a i = subst (λ (xs : List ℕ). Contains xs a) (sym part.zeros) (Contains-append_left x.zeros part.zeros_rest a i)

  store_answers : Inside work (after_insn St x) → Inside work x → Can St x → Answers work first marks St (after_insn St x) (act marks St here)
  store_answers part before c =
      let b = destination_of x.registers in
      let new = touched b in
      let n = burst_len b in
      let k = length x.stores in
      let long : length new ≡ n = length_up b c.1 in
      let enough : ltb (length buffer) n ≡ false = le-ltb _ _ (omega (arith, held, c.0)) in
      let is_in : (a : ℕ) → Contains new a → Contains (destinations t) a =
      λ a i. subst (λ (xs : List ℕ). Contains xs a) (sym part.stores)
      (Contains-append_left (x.stores ++ new) part.stores_rest a (Contains-append_right x.stores new a i)) in
      -- the places of the burst
      let at_dst : take n (drop k (destinations t)) ≡ new =
      ap (λ (xs : List ℕ). take n (drop k xs)) (part.stores ∙ append_assoc x.stores new part.stores_rest)
      ∙ ap (take n) (drop_at x.stores (new ++ part.stores_rest) k refl)
      ∙ take_at new part.stores_rest n long in
      let fits_in : n ≤ length (drop k x.loads) = omega (arith, c.0, length-drop k x.loads) in
      let at_src : take n (drop k (sources t)) ≡ take n (drop k x.loads) =
      ap (λ (xs : List ℕ). take n (drop k xs)) before.loads
      ∙ ap (take n) (drop-append-le k x.loads before.loads_rest (omega (arith, c.0)))
      ∙ take-append-le n (drop k x.loads) before.loads_rest fits_in in
      let bytes : take n buffer ≡ read_at first (take n (drop k (sources t))) =
      ap (take n) (m.buffer_is ∙ drop-map (λ (a : ℕ). slice_index first a) k x.loads)
      ∙ take-map (λ (a : ℕ). slice_index first a) n (drop k x.loads)
      ∙ ap (read_at first) (sym at_src) in
      let length_bytes : length (take n buffer) ≡ n = length-take-le n buffer (omega (arith, held, c.0)) in
      let left : writes_of b (take n buffer) ≡ zip (take n (drop k (destinations t))) (read_at first (take n (drop k (sources t)))) =
      left_up b (take n buffer) c.1
      ∙ ap (λ (j : ℕ). zip (range_with_len b.addr j) (take n buffer)) length_bytes
      ∙ ap (λ (xs : List ℕ). zip xs (take n buffer)) (sym (touched_up b c.1) ∙ sym at_dst)
      ∙ ap (zip (take n (drop k (destinations t)))) bytes in
      let count : length (x.stores ++ new) ≡ k + n = omega (arith, length-append x.stores new, long) in
      let base = laid first t k in
      let elsewhere : (a : ℕ) → Contains (cleared work) a → get_or (put image (writes_of b (take n buffer))) a 0 ≡ get_or image a 0 =
      λ a i. get_or_put_other image (writes_of b (take n buffer)) a
      (λ j. zeros_apart work a whole i
      (inr (is_in a (left_touched b (take n buffer) a (moves_some x.registers.bus 14 x.registers.dar x.registers.ccr).beats length_bytes j)))) in
      rw enough (cond_both (reaches Writing marks (length image) new) _ _ (Answers work first marks St (after_insn St x)) (λ e. record {
        registers_are = refl;
        buffer_is = ap (drop n) m.buffer_is ∙ drop-drop n k (read_at first x.loads) ∙ ap (λ (j : ℕ). drop j (read_at first x.loads)) (sym count);
        few = omega (arith, c.0, count);
        same = λ a touches.
            ap (λ (ms : List (ℕ × ℕ)). get_or (put image ms) a 0) left
            ∙ put_agrees image base (zip (take n (drop k (destinations t))) (read_at first (take n (drop k (sources t))))) a (m.fits a (inl touches))
            (omega (arith, low a (inl touches), length_laid first t k)) (m.same a touches)
            ∙ ap (λ (i : List ℕ). get_or i a 0) (laid_more first t k n copy)
            ∙ ap (λ (j : ℕ). get_or (laid first t j) a 0) (sym count);
        zeros = λ a i. elsewhere a (zero_in before a i) ∙ m.zeros a i;
        rest = λ a i off. elsewhere a i ∙ m.rest a i off;
        fits = λ a touches. omega (arith, m.fits a touches, length_put image (writes_of b (take n buffer)));
      }) (λ e misses. true≢false
      (sym (reaches_all Writing marks (length image) new (λ a i. m.fits a (inl (inr (is_in a i)))) (λ a i. misses.copy.writes a (is_in a i))) ∙ e)))

  zeros_answer : Inside work (after_insn StoreZeros x) → Can StoreZeros x
      → Answers work first marks StoreZeros (after_insn StoreZeros x) (act marks StoreZeros here)
  zeros_answer part up =
      let b = destination_of x.registers in
      let new = touched b in
      let all : (a : ℕ) → Contains (x.zeros ++ new) a → Contains (cleared work) a =
      λ a i. subst (λ (xs : List ℕ). Contains xs a) (sym part.zeros) (Contains-append_left (x.zeros ++ new) part.zeros_rest a i) in
      let is_in : (a : ℕ) → Contains new a → Contains (cleared work) a = λ a i. all a (Contains-append_right x.zeros new a i) in
      let elsewhere : (a : ℕ) → ¬ Contains new a → get_or (put image (zeros_of b)) a 0 ≡ get_or image a 0 =
      λ a off. get_or_put_other image (zeros_of b) a (λ i. off (zeros_touched b a (moves_some x.registers.bus 14 x.registers.dar x.registers.ccr).beats i)) in
      cond_both (reaches Writing marks (length image) new) _ _ (Answers work first marks StoreZeros (after_insn StoreZeros x)) (λ e. record {
        registers_are = refl;
        buffer_is = m.buffer_is;
        few = m.few;
        same = λ a touches. elsewhere a (λ i. zeros_apart work a whole (is_in a i) touches) ∙ m.same a touches;
        zeros = λ a i. elim (in_or_not new a) [
          | inl now ↦ put_zeros image b a up (m.fits a (inr (is_in a now))) now
          | inr off ↦ elim (Contains-append_cases x.zeros new a i) [
            | inl before ↦ elsewhere a off ∙ m.zeros a before
            | inr now ↦ absurd (off now)
          ]
        ];
        rest = λ a i off.
            elsewhere a (λ now. off (Contains-append_right x.zeros new a now))
            ∙ m.rest a i (λ before. off (Contains-append_left x.zeros new a before));
        fits = λ a uses. omega (arith, m.fits a uses, length_put image (zeros_of b));
      }) (λ e misses. true≢false
      (sym (reaches_all Writing marks (length image) new (λ a i. m.fits a (inr (is_in a i))) (λ a i. misses.zeros a (is_in a i))) ∙ e))

  pub answers : (i : ChipInsn) → Inside work (after_insn i x) → Inside work x → Can i x → Answers work first marks i (after_insn i x) (act marks i here)
  answers Ld part before c = load_answers part c
  answers St part before c = store_answers part before c
  answers (Mov Dar v) part before c = keeps (Mov Dar v) c
  answers (Mov Ccr v) part before c = rw c.0 (keeps (Mov Ccr v) c.1)
  answers (AddHalfword Destination half negative) part before c = keeps (AddHalfword Destination half negative) c
  answers (LpEnd k back) part before c =
      rw (cannot_jump (counter_of k x.registers) x.registers.pc back (λ n. c (omega (arith, n))))
      (quiet (LpEnd k back) (moved (LpEnd k back) x.registers) flags)
  answers End part before c = absurd c
  answers StoreZeros part before c = zeros_answer part c
  answers (LoopAgain counter back) part before c =
      rw (le-ltb x.registers.pc back c) (quiet (LoopAgain counter back) (moved (LoopAgain counter back) x.registers) flags)
  answers (Sev e) part before c = quiet (Sev e) (moved (Sev e) x.registers) (slice_set flags e true)
  answers (Wfe e v) part before c =
      cond_both (slice_index_or flags e false) _ _ (Answers work first marks (Wfe e v) (after_insn (Wfe e v) x))
      (λ set. quiet (Wfe e v) (moved (Wfe e v) x.registers) (slice_set flags e false)) (λ clear. (v, refl))
  answers i part before c = quiet i (moved i x.registers) flags

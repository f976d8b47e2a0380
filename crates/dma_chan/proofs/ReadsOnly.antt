-- A step depends on no byte but those that it reads.
use Rattle.std.proofs.Common.{◌≡◌, ◌∷◌, ℕ, ◌+◌, Bool, false, ◌&&◌, cond, List, [], length, take, get_or, Result, Ok, Err, refl, ap, ◌∙◌, arith}
use Rattle.std.specs.{Prelude.nat_lt, Prelude.slice_index_or, List.Contains}
use Rattle.std.proofs.lemmas.List.Elements.{Contains-append_right}
use Rattle.dma_insn.specs.declared.chip.ChipInsn.TheVariants.{Mov, Ld, St, LpEnd, Sev, Wfe, StoreZeros, AddHalfword, LoopAgain}
use Rattle.dma_insn.specs.declared.insn.Reg.TheVariants.{Ccr, Dar}
use Rattle.dma_insn.specs.{declared.chip.ChipInsn.ChipInsn, declared.chip.Address.TheVariants.Destination}
use Rattle.dma_mem.specs.{Image.put, Marking.MarkList, declared.marks.MarkKind.TheVariants.Reading, declared.marks.MarkKind.TheVariants.Writing}
use Rattle.dma_mem.proofs.PageImages.{put_none}
use Rattle.dma_chan.specs.Bursts.{burst_len, touched, writes_of, zeros_of, reaches}
use Rattle.dma_chan.specs.Exec.{State, act, buffer_size, counter_of, destination_of, exec_fetched, read_at, source_of, state}
use Rattle.dma_chan.specs.Channel.{ChannelValue, after_turn, ahead_of, step_of, stored_by}
use Rattle.dma_chan.specs.{declared.exec.Registers.Registers, declared.turn.ChanTurn.ChanTurn}
use Rattle.dma_chan.specs.{declared.turn.FaultKind.FaultKind, Bus.accepts, Reads.AgreeAt, Reads.ReadsNoOther, Reads.read_by}

-- images with the same bytes at some places give the same bytes there
pub read_at_agrees : (x y places : List ℕ) → ((a : ℕ) → Contains places a → get_or x a 0 ≡ get_or y a 0) → read_at x places ≡ read_at y places
read_at_agrees x y [] h = refl
read_at_agrees x y (p ∷ rest) h =
    let here : get_or x p 0 ≡ get_or y p 0 = h p (0, omega arith, refl) in
    let there : read_at x rest ≡ read_at y rest = read_at_agrees x y rest (λ a i. h a (Contains-append_right (p ∷ []) rest a i)) in
    cc

-- two answers of an instruction over two memories
record Alike (x y : List ℕ) (p q : ChanTurn × State) : Type 0 where
  turn : p.0 ≡ q.0
  registers : p.1.registers ≡ q.1.registers
  buffer : p.1.buffer ≡ q.1.buffer
  flags : p.1.flags ≡ q.1.flags
  writes : List (ℕ × ℕ)
  first : p.1.image ≡ put x writes
  second : q.1.image ≡ put y writes

-- nothing is written
same : (turn : ChanTurn) (r : Registers) (buffer : List ℕ) (flags : List Bool) (x y : List ℕ)
    → Alike x y (turn, state r buffer x flags) (turn, state r buffer y flags)
same turn r buffer flags x y = grind (arith, put_none)

either : (b : Bool) (x y : List ℕ) (p q r s : ChanTurn × State) → Alike x y p r → Alike x y q s → Alike x y (cond b p q) (cond b r s)
either b x y p q r s h h2 = grind (arith)

act_alike : (marks : MarkList) (i : ChipInsn) (r : Registers) (buffer x y : List ℕ) (flags : List Bool) → AgreeAt (read_by (Ok i) r) x y
    → Alike x y (act marks i (state r buffer x flags)) (act marks i (state r buffer y flags))
act_alike marks (Mov Dar v) r buffer x y flags h = same _ _ _ flags x y
act_alike marks (Mov Ccr v) r buffer x y flags h = either (accepts r.bus v) x y _ _ _ _ (same _ _ _ flags x y) (same _ _ buffer flags x y)
act_alike marks (AddHalfword Destination half negative) r buffer x y flags h = same _ _ _ flags x y
act_alike marks Ld r buffer x y flags h =
    let places = touched (source_of r) in
    let bytes : read_at x places ≡ read_at y places = read_at_agrees x y places h.bytes in
    rw (h.size, bytes)
    (either (nat_lt buffer_size (length buffer + burst_len (source_of r))) x y _ _ _ _ (same _ _ buffer flags x y)
    (either (reaches Reading marks (length y) places) x y _ _ _ _ (same _ _ _ flags x y) (same _ _ buffer flags x y)))
act_alike marks St r buffer x y flags h =
    let b = destination_of r in
    rw h.size
    (either (nat_lt (length buffer) (burst_len b)) x y _ _ _ _ (same _ _ buffer flags x y)
    (either (reaches Writing marks (length y) (touched b)) x y _ _ _ _
    (record { turn = refl; registers = refl; buffer = refl; flags = refl; writes = writes_of b (take (burst_len b) buffer); first = refl; second = refl })
    (same _ _ buffer flags x y)))
act_alike marks StoreZeros r buffer x y flags h =
    let b = destination_of r in
    rw h.size
    (either (reaches Writing marks (length y) (touched b)) x y _ _ _ _
    (record { turn = refl; registers = refl; buffer = refl; flags = refl; writes = zeros_of b; first = refl; second = refl })
    (same _ _ buffer flags x y))
act_alike marks (LoopAgain counter back) r buffer x y flags h = either (nat_lt r.pc back) x y _ _ _ _ (same _ _ buffer flags x y) (same _ _ buffer flags x y)
act_alike marks (LpEnd c back) r buffer x y flags h =
    either (nat_lt 0 (counter_of c r) && nat_lt r.pc back) x y _ _ _ _ (same _ _ buffer flags x y) (same _ _ buffer flags x y)
act_alike marks (Sev e) r buffer x y flags h = same _ _ buffer _ x y
act_alike marks (Wfe e v) r buffer x y flags h = either (slice_index_or flags e false) x y _ _ _ _ (same _ _ buffer _ x y) (same _ _ buffer flags x y)
act_alike marks i r buffer x y flags h = same _ _ buffer flags x y

fetched_alike : (marks : MarkList) (next : Result ChipInsn FaultKind) (r : Registers) (buffer x y : List ℕ) (flags : List Bool) → AgreeAt (read_by next r) x y
    → Alike x y (exec_fetched marks next (state r buffer x flags)) (exec_fetched marks next (state r buffer y flags))
fetched_alike marks (Ok i) r buffer x y flags h = act_alike marks i r buffer x y flags h
fetched_alike marks (Err kind) r buffer x y flags h = same _ _ buffer flags x y

turned_alike : (turn : ChanTurn) (s u : State) (n : ℕ) (c : ChannelValue) → s.registers ≡ u.registers → s.buffer ≡ u.buffer
    → after_turn turn s n c ≡ after_turn turn u n c
turned_alike turn s u n c h h2 = grind (arith)

pub reads_no_other : ReadsNoOther
reads_no_other marks c x y flags h =
    let w = fetched_alike marks (ahead_of c) c.registers c.buffer x y flags h in
    let n = stored_by (ahead_of c) c.registers in
    let p = step_of marks c x flags in
    let q = step_of marks c y flags in
    record {
      turn = w.turn;
      channel = ap (λ (turn : ChanTurn). after_turn turn p.1 n c) w.turn ∙ turned_alike q.0 p.1 q.1 n c w.registers w.buffer;
      events = w.flags;
      writes = w.writes;
      first = w.first;
      second = w.second;
    }

-- Steps of channels that are alike but for the bytes in their buffers, over images of one length.
use Rattle.std.proofs.Common.{arith}
use Rattle.std.proofs.Common.{◌≡◌, ◌∙◌, ℕ, zero, suc, Bool, cond, List, ap, length, refl, sym}
use Rattle.std.proofs.Common.{Result}
use Rattle.std.proofs.lemmas.List.{length-append, length-drop, length-map, length-replicate}
use Rattle.dma_insn.specs.{declared.chip.ChipInsn.ChipInsn}
use Rattle.dma_mem.specs.{Marking.MarkList, Steps.taken_in}
use Rattle.dma_mem.proofs.ImagePut.{length_put}
use Rattle.dma_chan.specs.Channel.{ChannelValue, after_turn, ahead_of, step_of}
use Rattle.dma_chan.specs.Exec.{State, act, exec_fetched, kept, state}
use Rattle.dma_chan.specs.Stepping.{Machine, after_step, after_steps, answer_at, last_of, more_after, signal_after, signal_of, went_on, written_after}
use Rattle.dma_chan.specs.{declared.exec.Registers.Registers, declared.turn.ChanTurn.ChanTurn, declared.turn.ChanTurn.TheVariants.Moved}
use Rattle.dma_chan.specs.{declared.turn.FaultKind.FaultKind, Written.store_ahead}
use Rattle.dma_device.specs.Frame.{blank_channel}

-- ---- an instruction

-- two answers of an instruction are the same but for bytes
record Same (p q : ChanTurn × State) : Type 0 where
  turn : p.0 ≡ q.0
  registers : p.1.registers ≡ q.1.registers
  buffer : length p.1.buffer ≡ length q.1.buffer
  flags : p.1.flags ≡ q.1.flags
  size : length p.1.image ≡ length q.1.image

-- the answer of the first condition that holds
either : (b : Bool) (p q r s : ChanTurn × State) → Same p r → Same q s → Same (cond b p q) (cond b r s)
either b p q r s h h2 = grind (arith)

module _ (b c x y : List ℕ) (flags : List Bool) (buffer : length b ≡ length c) (size : length x ≡ length y) where
  -- the buffer and the image keep their bytes
  stays : (turn : ChanTurn) (r : Registers) (flags : List Bool) → Same (turn, state r b x flags) (turn, state r c y flags)
  stays turn r flags = record { turn = refl; registers = refl; buffer = buffer; flags = refl; size = size }

  kept_length : (old new : Registers) → length (kept old new b) ≡ length (kept old new c)
  kept_length old new = grind arith

  keeps : (old new : Registers) → Same (Moved, state new (kept old new b) x flags) (Moved, state new (kept old new c) y flags)
  keeps old new = record { turn = refl; registers = refl; buffer = kept_length old new; flags = refl; size = size }

  act_same : (marks : MarkList) (i : ChipInsn) (r : Registers) → Same (act marks i (state r b x flags)) (act marks i (state r c y flags))
  act_same marks i r = grind (arith, keeps, either, stays, length-append, length-map, length-drop, length_put)

  fetched_same : (marks : MarkList) (next : Result ChipInsn FaultKind) (r : Registers)
      → Same (exec_fetched marks next (state r b x flags)) (exec_fetched marks next (state r c y flags))
  fetched_same marks next r = grind (arith, act_same, stays)

-- ---- a step

after_alike : (turn : ChanTurn) (p q : State) (n : ℕ) (c d : ChannelValue) → p.registers ≡ q.registers → length p.buffer ≡ length q.buffer
    → blank_channel c ≡ blank_channel d → blank_channel (after_turn turn p n c) ≡ blank_channel (after_turn turn q n d)
after_alike turn p q n c d h h2 h3 = grind (arith)

-- two machines are the same but for the bytes in the buffer and in memory
pub record MachinesAlike (s u : Machine) : Type 0 where
  pub channel : blank_channel s.channel ≡ blank_channel u.channel
  pub flags : s.flags ≡ u.flags
  pub size : length s.image ≡ length u.image

module _ (marks : MarkList) {s u : Machine} (h : MachinesAlike s u) where
  same_next : ahead_of s.channel ≡ ahead_of u.channel
  same_next = ap (λ (c : ChannelValue). ahead_of c) h.channel

  same_buffer : length s.channel.buffer ≡ length u.channel.buffer
  same_buffer =
      sym (length-replicate (length s.channel.buffer) 0) ∙ ap (λ (c : ChannelValue). length c.buffer) h.channel ∙ length-replicate (length u.channel.buffer) 0

  step_same : Same (step_of marks s.channel s.image s.flags) (step_of marks u.channel u.image u.flags)
  step_same = grind (arith, same_next, fetched_same, same_buffer)

  step_alike : MachinesAlike (after_step marks s) (after_step marks u)
  step_alike = grind (arith, step_same, after_alike)

-- ---- steps in a row

-- as many steps are taken if the same go on
taken_alike : (f g : ℕ → Bool) (most : ℕ) → ((k : ℕ) → f k ≡ g k) → taken_in f most ≡ taken_in g most
taken_alike f g most h = grind (arith)

module _ (marks : MarkList) (s u : Machine) (h : MachinesAlike s u) where
  pub steps_alike : (k : ℕ) → MachinesAlike (after_steps marks s k) (after_steps marks u k)
  steps_alike zero = h
  steps_alike (suc k) = step_alike marks (steps_alike k)

  answers_alike : (k : ℕ) → answer_at marks (after_steps marks s k) ≡ answer_at marks (after_steps marks u k)
  answers_alike k = (step_same marks (steps_alike k)).turn

  signals_alike : (k : ℕ) → signal_of (ahead_of (after_steps marks s k).channel) ≡ signal_of (ahead_of (after_steps marks u k).channel)
  signals_alike k = ap signal_of (same_next marks (steps_alike k))

  stores_alike : (k : ℕ) → store_ahead (after_steps marks s k).channel ≡ store_ahead (after_steps marks u k).channel
  stores_alike k = ap (λ (c : ChannelValue). store_ahead c) (steps_alike k).channel

  pub last_alike : (k : ℕ) → last_of marks s k ≡ last_of marks u k
  last_alike k = grind (arith, answers_alike)

  pub signal_alike : (k : ℕ) → signal_after marks s k ≡ signal_after marks u k
  signal_alike k = grind (arith, signals_alike)

  pub written_alike : (k : ℕ) → written_after marks s k ≡ written_after marks u k
  written_alike k = grind (arith, answers_alike, stores_alike)

  went_alike : (k : ℕ) → went_on marks s k ≡ went_on marks u k
  went_alike k = grind (arith, answers_alike, signals_alike)

  more_alike : (k : ℕ) → more_after marks s k ≡ more_after marks u k
  more_alike k = grind (arith, steps_alike, went_alike, written_alike, stores_alike)

  pub count_alike : (most : ℕ) → taken_in (more_after marks s) most ≡ taken_in (more_after marks u) most
  count_alike most = taken_alike (more_after marks s) (more_after marks u) most more_alike

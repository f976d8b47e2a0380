-- A call writes only what its steps write; and a step by its answer.
use Rattle.std.proofs.Common.{arith}
use Rattle.std.proofs.Common.{◌≡◌, refl, ap, Ok}
use Rattle.dma_insn.specs.declared.chip.ChipInsn.{ChipInsn}
use Rattle.dma_mem.specs.Marking.{MarkList}
use Rattle.dma_chan.specs.{declared.exec.Registers.Registers, declared.turn.ChanTurn.ChanTurn, declared.turn.ChanTurn.TheVariants.Moved, Exec.State, Exec.act}
use Rattle.dma_chan.specs.{Exec.exec_fetched, Exec.moved, Channel.ahead_of, Channel.state_of, Channel.step_of, Channel.after_turn, Channel.stored_by}
use Rattle.dma_chan.specs.{Stepping.Machine, Stepping.answer_at, Stepping.after_step, Stepping.written_after, CallWrites.CallWritesNoOther}
use Rattle.dma_chan.proofs.{ActCases.act_cases, SteppedOver.kept_outside}

-- ---- any program

pub call_writes_no_other : CallWritesNoOther
call_writes_no_other marks s most taken last after h = kept_outside marks s after taken (written_after marks s taken) h.ends_at refl

-- ---- the registers after an instruction that moved

abbrev Leads : Registers → ChanTurn × State → Type 0
Leads r x = x.0 ≡ Moved → x.1.registers ≡ r

pub act_leads : (marks : MarkList) (i : ChipInsn) (s : State) → Leads (moved i s.registers) (act marks i s)
act_leads marks i s = grind (arith, act_cases)

-- ---- one step

-- the channel after it, by its answer
pub turned : (marks : MarkList) (u : Machine) (turn : ChanTurn) → answer_at marks u ≡ turn
    → (after_step marks u).channel ≡ after_turn turn (step_of marks u.channel u.image u.flags).1 (stored_by (ahead_of u.channel) u.channel.registers) u.channel
turned marks u turn e = grind arith

-- what it does, by the next instruction
pub does_next : (marks : MarkList) (i : ChipInsn) (u : Machine) → ahead_of u.channel ≡ Ok i
    → step_of marks u.channel u.image u.flags ≡ act marks i (state_of u.channel u.image u.flags)
does_next marks i u ahead = ap (λ r. exec_fetched marks r (state_of u.channel u.image u.flags)) ahead

-- No step changes a channel's bus.
use Rattle.std.proofs.Common.{arith}
use Rattle.std.proofs.Common.{◌≡◌, ℕ, zero, suc, Result, refl}
use Rattle.dma_insn.specs.declared.chip.ChipInsn.{ChipInsn}
use Rattle.dma_mem.specs.Marking.{MarkList}
use Rattle.dma_chan.specs.Channel.{ChannelValue, after_turn}
use Rattle.dma_chan.specs.{declared.turn.ChanTurn.ChanTurn, declared.turn.FaultKind.FaultKind, Exec.State}
use Rattle.dma_chan.specs.{Exec.exec_fetched, Stepping.Machine, Stepping.after_steps}
use Rattle.dma_chan.proofs.{ActCases.fetched_cases, MembersByNumber.bus_moved}

abbrev Keeps : State → ChanTurn × State → Type 0
Keeps s x = x.1.registers.bus ≡ s.registers.bus

fetched_bus : (marks : MarkList) (next : Result ChipInsn FaultKind) (s : State) → Keeps s (exec_fetched marks next s)
fetched_bus marks next s = grind (arith, fetched_cases, bus_moved)

turn_bus : (turn : ChanTurn) (s : State) (n : ℕ) (c : ChannelValue) → s.registers.bus ≡ c.registers.bus
    → (after_turn turn s n c).registers.bus ≡ c.registers.bus
turn_bus turn s n c h = grind (arith)

pub steps_bus : (marks : MarkList) (s : Machine) (n : ℕ) → (after_steps marks s n).channel.registers.bus ≡ s.channel.registers.bus
steps_bus marks s zero = refl
steps_bus marks s (suc n) = grind (arith, turn_bus, fetched_bus, steps_bus marks s n)

use Rattle.dma_device.proofs.{Copies.dmago_interrupts, Exactly.dmago_interrupts_exactly, Exactly.dmago_signals_exactly, Signalled.dmago_signals}
use Rattle.dma_device.proofs.{Signals.dmago_interrupts_each}
use Rattle.dma_device.proofs.laws.a_dmago_interrupts.Goals as goal

pub returns : goal.returns
returns c = record {
  done = dmago_interrupts;
  done_each = dmago_interrupts_each;
  exact = dmago_interrupts_exactly;
  exact_signal = dmago_signals_exactly;
  rises = dmago_signals;
}

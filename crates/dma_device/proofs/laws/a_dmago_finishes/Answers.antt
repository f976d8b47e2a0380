use Rattle.dma_device.proofs.{Progress.dmago_finishes, Vain.the_loop_finishes, Vain.vain_turns_wait}
use Rattle.dma_device.proofs.laws.a_dmago_finishes.Goals as goal

pub returns : goal.returns
returns c = record { finishes = dmago_finishes; loop_finishes = the_loop_finishes; vain = vain_turns_wait }

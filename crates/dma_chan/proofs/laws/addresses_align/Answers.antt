use Rattle.dma_chan.proofs.AddressesAligned.{addresses_align}
use Rattle.dma_chan.proofs.laws.addresses_align.Goals as goal

pub returns : goal.returns
returns c = addresses_align

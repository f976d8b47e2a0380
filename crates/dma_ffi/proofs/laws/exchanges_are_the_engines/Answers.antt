use Rattle.dma_ffi.proofs.Exchanges as listed
use Rattle.dma_ffi.proofs.laws.exchanges_are_the_engines.Goals as goal

pub returns : goal.returns
returns c = record { exchanges = listed.exchanges_are_the_engines; session = listed.sessions_are_the_engines }

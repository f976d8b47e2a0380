use Rattle.dma_explain.proofs.CallReads.{call_reads_in, call_reads_no_other}
use Rattle.dma_explain.proofs.laws.reads_its_sources.Goals as goal

pub returns : goal.returns
returns c = record { within = call_reads_in; no_other = call_reads_no_other }

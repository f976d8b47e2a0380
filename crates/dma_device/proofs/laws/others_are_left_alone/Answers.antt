use Rattle.dma_device.proofs.Frame.{turn_leaves_others, write_leaves_threads}
use Rattle.dma_device.proofs.TurnsAlike.{bytes_dont_matter, like_reads_like, region_bytes_dont_matter}
use Rattle.dma_device.proofs.laws.others_are_left_alone.Goals as goal

pub returns : goal.returns
returns c = record {
  turns = turn_leaves_others;
  writes = write_leaves_threads;
  reads = like_reads_like;
  bytes = bytes_dont_matter;
  regions = region_bytes_dont_matter;
}

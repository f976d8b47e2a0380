-- The transfer that a script line describes.
use Rattle.std.specs.Prelude.{ℕ, List, Option}
use Rattle.dma_mem.specs.{declared.segment.Segment.Segment, Places.Descriptor, Places.copying, Places.filling}
use Rattle.dma_script.specs.{declared.transfer_line.Origin.Origin, declared.transfer_line.TransferLine.TransferLine}
use Rattle.dma_script.specs.declared.transfer_line.Origin.TheVariants as origins

-- a copy from a list of segments, or a fill with the byte at one address
abbrev pub transfer_from : Origin → List Segment → Option ℕ → Option ℕ → Descriptor
transfer_from (origins.List src) dst wait signal = copying src dst wait signal
transfer_from (origins.Place src) dst wait signal = filling src dst wait signal

-- the transfer of a line
abbrev pub transfer_of : TransferLine → Descriptor
transfer_of line = transfer_from line.src line.dst line.wait line.signal

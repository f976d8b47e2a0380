-- Definitions behind the private parts: invariants of the types, and contracts of the private functions. No public
-- clause cites them.
pub mod ChunkTable
pub mod Blocks
pub mod RangesInOrder
pub mod MarkRanges
pub mod KeptRanges
pub mod SourceSegments
pub mod Checking
pub mod Stored
pub mod Rewritten

-- The single-threaded object, and what each entry of a history does to it; what contracts see of an engine, and the
-- answer to each call; turns of several jobs.
pub mod Object
pub mod History
pub mod Ticks
pub mod View
pub mod Turn
pub mod Answer
pub mod Cookies
pub mod Advance
pub mod Room
pub mod Laws
pub mod Interleaved
pub mod inner

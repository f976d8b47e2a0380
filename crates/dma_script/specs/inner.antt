-- Definitions that no reader of a public law has to trust: how the reader of a line goes through its words, bytes of
-- which some were read, and how a call is kept.
pub mod Reading
pub mod Digits
pub mod Kept

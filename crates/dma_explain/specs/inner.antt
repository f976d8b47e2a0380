-- Definitions that no reader of a public law has to trust: how a run without memory is kept.
pub mod Tracing
pub mod Rounds
pub mod Knowing

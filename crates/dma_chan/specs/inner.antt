-- Definitions that no reader of a public law has to trust: how a channel stores its value, how far it is in a
-- transfer's program, and what contracts of private functions, or of those that only other crates' code calls, cite.
pub mod Fields
pub mod Codes
pub mod Saves
pub mod At
pub mod Spans
pub mod Calls
pub mod Compiling
pub mod Cutting
pub mod Blocks
pub mod Grids
pub mod Acts

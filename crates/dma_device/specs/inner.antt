-- Definitions that no reader of a contract has to trust.
pub mod Fields
pub mod Saves

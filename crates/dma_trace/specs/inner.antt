-- Definitions that only proofs use.
pub mod Explaining
pub mod Running

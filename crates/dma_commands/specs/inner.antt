-- Definitions for the clauses of helper functions. The contracts of the commands don't use them.
pub mod RunSteps
pub mod Listed
pub mod Counting

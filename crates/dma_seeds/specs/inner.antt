-- Definitions for the clauses of helper functions. The contracts of the public functions don't use them.
pub mod Counted
pub mod Measured
pub mod Started

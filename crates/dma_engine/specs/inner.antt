-- How the engine stores its state and how its parts work. Only its own proofs need this. No public clause of a call, a
-- step or a law uses it.
pub mod SpareList
pub mod Stored
pub mod Ranges
pub mod Accesses
pub mod Found
pub mod Due
pub mod AtOnce
pub mod Holds
pub mod Inside
pub mod Steps
pub mod Runs

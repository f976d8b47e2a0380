-- Definitions behind the private parts: the log of the published ticks, the rule of what is published, the contracts of
-- private functions and the invariants of types. No public clause needs them.
pub mod TickForms
pub mod Published
pub mod DeskKept
pub mod Begun
pub mod InTurn

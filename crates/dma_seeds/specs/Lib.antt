-- The order in which a seed takes the turns of a race's jobs, what a race prints for it, whether its `expect` lines
-- hold, the same as a script of `run`, which outputs the seeds of a range give, and the message for a script's first
-- fault.
pub mod Turns
pub mod Race
pub mod Expect
pub mod Script
pub mod Seeds
pub mod Faults
pub mod RaceReplies
pub mod inner

-- Published ticks and the status of a cookie after them; what a reader knows; what contracts see of a desk; the tallies
-- of jobs; the order of a worker's channels; shifts, and the turns that were taken on them; the laws of statuses.
pub mod Ticks
pub mod Known
pub mod Desk
pub mod Tallies
pub mod Rotation
pub mod Shift
pub mod Laws
pub mod inner

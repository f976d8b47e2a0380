-- Memory as an image; a transfer as two lists of places that don't overlap.
pub mod Limits
pub mod Places
pub mod Image
pub mod Rules
pub mod Marking
pub mod Refusals
pub mod Meeting
pub mod Flags
pub mod Steps
pub mod Pages
pub mod Lent
pub mod Regions
pub mod Ranges
pub mod inner

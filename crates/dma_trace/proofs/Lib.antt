pub mod Reached
pub mod Steps
pub mod Waves
pub mod Running
pub mod Warned
pub mod Regions
pub mod Merged
pub mod OverFound

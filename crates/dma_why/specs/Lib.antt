-- What the channels of an engine wait for, the circles of waiting, and what is printed of them.
pub mod Waits
pub mod Circles
pub mod Why
pub mod Laws

-- What the commands print for an input.
pub mod Printed
pub mod Transfers
pub mod Run
pub mod Left
pub mod Raced
pub mod Assembled
pub mod Disassembled
pub mod Planned
pub mod Laws
pub mod inner

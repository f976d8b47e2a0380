-- The text of explanations and traces.
pub mod Front
pub mod Columns
pub mod Words
pub mod Touches
pub mod Warnings
pub mod Explained
pub mod Vcd
pub mod Wave
pub mod Traced
pub mod Found
pub mod inner

-- How a command ends, the printed lines of a program, and what a call prints and how it is written.
pub mod Command
pub mod Printing
pub mod Answer

-- Which command the words of the command line name, and how a run of the program ends.
pub mod CommandLine
pub mod inner

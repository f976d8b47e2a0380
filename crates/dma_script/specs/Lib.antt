-- What words spell, how a script is read up to its first fault, the shapes of the words after the first of a line, the
-- line of a plan, the lines of a run script and of a race script, pairs of digits, the printed lines of faults, the
-- table of causes, and lines that run one after another.
pub mod Words
pub mod Lines
pub mod Arguments
pub mod Plan
pub mod Statements
pub mod Race
pub mod Printing
pub mod Pairs
pub mod Causes
pub mod Interpreted
pub mod inner

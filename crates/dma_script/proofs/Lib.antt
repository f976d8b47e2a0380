-- Lemmas on lines, their words, and which are skipped, on what a line means and what is read of it,
-- on the causes of faulty lines, on lines that run one after another, on numbers, hexadecimal words and lists of
-- segments; worked scripts.
pub mod Agreement
pub mod CauseLemmas
pub mod FaultLemmas
pub mod HexLemmas
pub mod InterpretedLemmas
pub mod LineLemmas
pub mod PairLemmas
pub mod PlainLines
pub mod Within
pub mod Reading
pub mod Rows
pub mod SegmentLemmas
pub mod Skipped
pub mod WordLemmas

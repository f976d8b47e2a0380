-- Lemmas on the first place of a byte, on lines, on texts that are compared, and on the tables of digits.
pub mod DigitTable
pub mod EightDigits
pub mod PairTable
pub mod FirstBytes
pub mod SameTexts
pub mod TextLines
pub mod Begun

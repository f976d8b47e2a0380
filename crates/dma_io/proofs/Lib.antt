-- Lemmas on how a command ends and on the rows of a program; worked rows.
mod EndLemmas
mod RowLemmas
mod Rows

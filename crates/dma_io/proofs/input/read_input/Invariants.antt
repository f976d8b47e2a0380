-- The bytes read so far are the front of the reader's bytes. Each turn so far read at least one byte, and made at most
-- one read, which did not fail.
use Rattle.std.proofs.Common.{◌≤◌, ◌+◌, vec_len}
use Rattle.std.specs.Io.KnownBytes.{Consumes}
use Rattle.dma_io.proofs.input.read_input.Given as goal

abbrev pub invariant-loop-turn : goal.invariant-loop-turn
invariant-loop-turn g l = record {
  turns : l._turn ≤ vec_len l.input;
  within : vec_len l.input ≤ 4194304;
  front : Consumes (g.R.Read.remaining l.initial.reader) (g.R.Read.remaining l.reader) l.input.items;
  unfailed : g.R.Source.has_failed l.reader → g.R.Source.has_failed l.initial.reader;
  reads : g.R.Source.reads l.reader ≤ g.R.Source.reads l.initial.reader + l._turn;
}

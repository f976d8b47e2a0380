-- The lines so far and those of the rest are the whole listing, and the rest ends as the whole does.
use Rattle.std.proofs.Common.{◌≡◌, ◌++◌, ◌+◌, length}
use Rattle.dma_text.specs.Text.{Begins}
use Rattle.dma_manual.specs.Listing.{listed, listed_from}
use Rattle.dma_manual.proofs.listing.list.Given as goal

abbrev pub invariant-loop-rest : goal.invariant-loop-rest
invariant-loop-rest l = record {
  counted : l.offset + length l.rest ≡ length l.program;
  text : l.out.items ++ (listed_from l.at l.labels.items l.offset 0 l.rest).text ≡ l.initial.out.items ++ (listed l.at l.program).text;
  ending : (listed_from l.at l.labels.items l.offset 0 l.rest).ending ≡ (listed l.at l.program).ending;
  err : l.err.items ≡ l.initial.err.items;
  begins : Begins l.out.items l.initial.out.items;
}

abbrev pub decreases-loop-rest : goal.decreases-loop-rest
decreases-loop-rest l = length l.rest

-- The outputs of the seeds so far, which are not past the last one, and their verdicts beside those of the others.
use Rattle.std.proofs.Common.{◌≡◌, ◌+◌, ◌-◌, ◌≤◌}
use Rattle.dma_script.specs.Race.{race_script_of}
use Rattle.dma_seeds.specs.{Expect.verdict, Seeds.outputs_of, Seeds.text_from_go}
use Rattle.dma_seeds.proofs.ExpectLemmas.{CountedSome}
use Rattle.dma_seeds.proofs.seeds.race_each.Given as goal

abbrev pub invariant-loop-seed : goal.invariant-loop-seed
invariant-loop-seed g l = record {
  same : l.outputs.items ≡ outputs_of (text_from_go (race_script_of l.kept)) l.fn.seeds.first (l.seed - l.fn.seeds.first);
  few : l.seed - l.fn.seeds.first ≤ l.fn.seeds.last + 1 - l.fn.seeds.first;
  counted : CountedSome (verdict l.script) l.fn.seeds.first (l.fn.seeds.last + 1) l.seed l.found;
}

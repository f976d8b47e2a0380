use Rattle.std.proofs.Common.{◌+◌, arith}
use Rattle.dma_script.specs.Race.{race_script_of}
use Rattle.dma_seeds.specs.{Expect.verdict, Seeds.text_from_go}
use Rattle.dma_seeds.proofs.ExpectLemmas.{counted_more, counted_none}
use Rattle.dma_seeds.proofs.OutputLemmas.{outputs_next, outputs_room}
use Rattle.dma_seeds.proofs.seeds.race_each.Goals as goal

pub loop-seed-init : goal.loop-seed-init
loop-seed-init g c = grind (arith, counted_none)

pub count_output-requires : goal.count_output-requires
count_output-requires g c = grind (arith, outputs_room)

pub loop-seed-preserved : goal.loop-seed-preserved
loop-seed-preserved g c =
    let l = c.loop-seed in
    record {
      same = outputs_next (text_from_go (race_script_of c.args.kept.now)) c.args.seeds.first l.seed l.outputs.items _ _ (omega arith) l.invariant.same
          c.in_ok-output.ensures.output c.in_ok-count_output.ensures;
      few = omega arith;
      counted = counted_more (verdict c.args.script.now) c.args.seeds.first (c.args.seeds.last + 1) l.seed l.found _ _ (omega arith)
          l.invariant.counted c.in_ok-output.ensures.verdict c.count.ensures.first c.count.ensures.failing;
    }

pub returns-clause-outputs : goal.returns-clause-outputs
returns-clause-outputs g c = grind arith

pub returns-clause-verdicts : goal.returns-clause-verdicts
returns-clause-verdicts g c = grind arith

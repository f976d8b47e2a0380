use Rattle.std.proofs.Common.{◌≡◌, ◌≢◌, ◌∙◌, None, arith}
use Rattle.std.proofs.{lemmas.Grind.common_steps, lemmas.List.get_or-set_other, Math.ListN.length-set}
use Rattle.dma_work.proofs.parts.listed.Goals as goal
use Rattle.dma_work.proofs.parts.listed.Goals.{in-Some, in_default}

pub loop-index-preserved : goal.loop-index-preserved
loop-index-preserved c =
    let i = c.loop-index.invariant in
    let n = c.loop-index.index in record {
      few = elim c.match-take.branch [
        | in-Some w ↦ rw w.readers-is (omega (arith, w.push_reserved.ensures.len, i.few))
        | in_default w ↦ rw w.readers-is (omega (arith, i.few))
      ];
      room = elim c.match-take.branch [
        | in-Some w ↦ rw w.readers-is (omega (arith, w.push_reserved.ensures.capacity, i.room))
        | in_default w ↦ rw w.readers-is (omega (arith, i.room))
      ];
      long = length-set c.loop-index.places n _ ∙ i.long;
      rest = λ place past.
          let apart : place ≢ n = omega (arith, past) in
          get_or-set_other c.loop-index.places n place _ None apart ∙ i.rest place (omega (arith, past));
      all = λ known taken.
          let a = i.all known taken in
          let here = taken n c.loop-index-test.true in
          let same = i.rest n (omega arith) in
          grind (arith, common_steps);
    }

pub returns-clause-taken : goal.returns-clause-taken
returns-clause-taken c = λ known taken.
    let all : c.loop-index.index ≡ c.args.count = omega (arith, c.loop-index-test.false, c.loop-index.auto.index-end) in
    let a = c.loop-index.invariant.all known taken in
    (a.0 ∙ all, a.1)

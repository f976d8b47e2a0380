use Rattle.std.proofs.Common.{◌≡◌, ◌<◌, ◌-◌, suc, length, take, ap, sym, ◌∙◌, arith}
use Rattle.std.proofs.lemmas.List.{take_all}
use Rattle.dma_explain.specs.{Items.join_read, Items.with_item}
use Rattle.dma_explain.proofs.Items.{ends_at, joins_at}
use Rattle.dma_explain.proofs.explain.ranges.settled.Goals as goal

pub loop-n-init : goal.loop-n-init
loop-n-init c = grind (arith, take_all)

pub loop-n-preserved : goal.loop-n-preserved
loop-n-preserved c =
    let xs = c.args.list.now in
    let i = c.loop-n.n - 1 in
    let within : i < length xs = omega (arith, c.loop-n-test.true, c.loop-n.invariant.within) in
    let now : c.loop-n.n ≡ suc i = omega (arith, c.loop-n-test.true) in
    record {
      within = omega (arith, within);
      same =
          sym (joins_at join_read xs i _ c.loop-n.last c.in-Some.all within (sym c.in-Some.ensures))
          ∙ ap (λ n. with_item join_read (take n xs) c.loop-n.last) (sym now) ∙ c.loop-n.invariant.same;
    }

pub returns-in_default-clause-same : goal.returns-in_default-clause-same
returns-in_default-clause-same c = grind (arith, ends_at)

pub returns-clause-same : goal.returns-clause-same
returns-clause-same c = grind arith

use Rattle.std.proofs.Common.{◌≡◌, length, ◌∙◌, ap, subst, arith, rules}
use Rattle.std.proofs.lemmas.Bool.{leb-true, leb-false}
use mathlib.Core.List.{IsPrefix}
use Rattle.dma_work.specs.inner.Published.{SnapshotState}
use Rattle.dma_work.proofs.Beginnings.{prefix_shorter}
use Rattle.dma_work.proofs.log.Snapshot.is_within.Goals as goal

pub returns : goal.returns
returns c =
    let these = c.args.self.now.ticks in
    let those = c.args.other.now.ticks in
    let all = c.learn.new.self.log in
    let again = ap (λ s. s.log) c.again-both.ensures in
    let this = ap (λ (r : SnapshotState). r.ticks) c.self.view_is in
    let that = ap (λ (r : SnapshotState). r.ticks) c.other.view_is in
    let p : IsPrefix these all = subst (λ l. IsPrefix l all) (again ∙ this) c.learn.ensures.2 in
    let q : IsPrefix those all = subst (λ l. IsPrefix l all) that c.learn.ensures.3 in
    let mine : c.self.inside.len ≡ length these = omega (arith, c.self.invariant.0, ap length this) in
    let others : c.other.inside.len ≡ length those = omega (arith, c.other.invariant.0, ap length that) in
    record {
      len = rw (← mine, ← others) (search rules);
      within = λ h. prefix_shorter these those all p q (omega (arith, mine, others, leb-true _ _ h));
      longer = λ h. prefix_shorter those these all q p (omega (arith, mine, others, leb-false _ _ h));
    }

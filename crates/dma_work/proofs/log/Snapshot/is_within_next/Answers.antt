use Rattle.std.proofs.Common.{◌<◌, ◌≡◌, ◌+◌, ◌-◌, [], ◌++◌, length, refl, ap, sym, ◌∙◌, arith, rules, append-nil}
use Rattle.std.specs.List.{slice_get}
use Rattle.dma_work.specs.{inner.Published.SnapshotState, inner.TickForms.ticks_of_option}
use base.Growing.{prefix_trans}
use Rattle.dma_work.proofs.Beginnings.{one_longer}
use Rattle.dma_work.proofs.log.Snapshot.is_within_next.Goals as goal

pub returns-then-is_within : goal.returns-then-is_within
returns-then-is_within c h =
    prefix_trans _ _ (c.args.before.now.ticks ++ ticks_of_option c.args.next) (c.is_within.ensures.within h) (ticks_of_option c.args.next, refl)

pub returns-then-self-before : goal.returns-then-self-before
returns-then-self-before c h =
    let mine = c.args.self.now.ticks in
    let theirs = c.args.before.now.ticks in
    let log : c.self.inside.seen.log ≡ mine = ap (λ (s : SnapshotState). s.ticks) c.self.view_is in
    let other : c.before-2.inside.seen.log ≡ theirs = ap (λ (s : SnapshotState). s.ticks) c.before-2.view_is in
    let more : length theirs < length mine =
    grind (arith, c.is_within.ensures.len, c.if-is_within.false) in
    let one : length mine ≡ length theirs + 1 =
    omega (arith, more, c.self.invariant.0, c.before-2.invariant.0, c.if-self-before.true, ap length log, ap length other) in
    let last : c.self.inside.last ≡ c.args.next = search rules in
    let at : c.self.inside.len - 1 ≡ length theirs = omega (arith, c.self.invariant.0, one, ap length log) in
    let next : c.args.next ≡ slice_get mine (length theirs) =
    sym last ∙ c.self.invariant.1 ∙ ap (slice_get c.self.inside.seen.log) at ∙ ap (λ l. slice_get l (length theirs)) log in
    ([], append-nil mine ∙ sym (one_longer theirs mine (c.is_within.ensures.longer c.if-is_within.false) one) ∙ ap (λ o. theirs ++ ticks_of_option o) (sym next))

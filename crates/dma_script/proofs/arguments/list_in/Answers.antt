use Rattle.std.proofs.Common.{arith}
use Rattle.std.proofs.Common.{◌≡◌, ◌∙◌, sym, ap, Some, Bor, List, ℕ, subst, ◌<◌}
use Rattle.std.specs.Option.{option_map}
use Rattle.dma_script.specs.{inner.Digits.segment_before}
use Rattle.dma_script.proofs.SegmentLemmas.{left_less, left_of, segment_more, segment_none, with_all, with_rest}
use Rattle.dma_script.proofs.arguments.list_in.Goals as goal

pub loop-left-init : goal.loop-left-init
loop-left-init c = rw c.in_ok-list.ensures (with_all c.args.word.now)

pub returns-in_default-segment_before : goal.returns-in_default-segment_before
returns-in_default-segment_before c = grind (arith, segment_none)

pub loop-left-smaller : goal.loop-left-smaller
loop-left-smaller c =
    let next : segment_before c.in-Some.rest.now ≡ Some
    (c.in-Some-segment_before.segment, option_map (λ (rest : Bor (List ℕ)). rest.now) c.in-Some-segment_before.after) =
    sym c.in-Some-segment_before.ensures in
    subst (λ o. left_of c.in-Some-segment_before.after < left_of o) (sym c.in-Some.is)
    (left_less c.in-Some.rest.now c.in-Some-segment_before.segment c.in-Some-segment_before.after next)

pub loop-left-preserved : goal.loop-left-preserved
loop-left-preserved c = grind (arith, segment_more)

pub returns : goal.returns
returns c = sym (c.loop-left.invariant ∙ ap (λ o. with_rest c.loop-left.list (option_map (λ (rest : Bor (List ℕ)). rest.now) o)) c.in_default.is)

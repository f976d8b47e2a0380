use Rattle.std.proofs.Common.{◌≡◌, ℕ, ◌+◌, ◌<◌, ◌≤◌, Option, None, sym, ap, arith, inl, inr}
use Rattle.std.specs.Prelude.{SomeIff, ◌/◌, ◌^◌}
use Rattle.std.proofs.{lemmas.Bool.cases_lt, lemmas.Nat.Bits.bit_at_above}
use Rattle.dma_trace.proofs.vcd.digit.Goals as goal

-- only a shift by 32 or more has no result
too_far : (shifted : Option ℕ) (bit v : ℕ) → shifted ≡ None → SomeIff shifted (bit < 32) v → 32 ≤ bit
too_far x0 x1 x2 x3 x4 = grind (arith, arith, cases_lt, inl, inr)

pub returns-in-None : goal.returns-in-None
returns-in-None c =
    let fits : c.args.value < 2 ^ 32 = omega (arith, c.ranges.value) in
    ap (λ (n : ℕ). 48 + n) (sym
    (bit_at_above c.args.value 32 c.args.bit fits
    (too_far c.checked_shr.result c.args.bit (c.args.value / 2 ^ c.args.bit) c.in-None.is c.checked_shr.ensures)))

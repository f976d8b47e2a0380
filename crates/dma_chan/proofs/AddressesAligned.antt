-- On a chip's bus a burst leaves its address at a multiple of its beat's size.
use Rattle.std.proofs.Common.{◌≡◌, ℕ, ◌+◌, ◌-◌, ◌*◌, ◌/◌, ◌%◌, ◌^◌, ◌≤◌, ◌<◌, true, ap, ◌∙◌, arith}
use Rattle.std.proofs.{lemmas.Nat.div-add-mod', lemmas.Nat.mod_below, lemmas.Nat.mul-le, Math.Pow.mod-mod-pow, Math.Nat.mul-mod_left}
use Rattle.dma_insn.specs.{ControlWord.field}
use Rattle.dma_chan.specs.{declared.bus.Bus.Bus, declared.bus.Bus.TheVariants.Chip, declared.bus.BusWidth.BusWidth, Aligned.AddressesAlign}
use Rattle.dma_chan.specs.{Aligned.LeavesOutPart, Bursts.advance, Bursts.burst_at, Exec.wrapped}
use Rattle.dma_chan.proofs.{CallWrites.act_leads, ControlWords.moves_some}

-- the first beat of a rising burst of a chip ends at a multiple of its size
skip_is : (width : BusWidth) (k a w : ℕ) → (burst_at (Chip width) k a w).increments ≡ true
    → (burst_at (Chip width) k a w).skip ≡ a % (burst_at (Chip width) k a w).size
unfolding burst_at
skip_is width k a w up = grind arith

-- the address after whole beats less what the first leaves out
ends_whole : (a beats size skip : ℕ) → skip ≡ a % size → skip ≤ beats * size → (a + (beats * size - skip)) % size ≡ 0
ends_whole a beats size skip is few =
    let cut : a / size * size + a % size ≡ a = div-add-mod' a size in
    let whole : a + (beats * size - skip) ≡ (a / size + beats) * size = omega (arith, cut, is, few) in
    ap (λ (n : ℕ). n % size) whole ∙ mul-mod_left (a / size + beats) size

-- the bytes of a beat divide 2 ^ 32, so the address is a multiple of them also where it wraps
wraps_whole : (bus : Bus) (k a b w : ℕ) → b % (burst_at bus k a w).size ≡ 0 → wrapped b % (burst_at bus k a w).size ≡ 0
unfolding burst_at
wraps_whole bus k a b w whole =
    let f = field (k + 1) 3 w in
    let few : f < 8 = mod_below (w / 2 ^ (k + 1)) 8 (omega arith) in
    let all : 32 ≡ 32 - f + f = omega arith in
    ap (λ (n : ℕ). b % 2 ^ n % 2 ^ f) all ∙ mod-mod-pow b (32 - f) f ∙ whole

lands : (width : BusWidth) (k a w : ℕ) → (burst_at (Chip width) k a w).increments ≡ true
    → wrapped (a + advance (burst_at (Chip width) k a w)) % (burst_at (Chip width) k a w).size ≡ 0
lands width k a w up = grind (arith, moves_some, mul-le, wraps_whole, ends_whole, skip_is)

-- a burst leaves out less than a beat
leaves_part : (bus : Bus) (k a w : ℕ) → LeavesOutPart (burst_at bus k a w)
leaves_part bus k a w = grind (arith, moves_some, mul-le)

pub addresses_align : AddressesAlign
addresses_align marks s width on = grind (arith, act_leads, lands, leaves_part)

-- The eight hexadecimal digits of a number are those of its four bytes.
use Rattle.std.proofs.Common.{◌≡◌, ℕ, ◌/◌, ◌%◌, ◌^◌, ◌<◌, List, [], ◌∷◌, get_or, arith, refl}
use Rattle.dma_text.specs.Digits.{hex_digits, hex_pair}

-- the digits of the four bytes, joined
pub pairs_joined : (v : ℕ) (a b c d : List ℕ) → v < 2 ^ 32 → a ≡ hex_pair (v / 16777216) → b ≡ hex_pair (v / 65536 % 256) → c ≡ hex_pair (v / 256 % 256)
    → d ≡ hex_pair (v % 256)
    → get_or a 0 0 ∷ get_or a 1 0 ∷ get_or b 0 0 ∷ get_or b 1 0 ∷ get_or c 0 0 ∷ get_or c 1 0 ∷ get_or d 0 0 ∷ get_or d 1 0 ∷ [] ≡ hex_digits v
pairs_joined v a b c d fits first second third last =
    let e1 : v / 16777216 / 16 ≡ v / 268435456 % 16 = omega arith in
    let e3 : v / 65536 % 256 / 16 ≡ v / 1048576 % 16 = omega arith in
    let e4 : v / 65536 % 256 % 16 ≡ v / 65536 % 16 = omega arith in
    let e5 : v / 256 % 256 / 16 ≡ v / 4096 % 16 = omega arith in
    let e6 : v / 256 % 256 % 16 ≡ v / 256 % 16 = omega arith in
    let e7 : v % 256 / 16 ≡ v / 16 % 16 = omega arith in
    let e8 : v % 256 % 16 ≡ v / 1 % 16 = omega arith in
    rw (first, second, third, last, e1, e3, e4, e5, e6, e7, e8) refl

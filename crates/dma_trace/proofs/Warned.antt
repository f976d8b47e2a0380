-- The warnings about bytes, by their first instruction.
use Rattle.std.proofs.Common.{◌≡◌, ℕ, ◌+◌, ◌<◌, ◌≤◌, false, List, [], ◌∷◌, ◌++◌, length, drop, Ok, suc, zero, ap, arith, append_assoc}
use Rattle.dma_insn.specs.{declared.chip.ChipInsn.ChipInsn, Chip.decoded}
use Rattle.dma_trace.specs.Warnings.{doubt_of, ends_text, nest_after, warned_from, warning_at}
use Rattle.dma_trace.specs.{declared.warnings.Nest.Nest, declared.warnings.Warning.Warning}

-- bytes that are skipped are only counted
skipped : (nest : Nest) (o k : ℕ) (xs : List ℕ) → k ≤ length xs → warned_from nest o k xs ≡ warned_from nest (o + k) 0 (drop k xs)
skipped nest o zero xs h = let e : o ≡ o + 0 = omega arith in ap (λ p. warned_from nest p 0 xs) e
skipped nest o (suc k) [] h = absurd (omega arith)
skipped nest o (suc k) (x ∷ xs) h = grind (arith, arith, ap, drop, skipped nest (o + 1) k xs (omega arith))

-- the warnings about bytes that begin with an instruction of n bytes, which isn't DMAEND
first : (nest : Nest) (o n : ℕ) (xs : List ℕ) (i : ChipInsn) → decoded xs ≡ Ok (i, n) → 0 < n → n ≤ length xs → ends_text i ≡ false
    → warned_from nest o 0 xs ≡ warning_at o (doubt_of i nest) ++ warned_from (nest_after i nest) (o + n) 0 (drop n xs)
first nest o zero xs i is some within goes = absurd (omega arith)
first nest o (suc n) [] i is some within goes = absurd (omega arith)
first nest o (suc n) (x ∷ xs) i is some within goes = grind (arith, arith, drop, ap, skipped)

-- the warnings so far and those about the rest, with one more instruction
pub warned_step : (nest after : Nest) (o p n : ℕ) (xs rest : List ℕ) (i : ChipInsn) (found more : List Warning) → decoded xs ≡ Ok (i, n) → 0 < n
    → n ≤ length xs → ends_text i ≡ false → after ≡ nest_after i nest → p ≡ o + n → rest ≡ drop n xs → more ≡ found ++ warning_at o (doubt_of i nest)
    → more ++ warned_from after p 0 rest ≡ found ++ warned_from nest o 0 xs
warned_step nest after o p n xs rest i found more is some within goes a e r m = grind (arith, first, append_assoc, drop)

-- How decoding and encoding of the manual's instructions are related.
use Rattle.std.proofs.Common.{◌≡◌, ℕ, ◌+◌, ◌*◌, ◌/◌, ◌%◌, ◌^◌, ◌<◌, ◌≤◌, Bool, true, false, List, [], ◌∷◌, ◌++◌, length, drop, take, refl, sym, ap, ◌∙◌, Ok}
use Rattle.std.proofs.Common.{Err, arith, cond, eqb, ltb, suc, get_or}
use Rattle.std.proofs.lemmas.Bool.{cond_both, eqb-true, lt-ltb, le-ltb, ltb-true, ltb-false}
use Rattle.byteorder.specs.{Endian.little_bytes, Endian.little_number}
use Rattle.dma_insn.specs.declared.codec.DecodeFault.TheVariants.{BadField}
use Rattle.dma_insn.specs.declared.insn.Counter.TheVariants.{Lc0, Lc1}
use Rattle.dma_insn.specs.{declared.insn.Counter.Counter}
use Rattle.dma_insn.proofs.Laws.{little_bytes_little_number}
use Rattle.dma_manual.specs.declared.insns.OtherInsn.TheVariants.{Kill, LdIf, StIf, OfPeripheral, LpEndIf, LoopAgainIf, Go}
use Rattle.dma_manual.specs.Insns.{Decoded, HasOtherRanges, HasRanges, IsSpelledAt, OtherDecoded, action_byte, again_if}
use Rattle.dma_manual.specs.Insns.{as_other, decoded, end_if, end_if_byte, go_byte, go_of, of_peripheral, or_other, other_decoded}
use Rattle.dma_manual.specs.Insns.{other_spelling, request_bits, spelling}
use Rattle.dma_manual.specs.{declared.insns.Action.Action, declared.insns.ManualInsn.ManualInsn, declared.insns.ManualInsn.TheVariants.Chip}
use Rattle.dma_manual.specs.{declared.insns.ManualInsn.TheVariants.Other, declared.insns.OtherInsn.OtherInsn, declared.insns.Request.Request}
use Rattle.dma_manual.specs.{declared.insns.Request.TheVariants.Single, declared.insns.Request.TheVariants.Burst}
use Rattle.dma_insn.specs.Chip.{HasRanges as HasChipRanges, decoded as chip_decoded, spelling as chip_spelling}
use Rattle.dma_insn.proofs.ChipLaws.{decodes as chip_decodes, decoded_right as chip_right, decoded_spelling as chip_again}
use Rattle.dma_insn.proofs.GrammarLaws.{Decodes, Extends, IsBytes, IsUnknown, Right as Judged, bad, cut, first_is, more_right}
use Rattle.dma_manual.specs.declared.insns.Action.TheVariants as action
use Rattle.dma_manual.specs.declared.insns.Awaited.TheVariants as awaited

-- ---- an encoded instruction is decoded, whatever follows

peripheral_again : (a : Action) (p b : ℕ) (rest : List ℕ) → of_peripheral a (b ∷ (p * 8) ∷ rest) ≡ Ok (OfPeripheral a p, 2)
peripheral_again a p b rest = grind (arith, le-ltb)

end_again : (r : Request) (c : Counter) (n b : ℕ) (rest : List ℕ) → end_if r c (b ∷ n ∷ rest) ≡ Ok (LpEndIf r c n, 2)
end_again r c n b rest = rw (le-ltb (length (b ∷ n ∷ rest)) 2 (omega arith)) refl

again_again : (r : Request) (n b : ℕ) (rest : List ℕ) → again_if r (b ∷ n ∷ rest) ≡ Ok (LoopAgainIf r n, 2)
again_again r n b rest = rw (le-ltb (length (b ∷ n ∷ rest)) 2 (omega arith)) refl

go_again : (ns : Bool) (c a b : ℕ) (rest : List ℕ) → c < 8 → a < 2 ^ 32 → go_of ns (b ∷ c ∷ (little_bytes 4 a ++ rest)) ≡ Ok (Go c a ns, 6)
go_again ns c a b rest channel address = grind (arith, le-ltb, lt-ltb)

other_again : (i : OtherInsn) (rest : List ℕ) → HasOtherRanges i → decoded (other_spelling i ++ rest) ≡ Ok (Other i, length (other_spelling i))
other_again (LdIf Single) rest h = refl
other_again (StIf Single) rest h = refl
other_again (OfPeripheral (action.Ld Single) p) rest h = ap as_other (peripheral_again (action.Ld Single) p 0x25 rest)
other_again (OfPeripheral (action.Ld Burst) p) rest h = ap as_other (peripheral_again (action.Ld Burst) p 0x27 rest)
other_again (OfPeripheral (action.St Single) p) rest h = ap as_other (peripheral_again (action.St Single) p 0x29 rest)
other_again (OfPeripheral (action.St Burst) p) rest h = ap as_other (peripheral_again (action.St Burst) p 0x2b rest)
other_again (OfPeripheral (action.Wait awaited.Single) p) rest h = ap as_other (peripheral_again (action.Wait awaited.Single) p 0x30 rest)
other_again (OfPeripheral (action.Wait awaited.Either) p) rest h = ap as_other (peripheral_again (action.Wait awaited.Either) p 0x31 rest)
other_again (OfPeripheral (action.Wait awaited.Burst) p) rest h = ap as_other (peripheral_again (action.Wait awaited.Burst) p 0x32 rest)
other_again (OfPeripheral action.Flush p) rest h = ap as_other (peripheral_again action.Flush p 0x35 rest)
other_again (LpEndIf Single Lc0 n) rest h = ap as_other (end_again Single Lc0 n 0x39 rest)
other_again (LpEndIf Burst Lc0 n) rest h = ap as_other (end_again Burst Lc0 n 0x3b rest)
other_again (LpEndIf Single Lc1 n) rest h = ap as_other (end_again Single Lc1 n 0x3d rest)
other_again (LpEndIf Burst Lc1 n) rest h = ap as_other (end_again Burst Lc1 n 0x3f rest)
other_again (LoopAgainIf Single n) rest h = ap as_other (again_again Single n 0x2d rest)
other_again (LoopAgainIf Burst n) rest h = ap as_other (again_again Burst n 0x2f rest)
other_again (Go c a false) rest h = ap as_other (go_again false c a 0xa0 rest h.0 h.1)
other_again (Go c a true) rest h = ap as_other (go_again true c a 0xa2 rest h.0 h.1)
other_again _ rest h = refl

decoded_spelling : (i : ManualInsn) (rest : List ℕ) → HasRanges i → decoded (spelling i ++ rest) ≡ Ok (i, length (spelling i))
decoded_spelling i rest h = grind (arith, chip_again, other_again)

pub decodes : Decodes HasRanges spelling decoded
decodes = record { again = decoded_spelling; none = refl }

-- ---- what is decoded is encoded there, and a fault is the first that applies

abbrev pub Right : List ℕ → Decoded → Type 0
Right = Judged decodes

spelled : (i : OtherInsn) (rest : List ℕ) (bytes : List ℕ) (n : ℕ) → HasOtherRanges i → n ≡ length (other_spelling i) → take n bytes ≡ other_spelling i
    → IsSpelledAt bytes (Other i) n
spelled i rest bytes n h count is = record { in_range = h; count_is = count; bytes_are = is }

peripheral_right : (a : Action) (rest : List ℕ) → IsBytes rest → Right (action_byte a ∷ rest) (as_other (of_peripheral a (action_byte a ∷ rest)))
peripheral_right a [] h = cut decodes (Other (OfPeripheral a 0)) (action_byte a) [] (0 ∷ []) (omega arith) refl (omega arith)
peripheral_right a (c ∷ rest) h =
    let b = action_byte a in
    let byte : c < 256 = h 0 in
    rw (le-ltb (length (b ∷ c ∷ rest)) 2 (omega arith)) (cond_both (eqb (c % 8) 0) _ _ (λ r. Right (b ∷ c ∷ rest) (as_other r))
    (λ t. let whole : c % 8 ≡ 0 = eqb-true (c % 8) 0 t in
    let same : c ≡ c / 8 * 8 = omega arith in
    spelled (OfPeripheral a (c / 8)) rest (b ∷ c ∷ rest) 2 (omega arith) refl (ap (λ (k : ℕ). b ∷ k ∷ []) same))
    (λ t. bad decodes (Other (OfPeripheral a 0)) b (c ∷ rest) (0 ∷ []) (omega arith) refl (omega arith)))

end_right : (r : Request) (l : Counter) (rest : List ℕ) → IsBytes rest → Right (end_if_byte r l ∷ rest) (as_other (end_if r l (end_if_byte r l ∷ rest)))
end_right r l [] h = cut decodes (Other (LpEndIf r l 0)) (end_if_byte r l) [] (0 ∷ []) (omega arith) refl (omega arith)
end_right r l (c ∷ rest) h =
    rw (le-ltb (length (end_if_byte r l ∷ c ∷ rest)) 2 (omega arith)) (spelled (LpEndIf r l c) rest (end_if_byte r l ∷ c ∷ rest) 2 (h 0) refl refl)

again_right : (r : Request) (rest : List ℕ) → IsBytes rest → Right ((0x2d + request_bits r) ∷ rest) (as_other (again_if r ((0x2d + request_bits r) ∷ rest)))
again_right r [] h = cut decodes (Other (LoopAgainIf r 0)) ((0x2d + request_bits r)) [] (0 ∷ []) (omega arith) refl (omega arith)
again_right r (c ∷ rest) h =
    rw (le-ltb (length ((0x2d + request_bits r) ∷ c ∷ rest)) 2 (omega arith))
    (spelled (LoopAgainIf r c) rest ((0x2d + request_bits r) ∷ c ∷ rest) 2 (h 0) refl refl)

-- DMAGO with all its bytes
go_whole : (ns : Bool) (c : ℕ) (rest : List ℕ) → IsBytes rest → 4 ≤ length rest
    → Right (go_byte ns ∷ c ∷ rest) (as_other (cond (ltb c 8) (Ok (Go c (little_number 4 rest) ns, 6)) (Err BadField)))
go_whole ns c rest h long =
    cond_both (ltb c 8) _ _ (λ r. Right (go_byte ns ∷ c ∷ rest) (as_other r))
    (λ t. spelled (Go c (little_number 4 rest) ns) rest (go_byte ns ∷ c ∷ rest) 6 (ltb-true c 8 t, omega (arith, h 0, h 1, h 2, h 3)) refl
    (ap (λ (xs : List ℕ). go_byte ns ∷ c ∷ xs) (sym (little_bytes_little_number rest h long))))
    (λ t. bad decodes (Other (Go 0 0 ns)) (go_byte ns) (c ∷ rest) (0 ∷ little_bytes 4 0) (omega arith, omega arith) refl (omega arith))

go_right : (ns : Bool) (rest : List ℕ) → IsBytes rest → Right (go_byte ns ∷ rest) (as_other (go_of ns (go_byte ns ∷ rest)))
go_right ns rest h =
    cond_both (ltb (length (go_byte ns ∷ rest)) 6) _ _ (λ r. Right (go_byte ns ∷ rest) (as_other r))
    (λ t. let few : length (go_byte ns ∷ rest) < 6 = ltb-true (length (go_byte ns ∷ rest)) 6 t in
    cut decodes (Other (Go 0 0 ns)) (go_byte ns) rest (0 ∷ little_bytes 4 0) (omega arith, omega arith) refl (omega arith))
    (λ t. let long : 6 ≤ length (go_byte ns ∷ rest) = ltb-false (length (go_byte ns ∷ rest)) 6 t in go_long ns rest h (omega arith))
  where
    go_long : (ns : Bool) (rest : List ℕ) → IsBytes rest → 5 ≤ length rest
        → Right (go_byte ns ∷ rest) (as_other (cond (ltb (get_or rest 0 0) 8) (Ok (Go (get_or rest 0 0) (little_number 4 (drop 1 rest)) ns, 6)) (Err BadField)))
    go_long ns [] h long = absurd (omega arith)
    go_long ns (c ∷ rest) h long = go_whole ns c rest (λ i. h (suc i)) (omega arith)

other_right : (b : ℕ) (rest : List ℕ) → IsBytes rest → IsUnknown chip_decoded b → Right (b ∷ rest) (as_other (other_decoded b (b ∷ rest)))
other_right b rest h chip =
    let at = λ (k : ℕ) (r : OtherDecoded). Right (k ∷ rest) (as_other r) in
    first_is at b 0x01 _ _ (spelled Kill rest (0x01 ∷ rest) 1 tt refl refl) (λ n0.
    first_is at b 0x05 _ _ (spelled (LdIf Single) rest (0x05 ∷ rest) 1 tt refl refl) (λ n1.
    first_is at b 0x07 _ _ (spelled (LdIf Burst) rest (0x07 ∷ rest) 1 tt refl refl) (λ n2.
    first_is at b 0x09 _ _ (spelled (StIf Single) rest (0x09 ∷ rest) 1 tt refl refl) (λ n3.
    first_is at b 0x0b _ _ (spelled (StIf Burst) rest (0x0b ∷ rest) 1 tt refl refl) (λ n4.
    first_is at b 0x25 _ _ (peripheral_right (action.Ld Single) rest h) (λ n5.
    first_is at b 0x27 _ _ (peripheral_right (action.Ld Burst) rest h) (λ n6.
    first_is at b 0x29 _ _ (peripheral_right (action.St Single) rest h) (λ n7.
    first_is at b 0x2b _ _ (peripheral_right (action.St Burst) rest h) (λ n8.
    first_is at b 0x2d _ _ (again_right Single rest h) (λ n9.
    first_is at b 0x2f _ _ (again_right Burst rest h) (λ n10.
    first_is at b 0x30 _ _ (peripheral_right (action.Wait awaited.Single) rest h) (λ n11.
    first_is at b 0x31 _ _ (peripheral_right (action.Wait awaited.Either) rest h) (λ n12.
    first_is at b 0x32 _ _ (peripheral_right (action.Wait awaited.Burst) rest h) (λ n13.
    first_is at b 0x35 _ _ (peripheral_right action.Flush rest h) (λ n14.
    first_is at b 0x39 _ _ (end_right Single Lc0 rest h) (λ n15.
    first_is at b 0x3b _ _ (end_right Burst Lc0 rest h) (λ n16.
    first_is at b 0x3d _ _ (end_right Single Lc1 rest h) (λ n17.
    first_is at b 0x3f _ _ (end_right Burst Lc1 rest h) (λ n18.
    first_is at b 0xa0 _ _ (go_right false rest h) (λ n19.
    first_is at b 0xa2 _ _ (go_right true rest h) (λ n20. (
      refl,
      λ left. ap (or_other (b ∷ left)) (chip left)
          ∙ rw (n0, n1, n2, n3, n4, n5, n6, n7, n8, n9, n10, n11, n12, n13, n14, n15, n16, n17, n18, n19, n20) refl,
    ))))))))))))))))))))))

extends : Extends HasChipRanges chip_spelling HasRanges spelling Chip
extends = record { in_range = λ i h. h; same = λ i. refl }

pub decoded_right : (bytes : List ℕ) → IsBytes bytes → Right bytes (decoded bytes)
decoded_right bytes h =
    more_right extends chip_decodes decodes (λ b bytes. as_other (other_decoded b bytes)) other_right bytes (chip_decoded bytes) h (chip_right bytes h)

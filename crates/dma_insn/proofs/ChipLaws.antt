-- How decoding and encoding of a chip's instructions are related.
use Rattle.std.proofs.Common.{◌≡◌, ℕ, ◌^◌, ◌<◌, ◌≤◌, Bool, true, false, List, [], ◌∷◌, ◌++◌, length, refl, ap, ◌∙◌, Ok}
use Rattle.std.proofs.Common.{arith}
use Rattle.std.proofs.{lemmas.Bool.le-ltb}
use Rattle.byteorder.specs.{Endian.little_bytes, Endian.little_number}
use Rattle.dma_insn.specs.declared.insn.Counter.TheVariants.{Lc0, Lc1}
use Rattle.dma_insn.specs.declared.chip.Address.TheVariants.{Source, Destination}
use Rattle.dma_insn.specs.declared.chip.ChipInsn.TheVariants.{AddHalfword, LoopAgain}
use Rattle.dma_insn.specs.declared.codec.DecodeFault.TheVariants.{Cut}
use Rattle.dma_insn.specs.Chip.{widened, add_byte, again_byte, spelling, HasRanges, HasCoreRanges, IsSpelledAt, IsRefusedFor, Decoded}
use Rattle.dma_insn.specs.Chip.{decoded_core, added_by, again_by, beyond_core, or_beyond, decoded}
use Rattle.dma_insn.specs.{declared.insn.Insn.Insn, declared.insn.Counter.Counter, declared.chip.Address.Address, declared.chip.ChipInsn.ChipInsn}
use Rattle.dma_insn.specs.Spelling.{spelling as core_spelling, HasRanges as CoreRanges, IsSpelledAt as IsCoreAt}
use Rattle.dma_insn.proofs.GrammarLaws.{Decodes, Extends, IsBytes, IsUnknown, Right as Judged, cut, decoded_at, first_is, more_right, wide_at}
use Rattle.dma_insn.specs.Decoding.{decoded as core_decoded}
use Rattle.dma_insn.proofs.Laws.{decoded_spelling as core_decoded_spelling, decoded_right as core_right, decodes as core_decodes}

-- ---- an instruction of the model

widened_both : (i : Insn) → (spelling (widened i) ≡ core_spelling i) × (CoreRanges i → HasRanges (widened i))
widened_both i = grind (arith)

pub widened_spelling : (i : Insn) → spelling (widened i) ≡ core_spelling i
widened_spelling i = (widened_both i).0

extends : Extends CoreRanges core_spelling HasRanges spelling widened
extends = record { in_range = λ i. (widened_both i).1; same = widened_spelling }

pub widened_at : (bytes : List ℕ) (i : Insn) (n : ℕ) → IsCoreAt bytes i n → IsSpelledAt bytes (widened i) n
widened_at = wide_at extends

-- ---- an encoded instruction is decoded, whatever follows

added_again : (a : Address) (h : ℕ) (n : Bool) (b : ℕ) (rest : List ℕ) → h < 2 ^ 16 → added_by a n (b ∷ (little_bytes 2 h ++ rest)) ≡ Ok (AddHalfword a h n, 3)
added_again a h n b rest low = grind (arith, le-ltb)

-- in the grammar of the model
pub decoded_core_spelling : (i : ChipInsn) (rest : List ℕ) → HasCoreRanges i → decoded_core (spelling i ++ rest) ≡ Ok (i, length (spelling i))
decoded_core_spelling i rest h = grind (arith, core_decoded_spelling)

-- what the grammar of the model has, that of a chip has
pub core_in_chip : (bytes : List ℕ) (x : ChipInsn × ℕ) → decoded_core bytes ≡ Ok x → decoded bytes ≡ Ok x
core_in_chip bytes x h = grind arith

-- in the grammar of a chip
pub decoded_spelling : (i : ChipInsn) (rest : List ℕ) → HasRanges i → decoded (spelling i ++ rest) ≡ Ok (i, length (spelling i))
decoded_spelling i rest h = grind (arith, added_again, le-ltb, core_in_chip, decoded_core_spelling)

pub decodes : Decodes HasRanges spelling decoded
decodes = record { again = decoded_spelling; none = refl }

pub core_at : (bytes : List ℕ) (i : Insn) (n : ℕ) → IsCoreAt bytes i n → decoded bytes ≡ Ok (widened i, n)
core_at bytes i n h = decoded_at decodes bytes (widened i) n (widened_at bytes i n h)

-- ---- what is decoded is encoded there, and a fault is the first that applies

abbrev pub Right : List ℕ → Decoded → Type 0
Right = Judged decodes

again_right : (l : Counter) (rest : List ℕ) → IsBytes rest → Right (again_byte l ∷ rest) (again_by l (again_byte l ∷ rest))
again_right l [] h = cut decodes (LoopAgain l 0) (again_byte l) [] (0 ∷ []) (omega arith) refl (omega arith)
again_right l (c ∷ rest) h =
    let long : 2 ≤ length (again_byte l ∷ c ∷ rest) = omega arith in
    rw (le-ltb (length (again_byte l ∷ c ∷ rest)) 2 long) (record { in_range = h 0; count_is = refl; bytes_are = refl })

two_bytes : (c d : ℕ) (rest : List ℕ) → c < 256 → d < 256 → little_bytes 2 (little_number 2 (c ∷ d ∷ rest)) ≡ c ∷ d ∷ []
two_bytes c d rest low high = grind arith

add_cut : (a : Address) (n : Bool) (rest : List ℕ) → length rest < 2 → IsRefusedFor (add_byte a n ∷ rest) Cut
add_cut a n rest few = cut decodes (AddHalfword a 0 n) (add_byte a n) rest (0 ∷ 0 ∷ []) (omega arith) refl few

add_right : (a : Address) (n : Bool) (rest : List ℕ) → IsBytes rest → Right (add_byte a n ∷ rest) (added_by a n (add_byte a n ∷ rest))
add_right a n rest h = grind (arith, add_cut, le-ltb, two_bytes)

beyond_right : (b : ℕ) (rest : List ℕ) → IsBytes rest → IsUnknown core_decoded b → Right (b ∷ rest) (beyond_core b (b ∷ rest))
beyond_right b rest h core =
    let at = λ (k : ℕ) (r : Decoded). Right (k ∷ rest) r in
    first_is at b 0x0c _ _ (record { in_range = tt; count_is = refl; bytes_are = refl }) (λ n0.
    first_is at b 0x28 _ _ (again_right Lc0 rest h) (λ n1.
    first_is at b 0x2c _ _ (again_right Lc1 rest h) (λ n2.
    first_is at b 0x54 _ _ (add_right Source false rest h) (λ n3.
    first_is at b 0x56 _ _ (add_right Destination false rest h) (λ n4.
    first_is at b 0x5c _ _ (add_right Source true rest h) (λ n5.
    first_is at b 0x5e _ _ (add_right Destination true rest h) (λ n6.
    (refl, λ left. ap (or_beyond (b ∷ left)) (core left) ∙ rw (n0, n1, n2, n3, n4, n5, n6) refl))))))))

pub decoded_right : (bytes : List ℕ) → IsBytes bytes → Right bytes (decoded bytes)
decoded_right bytes h = more_right extends core_decodes decodes beyond_core beyond_right bytes (core_decoded bytes) h (core_right bytes h)

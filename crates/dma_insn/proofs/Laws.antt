-- How decoding and encoding are related.
use Rattle.std.proofs.Common.{◌≡◌, ℕ, ◌+◌, ◌-◌, ◌*◌, ◌/◌, ◌%◌, ◌^◌, ◌<◌, ◌≤◌, Bool, true, false, List, [], ◌∷◌, ◌++◌, length, take, refl, sym, ap}
use Rattle.std.proofs.Common.{Ok, arith, eqb, ltb, suc}
use Rattle.std.proofs.lemmas.Bool.{eqb-true, cond_both, le-ltb, ltb-false, ltb-true}
use Rattle.std.proofs.{lemmas.Nat.div-mul-add, lemmas.Nat.mod-mul-add, lemmas.List.append_cancel_left}
use Rattle.byteorder.specs.{Endian.little_bytes, Endian.little_number}
use Rattle.dma_insn.specs.declared.insn.Reg.TheVariants.{Sar, Ccr, Dar}
use Rattle.dma_insn.specs.declared.insn.Insn.TheVariants.{Mov, Ld, St, Rmb, Wmb, Nop, End, Lp, LpEnd, Sev, Wfe}
use Rattle.dma_insn.specs.Spelling.{spelling, HasRanges, IsSpelledAt, IsRefusedFor, register_byte, loop_byte, loop_end_byte, invalid_bits}
use Rattle.dma_insn.specs.Spelling.{NoSpellingBeginsAnother}
use Rattle.dma_insn.proofs.GrammarLaws.{Decodes, IsBytes, Right as Judged, first_is, cut, bad}
use Rattle.dma_insn.specs.Decoding.{Decoded, by_second, signal_at, wait_at, set_at, set_by, decoded}
use Rattle.dma_insn.specs.{declared.insn.Reg.Reg, declared.insn.Counter.Counter, declared.insn.Counter.TheVariants.Lc0, declared.insn.Counter.TheVariants.Lc1}
use Rattle.dma_insn.specs.{declared.insn.Insn.Insn, declared.codec.DecodeFault.TheVariants.Cut, declared.codec.DecodeFault.TheVariants.BadField}

-- a byte of two fields
field : (e b : ℕ) → b < 8 → ((e * 8 + b) / 8 ≡ e) × ((e * 8 + b) % 8 ≡ b)
field e b h = (div-mul-add e 8 b h, mod-mul-add e 8 b h)

signal_again : (e : ℕ) → signal_at (e * 8) ≡ Ok (Sev e, 2)
signal_again e = grind arith

wait_again : (e : ℕ) (v : Bool) → wait_at (e * 8 + invalid_bits v) ≡ Ok (Wfe e v, 2)
wait_again e v = grind (arith)

set_again : (r : Reg) (v : ℕ) (rest : List ℕ) → v < 2 ^ 32 → set_by (register_byte r ∷ (little_bytes 4 v ++ rest)) ≡ Ok (Mov r v, 6)
set_again r v rest h = grind (arith, le-ltb)

-- an encoded instruction is decoded, whatever follows
pub decoded_spelling : (i : Insn) (rest : List ℕ) → HasRanges i → decoded (spelling i ++ rest) ≡ Ok (i, length (spelling i))
decoded_spelling i rest h = grind (arith, signal_again, wait_again, set_again)

pub decodes : Decodes HasRanges spelling decoded
decodes = record { again = decoded_spelling; none = refl }

-- the decoded instruction is encoded at the front of these bytes, and a fault is the first that applies
abbrev pub Right : List ℕ → Decoded → Type 0
Right = Judged decodes

same_ok : (r : Decoded) (x y : Insn × ℕ) → r ≡ Ok x → r ≡ Ok y → x ≡ y
same_ok r x y left right = cc

pub one_front : NoSpellingBeginsAnother
one_front i j xs ys hi hj e = grind (arith, decoded_spelling, same_ok, append_cancel_left)

one : (i : Insn) (rest : List ℕ) (b : ℕ) → HasRanges i → spelling i ≡ b ∷ [] → IsSpelledAt (b ∷ rest) i 1
one i rest b h e = record { in_range = h; count_is = sym (ap length e); bytes_are = sym e }

two : (i : Insn) (rest : List ℕ) (a b : ℕ) → HasRanges i → spelling i ≡ a ∷ b ∷ [] → IsSpelledAt (a ∷ b ∷ rest) i 2
two i rest a b h e = record { in_range = h; count_is = sym (ap length e); bytes_are = sym e }

-- an instruction of two bytes lacks its second
cut_one : (i : Insn) (a b : ℕ) → HasRanges i → spelling i ≡ a ∷ b ∷ [] → IsRefusedFor (a ∷ []) Cut
cut_one i a b h e = cut decodes i a [] (b ∷ []) h e (omega arith)

-- an instruction of two bytes has its second
bad_two : (i : Insn) (a b c : ℕ) (rest : List ℕ) → HasRanges i → spelling i ≡ a ∷ b ∷ [] → IsRefusedFor (a ∷ c ∷ rest) BadField
bad_two i a b c rest h e = bad decodes i a (c ∷ rest) (b ∷ []) h e (omega arith)

loop_right : (c : Counter) (rest : List ℕ) → IsBytes rest → Right (loop_byte c ∷ rest) (by_second rest (λ n. Ok (Lp c (n + 1), 2)))
loop_right c [] h = cut_one (Lp c 1) (loop_byte c) 0 (omega arith, omega arith) refl
loop_right c (b ∷ rest) h =
    let e : b + 1 - 1 ≡ b = omega arith in
    two (Lp c (b + 1)) rest (loop_byte c) b (omega arith, omega (arith, h 0)) (ap (λ (m : ℕ). loop_byte c ∷ m ∷ []) e)

loop_end_right : (c : Counter) (rest : List ℕ) → IsBytes rest → Right (loop_end_byte c ∷ rest) (by_second rest (λ n. Ok (LpEnd c n, 2)))
loop_end_right c [] h = cut_one (LpEnd c 0) (loop_end_byte c) 0 (omega arith) refl
loop_end_right c (b ∷ rest) h = two (LpEnd c b) rest (loop_end_byte c) b (h 0) refl

signal_right : (rest : List ℕ) → IsBytes rest → Right (0x34 ∷ rest) (by_second rest signal_at)
signal_right [] h = cut_one (Sev 0) 0x34 0 (omega arith) refl
signal_right (b ∷ rest) h =
    cond_both (eqb (b % 8) 0) _ _ (Right (0x34 ∷ b ∷ rest)) (λ t. let e : b % 8 ≡ 0 = eqb-true (b % 8) 0 t in let l : b < 256 = h 0 in
    two (Sev (b / 8)) rest 0x34 b (omega arith) (let s : b / 8 * 8 ≡ b = omega arith in ap (λ (m : ℕ). 0x34 ∷ m ∷ []) s))
    (λ t. bad_two (Sev 0) 0x34 0 b rest (omega arith) refl)

wait_right : (rest : List ℕ) → IsBytes rest → Right (0x36 ∷ rest) (by_second rest wait_at)
wait_right [] h = cut_one (Wfe 0 false) 0x36 0 (omega arith) refl
wait_right (b ∷ rest) h =
    cond_both (eqb (b % 8) 0) _ _ (Right (0x36 ∷ b ∷ rest)) (λ t. let e : b % 8 ≡ 0 = eqb-true (b % 8) 0 t in let l : b < 256 = h 0 in
    two (Wfe (b / 8) false) rest 0x36 b (omega arith) (let s : b / 8 * 8 + 0 ≡ b = omega arith in ap (λ (m : ℕ). 0x36 ∷ m ∷ []) s)) (λ t.
    cond_both (eqb (b % 8) 2) _ _ (Right (0x36 ∷ b ∷ rest)) (λ t. let e : b % 8 ≡ 2 = eqb-true (b % 8) 2 t in let l : b < 256 = h 0 in
    two (Wfe (b / 8) true) rest 0x36 b (omega arith) (let s : b / 8 * 8 + 2 ≡ b = omega arith in ap (λ (m : ℕ). 0x36 ∷ m ∷ []) s))
    (λ t. bad_two (Wfe 0 false) 0x36 0 b rest (omega arith) refl))

-- The bytes of the number that four bytes read as, the lowest first, are those bytes again.
pub little_bytes_little_number : (bytes : List ℕ) → IsBytes bytes → 4 ≤ length bytes → little_bytes 4 (little_number 4 bytes) ≡ take 4 bytes
little_bytes_little_number bytes h h2 = grind (arith)

set_cut : (rest : List ℕ) → length rest < 5 → IsRefusedFor (0xbc ∷ rest) Cut
set_cut rest h = cut decodes (Mov Sar 0) 0xbc rest (0 ∷ little_bytes 4 0) (omega arith) refl (omega arith)

set_bad : (rest : List ℕ) → 5 ≤ length rest → IsRefusedFor (0xbc ∷ rest) BadField
set_bad rest h = bad decodes (Mov Sar 0) 0xbc rest (0 ∷ little_bytes 4 0) (omega arith) refl (omega arith)

set_whole : (r : Reg) (rest : List ℕ) → IsBytes rest → 4 ≤ length rest → IsSpelledAt (0xbc ∷ register_byte r ∷ rest) (Mov r (little_number 4 rest)) 6
set_whole r rest h n = grind (arith, little_bytes_little_number)

set_field : (a : ℕ) (rest : List ℕ) → IsBytes rest → ltb (length (a ∷ rest)) 5 ≡ false → Right (0xbc ∷ a ∷ rest) (set_at a (little_number 4 rest))
set_field a rest h n =
    let long : 5 ≤ length (a ∷ rest) = ltb-false _ 5 n in
    let four : 4 ≤ length rest = omega arith in
    let at = λ (k : ℕ) (r : Decoded). Right (0xbc ∷ k ∷ rest) r in
    first_is at a 0 _ _ (set_whole Sar rest h four) (λ n0.
    first_is at a 1 _ _ (set_whole Ccr rest h four) (λ n1.
    first_is at a 2 _ _ (set_whole Dar rest h four) (λ n2. set_bad (a ∷ rest) long)))

set_right : (rest : List ℕ) → IsBytes rest → Right (0xbc ∷ rest) (set_by rest)
set_right [] h = set_cut [] (omega arith)
set_right (a ∷ rest) h =
    cond_both (ltb (length (a ∷ rest)) 5) _ _ (Right (0xbc ∷ a ∷ rest)) (λ t. set_cut (a ∷ rest) (ltb-true _ 5 t)) (λ t. set_field a rest (λ i. h (suc i)) t)

-- each first byte, in the order of the table
pub decoded_right : (bytes : List ℕ) → IsBytes bytes → Right bytes (decoded bytes)
decoded_right [] h = tt
decoded_right (b ∷ rest) h =
    let g : IsBytes rest = λ i. h (suc i) in
    let at = λ (k : ℕ) (r : Decoded). Right (k ∷ rest) r in
    first_is at b 0x00 _ _ (one End rest 0x00 tt refl) (λ n0.
    first_is at b 0x04 _ _ (one Ld rest 0x04 tt refl) (λ n1.
    first_is at b 0x08 _ _ (one St rest 0x08 tt refl) (λ n2.
    first_is at b 0x12 _ _ (one Rmb rest 0x12 tt refl) (λ n3.
    first_is at b 0x13 _ _ (one Wmb rest 0x13 tt refl) (λ n4.
    first_is at b 0x18 _ _ (one Nop rest 0x18 tt refl) (λ n5.
    first_is at b 0x20 _ _ (loop_right Lc0 rest g) (λ n6.
    first_is at b 0x22 _ _ (loop_right Lc1 rest g) (λ n7.
    first_is at b 0x38 _ _ (loop_end_right Lc0 rest g) (λ n8.
    first_is at b 0x3c _ _ (loop_end_right Lc1 rest g) (λ n9.
    first_is at b 0x34 _ _ (signal_right rest g) (λ n10.
    first_is at b 0x36 _ _ (wait_right rest g) (λ n11.
    first_is at b 0xbc _ _ (set_right rest g) (λ n12.
    (refl, λ more. rw (n0, n1, n2, n3, n4, n5, n6, n7, n8, n9, n10, n11, n12) refl))))))))))))))

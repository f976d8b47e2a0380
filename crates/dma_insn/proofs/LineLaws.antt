-- The result of reading a line, compared with the statement of its words.
use Rattle.std.proofs.Common.{◌≡◌, ℕ, ◌^◌, ◌<◌, ◌≤◌, Bool, true, false, ◌&&◌, List, [], ◌∷◌, refl, sym, ap, ◌∙◌, subst, Option, Some, None, Result, Ok, Err}
use Rattle.std.proofs.Common.{cond, leb, arith}
use Rattle.std.specs.{Prelude.codes, Option.option_and_then, Option.ok_or, Str.bytes_eq, Cmp.Lexicographic.same_text, List.list_any}
use Rattle.std.proofs.lemmas.Bool.{ne_eqb, le-leb, lt-leb, cases_lt}
use Rattle.dma_insn.specs.declared.insn.Reg.TheVariants.{Sar, Ccr, Dar}
use Rattle.dma_insn.specs.declared.insn.Insn.TheVariants.{Ld, St, Rmb, Wmb, Nop, End, Lp, LpEnd, Sev, Wfe}
use Rattle.dma_insn.specs.declared.assembler.AsmCause.TheVariants.{Mnemonic, Operand, Range}
use Rattle.dma_insn.specs.AssemblyText.{Statement, dmaend, dmald, dmast, dmarmb, dmawmb, dmanop, dmalp, dmalpend, dmasev, dmawfe, dmamov, IsDecimal, IsWritten}
use Rattle.dma_insn.specs.AssemblyText.{insn_of, counter_of, register_word, value_word, names, first_of, HasTwoNumbers}
use Rattle.dma_insn.specs.LineReading.{capped, number_of, value_of, register_of, counter_at, times_at, back_at, event_at, loop_line, loop_end_line, signal_line}
use Rattle.dma_insn.specs.LineReading.{wait_line, set_line, bare_line, line_in, two_numbers, number_at}
use Rattle.dma_insn.specs.{declared.insn.Reg.Reg, declared.insn.Counter.Counter, declared.insn.Insn.Insn, declared.assembler.AsmCause.AsmCause}
use Rattle.dma_text.specs.Results.{◌>>=◌}
use Rattle.dma_insn.proofs.Numbers.{number_of_reads, number_of_decimal, value_of_reads, value_of_word}

-- the ranges treat a number above 65,535 as 65,535
same_capped : {A : Type 0} (f : ℕ → A) → ((k : ℕ) → 65535 ≤ k → f k ≡ f 65535) → (k : ℕ) → f (capped k) ≡ f k
same_capped f large k = grind (arith, cases_lt)

counter_capped : (k : ℕ) → counter_at (capped k) ≡ counter_at k
counter_capped k = grind (arith, same_capped, ne_eqb)

times_capped : (k : ℕ) → times_at (capped k) ≡ times_at k
times_capped k = same_capped times_at (λ j h. rw (le-leb 1 j (omega arith), lt-leb j 256 (omega arith)) refl) k

back_capped : (k : ℕ) → back_at (capped k) ≡ back_at k
back_capped k = same_capped back_at (λ j h. rw (lt-leb j 255 (omega arith)) refl) k

event_capped : (k : ℕ) → event_at (capped k) ≡ event_at k
event_capped k = same_capped event_at (λ j h. rw (lt-leb j 31 (omega arith)) refl) k

-- the ranges tested one after another, and as a statement has them
loop_ranges : (g : Counter → ℕ → Insn) (o : Option Counter) (t : Bool) (m : ℕ)
    → (ok_or o Range >>= λ c. (cond t (Ok m) (Err Range) >>= λ k. Ok (g c k))) ≡ ok_or (option_and_then (λ c. cond t (Some (g c m)) None) o) Range
loop_ranges g o t m = grind (arith)

event_range : (g : ℕ → Insn) (t : Bool) (e : ℕ) → (cond t (Ok e) (Err Range) >>= λ k. Ok (g k)) ≡ ok_or (cond t (Some (g e)) None) Range
event_range g t e = grind (arith)

register_of_word : (r : Reg) → register_of (register_word r) ≡ Some r
register_of_word r = grind (arith)

-- What the words of a statement are read as: its instruction, or Range.
loop_read : (a b : List ℕ) (c m : ℕ) → IsDecimal a c → IsDecimal b m → loop_line (a ∷ b ∷ []) ≡ ok_or (insn_of (dmalp c m)) Range
loop_read a b c m ha hb =
    rw (number_of_decimal a c ha, number_of_decimal b m hb, counter_capped c, times_capped m) (loop_ranges (λ k l. Lp k l) _ (leb 1 m && leb m 256) m)

loop_end_read : (a b : List ℕ) (c m : ℕ) → IsDecimal a c → IsDecimal b m → loop_end_line (a ∷ b ∷ []) ≡ ok_or (insn_of (dmalpend c m)) Range
loop_end_read a b c m ha hb =
    rw (number_of_decimal a c ha, number_of_decimal b m hb, counter_capped c, back_capped m) (loop_ranges (λ k l. LpEnd k l) (counter_of c) (leb m 255) m)

signal_read : (a : List ℕ) (e : ℕ) → IsDecimal a e → signal_line (a ∷ []) ≡ ok_or (insn_of (dmasev e)) Range
signal_read a e h = rw (number_of_decimal a e h, event_capped e) (event_range (λ k. Sev k) (leb e 31) e)

wait_read : (a : List ℕ) (e : ℕ) → IsDecimal a e → wait_line (a ∷ []) ≡ ok_or (insn_of (dmawfe e false)) Range
wait_read a e h = rw (number_of_decimal a e h, event_capped e) (event_range (λ k. Wfe k false) (leb e 31) e)

wait_invalid_read : (a : List ℕ) (e : ℕ) → IsDecimal a e → wait_line (a ∷ codes "invalid" ∷ []) ≡ ok_or (insn_of (dmawfe e true)) Range
wait_invalid_read a e h = rw (number_of_decimal a e h, event_capped e) (event_range (λ k. Wfe k true) (leb e 31) e)

set_read : (r : Reg) (v : ℕ) → v < 2 ^ 32 → set_line (register_word r ∷ value_word v ∷ []) ≡ ok_or (insn_of (dmamov r v)) Range
set_read r v small = rw (register_of_word r, value_of_word v small) refl

pub line_in_written : (words : List (List ℕ)) (s : Statement) → IsWritten words s → line_in words ≡ ok_or (insn_of s) Range
unfolding line_in
line_in_written words (dmalp c m) h = ap line_in h.words_are ∙ loop_read h.first h.second c m h.first_number h.second_number
line_in_written words (dmalpend c b) h = ap line_in h.words_are ∙ loop_end_read h.first h.second c b h.first_number h.second_number
line_in_written words (dmasev e) h = ap line_in h.words_are ∙ signal_read h.word e h.number
line_in_written words (dmawfe e false) h = ap line_in h.words_are ∙ wait_read h.word e h.number
line_in_written words (dmawfe e true) h = ap line_in h.words_are ∙ wait_invalid_read h.word e h.number
line_in_written words (dmamov r v) h = ap line_in h.words_are ∙ set_read r v h.in_range
line_in_written words _ h = rw h refl

-- What the result of reading a line's words says about them.
abbrev pub IsReported : List (List ℕ) → Result Insn AsmCause → Type 0
IsReported words (Ok i) = (s : Statement) × IsWritten words s × (insn_of s ≡ Some i)
IsReported words (Err Mnemonic) = list_any (λ name. bytes_eq (first_of words) name) names ≡ false
IsReported words (Err Operand) = list_any (λ name. bytes_eq (first_of words) name) names ≡ true
IsReported words (Err Range) = (s : Statement) × IsWritten words s × (insn_of s ≡ None)

reported_insn : (words : List (List ℕ)) (s : Statement) (o : Option Insn) → insn_of s ≡ o → IsWritten words s → IsReported words (ok_or o Range)
reported_insn words s o h h2 = grind (arith)

-- words that are read as a statement's
reported_written : (words : List (List ℕ)) (s : Statement) (r : Result Insn AsmCause) → IsWritten words s → r ≡ ok_or (insn_of s) Range → IsReported words r
reported_written words s r h e = subst (IsReported words) (sym e) (reported_insn words s (insn_of s) refl h)

bare_reported : (name : List ℕ) (i : Insn) (words : List (List ℕ)) → list_any (λ x. bytes_eq name x) names ≡ true → IsReported (name ∷ []) (Ok i)
    → IsReported (name ∷ words) (bare_line i words)
bare_reported name i words h h2 = grind (arith)

-- what two numbers behind a name are read as
module _ (name : List ℕ) (f : ℕ × ℕ → Result Insn AsmCause) (s : ℕ → ℕ → Statement) (known : list_any (λ x. bytes_eq name x) names ≡ true)
    (written : (ws : List (List ℕ)) (m n : ℕ) → HasTwoNumbers ws name m n → IsWritten ws (s m n))
    (read : (a b : List ℕ) (m n : ℕ) → IsDecimal a m → IsDecimal b n → (two_numbers (a ∷ b ∷ []) >>= f) ≡ ok_or (insn_of (s m n)) Range) where
  two_reported_by : (a b : List ℕ) (x y : Option ℕ) → number_of a ≡ x → number_of b ≡ y → IsReported (name ∷ a ∷ b ∷ []) (two_numbers (a ∷ b ∷ []) >>= f)
  two_reported_by a b None y p q = rw p known
  two_reported_by a b (Some k) None p q = rw (p, q) known
  two_reported_by a b (Some k) (Some l) p q =
      let m = number_of_reads a k p in
      let n = number_of_reads b l q in
      let words : HasTwoNumbers (name ∷ a ∷ b ∷ []) name m.number n.number =
      record { first = a; second = b; words_are = refl; first_number = m.is_decimal; second_number = n.is_decimal } in
      reported_written (name ∷ a ∷ b ∷ []) (s m.number n.number) _ (written _ m.number n.number words) (read a b m.number n.number m.is_decimal n.is_decimal)

  two_reported : (words : List (List ℕ)) → IsReported (name ∷ words) (two_numbers words >>= f)
  two_reported words = grind (arith, two_reported_by)

-- and one number
number_reported : (words : List (List ℕ)) (a : List ℕ) (s : ℕ → Statement) (f : ℕ → Result Insn AsmCause) (x : Option ℕ) → number_of a ≡ x
    → list_any (λ name. bytes_eq (first_of words) name) names ≡ true
    → ((n : ℕ) → IsDecimal a n → IsWritten words (s n)) → ((n : ℕ) → IsDecimal a n → (number_at a >>= f) ≡ ok_or (insn_of (s n)) Range)
    → IsReported words (number_at a >>= f)
number_reported words a s f None p known written read = rw p known
number_reported words a s f (Some k) p known written read =
    let n = number_of_reads a k p in
    reported_written words (s n.number) _ (written n.number n.is_decimal) (read n.number n.is_decimal)

signal_reported : (words : List (List ℕ)) → IsReported (codes "DMASEV" ∷ words) (signal_line words)
signal_reported (a ∷ []) =
    number_reported (codes "DMASEV" ∷ a ∷ []) a (λ e. dmasev e) (λ k. event_at k >>= λ e. Ok (Sev e)) (number_of a) refl refl
    (λ n h. record { word = a; words_are = refl; number = h }) (signal_read a)
signal_reported _ = refl

wait_two_reported : (a b : List ℕ) (t : Bool) → bytes_eq b (codes "invalid") ≡ t → IsReported (codes "DMAWFE" ∷ a ∷ b ∷ []) (wait_line (a ∷ b ∷ []))
wait_two_reported a b true e =
    let same : b ≡ codes "invalid" = same_text b (codes "invalid") (sym e) in
    subst (λ (w : List ℕ). IsReported (codes "DMAWFE" ∷ a ∷ w ∷ []) (wait_line (a ∷ w ∷ []))) (sym same)
    (number_reported (codes "DMAWFE" ∷ a ∷ codes "invalid" ∷ []) a (λ e. dmawfe e true) (λ k. event_at k >>= λ e. Ok (Wfe e true)) (number_of a) refl refl
    (λ n h. record { word = a; words_are = refl; number = h }) (wait_invalid_read a))
wait_two_reported a b false e = rw e refl

wait_reported : (words : List (List ℕ)) → IsReported (codes "DMAWFE" ∷ words) (wait_line words)
wait_reported (a ∷ []) =
    number_reported (codes "DMAWFE" ∷ a ∷ []) a (λ e. dmawfe e false) (λ k. event_at k >>= λ e. Ok (Wfe e false)) (number_of a) refl refl
    (λ n h. record { word = a; words_are = refl; number = h }) (wait_read a)
wait_reported (a ∷ b ∷ []) = wait_two_reported a b (bytes_eq b (codes "invalid")) refl
wait_reported _ = refl

-- a word that is read as a register is the register's
register_is : (word : List ℕ) (r : Reg) (x y z : Bool) → bytes_eq word (codes "SAR") ≡ x → bytes_eq word (codes "CCR") ≡ y → bytes_eq word (codes "DAR") ≡ z
    → cond x (Some Sar) (cond y (Some Ccr) (cond z (Some Dar) None)) ≡ Some r → word ≡ register_word r
register_is word r true y z p q s e = let same : Sar ≡ r = cc in same_text word (codes "SAR") (sym p) ∙ ap register_word same
register_is word r false true z p q s e = let same : Ccr ≡ r = cc in same_text word (codes "CCR") (sym q) ∙ ap register_word same
register_is word r false false true p q s e = let same : Dar ≡ r = cc in same_text word (codes "DAR") (sym s) ∙ ap register_word same
register_is word r false false false p q s e = absurd (cc)

set_reported_by : (a b : List ℕ) (x : Option Reg) (y : Option ℕ) → register_of a ≡ x → value_of b ≡ y
    → IsReported (codes "DMAMOV" ∷ a ∷ b ∷ []) (set_line (a ∷ b ∷ []))
set_reported_by a b None y p q = rw p refl
set_reported_by a b (Some r) None p q = rw (p, q) refl
set_reported_by a b (Some r) (Some v) p q =
    let f : a ≡ register_word r = register_is a r (bytes_eq a (codes "SAR")) (bytes_eq a (codes "CCR")) (bytes_eq a (codes "DAR")) refl refl refl p in
    let g = value_of_reads b v q in
    let words : (codes "DMAMOV" ∷ a ∷ b ∷ []) ≡ codes "DMAMOV" ∷ register_word r ∷ value_word v ∷ [] = rw (f, g.word_is) refl in
    reported_written (codes "DMAMOV" ∷ a ∷ b ∷ []) (dmamov r v) _ (record { words_are = words; in_range = g.small }) (rw (p, q) refl)

set_reported : (words : List (List ℕ)) → IsReported (codes "DMAMOV" ∷ words) (set_line words)
set_reported words = grind (arith, set_reported_by)

-- one test of the chain of names
name_step : (word : List ℕ) (words : List (List ℕ)) (name : List ℕ) (here rest : Result Insn AsmCause) (b : Bool) → bytes_eq word name ≡ b
    → IsReported (name ∷ words) here → (b ≡ false → IsReported (word ∷ words) rest) → IsReported (word ∷ words) (cond b here rest)
name_step word words name here rest true e h more =
    subst (λ (w : List ℕ). IsReported (w ∷ words) here) (sym (same_text word name (sym e))) h
name_step word words name here rest false e h more = more refl

pub line_in_reported : (words : List (List ℕ)) → IsReported words (line_in words)
unfolding line_in
line_in_reported [] = refl
line_in_reported (word ∷ words) =
    name_step word words (codes "DMAEND") _ _ _ refl (bare_reported (codes "DMAEND") End words refl (dmaend, refl, refl)) (λ n0.
    name_step word words (codes "DMALD") _ _ _ refl (bare_reported (codes "DMALD") Ld words refl (dmald, refl, refl)) (λ n1.
    name_step word words (codes "DMAST") _ _ _ refl (bare_reported (codes "DMAST") St words refl (dmast, refl, refl)) (λ n2.
    name_step word words (codes "DMARMB") _ _ _ refl (bare_reported (codes "DMARMB") Rmb words refl (dmarmb, refl, refl)) (λ n3.
    name_step word words (codes "DMAWMB") _ _ _ refl (bare_reported (codes "DMAWMB") Wmb words refl (dmawmb, refl, refl)) (λ n4.
    name_step word words (codes "DMANOP") _ _ _ refl (bare_reported (codes "DMANOP") Nop words refl (dmanop, refl, refl)) (λ n5.
    name_step word words (codes "DMALP") _ _ _ refl
    (two_reported (codes "DMALP") (λ n. counter_at n.0 >>= λ c. (times_at n.1 >>= λ t. Ok (Lp c t))) (λ m n. dmalp m n) refl (λ ws m n h. h) loop_read
    words) (λ n6.
    name_step word words (codes "DMALPEND") _ _ _ refl
    (two_reported (codes "DMALPEND") (λ n. counter_at n.0 >>= λ c. (back_at n.1 >>= λ b. Ok (LpEnd c b))) (λ m n. dmalpend m n) refl (λ ws m n h. h)
    loop_end_read words) (λ n7.
    name_step word words (codes "DMASEV") _ _ _ refl (signal_reported words) (λ n8.
    name_step word words (codes "DMAWFE") _ _ _ refl (wait_reported words) (λ n9.
    name_step word words (codes "DMAMOV") _ _ _ refl (set_reported words) (λ n10.
    rw (n0, n1, n2, n3, n4, n5, n6, n7, n8, n9, n10) refl)))))))))))

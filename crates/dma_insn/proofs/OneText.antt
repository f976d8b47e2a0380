-- A program has only one text in which no line is skipped and each is ended.
use Rattle.std.proofs.Common.{◌≡◌, ℕ, ◌^◌, ◌<◌, Bool, true, false, List, [], ◌∷◌, ◌++◌, map, sym, ap, ◌∙◌, subst, Some, None, cond, eqb, arith}
use Rattle.std.specs.{Prelude.decimal, Prelude.flat_map, Prelude.MatchBool, List.list_any, Option.option_and_then}
use Rattle.std.specs.List.{join_with_byte}
use Rattle.std.proofs.lemmas.List.Splits.{join_with_byte-slice_split}
use Rattle.std.proofs.{lemmas.Bool.eqb-true, lemmas.Bool.false≢true, lemmas.Bool.or_parts, lemmas.Fmt.decimal-digits_value}
use Rattle.dma_insn.specs.AssemblyText.{words_of, is_skipped, IsDecimal, Statement}
use Rattle.dma_insn.specs.AssemblyText.{HasNumber, HasTwoNumbers, IsWritten, insn_of, Writes, WritesFirst, WriteAll, ProgramText}
use Rattle.dma_insn.specs.{declared.insn.Counter.Counter, declared.insn.Counter.TheVariants.Lc0, declared.insn.Counter.TheVariants.Lc1, declared.insn.Insn.Insn}
use Rattle.dma_insn.specs.{Spelling.HasRanges, Disassembly.AllInRange, Disassembly.counter_number, Disassembly.insn_text, Disassembly.text_of}
use Rattle.dma_text.specs.Lines.{text_lines}
use Rattle.dma_insn.proofs.Texts.{counter_small, insn_text_writes, lines_ended, own, statement_of}

same_line : (a b : List ℕ) → words_of a ≡ words_of b → a ≡ b
same_line a b e = sym (join_with_byte-slice_split 32 a) ∙ ap (join_with_byte 32) e ∙ join_with_byte-slice_split 32 b

-- a number has one word
word_is : (word : List ℕ) (n : ℕ) → n < 2 ^ 64 → IsDecimal word n → word ≡ decimal n
word_is word n small h =
    let value = h.value_is in
    sym (decimal-digits_value own word h.digits h.some h.no_zeros (omega arith)) ∙ ap decimal (sym value)

same_word : (a b : List ℕ) (n : ℕ) → n < 2 ^ 64 → IsDecimal a n → IsDecimal b n → a ≡ b
same_word a b n small h k = word_is a n small h ∙ sym (word_is b n small k)

same_two : (ws vs : List (List ℕ)) (name : List ℕ) (m n : ℕ) → m < 2 ^ 64 → n < 2 ^ 64 → HasTwoNumbers ws name m n → HasTwoNumbers vs name m n → ws ≡ vs
same_two ws vs name m n hm hn h k =
    h.words_are ∙ ap (λ (w : List ℕ). name ∷ w ∷ h.second ∷ []) (same_word h.first k.first m hm h.first_number k.first_number)
    ∙ ap (λ (w : List ℕ). name ∷ k.first ∷ w ∷ []) (same_word h.second k.second n hn h.second_number k.second_number) ∙ sym k.words_are

same_one : (ws vs : List (List ℕ)) (name : List ℕ) (n : ℕ) (more : List (List ℕ)) → n < 2 ^ 64 → HasNumber ws name n more → HasNumber vs name n more → ws ≡ vs
same_one ws vs name n more hn h k = h.words_are ∙ ap (λ (w : List ℕ). name ∷ w ∷ more) (same_word h.word k.word n hn h.number k.number) ∙ sym k.words_are

-- one test of a range
in_range : (t : Bool) (j i : Insn) → cond t (Some j) None ≡ Some i → j ≡ i
in_range t j i h = grind (arith)

-- a counter, and the instruction that has it
with_counter : (c : ℕ) (x y t : Bool) (f : Counter → Insn) (i : Insn) → eqb c 0 ≡ x → eqb c 1 ≡ y
    → option_and_then (λ k. cond t (Some (f k)) None) (cond x (Some Lc0) (cond y (Some Lc1) None)) ≡ Some i → (k : Counter) × (c ≡ counter_number k) × (f k ≡ i)
with_counter c x y t f i h h2 h3 = grind (arith, eqb-true, in_range)

statement_is : (s : Statement) (i : Insn) → insn_of s ≡ Some i → s ≡ statement_of i
statement_is s i h = grind (arith, in_range)

same_words : (i : Insn) (ws vs : List (List ℕ)) → HasRanges i → IsWritten ws (statement_of i) → IsWritten vs (statement_of i) → ws ≡ vs
same_words i ws vs h h2 h3 = grind (arith, same_two, counter_small, same_one)

written_of : (line : List ℕ) (i : Insn) → Writes line i → IsWritten (words_of line) (statement_of i)
written_of line i w = subst (IsWritten (words_of line)) (statement_is w.statement i w.insn_is) w.words_are

-- An instruction has one line.
line_is : (line : List ℕ) (i : Insn) → HasRanges i → Writes line i → line ≡ insn_text i
line_is line i r w = same_line line (insn_text i)
    (same_words i (words_of line) (words_of (insn_text i)) r (written_of line i w) (written_of (insn_text i) i (insn_text_writes i r)))

lines_by : (line : List ℕ) (lines : List (List ℕ)) (is : List Insn) (t : Bool) → t ≡ false
    → MatchBool t (WriteAll lines is) (WritesFirst line is (λ rest. WriteAll lines rest)) → AllInRange is
    → ((js : List Insn) → WriteAll lines js → AllInRange js → lines ≡ map insn_text js) → line ∷ lines ≡ map insn_text is
lines_by line lines is true e h r more = absurd (false≢true (sym e))
lines_by line lines is false e h r more =
    let ranges : AllInRange (h.first ∷ h.rest) = subst AllInRange h.are r in
    ap (λ (l : List ℕ). l ∷ lines) (line_is line h.first ranges.0 h.writes) ∙ ap (λ (ls : List (List ℕ)). insn_text h.first ∷ ls) (more h.rest h.more ranges.1)
    ∙ ap (map insn_text) (sym h.are)

lines_are : (lines : List (List ℕ)) (is : List Insn) → WriteAll lines is → AllInRange is → list_any is_skipped lines ≡ false → lines ≡ map insn_text is
lines_are [] is h r none = ap (map insn_text) (sym h)
lines_are (line ∷ lines) is h r none =
    let parts = or_parts (is_skipped line) (list_any is_skipped lines) none in
    lines_by line lines is (is_skipped line) parts.0 h r (λ js written ranges. lines_are lines js written ranges parts.1)

pub one_way : (text : List ℕ) (is : List Insn) → AllInRange is → ProgramText text is → list_any is_skipped (text_lines text) ≡ false
    → text ≡ flat_map (λ line. line ++ 10 ∷ []) (text_lines text) → text ≡ text_of is
one_way text is r h none ended = grind (arith, lines_are, lines_ended)

-- The text that instructions are written as is the text of these instructions.
use Rattle.std.proofs.Common.{◌≡◌, ℕ, ◌+◌, ◌/◌, ◌%◌, ◌^◌, ◌<◌, ◌≤◌, Bool, true, false, List, [], ◌∷◌, ◌++◌, map, length, get_or, refl, sym, ap, ◌∙◌, subst}
use Rattle.std.proofs.Common.{Some, ltb, eqb, arith, append_assoc, append-nil}
use Rattle.std.specs.{Prelude.codes, Prelude.decimal, Prelude.flat_map, List.list_all, List.list_any, Str.all_ascii_digits}
use Rattle.std.specs.{Str.Parse.digits_value, Fmt.digit_glyph}
use Rattle.std.specs.List.{All}
use Rattle.std.proofs.lemmas.List.Splits.{slice_split_at, slice_split_none}
use Rattle.std.proofs.lemmas.List.{Elements.All-head, Elements.All-tail, Elements.All-weaker, Sums.AllPass-from_list_all}
use Rattle.std.proofs.lemmas.List.Folds.{list_all-append}
use Rattle.std.proofs.lemmas.Bool.{and_from, ltb-true, lt-ltb, le-ltb, ne_eqb, le-leb, cases_lt}
use Rattle.std.proofs.lemmas.Str.Parse.{IsNumeralModel, numerals_by_value, tells_all_ascii_digits}
use Rattle.std.proofs.lemmas.Fmt.{decimal_by_steps, decimal_nonempty, first_decimal, decimal_digit, digits_decimal, digits_value-decimal}
use Rattle.dma_insn.specs.declared.insn.Reg.TheVariants.{Sar, Ccr, Dar}
use Rattle.dma_insn.specs.declared.insn.Insn.TheVariants.{Mov, Ld, St, Rmb, Wmb, Nop, End, Lp, LpEnd, Sev, Wfe}
use Rattle.dma_insn.specs.AssemblyText.{words_of, is_skipped, IsDecimal, value_word, Statement, dmaend, dmald, dmast, dmarmb, dmawmb, dmanop, dmalp, dmalpend}
use Rattle.dma_insn.specs.AssemblyText.{dmasev, dmawfe, dmamov, IsWritten, insn_of, Writes, WriteAll, ProgramText, joined, most_program_bytes, Assembles}
use Rattle.dma_insn.specs.AssemblyText.{HasTwoNumbers, counter_of, register_word}
use Rattle.dma_insn.specs.{declared.insn.Reg.Reg, declared.insn.Counter.Counter}
use Rattle.dma_insn.specs.Disassembly.{counter_number, AllInRange, insn_text, text_of, Disassembles}
use Rattle.dma_insn.specs.{declared.insn.Insn.Insn, Spelling.HasRanges}
use Rattle.dma_text.specs.{Lines.text_lines}
use Rattle.dma_insn.proofs.ProgramLaws.{write_more}

-- each byte is above k
abbrev above : ℕ → List ℕ → Bool
above k bytes = list_all (λ b. ltb k b) bytes

above_append : (k : ℕ) (xs ys : List ℕ) → above k xs ≡ true → above k ys ≡ true → above k (xs ++ ys) ≡ true
above_append k xs ys p q = rw (list_all-append (λ b. ltb k b) xs ys, p, q) refl

no_byte : (k : ℕ) (w : List ℕ) → above k w ≡ true → All (λ b. eqb b k ≡ false) w
no_byte k w h = grind (arith, All-weaker, ltb-true, ne_eqb, AllPass-from_list_all)

-- a word without spaces is one word
words_plain : (w : List ℕ) → above 32 w ≡ true → words_of w ≡ w ∷ []
words_plain w h = slice_split_none (λ b. eqb b 32) w (no_byte 32 w h)

words_space : (w rest : List ℕ) → above 32 w ≡ true → words_of (w ++ 32 ∷ rest) ≡ w ∷ words_of rest
words_space w rest h = slice_split_at (λ b. eqb b 32) w 32 rest (no_byte 32 w h) refl

-- a line without a line feed is one line
lines_feed : (line rest : List ℕ) → All (λ b. eqb b 10 ≡ false) line → text_lines (line ++ 10 ∷ rest) ≡ line ∷ text_lines rest
lines_feed [] rest h = refl
lines_feed (b ∷ line) rest h = grind (arith, All-head, All-tail, lines_feed line rest (All-tail (λ b. eqb b 10 ≡ false) b line h))

-- decimal digits are above
above_decimal : (k n : ℕ) → k < 48 → n < 2 ^ 64 → above k (decimal n) ≡ true
above_decimal k n low small =
    decimal_by_steps (λ m ds. above k ds ≡ true)
    (λ m h. and_from (ltb k (48 + m)) true (lt-ltb k (48 + m) (omega arith)) refl)
    (λ m ds h p. above_append k ds ((48 + m % 10) ∷ []) p (and_from (ltb k (48 + m % 10)) true (lt-ltb k (48 + m % 10) (omega arith)) refl))
    n small

pub own : IsNumeralModel (λ ds. all_ascii_digits ds ≡ true) (digits_value 10)
own = numerals_by_value (λ ds. all_ascii_digits ds ≡ true) tells_all_ascii_digits

decimal_zeros : (n : ℕ) → n < 2 ^ 64 → get_or (decimal n) 0 0 ≡ 48 → length (decimal n) ≡ 1
decimal_zeros n small z = grind (arith, cases_lt, first_decimal, decimal_digit)

-- a number is written in decimal
decimal_is : (n : ℕ) → n < 2 ^ 64 → IsDecimal (decimal n) n
decimal_is n small = grind (arith, decimal_nonempty, digits_decimal, own, decimal_zeros, digits_value-decimal)

above_glyph : (k d : ℕ) → k < 48 → above k (digit_glyph true d ∷ []) ≡ true
above_glyph k d low = grind (arith, cases_lt, lt-ltb, le-ltb)

above_digits : (k : ℕ) (places : List ℕ) (v : ℕ) → k < 48 → above k (map (λ place. digit_glyph true (v / place % 16)) places) ≡ true
above_digits k [] v low = refl
above_digits k (place ∷ places) v low = grind (arith, above_append, above_glyph, above_digits k places v low)

above_value : (k v : ℕ) → k < 48 → above k (value_word v) ≡ true
above_value k v low = grind (arith, above_append, lt-ltb, above_digits)

-- two numbers behind a name
two_above : (m n : ℕ) → m < 2 ^ 64 → n < 2 ^ 64 → above 10 (decimal m ++ 32 ∷ (decimal n ++ [])) ≡ true
two_above m n hm hn = grind (arith, above_append, above_decimal)

two_words_are : (m n : ℕ) → m < 2 ^ 64 → n < 2 ^ 64 → words_of (decimal m ++ 32 ∷ (decimal n ++ [])) ≡ decimal m ∷ decimal n ∷ []
two_words_are m n hm hn = grind (arith, words_space, above_decimal, append-nil, words_plain)

one_above : (n : ℕ) → n < 2 ^ 64 → above 10 (decimal n ++ []) ≡ true
one_above n h = above_append 10 (decimal n) [] (above_decimal 10 n (omega arith) h) refl

one_word_is : (n : ℕ) → n < 2 ^ 64 → words_of (decimal n ++ []) ≡ decimal n ∷ []
one_word_is n h = ap words_of (append-nil (decimal n)) ∙ words_plain (decimal n) (above_decimal 32 n (omega arith) h)

invalid_above : (n : ℕ) → n < 2 ^ 64 → above 10 (decimal n ++ (codes " invalid" ++ [])) ≡ true
invalid_above n h = above_append 10 (decimal n) (codes " invalid" ++ []) (above_decimal 10 n (omega arith) h) refl

invalid_words_are : (n : ℕ) → n < 2 ^ 64 → words_of (decimal n ++ (codes " invalid" ++ [])) ≡ decimal n ∷ codes "invalid" ∷ []
invalid_words_are n h = words_space (decimal n) (codes "invalid" ++ []) (above_decimal 32 n (omega arith) h)

value_above : (v : ℕ) → above 10 (value_word v ++ []) ≡ true
value_above v = above_append 10 (value_word v) [] (above_value 10 v (omega arith)) refl

value_words_are : (v : ℕ) → words_of (value_word v ++ []) ≡ value_word v ∷ []
value_words_are v = ap words_of (append-nil (value_word v)) ∙ words_plain (value_word v) (above_value 32 v (omega arith))

-- a counter is a small number
pub counter_small : (c : Counter) → counter_number c < 2 ^ 64
counter_small c = grind (arith)

-- the line of an instruction has no line feed
insn_text_above : (i : Insn) → HasRanges i → above 10 (insn_text i) ≡ true
insn_text_above (Lp c n) h = two_above (counter_number c) n (counter_small c) (omega (arith, h.1))
insn_text_above (LpEnd c b) h = two_above (counter_number c) b (counter_small c) (omega arith)
insn_text_above (Sev e) h = one_above e (omega arith)
insn_text_above (Wfe e false) h = one_above e (omega arith)
insn_text_above (Wfe e true) h = invalid_above e (omega arith)
insn_text_above (Mov r v) h = elim r as (λ q. above 10 (insn_text (Mov q v)) ≡ true) [ Sar ↦ value_above v | Ccr ↦ value_above v | Dar ↦ value_above v ]
insn_text_above _ h = refl

two_numbers_are : (ws : List (List ℕ)) (name : List ℕ) (m n : ℕ) → m < 2 ^ 64 → n < 2 ^ 64 → ws ≡ name ∷ decimal m ∷ decimal n ∷ [] → HasTwoNumbers ws name m n
two_numbers_are ws name m n hm hn e =
    record { first = decimal m; second = decimal n; words_are = e; first_number = decimal_is m hm; second_number = decimal_is n hn }

loop_words : (name : List ℕ) (m n : ℕ) → m < 2 ^ 64 → n < 2 ^ 64 → HasTwoNumbers (name ∷ words_of (decimal m ++ 32 ∷ (decimal n ++ []))) name m n
loop_words name m n hm hn = two_numbers_are _ name m n hm hn (ap (λ (ws : List (List ℕ)). name ∷ ws) (two_words_are m n hm hn))

-- the statement of an instruction
abbrev pub statement_of : Insn → Statement
statement_of End = dmaend
statement_of Ld = dmald
statement_of St = dmast
statement_of Rmb = dmarmb
statement_of Wmb = dmawmb
statement_of Nop = dmanop
statement_of (Lp c n) = dmalp (counter_number c) n
statement_of (LpEnd c b) = dmalpend (counter_number c) b
statement_of (Sev e) = dmasev e
statement_of (Wfe e v) = dmawfe e v
statement_of (Mov r v) = dmamov r v

counter_of_number : (c : Counter) → counter_of (counter_number c) ≡ Some c
counter_of_number c = grind (arith)

registers_are : (r : Reg) (v : ℕ) → words_of (register_word r ++ (codes " " ++ (value_word v ++ []))) ≡ register_word r ∷ value_word v ∷ []
registers_are r v = words_space (register_word r) (value_word v ++ []) (grind arith)
    ∙ ap (λ (ws : List (List ℕ)). register_word r ∷ ws) (value_words_are v)

-- the words of the line are those of the statement
written : (i : Insn) → HasRanges i → IsWritten (words_of (insn_text i)) (statement_of i)
written (Lp c n) h = loop_words (codes "DMALP") (counter_number c) n (counter_small c) (omega (arith, h.1))
written (LpEnd c b) h = loop_words (codes "DMALPEND") (counter_number c) b (counter_small c) (omega arith)
written (Sev e) h =
    record { word = decimal e; words_are = ap (λ ws. codes "DMASEV" ∷ ws) (one_word_is e (omega arith)); number = decimal_is e (omega arith) }
written (Wfe e false) h =
    record { word = decimal e; words_are = ap (λ ws. codes "DMAWFE" ∷ ws) (one_word_is e (omega arith)); number = decimal_is e (omega arith) }
written (Wfe e true) h =
    record { word = decimal e; words_are = ap (λ ws. codes "DMAWFE" ∷ ws) (invalid_words_are e (omega arith)); number = decimal_is e (omega arith) }
written (Mov r v) h = record { words_are = ap (λ ws. codes "DMAMOV" ∷ ws) (registers_are r v); in_range = h }
written _ h = refl

insn_of_statement : (i : Insn) → HasRanges i → insn_of (statement_of i) ≡ Some i
insn_of_statement i h = grind (arith, counter_of_number, le-leb)

not_skipped : (i : Insn) → is_skipped (insn_text i) ≡ false
not_skipped i = grind (arith)

-- The line of an instruction writes it.
pub insn_text_writes : (i : Insn) → HasRanges i → Writes (insn_text i) i
insn_text_writes i h = record { taken = not_skipped i; statement = statement_of i; words_are = written i h; insn_is = insn_of_statement i h }

-- The text of instructions is that of these instructions.
text_of_written : (is : List Insn) → AllInRange is → ProgramText (text_of is) is
text_of_written [] h = refl
text_of_written (i ∷ is) h =
    let lines : text_lines (text_of (i ∷ is)) ≡ insn_text i ∷ text_lines (text_of is) = ap text_lines (append_assoc (insn_text i) (10 ∷ []) (text_of is))
    ∙ lines_feed (insn_text i) (text_of is) (no_byte 10 (insn_text i) (insn_text_above i h.0)) in
    subst (λ (ls : List (List ℕ)). WriteAll ls (i ∷ is)) (sym lines)
    (write_more (insn_text i) (text_lines (text_of is)) i is (insn_text_writes i h.0) (text_of_written is h.1))

text_of_lines : (is : List Insn) → AllInRange is → text_lines (text_of is) ≡ map insn_text is
text_of_lines [] h = refl
text_of_lines (i ∷ is) h = grind (arith, append_assoc, lines_feed, no_byte, insn_text_above, text_of_lines is h.1)

no_line_skipped : (is : List Insn) → AllInRange is → list_any is_skipped (map insn_text is) ≡ false
no_line_skipped [] h = refl
no_line_skipped (i ∷ is) h = let w = insn_text_writes i h.0 in rw w.taken (no_line_skipped is h.1)

pub lines_ended : (is : List Insn) → text_of is ≡ flat_map (λ line. line ++ 10 ∷ []) (map insn_text is)
lines_ended [] = refl
lines_ended (i ∷ is) = ap (λ (more : List ℕ). (insn_text i ++ 10 ∷ []) ++ more) (lines_ended is)

-- The text of the instructions of joined spellings is their disassembly.
disassembled : (bytes : List ℕ) (is : List Insn) → AllInRange is → bytes ≡ joined is → Disassembles bytes (text_of is)
disassembled bytes is h e = record {
  insns = is;
  in_range = h;
  bytes_are = e;
  program = text_of_written is h;
  none_skipped = ap (list_any is_skipped) (text_of_lines is h) ∙ no_line_skipped is h;
  all_ended = lines_ended is ∙ sym (ap (flat_map (λ line. line ++ 10 ∷ [])) (text_of_lines is h));
  text_is = refl;
}

pub disassembles : (bytes text : List ℕ) (is : List Insn) → AllInRange is → bytes ≡ joined is → text ≡ text_of is → Disassembles bytes text
disassembles bytes text is h e t = subst (Disassembles bytes) (sym t) (disassembled bytes is h e)

pub text_assembles : (bytes text : List ℕ) → length bytes ≤ most_program_bytes → Disassembles bytes text → Assembles text bytes
text_assembles bytes text small d = grind arith

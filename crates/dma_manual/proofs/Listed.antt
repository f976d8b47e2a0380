-- What a program is disassembled to assembles to its bytes, line by line.
use Rattle.std.proofs.Common.{◌≡◌, ℕ, ◌+◌, ◌-◌, ◌%◌, ◌^◌, ◌<◌, ◌≤◌, ◌⊎◌, Bool, true, false, ◌&&◌, ◌==◌, List, [], ◌∷◌, ◌++◌, length, map, take, drop, min}
use Rattle.std.proofs.Common.{replicate, zero, suc, refl, sym, ap, ◌∙◌, subst, Option, Some, None, Ok, cond, nat_le, arith, codes, decimal, append_assoc}
use Rattle.std.proofs.Common.{append-nil, length-append, take_at, inl, inr}
use Rattle.std.specs.{List.list_all, List.list_any, Option.option_map}
use Rattle.std.proofs.lemmas.Bool.{and_parts, and_from, le-leb, lt-ltb, leb-true, eqb-true}
use Rattle.std.proofs.lemmas.List.{map-append}
use Rattle.dma_text.specs.{Digits.hex_digits, Digits.spaced_bytes, Lines.text_lines}
use Rattle.dma_insn.specs.{AssemblyText.most_program_bytes, declared.insn.Counter.Counter, declared.insn.Counter.TheVariants.Lc0}
use Rattle.dma_insn.specs.{declared.chip.ChipInsn.TheVariants.LpEnd}
use Rattle.dma_manual.specs.Listing.{Ending, blanks_behind, is_executed, jump_of, label_behind, label_name, label_text, line_text}
use Rattle.dma_manual.specs.Listing.{listed, mark, more_labels, rest_text, statement_text, target_of, target_text}
use Rattle.dma_manual.specs.{declared.insns.ManualInsn.ManualInsn, declared.insns.ManualInsn.TheVariants.Chip, declared.insns.ManualInsn.TheVariants.Other}
use Rattle.dma_manual.specs.{declared.insns.OtherInsn.TheVariants.LpEndIf, declared.insns.Request.Request, declared.insns.Request.TheVariants.Single}
use Rattle.dma_manual.specs.{declared.insns.Request.TheVariants.Burst, Insns.HasRanges, Insns.spelling, ManualText.counter_name, ManualText.end_name}
use Rattle.dma_manual.specs.{ManualText.insn_text, Words.code_of, Words.next_of, Words.plain_byte, Statements.Label, Statements.label_of, Laws.ListingsAssemble}
use Rattle.dma_manual.specs.{Laws.shown, declared.assembler.Place.Place, declared.loops.LoopKind.TheVariants.Counted, declared.loops.Loops.Loops}
use Rattle.dma_manual.specs.{declared.statements.Statement.Statement}
use Rattle.dma_manual.proofs.Cuts.{all_append, code_before, inline_no_feed, is_inline, is_space, lines_feed, no_feed}
use Rattle.dma_manual.proofs.Growth.{Grown, Quiet, end_grown, insn_grown, lines_step, read_whole, says_line}
use Rattle.dma_manual.proofs.LabelTexts.{are_labels, label_found, label_inline, label_taken, label_word, label_words, labels_later, named_at}
use Rattle.dma_manual.proofs.{Numerals.decimal_feed, Numerals.hex_feed, Numerals.plain, Numerals.plain_four, Numerals.spaced_feed, Said.Says, Said.end_label, Said.says_end}
use Rattle.dma_insn.proofs.GrammarLaws.{spelling_some}
use Rattle.dma_manual.proofs.{Said.says_spaced, InsnLaws.decodes, InsnTexts.insn_inline, InsnTexts.insn_says, InsnTexts.statement_of}
use Rattle.dma_manual.proofs.{ListedLines.AllInRange, ListedLines.joined, ListedLines.lines_of, ListedLines.listed_lines}
use Rattle.dma_manual.specs.Assembled.{Read, after_statement, empty, end_of, jump_of as jump_from, place_of, take_line, take_lines, with_statement}
use Rattle.dma_manual.specs.declared.statements.End.TheVariants as ends
use Rattle.dma_manual.specs.declared.statements.Statement.TheVariants as says

-- What is read when the instruction at an offset follows.
record IsAt (r : Read) (labels : List ℕ) (o : ℕ) : Type 0 where
  here : length r.code ≡ o
  labels_are : r.labels ≡ map named_at labels
  before : are_labels o labels ≡ true
  quiet : Quiet r.loops

-- The statement of an instruction in a listing, and what it adds.
record IsSaid (r : Read) (i : ManualInsn) (text : List ℕ) : Type 0 where
  statement : Statement
  says : (tail : List ℕ) → list_all is_space tail ≡ true → Says r.labels (plain text ++ tail) statement
  inline : list_all is_inline text ≡ true
  grown : (place : Place) → Grown r (spelling i) (after_statement r statement place)

text_said : (r : Read) (i : ManualInsn) → HasRanges i → length r.code + length (spelling i) ≤ most_program_bytes → Quiet r.loops → IsSaid r i (insn_text i)
text_said r i h fits q = record {
  statement = statement_of i;
  says = λ tail spaces. insn_says r.labels i tail h spaces;
  inline = insn_inline i h;
  grown = λ place. insn_grown r i place fits q;
}

-- a DMALPEND with a label
abbrev end_text : Option Request → Counter → ℕ → List ℕ
end_text condition c o = end_name condition ++ codes " " ++ counter_name c ++ (codes ", " ++ label_name o)

end_says : (labels : List Label) (condition : Option Request) (c : Counter) (o : ℕ) (tail : List ℕ) → label_of labels (label_word o) ≡ Some o
    → list_all is_space tail ≡ true
    → Says labels (plain (end_text condition c o) ++ tail) (says.LoopEnd condition (ends.To c o))
end_says labels condition c o tail found spaces =
    subst (λ (l : List ℕ). Says labels l (says.LoopEnd condition (ends.To c o)))
    (sym (plain_four (end_name condition) (codes " ") (counter_name c) (codes ", " ++ label_name o) tail))
    (says_end labels tail spaces condition c (label_word o) (ends.To c o) refl (label_words o) (end_label labels c (label_word o) tail o refl found))

end_inline : (condition : Option Request) (c : Counter) (o : ℕ) → list_all is_inline (end_text condition c o) ≡ true
end_inline None Lc0 o = label_inline o
end_inline (Some Single) Lc0 o = label_inline o
end_inline (Some Burst) Lc0 o = label_inline o
end_inline _ _ o = label_inline o

jump_to : (loops : Loops) (c : Counter) (here start back : ℕ) (place : Place) → start ≤ here → here - start ≡ back → back ≤ 255
    → jump_from loops here (ends.To c start) place ≡ Ok (Counted c, back)
jump_to loops c here start back place before is small = rw (is, le-leb start here before, le-leb back 255 small) refl

-- a DMALPEND that ends a loop with a counter
module _ (r : Read) (labels : List ℕ) (o : ℕ) (condition : Option Request) (c : Counter) (b : ℕ) (at : IsAt r labels o) (small : b < 256) (below : o < 65536)
    (fits : length r.code + length (spelling (end_of (Counted c) condition b)) ≤ most_program_bytes) where
  end_said : b ≤ o → list_any (λ l. l == (o - b)) labels ≡ true → IsSaid r (end_of (Counted c) condition b) (end_text condition c (o - b))
  end_said within any =
      let found : label_of r.labels (label_word (o - b)) ≡ Some (o - b) = grind (arith, label_found) in
      let here = at.here in
      record {
        statement = says.LoopEnd condition (ends.To c (o - b));
        says = λ tail spaces. end_says r.labels condition c (o - b) tail found spaces;
        inline = end_inline condition c (o - b);
        grown = λ place. end_grown r c condition b (ends.To c (o - b)) place
            (jump_to r.loops c (length r.code) (o - b) b place (omega arith) (omega arith) (omega arith)) fits at.quiet;
      }

  -- as its line has it
  end_by : (t u : Bool) → nat_le b o ≡ t → list_any (λ l. l == (o - b)) labels ≡ u → HasRanges (end_of (Counted c) condition b)
      → IsSaid r (end_of (Counted c) condition b)
      (statement_text (option_map (λ label. record { condition = condition; counter = c; label = label }) (cond (t && u) (Some (o - b)) None))
      (end_of (Counted c) condition b))
  end_by t u h h2 h3 = grind (arith, end_said, leb-true, text_said)

insn_said : (r : Read) (labels : List ℕ) (o : ℕ) (i : ManualInsn) → IsAt r labels o → HasRanges i → o < 65536
    → length r.code + length (spelling i) ≤ most_program_bytes
    → IsSaid r i (statement_text (jump_of labels o i) i)
insn_said r labels o (Chip (LpEnd c b)) at h below fits =
    end_by r labels o None c b at h below fits (nat_le b o) (list_any (λ l. l == (o - b)) labels) refl refl h
insn_said r labels o (Other (LpEndIf q c b)) at h below fits =
    end_by r labels o (Some q) c b at h below fits (nat_le b o) (list_any (λ l. l == (o - b)) labels) refl refl h
insn_said r labels o i at h below fits = text_said r i h fits at.quiet

-- the spaces behind a text
spaces_dropped : (k : ℕ) (bytes : List ℕ) → list_all is_space bytes ≡ true → list_all is_space (drop k bytes) ≡ true
spaces_dropped zero bytes h = h
spaces_dropped (suc k) [] h = refl
spaces_dropped (suc k) (b ∷ bytes) h = spaces_dropped k bytes (and_parts (is_space b) (list_all is_space bytes) h).1

spaces_plain : (bytes : List ℕ) → list_all is_space bytes ≡ true → list_all is_space (plain bytes) ≡ true
spaces_plain [] h = refl
spaces_plain (b ∷ bytes) h =
    let parts = and_parts (is_space b) (list_all is_space bytes) h in
    and_from _ _ (ap (λ (c : ℕ). is_space (plain_byte c)) (eqb-true b 32 parts.0)) (spaces_plain bytes parts.1)

spaces_inline : (bytes : List ℕ) → list_all is_space bytes ≡ true → list_all is_inline bytes ≡ true
spaces_inline [] h = refl
spaces_inline (b ∷ bytes) h =
    let parts = and_parts (is_space b) (list_all is_space bytes) h in
    and_from _ _ (ap is_inline (eqb-true b 32 parts.0)) (spaces_inline bytes parts.1)

abbrev gap_behind : ℕ → List ℕ
gap_behind width = blanks_behind width ++ 32 ∷ []

gap_is : (width : ℕ) → list_all is_space (gap_behind width) ≡ true
gap_is width = all_append is_space (blanks_behind width) (32 ∷ []) (spaces_dropped (min width 62) (replicate 62 32) refl) refl

-- a line is its code, a comment and a line feed
line_split : (text blanks address bytes more : List ℕ) → (text ++ (blanks ++ (codes " ; " ++ address ++ codes " " ++ (bytes ++ codes "\n")))) ++ more
    ≡ ((text ++ (blanks ++ 32 ∷ [])) ++ 59 ∷ (32 ∷ (address ++ 32 ∷ bytes))) ++ 10 ∷ more
line_split text blanks address bytes more = simp append_assoc

abbrev code_front : List ℕ → List ℕ
code_front text = (codes "    " ++ text) ++ gap_behind (length (codes "    " ++ text))

front_says : (labels : List Label) (text : List ℕ) (s : Statement) → ((tail : List ℕ) → list_all is_space tail ≡ true → Says labels (plain text ++ tail) s)
    → Says labels (plain (code_front text)) s
front_says labels text s h =
    let gap = gap_behind (length (codes "    " ++ text)) in
    let tail = plain gap in
    let split : plain (text ++ gap) ≡ plain text ++ tail = map-append plain_byte text gap in
    let said : Says labels (plain (text ++ gap)) s = grind (arith, spaces_plain, gap_is) in
    says_spaced labels (32 ∷ 32 ∷ 32 ∷ plain (text ++ gap)) s (says_spaced labels (32 ∷ 32 ∷ plain (text ++ gap)) s
    (says_spaced labels (32 ∷ plain (text ++ gap)) s (says_spaced labels (plain (text ++ gap)) s said)))

front_inline : (text : List ℕ) → list_all is_inline text ≡ true → list_all is_inline (code_front text) ≡ true
front_inline text h = grind (arith, all_append, spaces_inline, gap_is)

-- The line of an instruction adds its bytes.
abbrev words_of : ℕ → List ℕ → ℕ → ManualInsn → List ℕ
words_of at labels o i = spaced_bytes (spelling i) ++ (target_text (target_of labels at o i) ++ mark (is_executed i))

abbrev comment_of : ℕ → List ℕ → ℕ → ManualInsn → List ℕ
comment_of at labels o i = 32 ∷ (hex_digits ((at + o) % 2 ^ 32) ++ 32 ∷ words_of at labels o i)

target_feed : (target : Option ℕ) → list_all no_feed (target_text target) ≡ true
target_feed target = grind (arith, all_append, hex_feed)

mark_feed : (executed : Bool) → list_all no_feed (mark executed) ≡ true
mark_feed executed = grind (arith)

comment_feed : (at : ℕ) (labels : List ℕ) (o : ℕ) (i : ManualInsn) → list_all no_feed (comment_of at labels o i) ≡ true
comment_feed at labels o i = grind (arith, all_append, hex_feed, spaced_feed, target_feed, mark_feed)

record ReadsLine (r : Read) (n : ℕ) (text more bytes : List ℕ) : Type 0 where
  next : Read
  is : take_lines r n (text_lines (text ++ more)) ≡ take_lines next (n + 1) (text_lines more)
  code : next.code ≡ r.code ++ bytes
  labels : next.labels ≡ r.labels
  quiet : Quiet next.loops

line_read : (r : Read) (n at : ℕ) (labels : List ℕ) (o : ℕ) (i : ManualInsn) (more : List ℕ) → IsSaid r i (statement_text (jump_of labels o i) i)
    → ReadsLine r n (line_text at labels o i) more (spelling i)
line_read r n at labels o i more h =
    let text = statement_text (jump_of labels o i) i in
    let front = code_front text in
    let inline = front_inline text h.inline in
    let comment = comment_of at labels o i in
    let line = front ++ 59 ∷ comment in
    let feed = all_append no_feed front (59 ∷ comment) (inline_no_feed front inline) (comment_feed at labels o i) in
    let split : line_text at labels o i ++ more ≡ line ++ 10 ∷ more =
    line_split (codes "    " ++ text) (blanks_behind (length (codes "    " ++ text))) (hex_digits ((at + o) % 2 ^ 32)) (words_of at labels o i) more in
    let place = place_of (n + 1) (length (plain front)) (next_of (plain front)) in
    let g = h.grown place in
    let took : take_line r (n + 1) (plain (code_of line)) ≡ Ok g.next =
    ap (λ (l : List ℕ). take_line r (n + 1) (plain l)) (code_before front comment inline)
    ∙ says_line r (n + 1) (plain front) h.statement (front_says r.labels text h.statement h.says) ∙ g.is in
    record {
      next = g.next;
      is = ap (λ (l : List ℕ). take_lines r n (text_lines l)) split ∙ ap (take_lines r n) (lines_feed line more feed)
          ∙ lines_step r g.next n line (text_lines more) took;
      code = g.code;
      labels = g.labels;
      quiet = g.quiet;
    }

-- The line of a label adds it.
record ReadsLabel (r : Read) (n : ℕ) (labels : List ℕ) (o : ℕ) (text more : List ℕ) : Type 0 where
  next : Read
  number : ℕ
  is : take_lines r n (text_lines (text ++ more)) ≡ take_lines next number (text_lines more)
  code : next.code ≡ r.code
  at : IsAt next labels o

label_behind_by : (i : ManualInsn) (o : ℕ) → o < 65536 → (label_behind i o ≡ None) ⊎ (label_behind i o ≡ Some o)
label_behind_by i o h = grind (arith, lt-ltb)

label_read : (r : Read) (n : ℕ) (labels : List ℕ) (p o : ℕ) (more : List ℕ) (behind : Option ℕ) → length r.code ≡ o → r.labels ≡ map named_at labels
    → are_labels p labels ≡ true
    → Quiet r.loops → p < o → o < 65536 → (behind ≡ None) ⊎ (behind ≡ Some o) → ReadsLabel r n (more_labels labels behind) o (label_text behind) more
label_read r n labels p o more behind here is before quiet later small (inl none) =
    subst (λ (b : Option ℕ). ReadsLabel r n (more_labels labels b) o (label_text b) more) (sym none) (record {
      next = r;
      number = n;
      is = refl;
      code = refl;
      at = record { here = here; labels_are = is; before = labels_later p o labels (omega arith) before; quiet = quiet };
    })
label_read r n labels p o more behind here is before quiet later small (inr some) =
    let line = label_name o ++ codes ":" in
    let next = record r { labels = r.labels ++ named_at o ∷ [] } in
    let feed = all_append no_feed (label_name o) (codes ":") (inline_no_feed (label_name o) (label_inline o)) refl in
    let split : (label_name o ++ codes ":\n") ++ more ≡ line ++ 10 ∷ more = simp append_assoc in
    subst (λ (b : Option ℕ). ReadsLabel r n (more_labels labels b) o (label_text b) more) (sym some) (record {
      next = next;
      number = n + 1;
      is = ap (λ (l : List ℕ). take_lines r n (text_lines l)) split ∙ ap (take_lines r n) (lines_feed line more feed)
          ∙ lines_step r next n line (text_lines more) (label_taken r (n + 1) o p labels is here before later small);
      code = refl;
      at = record {
        here = here;
        labels_are = ap (λ (l : List Label). l ++ named_at o ∷ []) is ∙ sym (map-append named_at labels (o ∷ []));
        before = all_append _ labels (o ∷ []) (labels_later p o labels (omega arith) before)
            (and_from _ _ (and_from _ _ (le-leb o o (omega arith)) (lt-ltb o 65536 small)) refl);
        quiet = quiet;
      };
    })

-- The lines of instructions add their bytes.
record ReadsLines (r : Read) (n : ℕ) (text more bytes : List ℕ) : Type 0 where
  next : Read
  number : ℕ
  is : take_lines r n (text_lines (text ++ more)) ≡ take_lines next number (text_lines more)
  code : next.code ≡ r.code ++ bytes
  quiet : Quiet next.loops

lines_read : (insns : List ManualInsn) (r : Read) (n at : ℕ) (labels : List ℕ) (o : ℕ) (more : List ℕ) → AllInRange insns → IsAt r labels o
    → o + length (joined insns) ≤ most_program_bytes
    → ReadsLines r n (lines_of at labels o insns) more (joined insns)
lines_read [] r n at labels o more range here fits =
    record { next = r; number = n; is = refl; code = sym (append-nil r.code); quiet = here.quiet }
lines_read (i ∷ insns) r n at labels o more range here fits =
    let size = length-append (spelling i) (joined insns) in
    let end = o + length (spelling i) in
    let at_o = here.here in
    let some = spelling_some decodes i range.0 in
    let behind = label_behind i end in
    let rest = lines_of at (more_labels labels behind) end insns in
    let line = line_read r n at labels o i (label_text behind ++ (rest ++ more)) (insn_said r labels o i here range.0 (omega arith) (omega arith)) in
    let long : length line.next.code ≡ end = ap length line.code ∙ (omega (arith, length-append r.code (spelling i))) in
    let label = label_read line.next (n + 1) labels o end (rest ++ more) behind long (line.labels ∙ here.labels_are) here.before line.quiet (omega arith)
    (omega arith) (label_behind_by i end (omega arith)) in
    let after = lines_read insns label.next label.number at (more_labels labels behind) end more range.1 label.at (omega arith) in
    let split : (line_text at labels o i ++ (label_text behind ++ rest)) ++ more ≡ line_text at labels o i ++ (label_text behind ++ (rest ++ more)) =
    grind (arith, append_assoc) in
    record {
      next = after.next;
      number = after.number;
      is = ap (λ (l : List ℕ). take_lines r n (text_lines l)) split ∙ line.is ∙ label.is ∙ after.is;
      code = after.code ∙ ap (λ (l : List ℕ). l ++ joined insns) (label.code ∙ line.code) ∙ append_assoc r.code (spelling i) (joined insns);
      quiet = after.quiet;
    }

-- The last line is a comment.
no_line : (r : Read) (n : ℕ) → take_line r n [] ≡ Ok r
unfolding with_statement
no_line r n = refl

last_read : (r : Read) (n count : ℕ) (words : List ℕ) → list_all no_feed words ≡ true → (t : Bool)
    → take_lines r n (text_lines (cond t [] (codes "; " ++ decimal count ++ words ++ codes "\n"))) ≡ Ok r
unfolding take_lines
last_read r n count words plain_words true = refl
last_read r n count words plain_words false =
    let comment = 32 ∷ (decimal count ++ words) in
    let feed = all_append no_feed (decimal count) words (decimal_feed count) plain_words in
    let split : codes "; " ++ decimal count ++ words ++ codes "\n" ≡ (59 ∷ comment) ++ 10 ∷ [] = simp append_assoc in
    ap (λ (l : List ℕ). take_lines r n (text_lines l)) split ∙ ap (take_lines r n) (lines_feed (59 ∷ comment) [] feed)
    ∙ lines_step r r n (59 ∷ comment) [] (ap (λ (l : List ℕ). take_line r (n + 1) (plain l)) (code_before [] comment refl) ∙ no_line r (n + 1))

follow_feed : (one : Bool) → list_all no_feed (cond one (codes " byte follows") (codes " bytes follow")) ≡ true
follow_feed one = grind (arith)

rest_read : (r : Read) (n : ℕ) (ending : Ending) → take_lines r n (text_lines (rest_text ending)) ≡ Ok r
unfolding take_lines
rest_read r n ending = grind (arith, last_read, follow_feed)

pub listings_assemble : ListingsAssemble
listings_assemble at program bytes fits =
    let l = listed at program in
    let h = listed_lines (length program) at [] 0 program program (omega arith) bytes (omega arith) in
    let size = h.end_is in
    let start : IsAt empty [] 0 = record { here = refl; labels_are = refl; before = refl; quiet = (refl, refl, refl) } in
    let read = lines_read h.insns empty 0 at [] 0 (rest_text l.ending) h.in_range start (omega arith) in
    let taken : take_lines empty 0 (text_lines (l.text ++ rest_text l.ending)) ≡ Ok read.next = grind (arith, rest_read) in
    let front : take (shown program l.ending) program ≡ joined h.insns = grind (arith, take_at) in
    read_whole (l.text ++ rest_text l.ending) read.next taken read.quiet ∙ ap (λ (b : List ℕ). Ok b) (read.code ∙ sym front)

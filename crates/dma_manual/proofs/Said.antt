-- What the words of a printed line say.
use Rattle.std.proofs.Common.{◌≡◌, ℕ, ◌^◌, ◌<◌, ◌≤◌, Bool, true, false, List, ◌∷◌, ◌++◌, refl, ap, ◌∙◌, Option, Some, None, Ok, arith, codes, decimal}
use Rattle.std.specs.{Prelude.nat_eq, List.list_all, List.starts_with, Str.bytes_eq}
use Rattle.std.proofs.lemmas.Bool.{le-leb}
use Rattle.dma_text.specs.Digits.{hex_digits}
use Rattle.dma_manual.specs.Operands.{event_at, flag_at, number_of}
use Rattle.dma_manual.specs.{ManualText.counter_name, ManualText.end_name, ManualText.half_digits, declared.insns.ManualInsn.ManualInsn, declared.insns.ManualInsn.TheVariants.Chip}
use Rattle.dma_manual.specs.{declared.insns.Request.Request}
use Rattle.dma_manual.specs.{Words.is_word_byte, Words.next_of, Fields.fields_at, Assembled.label_by, Assembled.label_in, declared.statements.Again.Again}
use Rattle.dma_manual.specs.{declared.statements.Again.TheVariants.Always, declared.statements.Again.TheVariants.If, declared.statements.Statement.Statement}
use Rattle.dma_insn.specs.declared.chip.ChipInsn.TheVariants.{Mov, Sev, Wfe, AddHalfword}
use Rattle.dma_insn.specs.declared.insn.Counter.TheVariants.{Lc0, Lc1}
use Rattle.dma_insn.specs.{declared.insn.Reg.Reg, declared.insn.Reg.TheVariants.Ccr, declared.insn.Counter.Counter, declared.chip.Address.Address}
use Rattle.dma_manual.proofs.Cuts.{gap_spaces, has_bytes, is_gap, is_inline, is_space, next_none, next_space, next_word}
use Rattle.dma_manual.proofs.Numerals.{decimal_read, four_words, hex_read, hex_words, pairs_read, plain}
use Rattle.dma_manual.specs.Statements.{Label, add_line, address_line, address_of as register_of, again_at, by_name, by_other_name, control_line, counter_of, end_at, event_line, is_numeral, label_of, loop_end_line, loop_line, set_by, set_line, statement_at, statement_by, wait_line}
use Rattle.dma_manual.specs.declared.statements.End.{End as LoopTo}
use Rattle.dma_manual.specs.declared.statements.End.TheVariants as ends
use Rattle.dma_manual.specs.declared.statements.Statement.TheVariants as says

-- The line has no label and says the statement.
pub record Says (labels : List Label) (line : List ℕ) (s : Statement) : Type 0 where
  pub word : List ℕ
  pub rest : List ℕ
  pub next : next_of line ≡ Some (word, rest)
  pub unlabelled : label_by (Some (word, rest)) ≡ None
  pub said : by_name labels word rest ≡ Ok s

pub says_spaced : (labels : List Label) (line : List ℕ) (s : Statement) → Says labels line s → Says labels (32 ∷ line) s
says_spaced labels line s h = grind (arith, next_space)

pub says_read : (labels : List Label) (line : List ℕ) (s : Statement) → Says labels line s → (label_in line ≡ None) × (statement_at labels line ≡ Ok s)
says_read labels line s h = (ap label_by h.next ∙ h.unlabelled, ap (statement_by labels) h.next ∙ h.said)

pub named : (labels : List Label) (name rest : List ℕ) (s : Statement) → has_bytes name ≡ true → list_all is_word_byte name ≡ true → is_gap rest ≡ true
    → label_by (Some (name, rest)) ≡ None → by_name labels name rest ≡ Ok s → Says labels (name ++ rest) s
named labels name rest s some word gap unlabelled said =
    record { word = name; rest = rest; next = next_word name rest some word gap; unlabelled = unlabelled; said = said }

-- the words after a name
pub loop_of : (c : Counter) (name rest a b u w : List ℕ) (n : ℕ) → next_of rest ≡ Some (u, a) → counter_of u ≡ Some c → next_of a ≡ Some (w, b)
    → number_of w ≡ Some n → 1 ≤ n → n ≤ 256 → next_of b ≡ None → loop_line name rest ≡ Ok (says.Loop (Some c) n)
loop_of c name rest a b u w n p q r s low high t = rw (p, q, r, s, le-leb 1 n low, le-leb n 256 high, t) refl

pub loop_end_of : (labels : List Label) (condition : Option Request) (c : Counter) (rest a b u w : List ℕ) (end : LoopTo) → next_of rest ≡ Some (u, a)
    → starts_with nat_eq u (codes "-") ≡ false → counter_of u ≡ Some c
    → next_of a ≡ Some (w, b) → end_at labels c w b ≡ Ok end → next_of b ≡ None → loop_end_line labels condition rest ≡ Ok (says.LoopEnd condition end)
loop_end_of labels condition c rest a b u w end p bare q r s t = rw (p, bare, q, r, s, t) refl

end_back : (labels : List Label) (c : Counter) (digits rest : List ℕ) (b : ℕ) → number_of digits ≡ Some b → b ≤ 255
    → end_at labels c (45 ∷ digits) rest ≡ Ok (ends.Back c b)
end_back labels c digits rest b h small = rw (h, le-leb 0 b (omega arith), le-leb b 255 small) refl

pub end_label : (labels : List Label) (c : Counter) (word rest : List ℕ) (o : ℕ) → starts_with nat_eq word (codes "-") ≡ false → label_of labels word ≡ Some o
    → end_at labels c word rest ≡ Ok (ends.To c o)
end_label labels c word rest o p q = rw (p, q) refl

event_of : (digits rest : List ℕ) (e : ℕ) → number_of digits ≡ Some e → e ≤ 31 → event_at (101 ∷ digits) rest ≡ Ok e
event_of digits rest e h small = rw (h, le-leb 0 e (omega arith), le-leb e 31 small) refl

signal_of : (name rest w b : List ℕ) (e : ℕ) → next_of rest ≡ Some (w, b) → event_at w b ≡ Ok e → next_of b ≡ None
    → event_line name rest ≡ Ok (says.Plain (Chip (Sev e)))
signal_of name rest w b e p q t = rw (p, q, t) refl

wait_of : (name rest w b : List ℕ) (e : ℕ) (v : Bool) → next_of rest ≡ Some (w, b) → event_at w b ≡ Ok e → flag_at (codes "invalid") b ≡ Ok v
    → wait_line name rest ≡ Ok (says.Plain (Chip (Wfe e v)))
wait_of name rest w b e v p q t = rw (p, q, t) refl

pub flag_of : (flag rest tail : List ℕ) → bytes_eq flag flag ≡ true → next_of rest ≡ Some (flag, tail) → next_of tail ≡ None → flag_at flag rest ≡ Ok true
flag_of flag rest tail same p q = rw (p, same, q) refl

address_of : (reg : Reg) (name rest w b : List ℕ) (v : ℕ) → next_of rest ≡ Some (w, b) → number_of w ≡ Some v → v ≤ 0xffffffff → next_of b ≡ None
    → address_line reg name rest ≡ Ok (says.Plain (Chip (Mov reg v)))
address_of reg name rest w b v p q small t = rw (p, q, le-leb 0 v (omega arith), le-leb v 0xffffffff small, t) refl

pub set_of : (name rest w a : List ℕ) → next_of rest ≡ Some (w, a) → set_line name rest ≡ set_by w a
set_of name rest w a p = rw p refl

pub control_number : (name rest w b : List ℕ) (v : ℕ) → next_of rest ≡ Some (w, b) → is_numeral w ≡ true → number_of w ≡ Some v → v ≤ 0xffffffff
    → next_of b ≡ None → control_line name rest ≡ Ok (says.Plain (Chip (Mov Ccr v)))
control_number name rest w b v p n q small t = rw (p, n, q, le-leb 0 v (omega arith), le-leb v 0xffffffff small, t) refl

pub control_fields : (name rest w b : List ℕ) (v : ℕ) → next_of rest ≡ Some (w, b) → is_numeral w ≡ false → fields_at rest ≡ Ok v
    → control_line name rest ≡ Ok (says.Plain (Chip (Mov Ccr v)))
control_fields name rest w b v p n q = rw (p, n, q) refl

-- a number of 16 bits in four digits
pub half_inline : (half : ℕ) → list_all is_inline (half_digits half) ≡ true
half_inline half = (four_words half).1

half_read : (half : ℕ) → half < 2 ^ 16 → number_of (48 ∷ 120 ∷ plain (half_digits half)) ≡ Some half
half_read half small = pairs_read half (omega arith)

add_of : (negative : Bool) (a : Address) (name rest u after w b : List ℕ) (half : ℕ) → next_of rest ≡ Some (u, after) → register_of u ≡ Some a
    → next_of after ≡ Some (w, b) → number_of w ≡ Some half → half ≤ 0xffff → next_of b ≡ None
    → add_line negative name rest ≡ Ok (says.Plain (Chip (AddHalfword a half negative)))
add_of negative a name rest u after w b half p q r s small t = rw (p, q, r, s, le-leb 0 half (omega arith), le-leb half 0xffff small, t) refl

again_of : (labels : List Label) (condition : Option Request) (rest digits b : List ℕ) (again : Again) (back : ℕ) → next_of rest ≡ Some (45 ∷ digits, b)
    → number_of digits ≡ Some back → back ≤ 255
    → again_at condition b ≡ Ok again → loop_end_line labels condition rest ≡ Ok (says.LoopAgain again back)
again_of labels condition rest digits b again back p q small r = rw (p, q, le-leb 0 back (omega arith), le-leb back 255 small, r) refl

again_flag_of : (rest tail : List ℕ) → next_of rest ≡ Some (codes "lc0", tail) → next_of tail ≡ None → again_at None rest ≡ Ok (Always Lc0)
again_flag_of rest tail p q = rw (p, q) refl

-- the name of a counter
counter_word : (c : Counter) → (has_bytes (plain (counter_name c)) ≡ true) × (list_all is_word_byte (plain (counter_name c)) ≡ true)
    × (starts_with nat_eq (plain (counter_name c)) (codes "-") ≡ false) × (counter_of (plain (counter_name c)) ≡ Some c)
counter_word c = grind (arith)

-- the name of a DMALPEND
end_some : (condition : Option Request) → has_bytes (plain (end_name condition)) ≡ true
end_some condition = grind (arith)

end_word : (condition : Option Request) → list_all is_word_byte (plain (end_name condition)) ≡ true
end_word condition = grind (arith)

end_unlabelled : (condition : Option Request) (rest : List ℕ) → label_by (Some (plain (end_name condition), rest)) ≡ None
end_unlabelled condition rest = grind (arith)

end_named : (labels : List Label) (condition : Option Request) (rest : List ℕ)
    → by_name labels (plain (end_name condition)) rest ≡ loop_end_line labels condition rest
unfolding by_name by_other_name
end_named labels condition rest = grind (arith)

-- DMAMOV with a register and what follows it
pub says_set : (labels : List Label) (reg rest : List ℕ) (s : Statement) → has_bytes reg ≡ true → list_all is_word_byte reg ≡ true → is_gap rest ≡ true
    → set_by reg rest ≡ Ok s
    → Says labels (codes "dmamov " ++ (reg ++ rest)) s
unfolding by_name
says_set labels reg rest s some word gap said =
    named labels (codes "dmamov") (32 ∷ (reg ++ rest)) s refl refl refl refl
    (set_of (codes "dmamov") (32 ∷ (reg ++ rest)) reg rest (next_space (reg ++ rest) ∙ next_word reg rest some word gap) ∙ said)

-- Each kind of instruction, in front of spaces.
module _ (labels : List Label) (tail : List ℕ) (spaces : list_all is_space tail ≡ true) where
  -- the last word, after two spaces
  pub last_word : (w : List ℕ) → has_bytes w ≡ true → list_all is_word_byte w ≡ true → next_of (32 ∷ 32 ∷ (w ++ tail)) ≡ Some (w, tail)
  last_word w some word = next_space (32 ∷ (w ++ tail)) ∙ next_space (w ++ tail) ∙ next_word w tail some word (gap_spaces tail spaces)

  pub says_bare : (name : List ℕ) (i : ManualInsn) → has_bytes name ≡ true → list_all is_word_byte name ≡ true → label_by (Some (name, tail)) ≡ None
      → (next_of tail ≡ None → by_name labels name tail ≡ Ok (says.Plain i)) → Says labels (name ++ tail) (says.Plain i)
  says_bare name i some word unlabelled said =
      named labels name tail (says.Plain i) some word (gap_spaces tail spaces) unlabelled (said (next_none tail spaces))

  pub says_loop : (c : Counter) (n : ℕ) → 1 ≤ n → n ≤ 256
      → Says labels (codes "dmalp " ++ (plain (counter_name c) ++ 32 ∷ 32 ∷ (plain (decimal n) ++ tail))) (says.Loop (Some c) n)
  unfolding by_name
  says_loop c n low high =
      let r = decimal_read n high in
      let w = counter_word c in
      let counter = plain (counter_name c) in
      let last = plain (decimal n) ++ tail in
      let rest = 32 ∷ (counter ++ 32 ∷ 32 ∷ last) in
      named labels (codes "dmalp") rest (says.Loop (Some c) n) refl refl refl refl
      (loop_of c (codes "dmalp") rest (32 ∷ 32 ∷ last) tail counter (plain (decimal n)) n
      (next_space (counter ++ 32 ∷ 32 ∷ last) ∙ next_word counter (32 ∷ 32 ∷ last) w.0 w.1 refl) w.3
      (last_word (plain (decimal n)) r.some r.word) r.value low high (next_none tail spaces))

  -- the last word of a DMALPEND
  pub says_end : (condition : Option Request) (c : Counter) (w : List ℕ) (end : LoopTo)
      → has_bytes w ≡ true → list_all is_word_byte w ≡ true → end_at labels c w tail ≡ Ok end
      → Says labels (plain (end_name condition) ++ 32 ∷ (plain (counter_name c) ++ 32 ∷ 32 ∷ (w ++ tail))) (says.LoopEnd condition end)
  says_end condition c w end some_w word_w to =
      let k = counter_word c in
      let counter = plain (counter_name c) in
      let last = w ++ tail in
      let rest = 32 ∷ (counter ++ 32 ∷ 32 ∷ last) in
      named labels (plain (end_name condition)) rest (says.LoopEnd condition end) (end_some condition) (end_word condition) refl (end_unlabelled condition rest)
      (end_named labels condition rest
      ∙ loop_end_of labels condition c rest (32 ∷ 32 ∷ last) tail counter w end
      (next_space (counter ++ 32 ∷ 32 ∷ last) ∙ next_word counter (32 ∷ 32 ∷ last) k.0 k.1 refl) k.2 k.3
      (last_word w some_w word_w) to (next_none tail spaces))

  pub says_back : (condition : Option Request) (c : Counter) (b : ℕ) → b ≤ 255
      → Says labels (plain (end_name condition) ++ 32 ∷ (plain (counter_name c) ++ 32 ∷ 32 ∷ 45 ∷ (plain (decimal b) ++ tail)))
      (says.LoopEnd condition (ends.Back c b))
  says_back condition c b small =
      let r = decimal_read b (omega arith) in
      says_end condition c (45 ∷ plain (decimal b)) (ends.Back c b) refl r.word (end_back labels c (plain (decimal b)) tail b r.value small)

  pub says_signal : (e : ℕ) → e ≤ 31 → Says labels (codes "dmasev e" ++ (plain (decimal e) ++ tail)) (says.Plain (Chip (Sev e)))
  unfolding by_name
  says_signal e small =
      let r = decimal_read e (omega arith) in
      let w = 101 ∷ plain (decimal e) in
      named labels (codes "dmasev") (32 ∷ (w ++ tail)) (says.Plain (Chip (Sev e))) refl refl refl refl
      (signal_of (codes "dmasev") (32 ∷ (w ++ tail)) w tail e (next_space (w ++ tail) ∙ next_word w tail refl r.word (gap_spaces tail spaces))
      (event_of (plain (decimal e)) tail e r.value small) (next_none tail spaces))

  wait_said : (e : ℕ) (v : Bool) (rest : List ℕ) → e ≤ 31 → is_gap rest ≡ true → flag_at (codes "invalid") rest ≡ Ok v
      → Says labels (codes "dmawfe e" ++ (plain (decimal e) ++ rest)) (says.Plain (Chip (Wfe e v)))
  unfolding by_name
  wait_said e v rest small gap flag =
      let r = decimal_read e (omega arith) in
      let w = 101 ∷ plain (decimal e) in
      named labels (codes "dmawfe") (32 ∷ (w ++ rest)) (says.Plain (Chip (Wfe e v))) refl refl refl refl
      (wait_of (codes "dmawfe") (32 ∷ (w ++ rest)) w rest e v (next_space (w ++ rest) ∙ next_word w rest refl r.word gap)
      (event_of (plain (decimal e)) rest e r.value small) flag)

  pub says_wait : (e : ℕ) → e ≤ 31 → Says labels (codes "dmawfe e" ++ (plain (decimal e) ++ tail)) (says.Plain (Chip (Wfe e false)))
  says_wait e small = wait_said e false tail small (gap_spaces tail spaces) (rw (next_none tail spaces) refl)

  pub says_invalid : (e : ℕ) → e ≤ 31 → Says labels (codes "dmawfe e" ++ (plain (decimal e) ++ (codes "  invalid" ++ tail))) (says.Plain (Chip (Wfe e true)))
  says_invalid e small =
      let last = codes "invalid" ++ tail in
      wait_said e true (32 ∷ 32 ∷ last) small refl
      (flag_of (codes "invalid") (32 ∷ 32 ∷ last) tail refl (last_word (codes "invalid") refl refl) (next_none tail spaces))

  add_said : (negative : Bool) (a : Address) (name register : List ℕ) (half : ℕ) → half < 2 ^ 16 → has_bytes register ≡ true
      → list_all is_word_byte register ≡ true
      → register_of register ≡ Some a
      → add_line negative name (32 ∷ (register ++ 32 ∷ 32 ∷ 48 ∷ 120 ∷ (plain (half_digits half) ++ tail))) ≡ Ok
      (says.Plain (Chip (AddHalfword a half negative)))
  add_said negative a name register half small some word is =
      let w = 48 ∷ 120 ∷ plain (half_digits half) in
      add_of negative a name (32 ∷ (register ++ 32 ∷ 32 ∷ (w ++ tail))) register (32 ∷ 32 ∷ (w ++ tail)) w tail half
      (next_space (register ++ 32 ∷ 32 ∷ (w ++ tail)) ∙ next_word register (32 ∷ 32 ∷ (w ++ tail)) some word refl) is
      (last_word w refl (four_words half).0) (half_read half small) (omega arith) (next_none tail spaces)

  pub says_add : (a : Address) (register : List ℕ) (half : ℕ) → half < 2 ^ 16 → has_bytes register ≡ true → list_all is_word_byte register ≡ true
      → register_of register ≡ Some a
      → Says labels (codes "dmaaddh " ++ (register ++ 32 ∷ 32 ∷ 48 ∷ 120 ∷ (plain (half_digits half) ++ tail))) (says.Plain (Chip (AddHalfword a half false)))
  unfolding by_name
  says_add a register half small some word is =
      named labels (codes "dmaaddh") (32 ∷ (register ++ 32 ∷ 32 ∷ 48 ∷ 120 ∷ (plain (half_digits half) ++ tail))) (says.Plain (Chip (AddHalfword a half false)))
      refl refl refl refl
      (add_said false a (codes "dmaaddh") register half small some word is)

  pub says_subtract : (a : Address) (register : List ℕ) (half : ℕ) → half < 2 ^ 16 → has_bytes register ≡ true → list_all is_word_byte register ≡ true
      → register_of register ≡ Some a
      → Says labels (codes "dmaadnh " ++ (register ++ 32 ∷ 32 ∷ 48 ∷ 120 ∷ (plain (half_digits half) ++ tail))) (says.Plain (Chip (AddHalfword a half true)))
  unfolding by_name
  says_subtract a register half small some word is =
      named labels (codes "dmaadnh") (32 ∷ (register ++ 32 ∷ 32 ∷ 48 ∷ 120 ∷ (plain (half_digits half) ++ tail))) (says.Plain (Chip (AddHalfword a half true)))
      refl refl refl refl
      (add_said true a (codes "dmaadnh") register half small some word is)

  again_said : (condition : Option Request) (again : Again) (back : ℕ) (rest : List ℕ) → back ≤ 255 → is_gap rest ≡ true → again_at condition rest ≡ Ok again
      → Says labels (plain (end_name condition) ++ 32 ∷ 45 ∷ (plain (decimal back) ++ rest)) (says.LoopAgain again back)
  again_said condition again back rest small gap flag =
      let r = decimal_read back (omega arith) in
      let w = 45 ∷ plain (decimal back) in
      named labels (plain (end_name condition)) (32 ∷ (w ++ rest)) (says.LoopAgain again back) (end_some condition) (end_word condition) refl
      (end_unlabelled condition (32 ∷ (w ++ rest)))
      (end_named labels condition (32 ∷ (w ++ rest))
      ∙ again_of labels condition (32 ∷ (w ++ rest)) (plain (decimal back)) rest again back (next_space (w ++ rest) ∙ next_word w rest refl r.word gap) r.value
      small flag)

  pub says_again : (back : ℕ) → back ≤ 255 → Says labels (codes "dmalpend -" ++ (plain (decimal back) ++ tail)) (says.LoopAgain (Always Lc1) back)
  says_again back small = again_said None (Always Lc1) back tail small (gap_spaces tail spaces) (rw (next_none tail spaces) refl)

  pub says_again_flag : (back : ℕ) → back ≤ 255
      → Says labels (codes "dmalpend -" ++ (plain (decimal back) ++ (codes "  lc0" ++ tail))) (says.LoopAgain (Always Lc0) back)
  says_again_flag back small =
      let last = codes "lc0" ++ tail in
      again_said None (Always Lc0) back (32 ∷ 32 ∷ last) small refl
      (again_flag_of (32 ∷ 32 ∷ last) tail (last_word (codes "lc0") refl refl) (next_none tail spaces))

  pub says_again_if : (request : Request) (back : ℕ) → back ≤ 255
      → Says labels (plain (end_name (Some request)) ++ 32 ∷ 45 ∷ (plain (decimal back) ++ tail)) (says.LoopAgain (If request) back)
  says_again_if request back small = again_said (Some request) (If request) back tail small (gap_spaces tail spaces) (rw (next_none tail spaces) refl)

  -- a number in hexadecimal digits
  number_next : (v : ℕ) → next_of (32 ∷ 32 ∷ 48 ∷ 120 ∷ (plain (hex_digits v) ++ tail)) ≡ Some (48 ∷ 120 ∷ plain (hex_digits v), tail)
  number_next v = last_word (48 ∷ 120 ∷ plain (hex_digits v)) refl (hex_words v).0

  pub address_said : (reg : Reg) (name : List ℕ) (v : ℕ) → v < 2 ^ 32
      → address_line reg name (32 ∷ 32 ∷ 48 ∷ 120 ∷ (plain (hex_digits v) ++ tail)) ≡ Ok (says.Plain (Chip (Mov reg v)))
  address_said reg name v small =
      let word = 48 ∷ 120 ∷ plain (hex_digits v) in
      address_of reg name (32 ∷ 32 ∷ (word ++ tail)) word tail v (number_next v) (hex_read v small) (omega arith) (next_none tail spaces)

  pub control_said : (v : ℕ) → v < 2 ^ 32
      → control_line (codes "ccr") (32 ∷ 32 ∷ 48 ∷ 120 ∷ (plain (hex_digits v) ++ tail)) ≡ Ok (says.Plain (Chip (Mov Ccr v)))
  control_said v small =
      let word = 48 ∷ 120 ∷ plain (hex_digits v) in
      control_number (codes "ccr") (32 ∷ 32 ∷ (word ++ tail)) word tail v (number_next v) refl (hex_read v small) (omega arith) (next_none tail spaces)

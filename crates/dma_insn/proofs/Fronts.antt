-- Fronts of bytes that are joined encodings.
use Rattle.std.proofs.Common.{◌≡◌, ℕ, ◌+◌, ◌<◌, ◌≤◌, zero, suc, List, [], ◌∷◌, ◌++◌, length, take, drop, refl, sym, ap, ◌∙◌, subst, arith, append_assoc}
use Rattle.std.proofs.Common.{append-nil, length-append, drop-drop, ◌-◌, ◌⊎◌, inl, inr}
use Rattle.std.specs.Prelude.{Ok, Err}
use Rattle.std.proofs.lemmas.List.{take-append-drop, take_rest, drop_all, length-drop, get_or-drop, flat_map_more}
use Rattle.std.proofs.Math.Seq.{take-append_seam}
use Rattle.dma_insn.specs.Spelling.{spelling, HasRanges, IsSpelledAt, IsRefusedFor}
use Rattle.dma_insn.specs.Disassembly.{AllInRange, insn_text, text_of, AreSpelled, Disassembles, StopsAt, DisassemblyReports, line_of}
use Rattle.dma_insn.specs.{declared.insn.Insn.Insn, declared.codec.DecodeFault.DecodeFault, Decoding.Decoded, Decoding.decoded, AssemblyText.joined}
use Rattle.dma_insn.proofs.Laws.{Right, one_front, decoded_right, decodes}
use Rattle.dma_insn.proofs.GrammarLaws.{IsBytes, none_spelled, right_err, spelled_within, spelling_some}
use Rattle.dma_insn.proofs.{Texts.disassembles, OneText.one_way}

-- the bytes before a place are spellings joined
pub record Front (bytes : List ℕ) (offset : ℕ) : Type 0 where
  pub insns : List Insn
  pub in_range : AllInRange insns
  pub bytes_are : bytes ≡ joined insns ++ drop offset bytes
  pub offset_is : offset ≡ length (joined insns)

-- the bytes before a place are spellings joined, and a text is that of their instructions
pub record WrittenFront (bytes : List ℕ) (offset : ℕ) (text : List ℕ) : Type 0 where
  pub front : Front bytes offset
  pub text_is : text ≡ text_of front.insns

all_push : (is : List Insn) (i : Insn) → AllInRange is → HasRanges i → AllInRange (is ++ i ∷ [])
all_push [] i a h = (h, tt)
all_push (j ∷ is) i a h = (a.0, all_push is i a.1 h)

joined_push : (is : List Insn) (i : Insn) → joined (is ++ i ∷ []) ≡ joined is ++ spelling i
joined_push is i = sym (flat_map_more spelling [] is i)

text_push : (is : List Insn) (i : Insn) → text_of (is ++ i ∷ []) ≡ text_of is ++ (insn_text i ++ 10 ∷ [])
text_push is i = sym (flat_map_more line_of [] is i)

front_bytes : (bytes : List ℕ) (offset : ℕ) (is : List Insn) (i : Insn) (n : ℕ) → bytes ≡ joined is ++ drop offset bytes → IsSpelledAt (drop offset bytes) i n
    → bytes ≡ joined (is ++ i ∷ []) ++ drop (offset + n) bytes
front_bytes bytes offset is i n e h =
    let rest = drop offset bytes in
    let split : rest ≡ spelling i ++ drop n rest = sym (take-append-drop n rest) ∙ ap (λ (front : List ℕ). front ++ drop n rest) h.bytes_are in
    let later : drop n rest ≡ drop (offset + n) bytes = drop-drop n offset bytes in
    e ∙ ap (λ (l : List ℕ). joined is ++ l) (split ∙ ap (λ (l : List ℕ). spelling i ++ l) later)
    ∙ sym (append_assoc (joined is) (spelling i) (drop (offset + n) bytes))
    ∙ ap (λ (l : List ℕ). l ++ drop (offset + n) bytes) (sym (joined_push is i))

front_offset : (offset : ℕ) (is : List Insn) (i : Insn) (n : ℕ) → offset ≡ length (joined is) → n ≡ length (spelling i)
    → offset + n ≡ length (joined (is ++ i ∷ []))
front_offset offset is i n e c = rw (joined_push is i) (omega (arith, length-append (joined is) (spelling i)))

-- one more instruction, at the front of a slice from the place on
pub front_step : (bytes : List ℕ) (offset : ℕ) (i : Insn) (n : ℕ) → Front bytes offset → IsSpelledAt (take (length bytes - offset) (drop offset bytes)) i n
    → Front bytes (offset + n)
front_step bytes offset i n f at = grind (arith, take_rest, all_push, front_bytes, front_offset)

pub front_all : (bytes : List ℕ) (offset : ℕ) → length bytes ≤ offset → Front bytes offset → AreSpelled bytes
front_all bytes offset all f = grind (arith, drop_all, append-nil)

pub written_step : (bytes text new : List ℕ) (offset : ℕ) (i : Insn) (n : ℕ) → WrittenFront bytes offset text
    → IsSpelledAt (take (length bytes - offset) (drop offset bytes)) i n → new ≡ text ++ (insn_text i ++ 10 ∷ []) → WrittenFront bytes (offset + n) new
unfolding front_step
written_step bytes text new offset i n f h e = record {
  front = front_step bytes offset i n f.front h;
  text_is = e ∙ ap (λ (l : List ℕ). l ++ (insn_text i ++ 10 ∷ [])) f.text_is ∙ sym (text_push f.front.insns i);
}

pub written_all : (bytes text : List ℕ) (offset : ℕ) → length bytes ≤ offset → WrittenFront bytes offset text → Disassembles bytes text
unfolding front_all
written_all bytes text offset all f =
    let spelled = front_all bytes offset all f.front in
    disassembles bytes text spelled.insns spelled.in_range spelled.bytes_are f.text_is

spelled_front : (i : Insn) (rest more : List ℕ) → HasRanges i → rest ≡ spelling i ++ more → IsSpelledAt rest i (length (spelling i))
spelled_front i rest more h e = grind (arith, take-append_seam)

-- If no instruction begins behind a front of joined spellings, no other such front is longer.
longest_front : (is js : List Insn) (rest more : List ℕ) → AllInRange is → AllInRange js → joined is ++ rest ≡ joined js ++ more
    → ((i : Insn) (n : ℕ) → IsSpelledAt rest i n → ⊥) → length (joined js) ≤ length (joined is)
longest_front is [] rest more hi hj e none = omega arith
longest_front [] (j ∷ js) rest more hi hj e none =
    absurd (none j (length (spelling j)) (spelled_front j rest (joined js ++ more) hj.0 (e ∙ append_assoc (spelling j) (joined js) more)))
longest_front (i ∷ is) (j ∷ js) rest more hi hj e none =
    let regrouped : spelling i ++ (joined is ++ rest) ≡ spelling j ++ (joined js ++ more) = sym (append_assoc (spelling i) (joined is) rest) ∙ e
    ∙ append_assoc (spelling j) (joined js) more in
    let same = one_front i j (joined is ++ rest) (joined js ++ more) hi.0 hj.0 regrouped in
    let first : length (spelling i) ≡ length (spelling j) = ap (λ (k : Insn). length (spelling k)) same.0 in
    let rest_of = longest_front is js rest more hi.1 hj.1 same.1 none in
    omega (arith, length-append (spelling i) (joined is), length-append (spelling j) (joined js))

-- If no instruction begins behind the front, it is the longest.
pub stops : (bytes : List ℕ) (offset : ℕ) (fault : DecodeFault) → offset < length bytes → Front bytes offset
    → Err fault ≡ decoded (take (length bytes - offset) (drop offset bytes)) → IsRefusedFor (take (length bytes - offset) (drop offset bytes)) fault
    → ((i : Insn) (n : ℕ) → IsSpelledAt (take (length bytes - offset) (drop offset bytes)) i n → ⊥) → StopsAt bytes offset fault
stops bytes offset fault within f fault_is refused none = grind (arith, take_rest, length-append, longest_front)

-- Bytes that stop have no text.
pub stops_none : (bytes text : List ℕ) (offset : ℕ) (fault : DecodeFault) → StopsAt bytes offset fault → Disassembles bytes text → ⊥
stops_none bytes text offset fault s d =
    let most = s.longest d.insns [] d.in_range (d.bytes_are ∙ sym (append-nil (joined d.insns))) in
    let size : length bytes ≡ length (joined s.insns ++ s.rest) = ap length s.bytes_are in
    let all : length bytes ≡ length (joined d.insns) = ap length d.bytes_are in
    let parts = length-append (joined s.insns) s.rest in
    let at = s.offset_is in
    let some = s.some in
    omega arith

-- Bytes are the spellings of one list of instructions.
pub same_insns : (is js : List Insn) → AllInRange is → AllInRange js → joined is ≡ joined js → is ≡ js
same_insns [] [] hi hj e = refl
same_insns [] (j ∷ js) hi hj e = grind (arith, spelling_some, decodes, length-append)
same_insns (i ∷ is) [] hi hj e = grind (arith, spelling_some, decodes, length-append)
same_insns (i ∷ is) (j ∷ js) hi hj e =
    let same = one_front i j (joined is) (joined js) hi.0 hj.0 e in
    let rest = same_insns is js hi.1 hj.1 same.1 in
    rw (same.0, rest) refl

pub same_text_of : (bytes a b : List ℕ) → Disassembles bytes a → Disassembles bytes b → a ≡ b
same_text_of bytes a b p q = grind (arith, same_insns)

pub has_text : (bytes : List ℕ) → AreSpelled bytes → (text : List ℕ) × Disassembles bytes text
has_text bytes h = (text_of h.insns, disassembles bytes (text_of h.insns) h.insns h.in_range h.bytes_are refl)

-- bytes that decode to no instruction follow joined spellings
record BreaksOff (bytes : List ℕ) : Type 0 where
  pub insns : List Insn
  pub rest : List ℕ
  pub fault : DecodeFault
  pub in_range : AllInRange insns
  pub bytes_are : bytes ≡ joined insns ++ rest
  pub some : 0 < length rest
  pub fault_is : decoded rest ≡ Err fault
  pub are_bytes : IsBytes rest

cut_more : (i : Insn) (rest whole : List ℕ) → HasRanges i → whole ≡ spelling i ++ rest → AreSpelled rest ⊎ BreaksOff rest → AreSpelled whole ⊎ BreaksOff whole
cut_more i rest whole h e (inl s) =
    inl (record { insns = i ∷ s.insns; in_range = (h, s.in_range); bytes_are = e ∙ ap (λ (l : List ℕ). spelling i ++ l) s.bytes_are })
cut_more i rest whole h e (inr s) = inr (record {
  insns = i ∷ s.insns;
  rest = s.rest;
  fault = s.fault;
  in_range = (h, s.in_range);
  bytes_are = e ∙ ap (λ (l : List ℕ). spelling i ++ l) s.bytes_are ∙ sym (append_assoc (spelling i) (joined s.insns) s.rest);
  some = s.some;
  fault_is = s.fault_is;
  are_bytes = s.are_bytes;
})

cut_by : (k : ℕ) (bytes : List ℕ) (r : Decoded) → decoded bytes ≡ r → Right bytes r → length bytes ≤ suc k → 0 < length bytes → IsBytes bytes
    → ((rest : List ℕ) → length rest ≤ k → IsBytes rest → AreSpelled rest ⊎ BreaksOff rest) → AreSpelled bytes ⊎ BreaksOff bytes
cut_by k bytes (Ok x) e right small some h more =
    let within = spelled_within decodes bytes x.0 x.1 right in
    let split : bytes ≡ spelling x.0 ++ drop x.1 bytes = sym (take-append-drop x.1 bytes) ∙ ap (λ (front : List ℕ). front ++ drop x.1 bytes) right.bytes_are in
    let shorter = length-drop x.1 bytes in
    cut_more x.0 (drop x.1 bytes) bytes right.in_range split (more (drop x.1 bytes) (omega arith) (λ i. omega (arith, get_or-drop x.1 bytes i 0, h (x.1 + i))))
cut_by k bytes (Err fault) e right small some h more =
    inr (record { insns = []; rest = bytes; fault = fault; in_range = tt; bytes_are = refl; some = some; fault_is = e; are_bytes = h })

cut : (k : ℕ) (bytes : List ℕ) → length bytes ≤ k → IsBytes bytes → AreSpelled bytes ⊎ BreaksOff bytes
cut k [] small h = inl (record { insns = []; in_range = tt; bytes_are = refl })
cut zero (b ∷ rest) small h = absurd (omega arith)
cut (suc k) (b ∷ rest) small h =
    cut_by k (b ∷ rest) (decoded (b ∷ rest)) refl (decoded_right (b ∷ rest) h) small (omega arith) h (λ more less are. cut k more less are)

-- Where they break off, they stop.
breaks_stops : (bytes : List ℕ) (b : BreaksOff bytes) → StopsAt bytes (length (joined b.insns)) b.fault
breaks_stops bytes b =
    let read : Right b.rest (Err b.fault) = subst (Right b.rest) b.fault_is (decoded_right b.rest b.are_bytes) in
    let none = none_spelled decodes b.rest (Err b.fault) (sym b.fault_is) in
    record {
      insns = b.insns;
      rest = b.rest;
      in_range = b.in_range;
      bytes_are = b.bytes_are;
      offset_is = refl;
      some = b.some;
      fault_is = b.fault_is;
      refused = right_err decodes b.rest (Err b.fault) read;
      none = none;
      longest = λ others more ranges e. longest_front b.insns others b.rest more b.in_range ranges (sym b.bytes_are ∙ e) none;
    }

one_or_other : (bytes : List ℕ) → AreSpelled bytes ⊎ BreaksOff bytes → ((text : List ℕ) × Disassembles bytes text)
    ⊎ ((offset : ℕ) × (fault : DecodeFault) × StopsAt bytes offset fault)
one_or_other bytes (inl s) = inl (has_text bytes s)
one_or_other bytes (inr b) = inr (length (joined b.insns), b.fault, breaks_stops bytes b)

pub disassembly_reports : DisassemblyReports
disassembly_reports = record {
  one = λ bytes are. one_or_other bytes (cut (length bytes) bytes (omega arith) are);
  not_both = λ bytes text offset fault d s. stops_none bytes text offset fault s d;
  one_text = λ bytes text other p q. same_text_of bytes text other p q;
  one_way = one_way;
}

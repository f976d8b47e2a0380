-- A listing is the lines of instructions, whose bytes a program begins with.
use Rattle.std.proofs.Common.{◌≡◌, ℕ, ◌+◌, ◌-◌, ◌<◌, ◌≤◌, Bool, true, false, List, [], ◌∷◌, ◌++◌, length, drop, zero, suc, refl, sym, ap, ◌∙◌, subst, Ok, Err}
use Rattle.std.proofs.Common.{Option, arith, append_assoc, length-append}
use Rattle.std.proofs.{lemmas.List.take-append-drop, lemmas.List.get_or-drop, lemmas.List.length-drop}
use Rattle.std.specs.List.{flat_map}
use Rattle.dma_insn.specs.declared.chip.ChipInsn.TheVariants.{End}
use Rattle.dma_insn.proofs.GrammarLaws.{IsBytes, spelled_within, spelling_some}
use Rattle.dma_manual.specs.Insns.{Decoded, HasRanges, IsSpelledAt, decoded, spelling}
use Rattle.dma_manual.specs.Listing.{Listing, follow, stop, is_end, label_behind, label_text, line_text, listed_from, more_labels, with_text}
use Rattle.dma_manual.specs.{declared.insns.ManualInsn.ManualInsn, declared.insns.ManualInsn.TheVariants.Chip, Laws.shown}
use Rattle.dma_manual.proofs.{InsnLaws.Right, InsnLaws.decoded_right, InsnLaws.decodes, Listings.listed_from_first}

-- the bytes of instructions
abbrev pub joined : List ManualInsn → List ℕ
joined insns = flat_map spelling insns

-- all instructions have their fields in range
abbrev pub AllInRange : List ManualInsn → Type 0
AllInRange [] = Unit {0}
AllInRange (i ∷ insns) = HasRanges i × AllInRange insns

-- the label after an instruction at the offset o
abbrev pub behind : ManualInsn → ℕ → Option ℕ
behind i o = label_behind i (o + length (spelling i))

-- the lines of instructions from the offset o on
abbrev pub lines_of : ℕ → List ℕ → ℕ → List ManualInsn → List ℕ
lines_of at labels o [] = []
lines_of at labels o (i ∷ is) =
    line_text at labels o i ++ (label_text (behind i o) ++ lines_of at (more_labels labels (behind i o)) (o + length (spelling i)) is)

-- The listing of the bytes from the offset o on.
pub record IsListed (at : ℕ) (labels : List ℕ) (o : ℕ) (xs program : List ℕ) (l : Listing) : Type 0 where
  pub insns : List ManualInsn
  pub rest : List ℕ
  pub in_range : AllInRange insns
  pub bytes_are : xs ≡ joined insns ++ rest
  pub text_is : l.text ≡ lines_of at labels o insns
  pub end_is : shown program l.ending ≡ o + length (joined insns)

end_is : (i : ManualInsn) → is_end i ≡ true → i ≡ Chip End
end_is i h = grind (arith)

-- one more instruction in front
listed_more : (at o : ℕ) (labels xs program : List ℕ) (i : ManualInsn) (more : Listing) → HasRanges i
    → xs ≡ spelling i ++ drop (length (spelling i)) xs
    → IsListed at (more_labels labels (behind i o)) (o + length (spelling i)) (drop (length (spelling i)) xs) program more
    → IsListed at labels o xs program (with_text (line_text at labels o i) (with_text (label_text (behind i o)) more))
listed_more at o labels xs program i more range split h = record {
  insns = i ∷ h.insns;
  rest = h.rest;
  in_range = (range, h.in_range);
  bytes_are = split ∙ ap (λ (b : List ℕ). spelling i ++ b) h.bytes_are ∙ sym (append_assoc (spelling i) (joined h.insns) h.rest);
  text_is = ap (λ (t : List ℕ). line_text at labels o i ++ (label_text (behind i o) ++ t)) h.text_is;
  end_is = h.end_is ∙ (omega (arith, length-append (spelling i) (joined h.insns)));
}

listed_end : (at : ℕ) (labels : List ℕ) (o : ℕ) (xs program : List ℕ) (l : Listing) → length program ≡ o + length xs → 1 ≤ length xs → xs ≡ 0 ∷ drop 1 xs
    → l ≡ with_text (line_text at labels o (Chip End)) (record { text = []; ending = follow (length xs - 1) }) → IsListed at labels o xs program l
listed_end at labels o xs program l total some split e = record {
  insns = Chip End ∷ [];
  rest = drop 1 xs;
  in_range = (tt, tt);
  bytes_are = split;
  text_is = ap (λ (x : Listing). x.text) e;
  end_is = ap (λ (x : Listing). shown program x.ending) e ∙ (omega arith);
}

-- Bytes at the end of a program are listed, whatever their offset and the labels before them.
abbrev Lists : ℕ → List ℕ → List ℕ → Type 0
Lists at program rest = (labels : List ℕ) (o : ℕ) → length program ≡ o + length rest → IsListed at labels o rest program (listed_from at labels o 0 rest)

listed_by : (at : ℕ) (labels : List ℕ) (o n : ℕ) (xs program : List ℕ) (i : ManualInsn) (t : Bool) → is_end i ≡ t → length program ≡ o + length xs
    → decoded xs ≡ Ok (i, n) → IsSpelledAt xs i n → Lists at program (drop (length (spelling i)) xs)
    → IsListed at labels o xs program (listed_from at labels o 0 xs)
listed_by at labels o n xs program i true ends total read at_front more =
    let within = spelled_within decodes xs i n at_front in
    let is : i ≡ Chip End = end_is i ends in
    let one : n ≡ 1 = at_front.count_is ∙ ap (λ (k : ManualInsn). length (spelling k)) is in
    let first = listed_from_first at labels o n xs i read within.0 within.1 in
    let split : xs ≡ 0 ∷ drop 1 xs = grind (arith, take-append-drop) in
    let line : listed_from at labels o 0 xs ≡ with_text (line_text at labels o i) (record { text = []; ending = follow (length xs - n) }) = first
    ∙ rw ends refl in
    listed_end at labels o xs program (listed_from at labels o 0 xs) total (omega arith) split
    (line ∙ ap (λ (k : ManualInsn). with_text (line_text at labels o k) (record { text = []; ending = follow (length xs - n) })) is
    ∙ ap (λ (m : ℕ). with_text (line_text at labels o (Chip End)) (record { text = []; ending = follow (length xs - m) })) one)
listed_by at labels o n xs program i false goes total read at_front more =
    let within = spelled_within decodes xs i n at_front in
    let size = at_front.count_is in
    let first = listed_from_first at labels o n xs i read within.0 within.1 in
    let split : xs ≡ spelling i ++ drop (length (spelling i)) xs = grind (arith, take-append-drop) in
    let after = λ (m : ℕ). with_text (line_text at labels o i)
    (with_text (label_text (label_behind i (o + m))) (listed_from at (more_labels labels (label_behind i (o + m))) (o + m) 0 (drop m xs))) in
    let line : listed_from at labels o 0 xs ≡ after n = first ∙ rw goes refl in
    subst (λ (l : Listing). IsListed at labels o xs program l) (sym (line ∙ ap after size)) (listed_more at o labels xs program i _ at_front.in_range split
    (more (more_labels labels (behind i o)) (o + length (spelling i)) (omega (arith, length-drop (length (spelling i)) xs))))

listed_front : (k at : ℕ) (labels : List ℕ) (o : ℕ) (x : ℕ) (xs program : List ℕ) (r : Decoded) → decoded (x ∷ xs) ≡ r → Right (x ∷ xs) r → IsBytes (x ∷ xs)
    → length program ≡ o + length (x ∷ xs) → length (x ∷ xs) ≤ suc k → ((rest : List ℕ) → length rest ≤ k → IsBytes rest → Lists at program rest)
    → IsListed at labels o (x ∷ xs) program (listed_from at labels o 0 (x ∷ xs))
listed_front k at labels o x xs program (Ok found) read right bytes total small more =
    let size = length (spelling found.0) in
    let some : 0 < size = spelling_some decodes found.0 right.in_range in
    listed_by at labels o found.1 (x ∷ xs) program found.0 (is_end found.0) refl total read right
    (more (drop size (x ∷ xs)) (omega (arith, length-drop size (x ∷ xs))) (λ i. omega (arith, get_or-drop size (x ∷ xs) i 0, bytes (size + i))))
listed_front k at labels o x xs program (Err fault) read right bytes total small more =
    let stops : listed_from at labels o 0 (x ∷ xs) ≡ record { text = []; ending = stop o fault (x ∷ xs) } = rw read refl in
    record {
      insns = [];
      rest = x ∷ xs;
      in_range = tt;
      bytes_are = refl;
      text_is = ap (λ (l : Listing). l.text) stops;
      end_is = ap (λ (l : Listing). shown program l.ending) stops ∙ (omega arith);
    }

pub listed_lines : (k at : ℕ) (labels : List ℕ) (o : ℕ) (xs program : List ℕ) → length xs ≤ k → IsBytes xs → length program ≡ o + length xs
    → IsListed at labels o xs program (listed_from at labels o 0 xs)
listed_lines k at labels o [] program small bytes total = grind (arith, end_is)
listed_lines zero at labels o (x ∷ xs) program small bytes total = absurd (omega arith)
listed_lines (suc k) at labels o (x ∷ xs) program small bytes total =
    listed_front k at labels o x xs program (decoded (x ∷ xs)) refl (decoded_right (x ∷ xs) bytes) bytes total small
    (λ rest less are more p sum. listed_lines k at more p rest program less are sum)

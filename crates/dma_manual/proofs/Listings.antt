-- The listing of bytes, by their first instruction.
use Rattle.std.proofs.Common.{◌≡◌, ℕ, ◌+◌, ◌-◌, ◌<◌, ◌≤◌, true, false, List, [], ◌∷◌, ◌++◌, length, drop, Result, Ok, Err, suc, zero, refl, ap, sym, ◌∙◌, arith, cond, append_assoc, append-nil, length-append}
use Rattle.std.specs.Prelude.{OnOk}
use Rattle.dma_manual.specs.declared.insns.ManualInsn.{ManualInsn}
use Rattle.dma_manual.specs.Insns.{decoded}
use Rattle.dma_manual.specs.Listing.{Ending, Listing, follow, with_text, line_text, is_end, label_text, label_behind, more_labels, listed_from, rest_text}

-- bytes that are skipped are only counted
listed_from_skipped : (at : ℕ) (labels : List ℕ) (o k : ℕ) (xs : List ℕ) → k ≤ length xs
    → listed_from at labels o k xs ≡ listed_from at labels (o + k) 0 (drop k xs)
listed_from_skipped at labels o zero xs h = let e : o ≡ o + 0 = omega arith in ap (λ p. listed_from at labels p 0 xs) e
listed_from_skipped at labels o (suc k) [] h = absurd (omega arith)
listed_from_skipped at labels o (suc k) (x ∷ xs) h = grind (arith, listed_from_skipped at labels (o + 1) k xs (omega arith))

-- the listing of bytes that begin with an instruction of n bytes
abbrev pub listed_first : ℕ → List ℕ → ℕ → ManualInsn → ℕ → List ℕ → Listing
listed_first at labels o i n xs =
    with_text (line_text at labels o i)
    (cond (is_end i) (record { text = []; ending = follow (length xs - n) })
    (with_text (label_text (label_behind i (o + n))) (listed_from at (more_labels labels (label_behind i (o + n))) (o + n) 0 (drop n xs))))

pub listed_from_first : (at : ℕ) (labels : List ℕ) (o n : ℕ) (xs : List ℕ) (i : ManualInsn) → decoded xs ≡ Ok (i, n) → 0 < n → n ≤ length xs
    → listed_from at labels o 0 xs ≡ listed_first at labels o i n xs
listed_from_first at labels o zero xs i is some within = absurd (omega arith)
listed_from_first at labels o (suc n) [] i is some within = absurd (omega arith)
listed_from_first at labels o (suc n) (x ∷ xs) i is some within = grind (arith, listed_from_skipped)

-- the lines of an instruction, printed with these labels
module _ (at : ℕ) (labels : List ℕ) (o n : ℕ) (xs : List ℕ) (i : ManualInsn) (out one shown : List ℕ) (read : decoded xs ≡ Ok (i, n)) (some : 0 < n)
    (within : n ≤ length xs) (also : shown ≡ labels) (e : one ≡ out ++ line_text at shown o i) where
  -- which is not DMAEND
  pub listed_step : (two after more : List ℕ) → is_end i ≡ false → two ≡ one ++ label_text (label_behind i (o + n))
      → more ≡ more_labels labels (label_behind i (o + n)) → after ≡ drop n xs
      → (two ++ (listed_from at more (o + n) 0 after).text ≡ out ++ (listed_from at labels o 0 xs).text)
      × ((listed_from at more (o + n) 0 after).ending ≡ (listed_from at labels o 0 xs).ending)
  listed_step two after more goes f g h =
      let line = line_text at labels o i in
      let label = label_text (label_behind i (o + n)) in
      let rest = listed_from at (more_labels labels (label_behind i (o + n))) (o + n) 0 (drop n xs) in
      let whole : listed_from at labels o 0 xs ≡ with_text line (with_text label rest) =
      rw (listed_from_first at labels o n xs i read some within, goes) refl in
      let same : listed_from at more (o + n) 0 after ≡ rest = ap (λ (m : List ℕ). listed_from at m (o + n) 0 after) g
      ∙ ap (λ (a : List ℕ). listed_from at (more_labels labels (label_behind i (o + n))) (o + n) 0 a) h in
      let made : two ≡ (out ++ line) ++ label = f ∙ ap (λ (l : List ℕ). l ++ label) (e ∙ ap (λ (ls : List ℕ). out ++ line_text at ls o i) also) in
      let joined : ((out ++ line) ++ label) ++ rest.text ≡ out ++ (line ++ (label ++ rest.text)) = append_assoc (out ++ line) label rest.text
      ∙ append_assoc out line (label ++ rest.text) in (
        ap (λ (l : Listing). two ++ l.text) same ∙ ap (λ (l : List ℕ). l ++ rest.text) made ∙ joined ∙ ap (λ (l : Listing). out ++ l.text) (sym whole),
        ap (λ (l : Listing). l.ending) same ∙ ap (λ (l : Listing). l.ending) (sym whole),
      )

  -- which is DMAEND, the last one
  pub listed_last : (two start : List ℕ) (l : Listing) (left : ℕ) → is_end i ≡ true → left ≡ length xs - n → two ≡ one ++ rest_text (follow left)
      → out ++ (listed_from at labels o 0 xs).text ≡ start ++ l.text
      → (listed_from at labels o 0 xs).ending ≡ l.ending → two ≡ start ++ (l.text ++ rest_text l.ending)
  listed_last two start l left ends size f text ending =
      let line = line_text at labels o i in
      let rest = listed_from at labels o 0 xs in
      let whole : rest ≡ with_text line (record { text = []; ending = follow (length xs - n) }) = grind (arith, listed_from_first) in
      let text_is : rest.text ≡ line = ap (λ (m : Listing). m.text) whole ∙ append-nil line in
      let ending_is : rest.ending ≡ follow left = ap (λ (m : Listing). m.ending) whole ∙ ap follow (sym size) in
      f ∙ ap (λ (x : List ℕ). x ++ rest_text (follow left)) (e ∙ ap (λ (ls : List ℕ). out ++ line_text at ls o i) also)
      ∙ ap (λ (x : List ℕ). (out ++ x) ++ rest_text (follow left)) (sym text_is) ∙ ap (λ (m : Ending). (out ++ rest.text) ++ rest_text m) (sym ending_is)
      ∙ ap (λ (x : List ℕ). x ++ rest_text rest.ending) text ∙ ap (λ (m : Ending). (start ++ l.text) ++ rest_text m) ending
      ∙ append_assoc start l.text (rest_text l.ending)

-- a line is its text and a comment behind it
joined : (old text two : List ℕ) (width : ℕ) (comment : ℕ → List ℕ) → two ≡ old ++ text → width ≡ length two - length old
    → two ++ comment width ≡ old ++ (text ++ comment (length text))
joined old text two width comment e w = grind (arith, length-append, append_assoc)

pub line_joined : {E : Type 0} (r : Result (Unit {0}) E) (old text two new : List ℕ) (width : ℕ) (comment : ℕ → List ℕ) → two ≡ old ++ text
    → width ≡ length two - length old → OnOk r (new ≡ two ++ comment width) → OnOk r (new ≡ old ++ (text ++ comment (length text)))
line_joined (Ok x) old text two new width comment e w h = h ∙ joined old text two width comment e w
line_joined (Err x) old text two new width comment e w h = tt

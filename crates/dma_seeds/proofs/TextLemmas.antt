-- The lines of a text of lines.
use Rattle.std.proofs.Common.{◌≡◌, ℕ, ◌<◌, true, false, List, [], ◌∷◌, ◌++◌, length, take, get_or, refl, ap, sym, ◌∙◌, arith, append_assoc}
use Rattle.std.proofs.Common.{eqb, length-append}
use Rattle.std.specs.List.{list_all, position_or_len, before_first, after_first}
use Rattle.std.specs.{Str.Lines.lines, Str.Lines.strip_carriage_return}
use Rattle.std.proofs.Math.Seq.{drop-append-add, get_or-append_seam, take-append_seam}
use Rattle.std.proofs.lemmas.Bool.{cases_lt, ne_eqb, true≢false}
use Rattle.std.proofs.{Math.ListN.get_or-append, lemmas.List.get_or_past, lemmas.List.Sums.AllPass-from_list_all, lemmas.List.Sums.position_or_len_is}
use Rattle.dma_io.specs.Command.{text_of}
use Rattle.dma_script.specs.Words.{is_plain}
use Rattle.dma_script.proofs.LineLemmas.{lines_first}

-- lines without bytes that no script may have
abbrev pub ArePlain : List (List ℕ) → Type 0
ArePlain [] = Unit {0}
ArePlain (line ∷ rest) = (list_all is_plain line ≡ true) × ArePlain rest

pub plain_append : (xs ys : List (List ℕ)) → ArePlain xs → ArePlain ys → ArePlain (xs ++ ys)
plain_append [] ys first rest = rest
plain_append (x ∷ xs) ys (one, more) rest = (one, plain_append xs ys more rest)

-- a plain byte is none that isn't plain
plain_other : (b c : ℕ) → is_plain b ≡ true → is_plain c ≡ false → eqb b c ≡ false
plain_other b c plain odd = ne_eqb b c (λ same. true≢false (sym plain ∙ ap is_plain same ∙ odd))

-- a plain line has no carriage return at its end
plain_stripped : (line : List ℕ) → list_all is_plain line ≡ true → strip_carriage_return line ≡ line
plain_stripped line plain = grind (arith, cases_lt, plain_other, AllPass-from_list_all, get_or_past)

-- The first line of a text whose first line is plain.
first_line : (line rest : List ℕ) → list_all is_plain line ≡ true → lines (line ++ 10 ∷ rest) ≡ line ∷ lines rest
first_line line rest plain =
    let p = λ (b : ℕ). eqb b 10 in
    let bytes = line ++ 10 ∷ rest in
    let many = length-append line (10 ∷ rest) in
    let before : (k : ℕ) → k < length line → p (get_or bytes k 0) ≡ false = λ k less.
    ap p (get_or-append line (10 ∷ rest) 0 k less) ∙ plain_other (get_or line k 0) 10 (AllPass-from_list_all is_plain line plain k 0 less) refl in
    let here : p (get_or bytes (length line) 0) ≡ true = ap p (get_or-append_seam line 10 rest 0) in
    let at : position_or_len p bytes ≡ length line = position_or_len_is p bytes (length line) 0 (omega (arith, many)) before (λ _. here) in
    let front : before_first p bytes ≡ line = ap (λ n. take n bytes) at ∙ take-append_seam line (10 ∷ rest) in
    let back : after_first p bytes ≡ rest = grind (arith, drop-append-add) in
    lines_first bytes (omega (arith, at, many)) ∙ ap (λ l. strip_carriage_return l ∷ lines (after_first p bytes)) front
    ∙ ap (λ l. l ∷ lines (after_first p bytes)) (plain_stripped line plain) ∙ ap (λ l. line ∷ lines l) back

pub lines_text : (ls : List (List ℕ)) → ArePlain ls → lines (text_of ls) ≡ ls
lines_text [] plain = refl
lines_text (line ∷ rest) (one, more) =
    ap lines (append_assoc line (10 ∷ []) (text_of rest)) ∙ first_line line (text_of rest) one ∙ ap (λ l. line ∷ l) (lines_text rest more)

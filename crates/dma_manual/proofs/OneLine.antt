-- The text of each instruction assembles to its bytes.
use Rattle.std.proofs.Common.{◌≡◌, ℕ, ◌≤◌, true, List, [], ◌∷◌, length, refl, ap, ◌∙◌, subst, Ok, arith, append-nil}
use Rattle.std.specs.List.{list_all}
use Rattle.dma_text.specs.Lines.{text_lines}
use Rattle.dma_insn.specs.{AssemblyText.most_program_bytes, declared.chip.ChipInsn.ChipInsn}
use Rattle.dma_manual.specs.Assembled.{empty, place_of, take_line, take_lines}
use Rattle.dma_manual.specs.{declared.insns.ManualInsn.ManualInsn}
use Rattle.dma_manual.specs.{declared.insns.OtherInsn.OtherInsn, Insns.spelling, ManualText.insn_text}
use Rattle.dma_manual.specs.{ManualText.manual_text, ManualText.other_text, Words.code_of, Words.next_of, Laws.TextsAssemble}
use Rattle.dma_manual.proofs.Cuts.{code_all, has_bytes, inline_no_feed, line_alone, no_feed}
use Rattle.dma_manual.proofs.Growth.{insn_grown, lines_done, lines_step, read_whole, says_line}
use Rattle.dma_manual.proofs.{Numerals.plain, Said.Says, InsnTexts.insn_inline, InsnTexts.insn_says, InsnTexts.statement_of}

one_line : (text : List ℕ) → has_bytes text ≡ true → list_all no_feed text ≡ true → text_lines text ≡ text ∷ []
one_line text h h2 = grind (arith, line_alone)

chip_some : (i : ChipInsn) → has_bytes (manual_text i) ≡ true
chip_some i = grind (arith)

other_some : (i : OtherInsn) → has_bytes (other_text i) ≡ true
other_some i = grind (arith)

text_some : (i : ManualInsn) → has_bytes (insn_text i) ≡ true
text_some i = grind (arith, chip_some, other_some)

spelling_le : (i : ManualInsn) → length (spelling i) ≤ most_program_bytes
spelling_le i = grind (arith)

pub texts_assemble : TextsAssemble
texts_assemble i h =
    let text = insn_text i in
    let inline = insn_inline i h in
    let fits = spelling_le i in
    let line : text_lines text ≡ text ∷ [] = one_line text (text_some i) (inline_no_feed text inline) in
    let said : Says [] (plain text) (statement_of i) =
    subst (λ (l : List ℕ). Says [] l (statement_of i)) (append-nil (plain text)) (insn_says [] i [] h refl) in
    let g = insn_grown empty i (place_of 1 (length (plain text)) (next_of (plain text))) (omega arith) (refl, refl, refl) in
    let took : take_line empty 1 (plain (code_of text)) ≡ Ok g.next =
    ap (λ (l : List ℕ). take_line empty 1 (plain l)) (code_all text inline) ∙ says_line empty 1 (plain text) (statement_of i) said ∙ g.is in
    let read : take_lines empty 0 (text_lines text) ≡ Ok g.next = ap (take_lines empty 0) line ∙ lines_step empty g.next 0 text [] took ∙ lines_done g.next 1 in
    read_whole text g.next read g.quiet ∙ ap (λ (b : List ℕ). Ok b) g.code

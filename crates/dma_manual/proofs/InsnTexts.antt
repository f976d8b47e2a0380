-- The printed text of each instruction says the instruction.
use Rattle.std.proofs.Common.{◌≡◌, ℕ, ◌<◌, true, false, List, [], ◌∷◌, ◌++◌, refl, sym, subst, Some, None, arith, codes, decimal}
use Rattle.std.specs.List.{list_all}
use Rattle.dma_text.specs.Digits.{hex_digits}
use Rattle.dma_insn.specs.declared.insn.Reg.TheVariants.{Sar, Ccr, Dar}
use Rattle.dma_insn.specs.declared.chip.ChipInsn.TheVariants.{Mov, Ld, St, Rmb, Wmb, Nop, End, Lp, LpEnd, Sev, Wfe, StoreZeros, AddHalfword, LoopAgain}
use Rattle.dma_insn.specs.{declared.insn.Counter.TheVariants.Lc0, declared.insn.Counter.TheVariants.Lc1, declared.chip.ChipInsn.ChipInsn}
use Rattle.dma_insn.specs.{declared.chip.Address.TheVariants.Source, declared.chip.Address.TheVariants.Destination}
use Rattle.dma_manual.specs.declared.insns.OtherInsn.TheVariants.{Kill, LdIf, StIf, OfPeripheral, LpEndIf, LoopAgainIf, Go}
use Rattle.dma_manual.specs.ManualText.{counter_name, end_name, control_text, insn_text, manual_text, other_text}
use Rattle.dma_manual.specs.{declared.insns.ManualInsn.ManualInsn, declared.insns.ManualInsn.TheVariants.Chip, declared.insns.ManualInsn.TheVariants.Other}
use Rattle.dma_manual.specs.{declared.insns.OtherInsn.OtherInsn, declared.insns.Request.TheVariants.Single, declared.insns.Request.TheVariants.Burst}
use Rattle.dma_manual.specs.{Insns.HasOtherRanges, Insns.HasRanges, Statements.Label, Statements.by_name, Statements.by_other_name}
use Rattle.dma_manual.specs.{declared.statements.Again.TheVariants.Always, declared.statements.Again.TheVariants.If, declared.statements.Statement.Statement}
use Rattle.dma_manual.proofs.Numerals.{decimal_read, hex_words, plain, plain_append_law, plain_four}
use Rattle.dma_manual.proofs.Said.{Says, address_said, half_inline, says_add, says_again, says_again_flag, says_again_if, says_back, says_bare, says_invalid}
use Rattle.dma_manual.proofs.Said.{says_loop, says_set, says_signal, says_subtract, says_wait}
use Rattle.dma_manual.proofs.OtherTexts.{says_await, says_go, says_go_secure, says_peripheral}
use Rattle.dma_manual.proofs.{Cuts.all_append, Cuts.is_inline, Cuts.is_space, ControlTexts.control_inline, ControlTexts.control_read}
use Rattle.dma_insn.specs.Chip.{HasRanges as HasChipRanges}
use Rattle.dma_manual.specs.declared.insns.Action.TheVariants as action
use Rattle.dma_manual.specs.declared.insns.Awaited.TheVariants as awaited
use Rattle.dma_manual.specs.declared.statements.End.TheVariants as ends
use Rattle.dma_manual.specs.declared.statements.Statement.TheVariants as says

abbrev pub statement_of : ManualInsn → Statement
statement_of (Chip (Lp c n)) = says.Loop (Some c) n
statement_of (Chip (LpEnd c b)) = says.LoopEnd None (ends.Back c b)
statement_of (Chip (LoopAgain c b)) = says.LoopAgain (Always c) b
statement_of (Other (LpEndIf r c b)) = says.LoopEnd (Some r) (ends.Back c b)
statement_of (Other (LoopAgainIf r b)) = says.LoopAgain (If r) b
statement_of i = says.Plain i

chip_says : (labels : List Label) (i : ChipInsn) (tail : List ℕ) → HasChipRanges i → list_all is_space tail ≡ true
    → Says labels (plain (manual_text i) ++ tail) (statement_of (Chip i))
unfolding by_name
chip_says labels End tail h spaces = says_bare labels tail spaces (codes "dmaend") (Chip End) refl refl refl (λ none. rw none refl)
chip_says labels Ld tail h spaces = says_bare labels tail spaces (codes "dmald") (Chip Ld) refl refl refl (λ none. rw none refl)
chip_says labels St tail h spaces = says_bare labels tail spaces (codes "dmast") (Chip St) refl refl refl (λ none. rw none refl)
chip_says labels Rmb tail h spaces = says_bare labels tail spaces (codes "dmarmb") (Chip Rmb) refl refl refl (λ none. rw none refl)
chip_says labels Wmb tail h spaces = says_bare labels tail spaces (codes "dmawmb") (Chip Wmb) refl refl refl (λ none. rw none refl)
chip_says labels Nop tail h spaces = says_bare labels tail spaces (codes "dmanop") (Chip Nop) refl refl refl (λ none. rw none refl)
chip_says labels (Lp Lc0 n) tail h spaces = says_loop labels tail spaces Lc0 n h.0 h.1
chip_says labels (Lp Lc1 n) tail h spaces = says_loop labels tail spaces Lc1 n h.0 h.1
chip_says labels (LpEnd Lc0 b) tail h spaces = says_back labels tail spaces None Lc0 b (omega arith)
chip_says labels (LpEnd Lc1 b) tail h spaces = says_back labels tail spaces None Lc1 b (omega arith)
chip_says labels (Sev e) tail h spaces = says_signal labels tail spaces e (omega arith)
chip_says labels (Wfe e false) tail h spaces = says_wait labels tail spaces e (omega arith)
chip_says labels (Wfe e true) tail h spaces =
    subst (λ (l : List ℕ). Says labels (codes "dmawfe e" ++ l) (says.Plain (Chip (Wfe e true)))) (sym (plain_append_law (decimal e) (codes ", invalid") tail))
    (says_invalid labels tail spaces e (omega arith))
chip_says labels (Mov Sar v) tail h spaces =
    says_set labels (codes "sar") (32 ∷ 32 ∷ 48 ∷ 120 ∷ (plain (hex_digits v) ++ tail)) _ refl refl refl (address_said labels tail spaces Sar (codes "sar") v h)
chip_says labels (Mov Dar v) tail h spaces =
    says_set labels (codes "dar") (32 ∷ 32 ∷ 48 ∷ 120 ∷ (plain (hex_digits v) ++ tail)) _ refl refl refl (address_said labels tail spaces Dar (codes "dar") v h)
chip_says labels (Mov Ccr v) tail h spaces =
    says_set labels (codes "ccr") (32 ∷ (plain (control_text v) ++ tail)) _ refl refl refl (control_read v tail h spaces)
chip_says labels StoreZeros tail h spaces = says_bare labels tail spaces (codes "dmastz") (Chip StoreZeros) refl refl refl (λ none. rw none refl)
chip_says labels (AddHalfword Source m false) tail h spaces = says_add labels tail spaces Source (codes "sar") m h refl refl refl
chip_says labels (AddHalfword Destination m false) tail h spaces = says_add labels tail spaces Destination (codes "dar") m h refl refl refl
chip_says labels (AddHalfword Source m true) tail h spaces = says_subtract labels tail spaces Source (codes "sar") m h refl refl refl
chip_says labels (AddHalfword Destination m true) tail h spaces = says_subtract labels tail spaces Destination (codes "dar") m h refl refl refl
chip_says labels (LoopAgain Lc0 b) tail h spaces =
    subst (λ (l : List ℕ). Says labels (codes "dmalpend -" ++ l) (says.LoopAgain (Always Lc0) b)) (sym (plain_append_law (decimal b) (codes ", lc0") tail))
    (says_again_flag labels tail spaces b (omega arith))
chip_says labels (LoopAgain Lc1 b) tail h spaces =
    subst (λ (l : List ℕ). Says labels (codes "dmalpend -" ++ l) (says.LoopAgain (Always Lc1) b)) (sym (plain_append_law (decimal b) [] tail))
    (says_again labels tail spaces b (omega arith))

other_says : (labels : List Label) (i : OtherInsn) (tail : List ℕ) → HasOtherRanges i → list_all is_space tail ≡ true
    → Says labels (plain (other_text i) ++ tail) (statement_of (Other i))
unfolding by_name by_other_name
other_says labels Kill tail h spaces = says_bare labels tail spaces (codes "dmakill") (Other Kill) refl refl refl (λ none. rw none refl)
other_says labels (LdIf Single) tail h spaces = says_bare labels tail spaces (codes "dmalds") (Other (LdIf Single)) refl refl refl (λ none. rw none refl)
other_says labels (LdIf Burst) tail h spaces = says_bare labels tail spaces (codes "dmaldb") (Other (LdIf Burst)) refl refl refl (λ none. rw none refl)
other_says labels (StIf Single) tail h spaces = says_bare labels tail spaces (codes "dmasts") (Other (StIf Single)) refl refl refl (λ none. rw none refl)
other_says labels (StIf Burst) tail h spaces = says_bare labels tail spaces (codes "dmastb") (Other (StIf Burst)) refl refl refl (λ none. rw none refl)
other_says labels (OfPeripheral (action.Ld Single) p) tail h spaces =
    says_peripheral labels tail spaces (action.Ld Single) (codes "dmaldps") p (omega arith) refl refl (λ rest. refl) (λ rest. refl)
other_says labels (OfPeripheral (action.Ld Burst) p) tail h spaces =
    says_peripheral labels tail spaces (action.Ld Burst) (codes "dmaldpb") p (omega arith) refl refl (λ rest. refl) (λ rest. refl)
other_says labels (OfPeripheral (action.St Single) p) tail h spaces =
    says_peripheral labels tail spaces (action.St Single) (codes "dmastps") p (omega arith) refl refl (λ rest. refl) (λ rest. refl)
other_says labels (OfPeripheral (action.St Burst) p) tail h spaces =
    says_peripheral labels tail spaces (action.St Burst) (codes "dmastpb") p (omega arith) refl refl (λ rest. refl) (λ rest. refl)
other_says labels (OfPeripheral action.Flush p) tail h spaces =
    says_peripheral labels tail spaces action.Flush (codes "dmaflushp") p (omega arith) refl refl (λ rest. refl) (λ rest. refl)
other_says labels (OfPeripheral (action.Wait awaited.Single) p) tail h spaces =
    says_await labels tail spaces awaited.Single (codes ", single") (codes "single") p (omega arith) refl refl refl refl
other_says labels (OfPeripheral (action.Wait awaited.Burst) p) tail h spaces =
    says_await labels tail spaces awaited.Burst (codes ", burst") (codes "burst") p (omega arith) refl refl refl refl
other_says labels (OfPeripheral (action.Wait awaited.Either) p) tail h spaces =
    says_await labels tail spaces awaited.Either (codes ", periph") (codes "periph") p (omega arith) refl refl refl refl
other_says labels (LpEndIf r c b) tail h spaces =
    subst (λ (l : List ℕ). Says labels l (says.LoopEnd (Some r) (ends.Back c b)))
    (sym (plain_four (end_name (Some r)) (codes " ") (counter_name c) (codes ", -" ++ decimal b) tail))
    (says_back labels tail spaces (Some r) c b (omega arith))
other_says labels (LoopAgainIf Single b) tail h spaces = says_again_if labels tail spaces Single b (omega arith)
other_says labels (LoopAgainIf Burst b) tail h spaces = says_again_if labels tail spaces Burst b (omega arith)
other_says labels (Go c a false) tail h spaces = says_go labels tail spaces c a (omega (arith, h.0)) h.1
other_says labels (Go c a true) tail h spaces = says_go_secure labels tail spaces c a (omega (arith, h.0)) h.1

pub insn_says : (labels : List Label) (i : ManualInsn) (tail : List ℕ) → HasRanges i → list_all is_space tail ≡ true
    → Says labels (plain (insn_text i) ++ tail) (statement_of i)
insn_says labels (Chip i) tail h spaces = chip_says labels i tail h spaces
insn_says labels (Other i) tail h spaces = other_says labels i tail h spaces

-- The text has no comment and no line feed.
chip_inline : (i : ChipInsn) → HasChipRanges i → list_all is_inline (manual_text i) ≡ true
chip_inline (Lp Lc0 n) h = let r = decimal_read n h.1 in r.inline
chip_inline (Lp Lc1 n) h = let r = decimal_read n h.1 in r.inline
chip_inline (LpEnd Lc0 b) h = let r = decimal_read b (omega arith) in r.inline
chip_inline (LpEnd Lc1 b) h = let r = decimal_read b (omega arith) in r.inline
chip_inline (Sev e) h = let r = decimal_read e (omega arith) in r.inline
chip_inline (Wfe e false) h = let r = decimal_read e (omega arith) in r.inline
chip_inline (Wfe e true) h = let r = decimal_read e (omega arith) in all_append is_inline (decimal e) (codes ", invalid") r.inline refl
chip_inline (Mov Sar v) h = (hex_words v).1
chip_inline (Mov Dar v) h = (hex_words v).1
chip_inline (Mov Ccr v) h = control_inline v
chip_inline (AddHalfword Source m false) h = half_inline m
chip_inline (AddHalfword Destination m false) h = half_inline m
chip_inline (AddHalfword Source m true) h = half_inline m
chip_inline (AddHalfword Destination m true) h = half_inline m
chip_inline (LoopAgain Lc0 b) h = let r = decimal_read b (omega arith) in all_append is_inline (decimal b) (codes ", lc0") r.inline refl
chip_inline (LoopAgain Lc1 b) h = let r = decimal_read b (omega arith) in all_append is_inline (decimal b) [] r.inline refl
chip_inline _ h = refl

go_inline : (c a : ℕ) (flag : List ℕ) → c < 8 → list_all is_inline flag ≡ true
    → list_all is_inline ((decimal c ++ codes ", 0x") ++ (hex_digits a ++ flag)) ≡ true
go_inline c a flag small ok =
    let r = decimal_read c (omega arith) in
    all_append is_inline (decimal c ++ codes ", 0x") (hex_digits a ++ flag) (all_append is_inline (decimal c) (codes ", 0x") r.inline refl)
    (all_append is_inline (hex_digits a) flag (hex_words a).1 ok)

other_inline : (i : OtherInsn) → HasOtherRanges i → list_all is_inline (other_text i) ≡ true
other_inline (OfPeripheral (action.Ld Single) p) h = let r = decimal_read p (omega arith) in all_append is_inline (decimal p) [] r.inline refl
other_inline (OfPeripheral (action.Ld Burst) p) h = let r = decimal_read p (omega arith) in all_append is_inline (decimal p) [] r.inline refl
other_inline (OfPeripheral (action.St Single) p) h = let r = decimal_read p (omega arith) in all_append is_inline (decimal p) [] r.inline refl
other_inline (OfPeripheral (action.St Burst) p) h = let r = decimal_read p (omega arith) in all_append is_inline (decimal p) [] r.inline refl
other_inline (OfPeripheral action.Flush p) h = let r = decimal_read p (omega arith) in all_append is_inline (decimal p) [] r.inline refl
other_inline (OfPeripheral (action.Wait awaited.Single) p) h = let r = decimal_read p (omega arith) in
    all_append is_inline (decimal p) (codes ", single") r.inline refl
other_inline (OfPeripheral (action.Wait awaited.Burst) p) h = let r = decimal_read p (omega arith) in
    all_append is_inline (decimal p) (codes ", burst") r.inline refl
other_inline (OfPeripheral (action.Wait awaited.Either) p) h = let r = decimal_read p (omega arith) in
    all_append is_inline (decimal p) (codes ", periph") r.inline refl
other_inline (LpEndIf Single Lc0 b) h = let r = decimal_read b (omega arith) in r.inline
other_inline (LpEndIf Single Lc1 b) h = let r = decimal_read b (omega arith) in r.inline
other_inline (LpEndIf Burst Lc0 b) h = let r = decimal_read b (omega arith) in r.inline
other_inline (LpEndIf Burst Lc1 b) h = let r = decimal_read b (omega arith) in r.inline
other_inline (LoopAgainIf Single b) h = let r = decimal_read b (omega arith) in r.inline
other_inline (LoopAgainIf Burst b) h = let r = decimal_read b (omega arith) in r.inline
other_inline (Go c a false) h = go_inline c a [] h.0 refl
other_inline (Go c a true) h = go_inline c a (codes ", ns") h.0 refl
other_inline (LdIf Single) h = refl
other_inline (StIf Single) h = refl
other_inline _ h = refl

pub insn_inline : (i : ManualInsn) → HasRanges i → list_all is_inline (insn_text i) ≡ true
insn_inline i h = grind (arith, chip_inline, other_inline)

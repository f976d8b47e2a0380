use Rattle.std.proofs.Common.{arith}
use Rattle.std.proofs.Common.{◌≡◌, [], ◌++◌, ◌∙◌, List, ℕ, ap, rules, sym}
use Rattle.std.specs.Vec.{vec_len}
use Rattle.std.proofs.{lemmas.Bool.eqb-true, lemmas.List.nil_from_length}
use Rattle.dma_commands.proofs.DisLemmas.{printed_stops, text_answered}
use Rattle.dma_commands.proofs.dis.print_text.Goals as goal

pub returns-then-is_empty : goal.returns-then-is_empty
returns-then-is_empty c =
    let size : vec_len c.args.out.now ≡ 0 = eqb-true _ _ (sym c.is_empty.ensures ∙ c.if-is_empty.true) in
    let none : c.args.out.now.items ≡ [] = nil_from_length _ (search rules) in
    text_answered c.args.bytes.now c.in-Ok.text.items _ _ c.in-Ok.ensures.text (ap (λ (old : List ℕ). old ++ c.in-Ok.text.items) (sym none))

pub returns-in_ok-print-in-Ok : goal.returns-in_ok-print-in-Ok
returns-in_ok-print-in-Ok c =
    text_answered c.args.bytes.now c.in-Ok.text.items _ _ c.in-Ok.ensures.text
    (c.in_ok-print-in-Ok.ensures.ok ∙ ap (λ (t : List ℕ). c.args.out.now.items ++ t) c.as_slice.ensures.value)

pub returns-in-Err-Decode : goal.returns-in-Err-Decode
returns-in-Err-Decode c = grind (arith, printed_stops)

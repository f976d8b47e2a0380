use Rattle.std.proofs.Common.{◌≡◌, ℕ, suc, ◌+◌, ◌-◌, ◌/◌, ◌%◌, ◌^◌, ◌<◌, List, [], ◌∷◌, ◌++◌, sym, ap, ◌∙◌, arith, append_assoc, append-nil}
use Rattle.dma_text.proofs.Begun.{begins_appended, begins_more, begins_same}
use Rattle.dma_trace.specs.Vcd.{bits_text}
use Rattle.dma_trace.proofs.vcd.BitsText.push.Goals as goal

-- one more bit
one_more : (mid : List ℕ) (width done n : ℕ) (all : List ℕ) → done < width → mid ++ bits_text (width - done) n ≡ all
    → (mid ++ (48 + n / 2 ^ (width - done - 1) % 2) ∷ []) ++ bits_text (width - (done + 1)) n ≡ all
unfolding bits_text
one_more mid width done n all less e =
    let left : width - done ≡ suc (width - (done + 1)) = omega arith in
    let at : width - done - 1 ≡ width - (done + 1) = omega arith in
    append_assoc mid ((48 + n / 2 ^ (width - done - 1) % 2) ∷ []) (bits_text (width - (done + 1)) n)
    ∙ ap (λ (k : ℕ). mid ++ ((48 + n / 2 ^ k % 2) ∷ bits_text (width - (done + 1)) n)) at
    ∙ ap (λ (k : ℕ). mid ++ bits_text k n) (sym left)
    ∙ e

pub loop-done-preserved : goal.loop-done-preserved
loop-done-preserved c = grind (arith, ap, one_more, begins_more, begins_appended)

pub returns-in_err-push-clause-begins : goal.returns-in_err-push-clause-begins
returns-in_err-push-clause-begins c = begins_more _ _ _ c.loop-done.invariant.begins (begins_same _ _ c.in_err-push.ensures.items)

-- no bit is left
none_left : (mid all : List ℕ) (left n : ℕ) → left ≡ 0 → mid ++ bits_text left n ≡ all → mid ≡ all
unfolding bits_text
none_left mid all left n none e = sym (append-nil mid) ∙ ap (λ (k : ℕ). mid ++ bits_text k n) (sym none) ∙ e

pub returns-clause-ok : goal.returns-clause-ok
returns-clause-ok c =
    let none : c.args.self.now.width - c.loop-done.done ≡ 0 = omega (arith, c.loop-done-test.false) in
    none_left c.loop-done.out.items _ _ c.args.self.now.value none c.loop-done.invariant.text

pub returns-clause-begins : goal.returns-clause-begins
returns-clause-begins c = c.loop-done.invariant.begins

use Rattle.std.proofs.Common.{◌≡◌, ℕ, zero, suc, ◌+◌, List, ◌++◌, sym, ap, ◌∙◌, arith, append_assoc, append-nil}
use Rattle.std.specs.{Prelude.flat_map, List.range_with_len}
use Rattle.dma_text.proofs.Begun.{begins_appended, begins_more}
use Rattle.dma_trace.proofs.lines.push_dump.Goals as goal

pub returns-in_err-push_row-clause-begins : goal.returns-in_err-push_row-clause-begins
returns-in_err-push_row-clause-begins c = begins_more _ _ _ (begins_appended _ _ _ c.loop-row.invariant.text) c.push_row.ensures.begins

-- one more row
rows_suc : (f : ℕ → List ℕ) (a n j : ℕ) → a + n ≡ j → flat_map f (range_with_len a (suc n)) ≡ flat_map f (range_with_len a n) ++ f j
rows_suc f a zero j e = append-nil (f a) ∙ ap f (let i : a ≡ j = omega (arith, e) in i)
rows_suc f a (suc n) j e = grind (arith, ap, arith, sym, append_assoc, rows_suc f (a + 1) n j (omega (arith, e)))

rows_more : (f : ℕ → List ℕ) (n : ℕ) → flat_map f (range_with_len 0 (n + 1)) ≡ flat_map f (range_with_len 0 n) ++ f n
rows_more f n = grind (arith, suc, arith, ap, rows_suc)

pub loop-row-preserved : goal.loop-row-preserved
loop-row-preserved c = grind (arith, ap, append_assoc, sym, rows_more)

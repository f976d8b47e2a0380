use Rattle.std.proofs.Common.{◌≡◌, ◌∙◌, sym, ap, ℕ, ◌+◌, ◌<◌, List, [], Bool, Result, Ok, length, drop, slice_index_or, arith}
use Rattle.std.proofs.lemmas.List.{at_drop_all, at_drop_more}
use Rattle.dma_text.specs.Results.{◌>>=◌}
use Rattle.dma_manual.specs.{Pasted.read_from, Pasted.taken, declared.dump.Scan.Scan, declared.forms.Form.Form, declared.pasted.Fault.Fault}
use Rattle.dma_manual.proofs.pasted.read_as.Goals as goal

at_end : (form : Form) (s : Scan) (bytes text : List ℕ) (at : ℕ) (r : Result (List ℕ × Bool) Fault) → at ≡ length text →
    read_from form s bytes at (drop at text) ≡ r → read_from form s bytes (length text) [] ≡ r
at_end form s bytes text at r is read =
    sym (at_drop_all (λ rest. read_from form s bytes (length text) rest) text at (omega arith))
    ∙ ap (λ n. read_from form s bytes n (drop at text)) (sym is) ∙ read

pub returns : goal.returns
returns c = grind (arith, at_end)

-- one more byte
read_more : (form : Form) (s next : Scan) (bytes more text : List ℕ) (at : ℕ) → at < length text
    → taken form s bytes at (slice_index_or text at 0) ≡ Ok (next, more)
    → read_from form next more (at + 1) (drop (at + 1) text) ≡ read_from form s bytes at (drop at text)
read_more form s next bytes more text at lt is =
    sym (at_drop_more (λ rest. read_from form s bytes at rest) text at 0 lt
    ∙ ap (λ (r : Result (Scan × List ℕ) Fault). r >>= (λ n. read_from form n.0 n.1 (at + 1) (drop (at + 1) text))) is)

pub loop-at-preserved : goal.loop-at-preserved
loop-at-preserved c =
    let now = c.loop-at in
    read_more c.args.form now.scan c.in-Ok.next now.bytes.items c.take.new.bytes.items c.args.text.now now.at c.loop-at-test.true
    (rw c.in-Ok.is at c.in_ok-next.ensures)
    ∙ now.invariant

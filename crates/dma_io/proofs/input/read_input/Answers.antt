use Rattle.std.proofs.Common.{◌≡◌, ℕ, ◌<◌, List, length, false, Option, Some, None, IfSome, Result, Ok, Err, sym, ap, ◌∙◌, refl, append-nil, arith}
use Rattle.std.proofs.lemmas.List.{length-append, length-take}
use Rattle.std.proofs.KnownBytes.{Consumes-nil, Consumes-trans, Consumes-whole}
use Rattle.std.specs.{Bool.if◌then◌else◌, Io.KnownBytes.Consumes, Result.is_err, Result.is_ok}
use Rattle.dma_io.proofs.input.read_input.Goals as goal

-- what a call that did not fail made
made : {A T E : Type 0} (r : Result T E) (x a b : A) → false ≡ is_err r → x ≡ (if is_ok r then a else b) → x ≡ a
made (Ok t) x a b h e = e
made (Err f) x a b h e = cc

-- what a reader had is at least as long as what was read
had_more : (a b : Option (List ℕ)) (bs : List ℕ) (n : ℕ) → Consumes a b bs → n < length bs → IfSome a (λ xs. n < length xs)
had_more None b bs n p h = tt
had_more (Some xs) None bs n p h = absurd p
had_more (Some xs) (Some ys) bs n p h = omega (arith, ap length p, length-append bs ys)

pub loop-turn-init : goal.loop-turn-init
loop-turn-init g c = record {
  turns = omega arith;
  within = omega (arith, c.new-input.ensures.len);
  front = rw c.new-input.ensures.items (Consumes-nil (g.R.Read.remaining c.args.reader.now));
  unfailed = λ f. f;
  reads = omega arith;
}

pub returns-then-count-eq0-clause-input : goal.returns-then-count-eq0-clause-input
returns-then-count-eq0-clause-input g c =
    let bytes = c.in-Ok.ensures.bytes in
    Consumes-whole _ _ _ (λ all. c.loop-turn.input.items ≡ all) (Consumes-trans _ _ _ _ _ c.loop-turn.invariant.front bytes.0)
    (bytes.1 c.if-count-eq0.true (omega arith)) (rw (c.if-count-eq0.true, append-nil) refl)

pub loop-turn-preserved : goal.loop-turn-preserved
loop-turn-preserved g c =
    let extended = sym c.if-is_err.false ∙ c.is_err.ensures.value in
    let longer = made {A = ℕ} c.extend_from_slice.result _ _ _ extended c.extend_from_slice.ensures.len in
    record {
      turns = omega (arith, longer, length-take c.in-Ok.count c.fetch.new.buf, c.in-Ok.ensures.bound);
      within = omega (arith, c.len.ensures);
      front = rw (made {A = List ℕ} c.extend_from_slice.result _ _ _ extended c.extend_from_slice.ensures.items)
          (Consumes-trans _ _ _ _ _ c.loop-turn.invariant.front c.in-Ok.ensures.bytes.0);
      unfailed = λ f. c.loop-turn.invariant.unfailed (c.in-Ok.ensures.no_fault f);
      reads = omega (arith, c.fetch.ensures.counted);
    }

pub returns-then-len-gt-LONGEST_INPUT-clause-too_long : goal.returns-then-len-gt-LONGEST_INPUT-clause-too_long
returns-then-len-gt-LONGEST_INPUT-clause-too_long g c = λ _.
    let extended = sym c.if-is_err.false ∙ c.is_err.ensures.value in
    let longer = made {A = ℕ} c.extend_from_slice.result _ _ _ extended c.extend_from_slice.ensures.len in
    had_more _ _ _ _ (Consumes-trans _ _ _ _ _ c.loop-turn.invariant.front c.in-Ok.ensures.bytes.0) (omega (arith, length-append {A = ℕ}, c.len.ensures))

pub returns-clause-too_long : goal.returns-clause-too_long
returns-clause-too_long g c = λ _. absurd (omega arith)

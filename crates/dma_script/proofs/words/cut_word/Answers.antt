use Rattle.std.proofs.Common.{◌<◌, ◌∙◌, length, arith, sym}
use Rattle.dma_script.proofs.WordLemmas.{no_blank_joined, no_blank_more, word_alone, word_at}
use Rattle.dma_script.proofs.words.cut_word.Goals as goal

pub loop-end-preserved : goal.loop-end-preserved
loop-end-preserved c = no_blank_more c.args.line.now 0 c.loop-end.end c.loop-end.invariant (sym c.is_blank.ensures ∙ c.if-is_blank.false)

pub returns-then-is_blank : goal.returns-then-is_blank
returns-then-is_blank c =
    let within : c.loop-end.end < length c.args.line.now = omega (arith, c.loop-end-test.true, c.min-near.ensures) in
    word_at c.args.line.now c.loop-end.end c.requires.first within c.loop-end.invariant (sym c.is_blank.ensures ∙ c.if-is_blank.true)

pub returns-in-Some : goal.returns-in-Some
returns-in-Some c =
    let line = c.args.line.now in
    let none = no_blank_joined line c.min-near.result c.in-Some.end (λ k after below. c.loop-end.invariant k after (omega (arith, c.loop-end-test.false)))
    c.in-Some.ensures.1 in
    word_at line c.in-Some.end c.requires.first c.in-Some.ensures.0 none c.in-Some.ensures.2

pub returns-in-None : goal.returns-in-None
returns-in-None c = grind (arith, word_alone, no_blank_joined)

pub returns-then-near-line : goal.returns-then-near-line
returns-then-near-line c = grind (arith, word_alone)

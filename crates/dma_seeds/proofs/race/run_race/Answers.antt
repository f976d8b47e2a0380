use Rattle.std.proofs.Common.{◌≡◌, ℕ, List, [], ◌∙◌, ap, arith, rules}
use Rattle.std.specs.{Str.Lines.lines}
use Rattle.dma_seeds.specs.{Expect.Unread, Expect.after_lines, Expect.verdict_on, Race.raced, Turns.turns_of_seed, inner.Measured.pieces}
use Rattle.dma_seeds.proofs.RaceLemmas.{lengths_fit, pieces_printed, raced_alone}
use Rattle.dma_seeds.proofs.race.run_race.Goals as goal

pub lines_verdict-requires : goal.lines_verdict-requires
lines_verdict-requires c = grind (arith, raced_alone, lengths_fit)

pub returns : goal.returns
returns c =
    let groups = (raced c.args.race (turns_of_seed c.args.race.jobs c.args.seed)).groups in
    let started = c.in_ok-measured.ensures in
    let ran = c.in_ok-early.ensures in
    let order : c.in_ok-turns.turns ≡ turns_of_seed c.args.race.jobs c.args.seed = search rules in
    let alone = raced_alone c.args.race c.args.seed _ _ _ _ _ _ _ started.view order c.new-text.ensures.items started.lengths ran in
    let same = ap (λ l. pieces l c.deref.result.now) c.deref-2.ensures.value ∙ ap (λ t. pieces c.run-ran.new.self.lengths.items t) c.deref.ensures.value
    ∙ pieces_printed groups _ _ alone.0 in
    record {
      text_is = alone.0.appended;
      within = ran.within;
      from_go = alone.1;
      verdict_is = c.in_ok-verdict.ensures
          ∙ ap (λ (answers : List (List ℕ)). let unread : Unread = record { left = []; answers = answers } in
          verdict_on (after_lines c.args.seed 0 unread (lines c.args.script.now))) same;
    }

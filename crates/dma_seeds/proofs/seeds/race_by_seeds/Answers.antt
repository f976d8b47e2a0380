use Rattle.std.proofs.Common.{◌≡◌, ◌∙◌, true, rules}
use Rattle.std.specs.Prelude.{is_ok}
use Rattle.std.proofs.lemmas.Result.{IfOk-weaker}
use Rattle.dma_io.specs.Answer.{prints_of}
use Rattle.dma_script.specs.Race.{race_script_of}
use Rattle.dma_seeds.specs.Expect.{without_expects}
use Rattle.dma_seeds.proofs.AnswerLemmas.{seeds_answered}
use Rattle.dma_seeds.proofs.seeds.race_by_seeds.Goals as goal

pub returns-in-None : goal.returns-in-None
returns-in-None g c =
    let script = c.args.script.now in
    let found = c.in_ok-outputs-in-None.ensures in
    let kept : c.deref-in-None.result.now ≡ without_expects script = c.deref-in-None.ensures.value ∙ c.in_ok-kept.ensures in
    let good : is_ok (race_script_of c.deref-in-None.result.now) ≡ true = search rules in
    let read = rw kept at good in
    let outputs = rw kept at found.outputs in
    IfOk-weaker c.answer_of.result _ _
    (λ answer prints. seeds_answered script c.args.seeds c.deref-in-None-2.result.now c.in_ok-outputs-in-None.verdict (prints_of answer) read
    (c.deref-in-None-2.ensures.value ∙ outputs) found.verdicts prints) c.answer_of.ensures

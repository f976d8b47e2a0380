use Rattle.std.proofs.Common.{◌≡◌, ◌∙◌, sym, Some}
use Rattle.dma_script.specs.Words.{words_of}
use Rattle.dma_script.proofs.Reading.{script_given}
use Rattle.dma_script.proofs.statements.ReadSoFar.take.Goals as goal

pub returns-in-Some : goal.returns-in-Some
returns-in-Some c =
    let is : c.args.self.now ≡ Some c.in-Some.script = sym c.self.view_is ∙ c.in-Some.is in
    rw is (script_given c.args.keyword (words_of c.args.words.now) c.in-Some.script c.later_line.new.statements c.later_line.result c.later_line.ensures)

-- What a race prints for the seeds of a range, by what is read of its script.
use Rattle.std.proofs.Common.{arith}
use Rattle.std.proofs.Common.{◌≡◌, ℕ, ◌+◌, ◌-◌, true, List, [], Result}
use Rattle.std.specs.Prelude.{is_ok}
use Rattle.dma_io.specs.Answer.{Prints}
use Rattle.dma_script.specs.{Race.race_script_of, declared.fault.Fault.Fault, declared.race.RaceScript.RaceScript}
use Rattle.dma_seeds.specs.RaceReplies.{RacesSeeds}
use Rattle.dma_seeds.specs.Expect.{is_good, verdict, without_expects}
use Rattle.dma_seeds.specs.Faults.{message_of}
use Rattle.dma_seeds.specs.Seeds.{outputs_of, outputs_text, seeds_printed_of, seeds_verdict_of, seeds_verdict_text, text_from_go, verdicts}
use Rattle.dma_seeds.specs.{declared.outputs.Output.Output, declared.seeds.SeedRange.SeedRange, declared.seeds.SeedsVerdict.SeedsVerdict}

-- what is printed for the seeds of a range, by what is read of a script without a fault
seeds_good : (read : Result RaceScript Fault) (input : List ℕ) (seeds : SeedRange) → is_ok read ≡ true → let count = seeds.last + 1 - seeds.first in
    (outputs_text seeds (outputs_of (text_from_go read) seeds.first count) ≡ seeds_printed_of read seeds)
    × (message_of input read ≡ [])
    × (verdicts (verdict input) seeds.first count ≡ seeds_verdict_of read input seeds)
seeds_good read input seeds h = grind (arith)

-- what is printed for these outputs and this verdict
abbrev answer : SeedRange → List Output → SeedsVerdict → Prints
answer seeds outputs found =
    record { out = outputs_text seeds outputs; err = seeds_verdict_text found seeds; file = []; succeeds = is_good found.first }

pub seeds_answered : (input : List ℕ) (seeds : SeedRange) (made : List Output) (found : SeedsVerdict) (p : Prints)
    → let read = race_script_of (without_expects input) in let count = seeds.last + 1 - seeds.first in
    is_ok read ≡ true → made ≡ outputs_of (text_from_go read) seeds.first count → found ≡ verdicts (verdict input) seeds.first count
    → p ≡ answer seeds made found → RacesSeeds seeds input p
seeds_answered input seeds made found p good made_are found_is prints = grind (arith, seeds_good)

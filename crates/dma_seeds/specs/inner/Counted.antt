-- How outputs and verdicts are counted, one after another.
use Rattle.std.specs.{Prelude.ℕ, Prelude.◌+◌, Prelude.not, Prelude.if◌then◌else◌, Prelude.List, Prelude.[], Prelude.◌∷◌, Str.bytes_eq}
use Rattle.dma_seeds.specs.{Expect.is_good, declared.expect.Verdict.Verdict, declared.outputs.Output.Output}

-- an output with one more seed
abbrev pub one_more : Output → Output
one_more output = record output { seeds = output.seeds + 1 }

-- Outputs with the output of one more seed: the first with the same text counts the seed, or the new one is added.
abbrev pub counted : List Output → Output → List Output
counted [] new = new ∷ []
counted (output ∷ rest) new =
    if bytes_eq output.text new.text then one_more output ∷ rest else output ∷ counted rest new

-- 1 if a verdict is not good, else 0
abbrev pub failing_in : Verdict → ℕ
failing_in verdict = if not (is_good verdict) then 1 else 0

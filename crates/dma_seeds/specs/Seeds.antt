-- Which outputs the seeds of a range give, what is printed about them, and whether the expect lines hold (profile).
use Rattle.std.specs.Prelude.{ℕ, zero, suc, ◌+◌, ◌-◌, Bool, ◌==◌, not, if◌then◌else◌, List, [], ◌∷◌, ◌++◌, count_by, filter, flat_map, length, map, Result, Ok}
use Rattle.std.specs.Prelude.{Err, codes, decimal}
use Rattle.std.specs.{List.list_any, List.range_with_len, Str.bytes_eq, Str.Lines.lines}
use Rattle.dma_io.specs.Command.{printed_text, text_of}
use Rattle.dma_script.specs.{Printing.fault_line, Race.race_script_of, declared.fault.Fault.Fault, declared.race.RaceScript.RaceScript}
use Rattle.dma_commands.specs.{Left.view_after, Raced.from_go}
use Rattle.dma_seeds.specs.{Expect.is_good, Expect.verdict, Expect.verdict_text, Expect.without_expects, Turns.turns_of_seed, declared.expect.Verdict.Verdict}
use Rattle.dma_seeds.specs.{declared.expect.Verdict.TheVariants.Holds, declared.expect.Verdict.TheVariants.Refused, declared.outputs.Output.Output}
use Rattle.dma_seeds.specs.{declared.seeds.SeedRange.SeedRange, declared.seeds.SeedsVerdict.SeedsVerdict}

-- what a parsed script prints for a seed from the line of `go` on; nothing for a script with a fault
abbrev pub text_from_go : Result RaceScript Fault → ℕ → List ℕ
text_from_go (Ok script) seed =
    printed_text (from_go (view_after script.before) (turns_of_seed script.jobs seed) script.after)
text_from_go (Err fault) seed = []

-- whether a seed gives a text that no seed from `first` up to the one before it gives
abbrev pub is_new : (ℕ → List ℕ) → ℕ → ℕ → Bool
is_new text first seed =
    not (list_any (λ earlier. bytes_eq (text earlier) (text seed)) (range_with_len first (seed - first)))

-- the output of a seed, with the number of those that give the same among n seeds from `first` on
abbrev pub output_of : (ℕ → List ℕ) → ℕ → ℕ → ℕ → Output
output_of text first n seed = record {
  text = text seed;
  seeds = count_by (λ other. bytes_eq (text seed) (text other)) (range_with_len first n);
  first = seed;
}

-- The different outputs of n seeds from `first` on, in the order of the first seed of each.
abbrev pub outputs_of : (ℕ → List ℕ) → ℕ → ℕ → List Output
outputs_of text first n =
    map (output_of text first n) (filter (is_new text first) (range_with_len first n))

-- ---- what is printed

-- a number of things, as `1 seed` and `2 seeds`
abbrev pub number_of_things : ℕ → List ℕ → List ℕ
number_of_things n thing = decimal n ++ codes " " ++ thing ++ (if n == 1 then [] else codes "s")

-- the lines of a text, each behind two spaces
abbrev pub indented : List ℕ → List ℕ
indented text = flat_map (λ line. codes "  " ++ line ++ 10 ∷ []) (lines text)

-- `output N: N seeds, first SEED`, and then the output's lines
abbrev pub output_text : ℕ → Output → List ℕ
output_text number output =
    text_of ((codes "output " ++ decimal number ++ codes ": " ++ number_of_things output.seeds (codes "seed")
    ++ codes ", first " ++ decimal output.first) ∷ []) ++ indented output.text

-- the texts of outputs, which are numbered from this number on
abbrev pub numbered : ℕ → List Output → List ℕ
numbered number [] = []
numbered number (output ∷ rest) = output_text number output ++ numbered (number + 1) rest

-- `seeds FIRST to LAST: N outputs`, and then the outputs, numbered from 1
abbrev pub outputs_text : SeedRange → List Output → List ℕ
outputs_text seeds outputs =
    text_of ((codes "seeds " ++ decimal seeds.first ++ codes " to " ++ decimal seeds.last ++ codes ": "
    ++ number_of_things (length outputs) (codes "output")) ∷ []) ++ numbered 1 outputs

-- what is printed for a parsed script and a range of seeds; a script with a fault prints its first fault
abbrev pub seeds_printed_of : Result RaceScript Fault → SeedRange → List ℕ
seeds_printed_of (Ok script) seeds =
    outputs_text seeds (outputs_of (text_from_go (Ok script)) seeds.first (seeds.last + 1 - seeds.first))
seeds_printed_of (Err fault) seeds = text_of (fault_line fault ∷ [])

-- What is printed for an input and a range of seeds.
abbrev pub seeds_printed : List ℕ → SeedRange → List ℕ
seeds_printed input seeds = seeds_printed_of (race_script_of input) seeds

-- ---- the verdict

-- a verdict if it is no `Holds`, else the next one
abbrev pub unless_holds : Verdict → Verdict → Verdict
unless_holds Holds next = next
unless_holds first next = first

-- the verdict for the first of n seeds from `first` on for which it is no `Holds`
abbrev pub first_verdict : (ℕ → Verdict) → ℕ → ℕ → Verdict
first_verdict verdict first zero = Holds
first_verdict verdict first (suc n) = unless_holds (verdict first) (first_verdict verdict (first + 1) n)

-- for how many of n seeds from `first` on the verdict is not good
abbrev pub failing : (ℕ → Verdict) → ℕ → ℕ → ℕ
failing verdict first n = count_by (λ seed. not (is_good (verdict seed))) (range_with_len first n)

-- the verdict on n seeds from `first` on
abbrev pub verdicts : (ℕ → Verdict) → ℕ → ℕ → SeedsVerdict
verdicts verdict first n = record { first = first_verdict verdict first n; failing = failing verdict first n }

-- the verdict for a range of seeds, by what was read of the script
abbrev pub seeds_verdict_of : Result RaceScript Fault → List ℕ → SeedRange → SeedsVerdict
seeds_verdict_of (Ok script) input seeds = verdicts (verdict input) seeds.first (seeds.last + 1 - seeds.first)
seeds_verdict_of (Err fault) input seeds = record { first = Refused; failing = 0 }

-- The verdict on a script for a range of seeds: the script has a fault, or its expect lines hold for all seeds, or the
-- first line that fails for the lowest seed with a failure, and the number of seeds with a failure.
abbrev pub seeds_verdict : List ℕ → SeedRange → SeedsVerdict
seeds_verdict input seeds = seeds_verdict_of (race_script_of (without_expects input)) input seeds

-- `  expect lines fail for N of M seeds`; nothing if they fail for none
abbrev pub failing_text : ℕ → SeedRange → List ℕ
failing_text n seeds =
    if n == 0 then [] else
    text_of ((codes "  expect lines fail for " ++ decimal n ++ codes " of "
    ++ number_of_things (seeds.last + 1 - seeds.first) (codes "seed")) ∷ [])

-- what a verdict for a range of seeds prints: the first expect line that fails, and for how many seeds one fails
abbrev pub seeds_verdict_text : SeedsVerdict → SeedRange → List ℕ
seeds_verdict_text found seeds = verdict_text found.first ++ failing_text found.failing seeds

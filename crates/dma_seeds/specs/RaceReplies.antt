-- What `dma330 race` prints for a script (profile).
use Rattle.std.specs.Prelude.{◌≡◌, ℕ, List, [], ◌++◌}
use Rattle.dma_io.specs.{Answer.Prints, Command.printed_text}
use Rattle.dma_seeds.specs.Expect.{is_good, verdict, verdict_text, without_expects}
use Rattle.dma_seeds.specs.Seeds.{seeds_printed, seeds_verdict, seeds_verdict_text}
use Rattle.dma_seeds.specs.{Faults.race_message, Race.race_printed, Script.script_text, declared.seeds.SeedRange.SeedRange}

-- `race` prints what a race prints with its turns in the order of a seed, and on standard error the fault of the script
-- or the first expect line that fails, and writes the same race as a script of `run`. The script is raced and written
-- without its expect lines.
abbrev pub Races : ℕ → List ℕ → Prints → Type 0
Races seed script p =
    (p.out ≡ printed_text (race_printed (without_expects script) seed).groups)
    × (p.err ≡ race_message script ++ verdict_text (verdict script seed))
    × (p.file ≡ script_text (without_expects script) seed) × (p.succeeds ≡ is_good (verdict script seed))

-- `race --seeds` prints which outputs a race has with its turns in the orders of these seeds. On standard error it
-- prints the fault of the script; or the first expect line that fails for the lowest seed with a failure, and the
-- number of seeds with a failure.
abbrev pub RacesSeeds : SeedRange → List ℕ → Prints → Type 0
RacesSeeds seeds script p =
    (p.out ≡ seeds_printed (without_expects script) seeds)
    × (p.err ≡ race_message script ++ seeds_verdict_text (seeds_verdict script seeds) seeds) × (p.file ≡ [])
    × (p.succeeds ≡ is_good (seeds_verdict script seeds).first)

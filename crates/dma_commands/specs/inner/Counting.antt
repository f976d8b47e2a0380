-- How the equal answers of a step line are counted before their line is printed.
use Rattle.std.specs.Prelude.{ℕ, ◌++◌, List, [], ◌∷◌, replicate}
use Rattle.dma_engine.specs.declared.outcome.TransResult.TheVariants.{NoError}
use Rattle.dma_engine.specs.declared.turn.Turn.TheVariants.{Started, Moved, Finished}
use Rattle.dma_io.specs.Command.{text_of}
use Rattle.dma_commands.specs.{Printed.turn_text, Run.step_line, Run.step_lines}

-- The text of a step line whose finished lines are `lines`, whose last answer was counted `count` times so far, and
-- whose remaining answers are `rest`.
abbrev pub text_with : ℕ → List ℕ → List ℕ → ℕ → List (List ℕ) → List ℕ
text_with ch lines answer count rest = lines ++ text_of (step_lines ch (replicate count answer ++ rest))

-- The text of a step line whose answers are the start, the moves and the finish of one transfer.
abbrev pub transfer_text : ℕ → ℕ → ℕ → ℕ → List ℕ
transfer_text ch started moved finished = text_of (
    step_line ch (turn_text (Started started), 1)
    ∷ step_line ch (turn_text Moved, moved)
    ∷ step_line ch (turn_text (Finished finished NoError 0), 1)
    ∷ []
    )

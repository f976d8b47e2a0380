-- The channels that a worker steps, and their order.
use Rattle.std.specs.Prelude.{◌≡◌, ◌<◌, ◌≤◌, ℕ, ◌+◌, List, [], ◌∷◌, length, slice_index}
use Rattle.dma_engine.specs.Interleaved.{channel_at, rotation}

-- These channels were acted on, one after another, and nothing else was done.
abbrev pub StepsInTurn : {S : Type 0} → (S → ℕ → S → Type 0) → List ℕ → S → S → Type 0
StepsInTurn acts [] old new = new ≡ old
StepsInTurn {S = S} acts (ch ∷ rest) old new = (mid : S) × acts old ch mid × StepsInTurn acts rest mid new

-- A rotation has one channel for each turn: item k is the channel of turn k.
abbrev pub ListsChannels : Type 0
ListsChannels =
    (first last turns : ℕ)
    → (length (rotation first last turns) ≡ turns)
    × ((k : ℕ) → k < turns → slice_index (rotation first last turns) k ≡ channel_at first last k)

-- The channel of turn 0 is the first one. Each channel is followed by the next one, and the last channel by the first.
abbrev pub GoesRound : Type 0
GoesRound =
    (first last k : ℕ) → first ≤ last
    → (channel_at first last 0 ≡ first)
    × (channel_at first last k < last → channel_at first last (k + 1) ≡ channel_at first last k + 1)
    × (channel_at first last k ≡ last → channel_at first last (k + 1) ≡ first)

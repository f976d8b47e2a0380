-- Room that is allocated before it is needed.
use Rattle.std.specs.Prelude.{◌≡◌, ◌≢◌, ℕ, ◌<◌, ◌≤◌, None, Result, Ok, IfErr, slice_index_or}
use Rattle.dma_engine.specs.{declared.fault.EngineFault.EngineFault, declared.fault.EngineFault.TheVariants.NoMemory, declared.turn.Turn.Turn, View.state_at}
use Rattle.dma_engine.specs.{declared.turn.Turn.TheVariants.Started, declared.turn.Turn.TheVariants.Moved, declared.turn.Turn.TheVariants.Finished}
use Rattle.dma_engine.specs.{Object.unfinished, View.EngineState, View.QueueRoom, View.Room, View.View, View.schedule_at}

-- the room of a channel that doesn't exist
abbrev pub no_room : QueueRoom
no_room = record { indices = 0; outcomes = 0 }

-- the room of a channel
abbrev pub room_on : Room → ℕ → QueueRoom
room_on r ch = slice_index_or r.queues ch no_room

-- There is room for one more entry, for one more cookie of the channel, and for the outcomes of all its unfinished
-- cookies.
pub record HasRoom (e : EngineState) (ch : ℕ) : Type 0 where
  pub entry : 0 < e.room.entries
  pub cookie : 0 < (room_on e.room ch).indices
  pub outcomes : unfinished (state_at e.view ch) ≤ (room_on e.room ch).outcomes

-- The lists of entries, indices and outcomes have no room: memory that they don't need is freed.
abbrev pub HasNoSpare : EngineState → Type 0
HasNoSpare e = (e.room.entries ≡ 0) × ((ch : ℕ) → room_on e.room ch ≡ no_room)

-- The result of a step that changed nothing: a refusal, or a turn that neither starts, moves nor finishes.
abbrev pub IsIdle : Result Turn EngineFault → Type 0
IsIdle (Ok (Started cookie)) = ⊥
IsIdle (Ok Moved) = ⊥
IsIdle (Ok (Finished cookie result residue)) = ⊥
IsIdle _ = Unit {0}

-- A result is not the fault that memory ran out.
abbrev pub HasMemory : {T : Type 0} → Result T EngineFault → Type 0
HasMemory result = IfErr result (λ fault. fault ≢ NoMemory)

-- Every channel that had room still has it.
abbrev pub KeepsRoom : EngineState → EngineState → Type 0
KeepsRoom old new = (ch : ℕ) → HasRoom old ch → HasRoom new ch

-- A step of a channel with this result is out of memory only if nothing runs there: at a start.
abbrev pub OutOfMemoryOnlyToStart : View → ℕ → Result Turn EngineFault → Type 0
OutOfMemoryOnlyToStart v ch result = IfErr result (λ fault. fault ≡ NoMemory → (schedule_at v ch).taken ≡ None)

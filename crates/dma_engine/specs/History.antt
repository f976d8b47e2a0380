-- Histories: lists of entries in the order in which they were added.
use Rattle.std.specs.{Prelude.ℕ, Prelude.List, Prelude.[], Prelude.◌∷◌, Prelude.length, List.sum_by}
use Rattle.dma_engine.specs.Object.{Object, Allows, after}
use Rattle.dma_engine.specs.{declared.entry.Entry.Entry, declared.entry.Entry.TheVariants.Wrote, declared.entry.Entry.TheVariants.ReadBack}

-- The object after these entries, starting from this object.
abbrev pub object_after : Object → List Entry → Object
object_after o [] = o
object_after o (e ∷ es) = object_after (after o e) es

-- Whether a history is legal from an object: each entry is allowed for the object before it.
abbrev pub IsLegal : Object → List Entry → Type 0
IsLegal o [] = Unit {0}
IsLegal o (e ∷ es) = Allows o e × IsLegal (after o e) es

-- how many bytes an entry keeps: those of a write and of a read
abbrev pub kept_by : Entry → ℕ
kept_by (Wrote addr bytes) = length bytes
kept_by (ReadBack addr bytes) = length bytes
kept_by _ = 0

-- how many bytes a history keeps
abbrev pub kept_bytes : List Entry → ℕ
kept_bytes history = sum_by kept_by history

-- What each call from C on a channel or a device that it keeps does and returns, if that isn't open.
use Rattle.std.specs.Prelude.{◌≡◌, ℕ, ℤ, Option, None, Some, IsSomeAnd, List}
use Rattle.dma_ffi.specs.{Codes.ok_code, Codes.not_open, Programs.Writes}

-- A call on a kept value. On one that isn't open it returns `not_open` and changes nothing. On an open one it acts and
-- returns a code as `does` says, and the value stays open.
abbrev pub OnOpen : {A : Type 0} → (A → ℤ → A → Type 0) → Option A → ℤ → Option A → Type 0
OnOpen does None code new = (code ≡ not_open) × (new ≡ None)
OnOpen does (Some x) code new = IsSomeAnd new (λ y. does x code y)

-- A call that can't fail on an open value: it applies `change` and returns `ok_code`. On one that isn't open it returns
-- `not_open` and changes nothing.
abbrev pub Becomes : {A : Type 0} → (A → A) → Option A → ℤ → Option A → Type 0
Becomes change None code new = (code ≡ not_open) × (new ≡ None)
Becomes change (Some x) code new = (code ≡ ok_code) × (new ≡ Some (change x))

-- A call that writes what `value` gives for an open value, and returns `ok_code`. On one that isn't open it writes
-- nothing and returns `not_open`. Neither changes anything else.
abbrev pub WritesValue : {A B : Type 0} → (A → B) → Option A → ℤ → B → B → Option A → Type 0
WritesValue value None code before after new = (code ≡ not_open) × (after ≡ before) × (new ≡ None)
WritesValue value (Some x) code before after new = (code ≡ ok_code) × (after ≡ value x) × (new ≡ Some x)

-- A call that reads an open value and writes an output, as `does` says. On one that isn't open it writes nothing and
-- returns `not_open`. Neither changes anything else.
abbrev pub ReadsOpen : {A B : Type 0} → (A → ℤ → B → B → Type 0) → Option A → ℤ → B → B → Option A → Type 0
ReadsOpen does None code before after new = (code ≡ not_open) × (after ≡ before) × (new ≡ None)
ReadsOpen does (Some x) code before after new = does x code before after × (new ≡ Some x)

-- A call that writes the save of an open value to a buffer (`Writes`), with what `Fits` says of the value. On one that
-- isn't open it writes nothing and returns `not_open`. Neither changes anything else.
abbrev pub WritesSave : {A : Type 0} → (A → List ℕ) → (A → Type 0)
    → Option A → ℤ → List ℕ → List ℕ → ℕ → ℕ → Option A → Type 0
WritesSave save_of Fits None code buffer out len written new =
    (code ≡ not_open) × (out ≡ buffer) × (written ≡ len) × (new ≡ None)
WritesSave save_of Fits (Some x) code buffer out len written new =
    Writes (save_of x) code buffer out len written × Fits x × (new ≡ Some x)

-- Encodings of any kind of instructions: `spelling` has the bytes of each one, and `Ranges` the ranges of its fields.
use Rattle.std.specs.Prelude.{◌≡◌, ℕ, ◌<◌, ◌≤◌, List, [], ◌∷◌, length, take, Result, Ok, Err}
use Rattle.dma_insn.specs.declared.codec.DecodeFault.TheVariants.{Cut, Unknown, BadField}
use Rattle.dma_insn.specs.{declared.codec.DecodeFault.DecodeFault}

-- The first n bytes are the encoding of the instruction i, which is in range.
pub record Spelled {I : Type 0} (Ranges : I → Type 0) (spelling : I → List ℕ) (bytes : List ℕ) (i : I) (n : ℕ) : Type 0 where
  pub in_range : Ranges i
  pub count_is : n ≡ length (spelling i)
  pub bytes_are : take n bytes ≡ spelling i

-- The encoding of the instruction i, which is in range, begins with this byte.
pub record Begins {I : Type 0} (Ranges : I → Type 0) (spelling : I → List ℕ) (i : I) (byte : ℕ) : Type 0 where
  pub in_range : Ranges i
  pub tail : List ℕ
  pub bytes_are : spelling i ≡ byte ∷ tail

-- Why bytes that begin with no instruction are refused (profile: the order of the causes). `Cut`: there is no byte.
-- `Unknown`, with the first byte: no instruction begins with it. `Cut`: an instruction that begins with the first byte
-- is longer than the bytes. `BadField`: an instruction that begins with the first byte is not longer than the bytes.
abbrev pub Refused : {I : Type 0} → (I → Type 0) → (I → List ℕ) → List ℕ → DecodeFault → Type 0
Refused Ranges spelling [] Cut = Unit {0}
Refused Ranges spelling [] _ = ⊥
Refused {I = I} Ranges spelling (first ∷ rest) (Unknown b) = (b ≡ first) × ((i : I) → Begins Ranges spelling i first → ⊥)
Refused {I = I} Ranges spelling (first ∷ rest) Cut =
    (i : I) × Begins Ranges spelling i first × (length (first ∷ rest) < length (spelling i))
Refused {I = I} Ranges spelling (first ∷ rest) BadField =
    (i : I) × Begins Ranges spelling i first × (length (spelling i) ≤ length (first ∷ rest))

-- an instruction and its length in bytes, or a fault
abbrev pub Found : Type 0 → Type 0
Found I = Result (I × ℕ) DecodeFault

-- The result in a grammar with more instructions, by the result in one with fewer: where none of those has the first
-- byte, `more` decides.
abbrev pub or_more : {I J : Type 0} → (I → J) → (ℕ → List ℕ → Found J) → List ℕ → Found I → Found J
or_more into more bytes (Ok x) = Ok (into x.0, x.1)
or_more into more bytes (Err (Unknown b)) = more b bytes
or_more into more bytes (Err fault) = Err fault

-- What a call of a program prints, and how it is written.
use Rattle.std.specs.Prelude.{◌≡◌, ◌⊎◌, ◌||◌, ℕ, nat_lt, Bool, if◌then◌else◌, List, [], ◌∷◌, ◌++◌, length, Option, Result, Ok, Err}
use Rattle.dma_io.specs.{Command.Failures, Command.WroteAll, declared.output.OutputFailed.OutputFailed, declared.answer.Answer.Answer}

-- What a call prints: to standard output, to standard error, and into the file that an option names; and whether it
-- succeeds.
pub record Prints : Type 0 where
  pub out : List ℕ
  pub err : List ℕ
  pub file : List ℕ
  pub succeeds : Bool

-- Whether the file that an option names is written: if the call succeeds, or if it fails and has bytes for the file, as
-- a failed trace has, and a race with an expect line that fails.
abbrev pub writes_file : Prints → Bool
writes_file p = p.succeeds || nat_lt 0 (length p.file)

-- what an answer prints
abbrev pub prints_of : Answer → Prints
prints_of a = record { out = a.out.items; err = a.err.items; file = a.file.items; succeeds = a.succeeds }

-- A note follows the message on standard error; everything else stays.
abbrev pub with_note : Prints → List ℕ → Prints
with_note p note = record p { err = p.err ++ note }

-- a message after the name of the input and a colon; an empty message stays empty
abbrev pub named : List ℕ → List ℕ → List ℕ
named name [] = []
named name (b ∷ message) = name ++ 58 ∷ [] ++ (b ∷ message)

-- The name of the input and a colon precede the message on standard error, if there is one.
abbrev pub under_name : List ℕ → Prints → Prints
under_name name p = record p { err = named name p.err }

-- How a call ends (profile): both texts are written, and the status is 0 if the call succeeds, else 1; or a write
-- failed. `old` and `new` are the bytes that a writer held before and holds now.
abbrev pub Delivers
    : Prints → Failures → Failures → Option (List ℕ) → Option (List ℕ) → Option (List ℕ) → Option (List ℕ)
    → Result ℕ OutputFailed → Type 0
Delivers p out err old_out new_out old_err new_err (Ok status) =
    (status ≡ (if p.succeeds then 0 else 1)) × WroteAll out old_out new_out p.out × WroteAll err old_err new_err p.err
Delivers p out err old_out new_out old_err new_err (Err failed) = out.after ⊎ err.after

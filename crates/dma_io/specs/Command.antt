-- What a command prints for an input, and how a call of it may end.
use Rattle.std.specs.Prelude.{◌≡◌, ◌<◌, ◌≤◌, ◌⊎◌, ℕ, List, [], ◌∷◌, ◌++◌, flat_map, take, length, codes, Option, IfSome, IfOk, OnErr, OnOk, Result}
use Rattle.std.specs.Io.KnownBytes.{Appends}

-- What a command prints: for each input line the lines that it prints, without their line feeds, and the exit status. A
-- command that prints all or nothing has one group, maybe an empty one.
pub record Printed : Type 0 where
  pub groups : List (List (List ℕ))
  pub status : ℕ

-- the text of lines, with a line feed after each
abbrev pub text_of : List (List ℕ) → List ℕ
text_of lines = flat_map (λ line. line ++ 10 ∷ []) lines

-- the text of one group after another
abbrev pub printed_text : List (List (List ℕ)) → List ℕ
printed_text groups = flat_map text_of groups

-- the length of the longest input that is accepted, in bytes (profile)
abbrev pub longest_input : ℕ
longest_input = 4194304

-- the output of one line and status 1
abbrev pub refusal : List ℕ → Printed
refusal line = record { groups = (line ∷ []) ∷ []; status = 1 }

-- What may be printed for an input of any length, given what may be printed for one that is not too long (profile). For
-- an input that is too long it is the line `line 0: InputTooLong`, with status 1.
abbrev pub may_print_within : (List ℕ → Printed → Type 0) → List ℕ → Printed → Type 0
may_print_within may input printed =
    ((longest_input < length input) × (printed ≡ refusal (codes "line 0: InputTooLong")))
    ⊎ ((length input ≤ longest_input) × may input printed)

-- A command that prints one text for each input prints this text, or refuses an input that is too long.
abbrev pub printed_within : (List ℕ → Printed) → List ℕ → Printed → Type 0
printed_within printed = may_print_within (λ input p. p ≡ printed input)

-- The new bytes are the old ones and then the text of the first groups, with at least one group missing.
pub record AppendsGroups (groups : List (List (List ℕ))) (old new : List ℕ) : Type 0 where
  pub count : ℕ
  pub some_left : count < length groups
  pub whole : new ≡ old ++ printed_text (take count groups)

-- How a command answers (profile): the whole text is appended, and the result is its status; or it is out of memory,
-- and the text of the first groups is appended, with at least one group missing.
pub record Answers {E : Type 0} (printed : Printed) (result : Result ℕ E) (old new : List ℕ) : Type 0 where
  pub text : OnOk result (new ≡ old ++ printed_text printed.groups)
  pub status : IfOk result (λ status. status ≡ printed.status)
  pub refused : OnErr result (AppendsGroups printed.groups old new)

-- A command answers so for a text that may be printed.
pub record MayAnswer {E : Type 0} (may : Printed → Type 0) (result : Result ℕ E) (old new : List ℕ) : Type 0 where
  pub printed : Printed
  pub allowed : may printed
  pub answers : Answers printed result old new

-- The failures of a stream: whether a call of it had failed before, and whether one has failed by now.
pub record Failures : Type 1 where
  pub before : Type 0
  pub after : Type 0

-- the failures of a stream that was `old` before and is `new` now
abbrev pub failures : {S : Type 0} → (S → Type 0) → S → S → Failures
failures has_failed old new = record { before = has_failed old; after = has_failed new }

-- No call of the stream failed in between: if one has failed by now, one had failed before.
abbrev pub Unfailed : Failures → Type 0
Unfailed stream = stream.after → stream.before

-- How a call of a command ends (profile). `old` and `new` are the bytes that the writer held before and holds now, if
-- they are known. `complete`: the whole of a text that may be printed was printed, with its status. `out_of_memory`:
-- exactly the first groups of such a text were printed, with at least one group missing, and the status is 3.
-- `input_fault`: a read has failed, the line `input failed` was printed, and the status is 1. `output_fault`: a write
-- has failed, and the status is 1. In the first two no call of a stream failed, and in the third no call of the writer:
-- a failure is never retried and hidden.
pub data Ends (reader writer : Failures) (may : Printed → Type 0) (old new : Option (List ℕ)) (status : ℕ) : Type 0 where
  complete : Unfailed reader → Unfailed writer → (printed : Printed) → may printed
      → Appends old new (printed_text printed.groups) → status ≡ printed.status
      → Ends reader writer may old new status
  out_of_memory : Unfailed reader → Unfailed writer → (printed : Printed) → may printed
      → (count : ℕ) → count < length printed.groups → Appends old new (printed_text (take count printed.groups))
      → status ≡ 3 → Ends reader writer may old new status
  input_fault : reader.after → Unfailed writer → Appends old new (text_of (codes "input failed" ∷ [])) → status ≡ 1
      → Ends reader writer may old new status
  output_fault : writer.after → status ≡ 1 → Ends reader writer may old new status

-- The text was written, and no write failed.
abbrev pub WroteAll : Failures → Option (List ℕ) → Option (List ℕ) → List ℕ → Type 0
WroteAll writer old new text = Appends old new text × Unfailed writer

-- The text was written, and the exit status is `status`; or a write has failed, and it is 1.
abbrev pub Wrote : Failures → Option (List ℕ) → Option (List ℕ) → List ℕ → ℕ → ℕ → Type 0
Wrote writer old new text status result =
    ((result ≡ status) × WroteAll writer old new text) ⊎ ((result ≡ 1) × writer.after)

-- How a call ends that has no input to run. `reader_failed`: a read has failed, and `Wrote` holds for the line
-- `input failed` and status 1. `too_long`: the input, if it is known, is longer than `longest_input`, no read failed,
-- and `Wrote` holds for the line `line 0: InputTooLong` and status 1. `no_memory`: no call of a stream failed, nothing
-- was written, and the status is 3.
pub data EndsUnread
    (input : Option (List ℕ)) (reader writer : Failures) (old new : Option (List ℕ)) (status : ℕ) : Type 0 where
  reader_failed : reader.after → Wrote writer old new (text_of (codes "input failed" ∷ [])) 1 status
      → EndsUnread input reader writer old new status
  too_long : IfSome input (λ all. longest_input < length all) → Unfailed reader
      → Wrote writer old new (text_of (codes "line 0: InputTooLong" ∷ [])) 1 status
      → EndsUnread input reader writer old new status
  no_memory : Unfailed reader → Unfailed writer → new ≡ old → status ≡ 3 → EndsUnread input reader writer old new status

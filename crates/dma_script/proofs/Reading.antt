-- What is read of a line's words, value by value.
use Rattle.std.proofs.Common.{arith}
use Rattle.std.proofs.Common.{◌≡◌, ℕ, ◌<◌, ◌≤◌, ◌&&◌, ◌⊎◌, nat_le, refl, ap, ◌∙◌, sym, List, [], ◌∷◌, ◌++◌, Some, Result, Ok, Err}
use Rattle.std.proofs.lemmas.Bool.{le-leb, lt-leb}
use Rattle.dma_text.specs.Results.{◌>>=◌}
use Rattle.dma_script.specs.Arguments.{byte, makes, meaning, Shape}
use Rattle.dma_script.specs.inner.Reading.{LineRead, added_to, ended, line_added, number_from, read as read_words, statement_added, transfer_from, unread, within_from}
use Rattle.dma_script.specs.{Lines.Gives, Race.job, Race.job_line, Race.where_holds}
use Rattle.dma_script.specs.{Statements.later_line, Statements.memory, Statements.next_line, Statements.statement, declared.fault.Cause.Cause}
use Rattle.dma_script.specs.{declared.fault.ReadError.ReadError}
use Rattle.dma_script.specs.{declared.transfer_line.TransferLine.TransferLine, declared.statements.Keyword.Keyword, declared.race.JobLine.JobLine}
use Rattle.dma_script.specs.{declared.statements.Keyword.TheVariants.Submit, declared.statements.RunScript.RunScript, declared.statements.Statement.Statement}
use Rattle.dma_mem.specs.Limits.{largest_size, last_channel, most_channels}
use Rattle.dma_script.proofs.Agreement.{whole, words_agree}
use Rattle.dma_script.specs.declared.fault.Cause.TheVariants as causes
use Rattle.dma_script.specs.declared.statements.Statement.TheVariants as statements

-- A line whose words were read, before its end.
pub line_read : {A : Type 0} (shape : Shape A) (words : List (List ℕ)) (found : A × LineRead) (done : Result (Unit {0}) Cause)
    → found ≡ read_words shape (unread words) → done ≡ ended found.1 → (done >>= (λ u. Ok found.0)) ≡ meaning shape words
line_read shape words found done e is = ap (λ done. done >>= (λ u. Ok found.0)) is ∙ ap whole e ∙ words_agree shape words

made_then : {A B : Type 0} (done : Result (Unit {0}) Cause) (a : A) (f : A → Result B Cause) → (done >>= (λ u. f a)) ≡ ((done >>= (λ u. Ok a)) >>= f)
made_then done a f = grind (arith)

-- The words of a line were read, and then its end was checked. Going on from what was read is going on from the words'
-- meaning.
line_then : {A B : Type 0} (shape : Shape A) (words : List (List ℕ)) (found : A × LineRead) (done : Result (Unit {0}) Cause) (f : A → Result B Cause)
    → found ≡ read_words shape (unread words) → done ≡ ended found.1 → (done >>= (λ u. f found.0)) ≡ (meaning shape words >>= f)
line_then shape words found done f e is = made_then done found.0 f ∙ ap (λ made. made >>= f) (line_read shape words found done e is)

-- A channel and a transfer, one after the other.
pub submit_read : (before : List Statement) (line between after : LineRead) (ch : ℕ) (read : TransferLine) → (ch, between) ≡ read_words (byte makes) line
    → (read, after) ≡ transfer_from between → statement_added Submit before line ≡ Ok (before ++ statements.Submit ch read ∷ [], after)
submit_read before line between after ch read p q =
    ap (λ (first : ℕ × LineRead). let next = transfer_from first.1 in added_to before (statements.Submit first.0 next.0, next.1)) (sym p)
    ∙ ap (λ (next : TransferLine × LineRead). added_to before (statements.Submit ch next.0, next.1)) (sym q)

added_read : (found : Result (Shape Statement) Cause) (words : List (List ℕ)) (before after : List Statement) (line : LineRead)
    (done : Result (Unit {0}) Cause)
    → (found >>= (λ shape. added_to before (read_words shape (unread words)))) ≡ Ok (after, line) → done ≡ ended line
    → ((found >>= (λ shape. meaning shape words)) >>= (λ statement. Ok (before ++ statement ∷ []))) ≡ (done >>= (λ u. Ok after))
added_read (Err cause) words before after line done e is = absurd cc
added_read (Ok shape) words before after line done e is =
    let read = read_words shape (unread words) in
    let same : (before ++ read.0 ∷ [], read.1) ≡ (after, line) = cc in
    sym (line_then shape words read done (λ statement. Ok (before ++ statement ∷ [])) refl (is ∙ ap (λ (p : List Statement × LineRead). ended p.1) (sym same)))
    ∙ ap (λ (p : List Statement × LineRead). done >>= (λ u. Ok p.0)) same

-- A statement that was added before the end of its line.
pub statement_read : (keyword : Keyword) (words : List (List ℕ)) (before after : List Statement) (line : LineRead) (done : Result (Unit {0}) Cause)
    → statement_added keyword before (unread words) ≡ Ok (after, line) → done ≡ ended line
    → line_added keyword before words ≡ (done >>= (λ u. Ok after))
statement_read keyword words before after line done e is = added_read (statement keyword) words before after line done e is

-- What a result gives is also given with a function applied to it.
gives_applied : {A B F X Y : Type 0} (f : X → Y) (made : A → X) (after : X) (read : Result A F) (result : Result B (ReadError F))
    → Gives (λ _. after) result (read >>= (λ a. Ok (made a))) → Gives (λ _. f after) result (read >>= (λ a. Ok (f (made a))))
gives_applied f made after read result h = grind (arith)

-- A script and the line that was added to it.
pub script_given : (keyword : Keyword) (words : List (List ℕ)) (script : RunScript) (after : List Statement) (result : Result (Unit {0}) (ReadError Cause))
    → Gives (λ _. after) result (line_added keyword script.statements words)
    → Gives (λ _. Some (record script { statements = after })) result (next_line (Some script) keyword words)
script_given keyword words script after result gives =
    gives_applied (λ after. Some (record script { statements = after })) (λ statement. script.statements ++ statement ∷ []) after
    (later_line keyword words) result gives

-- a script of a size and channels
abbrev pub script_of : ℕ → ℕ → RunScript
script_of size channels = record { size = size; channels = channels; statements = [] }

-- A memory line before its end.
pub memory_read : (words : List (List ℕ)) (size channels : ℕ) (between after : LineRead) (done : Result (Unit {0}) Cause)
    → (size, between) ≡ within_from 1 largest_size causes.SizeOutOfRange (unread words)
    → (channels, after) ≡ within_from 1 most_channels causes.BadChannels between → done ≡ ended after
    → (done >>= (λ u. Ok (script_of size channels))) ≡ meaning memory words
memory_read words size channels between after done p q is =
    line_read memory words (script_of size channels, after) done
    (ap (λ (read : ℕ × LineRead). (script_of size read.0, read.1)) q
    ∙ ap (λ (read : ℕ × LineRead). let next = within_from 1 most_channels causes.BadChannels read.1 in (script_of read.0 next.0, next.1)) p) is

-- a job, if it is in range
abbrev pub job_of : JobLine → Result JobLine Cause
job_of job = where_holds (nat_le job.first job.last && nat_le job.last last_channel) causes.Range >>= (λ in_range. Ok job)

-- A job before the end of a line.
pub job_read : (words : List (List ℕ)) (first last turns : ℕ) (one two three : LineRead) (done : Result (Unit {0}) Cause)
    → (first, one) ≡ number_from (unread words) → (last, two) ≡ number_from one
    → (turns, three) ≡ number_from two → done ≡ ended three
    → (done >>= (λ u. job_of (record { first = first; last = last; turns = turns }))) ≡ job_line words
job_read words first last turns one two three done p q r is = grind (arith, line_then)

pub a_job : (job : JobLine) → job.first ≤ job.last → job.last ≤ last_channel → job_of job ≡ Ok job
a_job job p q = rw (le-leb job.first job.last p, le-leb job.last last_channel q) refl

pub no_job : (job : JobLine) → (job.last < job.first) ⊎ ((job.first ≤ job.last) × (last_channel < job.last)) → job_of job ≡ Err causes.Range
no_job job h = grind (arith, lt-leb, le-leb)

-- What is printed of why each channel is where it is (profile).
use Rattle.std.specs.Prelude.{ℕ, ◌+◌, ◌-◌, ◌==◌, ◌++◌, if◌then◌else◌, Option, Some, None, unwrap_or, Result, Ok, Err, List, [], ◌∷◌, codes, decimal, map}
use Rattle.std.specs.Prelude.{slice_get}
use Rattle.std.specs.{Option.option_map, Option.option_map_or, Option.option_to_list, List.flat_map, List.range_with_len}
use Rattle.dma_mem.specs.Places.{Descriptor, destinations, size_of, sources}
use Rattle.dma_text.specs.Digits.{hex_digits}
use Rattle.dma_engine.specs.declared.turn.Turn.TheVariants.{Nothing, Held, Started, Moved, Waiting, Paused, Halted, Finished}
use Rattle.dma_engine.specs.Object.{Object, channel, finished, no_transfer, unfinished}
use Rattle.dma_engine.specs.{declared.fault.EngineFault.EngineFault, declared.outcome.Outcome.Outcome, declared.outcome.TransResult.TransResult}
use Rattle.dma_engine.specs.{declared.outcome.TransResult.TheVariants.ReadFailed, declared.outcome.TransResult.TheVariants.WriteFailed, declared.turn.Turn.Turn}
use Rattle.dma_engine.specs.{Answer.done_on, Answer.result_of, Cookies.transfer_of, Turn.turn, View.View, View.channels, View.object_of}
use Rattle.dma_io.specs.Command.{Printed, refusal}
use Rattle.dma_script.specs.{Printing.fault_line, Statements.run_script_of, declared.fault.Fault.Fault, declared.statements.RunScript.RunScript}
use Rattle.dma_commands.specs.{Left.view_after, Printed.residue_text}
use Rattle.dma_why.specs.{declared.waits.Cookie.Cookie, declared.waits.Wait.Wait, Circles.circle_from, Waits.holders, Waits.signallers, Waits.waits_of}

-- ---- the front of a channel

-- the transfer of a cookie, or a transfer of nothing
abbrev pub transfer_or_none : Object → ℕ → ℕ → Descriptor
transfer_or_none o ch cookie = unwrap_or (transfer_of o ch cookie) no_transfer

-- `cookie N, D of S bytes`: the first unfinished cookie, issued or not, and how many of its bytes are stored
abbrev pub front_text : View → ℕ → List ℕ
front_text v ch =
    let o = object_of v in let cookie = finished (channel o ch) + 1 in
    if unfinished (channel o ch) == 0 then codes "nothing unfinished" else
    codes "cookie " ++ decimal cookie ++ codes ", " ++ decimal (done_on v ch) ++ codes " of "
    ++ decimal (size_of (transfer_or_none o ch cookie)) ++ codes " bytes"

-- The address at which a transfer failed with `done` bytes stored: that of the first byte that wasn't stored, at which
-- the burst began. It is a source if a load failed, and a destination if a store did.
abbrev pub failed_at : Descriptor → TransResult → ℕ → Option ℕ
failed_at t ReadFailed done = slice_get (sources t) done
failed_at t WriteFailed done = slice_get (destinations t) done
failed_at t _ done = None

-- ` at 0xADDRESS`
abbrev pub address_text : Option ℕ → List ℕ
address_text found = option_map_or (λ addr. codes " at 0x" ++ hex_digits addr) found []

-- `NAME residue N at 0xADDRESS`: how a cookie finished or will finish, and where it fails
abbrev pub ending_text : Descriptor → TransResult → ℕ → List ℕ
ending_text t result residue = residue_text result residue ++ address_text (failed_at t result (size_of t - residue))

-- the end of the last cookie that finished, which is the one that failed if the channel is halted; nothing if it is
-- forgotten
abbrev pub last_text : Object → ℕ → Option Outcome → List ℕ
last_text o ch None = []
last_text o ch (Some x) =
    let cookie = finished (channel o ch) in
    codes ", cookie " ++ decimal cookie ++ codes " finished " ++ ending_text (transfer_or_none o ch cookie) x.result x.residue

-- `cookie N of channel CH`
abbrev pub cookie_text : Cookie → List ℕ
cookie_text cookie = codes "cookie " ++ decimal cookie.number ++ codes " of channel " ++ decimal cookie.ch

-- the texts of some values, with a text between each two
abbrev pub texts_between : {X : Type 0} → List ℕ → (X → List ℕ) → List X → List ℕ
texts_between between text [] = []
texts_between between text (x ∷ xs) = text x ++ flat_map (λ y. between ++ text y) xs

-- What a channel does, by the result that its next step would have.
abbrev pub state_text : View → ℕ → Result Turn EngineFault → List ℕ
state_text v ch (Ok Nothing) = if unfinished (channel (object_of v) ch) == 0 then [] else codes ": not issued"
state_text v ch (Ok (Held other cookie)) = codes ": held by " ++ texts_between (codes ", ") cookie_text (holders v ch)
state_text v ch (Ok (Started cookie)) = codes ": can start"
state_text v ch (Ok Moved) = codes ": runs"
state_text v ch (Ok (Waiting event)) = codes ": waits for event " ++ decimal event
state_text v ch (Ok Paused) = codes ": paused"
state_text v ch (Ok Halted) =
    let o = object_of v in codes ": halted" ++ last_text o ch (result_of o ch (finished (channel o ch)))
state_text v ch (Ok (Finished cookie result residue)) =
    codes ": next finishes " ++ ending_text (transfer_or_none (object_of v) ch cookie) result residue
state_text v ch (Err fault) = codes ": the step count is at its end"

-- ---- the lines of a channel

-- a cookie that would signal the event
abbrev pub signaller_line : Cookie → List ℕ
signaller_line cookie = codes "  " ++ cookie_text cookie ++ codes " would signal it"

-- the cookies that would signal the event, or that there is none
abbrev pub signaller_lines : List Cookie → List (List ℕ)
signaller_lines [] = codes "  no unfinished cookie would signal it" ∷ []
signaller_lines (first ∷ more) = map signaller_line (first ∷ more)

-- who would signal the event that a channel waits for
abbrev pub event_lines : Object → Result Turn EngineFault → List (List ℕ)
event_lines o (Ok (Waiting event)) = signaller_lines (signallers o event)
event_lines o _ = []

-- the lines of a channel whose next step has this result
abbrev pub lines_by : View → ℕ → Result Turn EngineFault → List (List ℕ)
lines_by v ch turned =
    (codes "channel " ++ decimal ch ++ codes ": " ++ front_text v ch ++ state_text v ch turned) ∷ event_lines (object_of v) turned

-- the lines of a channel
abbrev pub channel_lines : View → ℕ → List (List ℕ)
channel_lines v ch = lines_by v ch (turn v ch).0

-- ---- the lines of circles

-- a wait for a cookie, given the event for which it is, if any
abbrev pub waiting_text : Option ℕ → Cookie → List ℕ
waiting_text None by = codes " waits for channel " ++ decimal by.ch
waiting_text (Some event) by =
    codes " waits for event " ++ decimal event ++ codes ", which " ++ cookie_text by ++ codes " would signal"

-- a wait of a circle
abbrev pub wait_text : Wait → List ℕ
wait_text wait = waiting_text wait.event wait.by

-- a circle: its lowest channel and its waits, in order
abbrev pub circle_line : ℕ → List Wait → List ℕ
circle_line first circle = codes "circle: " ++ decimal first ++ texts_between (codes ", which") wait_text circle

-- the line of a circle whose lowest channel is this one, if there is one
abbrev pub circle_lines : List Wait → ℕ → ℕ → List (List ℕ)
circle_lines waits many first = option_to_list (option_map (circle_line first) (circle_from waits many first))

-- ---- all

-- Why each channel is where it is: the lines of each channel, then one for each channel that is the lowest of a circle.
abbrev pub explanation : View → List (List ℕ)
explanation v =
    let cs = range_with_len 0 (channels v) in
    flat_map (channel_lines v) cs ++ flat_map (circle_lines (waits_of v) (channels v)) cs

-- what is printed for a parsed script: the explanation of the view after it, or its first fault
abbrev pub why_printed_of : Result RunScript Fault → Printed
why_printed_of (Ok script) = record { groups = explanation (view_after script) ∷ []; status = 0 }
why_printed_of (Err fault) = refusal (fault_line fault)

-- What is printed for a script.
abbrev pub why_printed : List ℕ → Printed
why_printed input = why_printed_of (run_script_of input)

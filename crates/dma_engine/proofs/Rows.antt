-- Worked rows, computed from the definitions.
use Rattle.std.proofs.Common.{◌≡◌, ℕ, ◌<◌, ◌≤◌, List, [], ◌∷◌, Option, Some, None, true, false, refl, sym, arith, ◌++◌}
use Rattle.std.proofs.lemmas.Bool.{eqb-false}
use Rattle.dma_mem.specs.{Places.Descriptor, Places.filling, Places.lies_below, Places.share, Image.put, Image.after_moves, declared.marks.MarkKind.MarkKind}
use Rattle.dma_mem.specs.{declared.marks.MarkKind.TheVariants.Reading, declared.marks.MarkKind.TheVariants.Writing, Marking.meets_mark, declared.call.Call.Call}
use Rattle.dma_mem.proofs.TransferRules.{IsTransfer_from_no_refusal}
use Rattle.dma_insn.specs.ControlWord.{bits_of, end_bits}
use Rattle.dma_chan.specs.{Compiled.beat_of, Compiled.parts, Compiled.members, Traffic.member, Traffic.stored_after, Traffic.burst, Bursts.burst_at}
use Rattle.dma_engine.specs.declared.entry.Entry.TheVariants.{Wrote, ReadBack, Submitted, Issued, Signalled, Finished, Marked}
use Rattle.dma_engine.specs.declared.turn.Status.TheVariants.{Unknown, InProgress, Complete}
use Rattle.dma_engine.specs.declared.fault.EngineFault.TheVariants.{OutOfMemoryRange, Busy, Running, NoChannel, BadEvent, BadRange, CookiesSpent, StepsSpent}
use Rattle.dma_engine.specs.declared.outcome.TransResult.TheVariants.{NoError, ReadFailed, Aborted}
use Rattle.dma_engine.specs.Object.{Object, opening, Allows, used}
use Rattle.dma_engine.specs.View.{View, channels, new_fault, new_view, running, size, state_at}
use Rattle.dma_engine.specs.{declared.entry.Entry.Entry, declared.entry.Signaller.TheVariants.Host, declared.call.Reply.Reply}
use Rattle.dma_engine.specs.{declared.fault.NewFault.TheVariants.BadChannels, declared.fault.NewFault.TheVariants.SizeOutOfRange, Ticks.added_up}
use Rattle.dma_engine.specs.{History.object_after, History.IsLegal, Answer.answer, Answer.answers}
use Rattle.dma_mem.specs.declared.call.Call.TheVariants.{Write, Read, Submit, Issue, Pause, Resume, Terminate, Step, Status, Mark, Raise, Checkpoint}
use Rattle.dma_mem.specs.declared.call.Call.TheVariants.{Result as ResultOf}
use Rattle.dma_engine.specs.declared.call.Reply.TheVariants.{Done, Bytes, Cookie, Count, Turned, State, Result as Resulted, Refused}
use Rattle.dma_engine.specs.declared.turn.Turn.TheVariants.{Nothing, Held, Started, Moved, Waiting, Paused, Halted, Finished as TurnFinished}
use Rattle.std.specs.Prelude.{replicate}
use Rattle.dma_mem.specs.declared.segment.Segment.{Segment}

-- a range, a transfer of n bytes from one range to another, and one of a byte with events
abbrev range : ℕ → ℕ → Segment
range addr len = record { addr = addr; len = len }

abbrev copy : ℕ → ℕ → ℕ → Descriptor
copy from to n = record { fill = false; src = range from n ∷ []; dst = range to n ∷ []; wait = None; signal = None }

-- it, submitted to channel 0
abbrev submit : ℕ → ℕ → ℕ → Call
submit from to n = Submit 0 (copy from to n)

abbrev byte : ℕ → ℕ → Option ℕ → Option ℕ → Descriptor
byte from to wait signal = record (copy from to 1) { wait = wait; signal = signal }

-- the replies to calls on a new engine with this size and number of channels
abbrev replies : ℕ → ℕ → List Call → List Reply
replies size channels calls = (answers (new_view size channels) calls).0

-- n steps of channel 0, n replies that it moved, and the reply that a cookie was aborted
abbrev steps : ℕ → List Call
steps n = replicate n (Step 0)

abbrev moved : ℕ → List Reply
moved n = replicate n (Turned Moved)

abbrev aborted : ℕ → Reply
aborted n = Resulted (Some (record { result = Aborted; residue = n }))

-- ---- the object

-- two bytes are written, copied and read
abbrev copied : List Entry
copied = Wrote 0 (17 ∷ 34 ∷ []) ∷ Submitted 0 (copy 0 2 2) 1 ∷ Issued 0 ∷ Finished 0 NoError 2 ∷ ReadBack 1 (34 ∷ 17 ∷ []) ∷ []

copied_image : (object_after (opening 4 1) copied).image ≡ 17 ∷ 34 ∷ 17 ∷ 34 ∷ []
unfolding opening put after_moves
copied_image = refl

copied_is_legal : IsLegal (opening 4 1) copied
unfolding opening put after_moves share
copied_is_legal = (
  omega arith,
  (
    (omega arith, IsTransfer_from_no_refusal (copy 0 2 2) (λ e. absurd (cc)) refl, refl, refl, omega arith),
    (omega arith, ((refl, ((λ waits. waits), (λ signals. signals), refl)), ((omega arith, refl), tt))),
  ),
)

-- a byte is to be copied from a range with a mark
abbrev over_a_mark : MarkKind → Object
over_a_mark kind = object_after (opening 4 1) (Submitted 0 (copy 0 2 2) 1 ∷ Issued 0 ∷ Marked kind (range 1 1) ∷ [])

a_marked_source_fails : Allows (over_a_mark Reading) (Finished 0 ReadFailed 0)
unfolding opening meets_mark
a_marked_source_fails = (refl, ((λ waits. waits), refl, omega arith, refl))

other_kind_fails_nothing : Allows (over_a_mark Writing) (Finished 0 ReadFailed 0) → ⊥
unfolding opening meets_mark
other_kind_fails_nothing allowed = eqb-false 0 0 (sym allowed.1.3) refl

-- three bytes are filled with the one before them
abbrev filled : List Entry
filled = Wrote 0 (17 ∷ []) ∷ Submitted 0 (filling 0 (range 1 3 ∷ []) None None) 1 ∷ Issued 0 ∷ Finished 0 NoError 3 ∷ []

filled_image : (object_after (opening 4 1) filled).image ≡ 17 ∷ 17 ∷ 17 ∷ 17 ∷ []
unfolding opening put after_moves
filled_image = refl

-- a mark on a fill's byte can fail it at its first byte, and after its second
abbrev fill_of_a_marked_byte : Object
fill_of_a_marked_byte =
    object_after (opening 4 1)
    (Submitted 0 (filling 0 (range 1 3 ∷ []) None None) 1 ∷ Issued 0 ∷ Marked Reading (range 0 1) ∷ [])

fails_at_its_first_byte : Allows fill_of_a_marked_byte (Finished 0 ReadFailed 0)
unfolding opening meets_mark
fails_at_its_first_byte = (refl, ((λ waits. waits), refl, omega arith, refl))

fails_after_its_second_byte : Allows fill_of_a_marked_byte (Finished 0 ReadFailed 2)
unfolding opening meets_mark
fails_after_its_second_byte = (refl, ((λ waits. waits), refl, omega arith, refl))

-- ---- answers

held_by_the_lowest : replies 16 3
    (submit 0 4 1 ∷ Submit 1 (copy 1 5 1) ∷ Submit 2 (copy 4 8 2) ∷ Issue 0 ∷ Issue 1 ∷ Issue 2 ∷ Step 0 ∷ Step 1 ∷ Step 2 ∷ [])
    ≡ Cookie 1 ∷ Cookie 1 ∷ Cookie 1 ∷ Count 1 ∷ Count 1 ∷ Count 1 ∷ Turned (Started 1) ∷ Turned (Started 1) ∷ Turned (Held 0 1) ∷ []
unfolding opening put after_moves share running
held_by_the_lowest = refl

busy_with_a_later_cookie : replies 16 2
    (Submit 1 (copy 0 4 2) ∷ Terminate 1 ∷ Submit 1 (copy 0 4 2) ∷ Issue 1 ∷ Step 1 ∷ Write 1 (7 ∷ []) ∷ Read 1 1 ∷ Read 5 1 ∷ Write 15 (7 ∷ 7 ∷ []) ∷ [])
    ≡ Cookie 1 ∷ Count 1 ∷ Cookie 2 ∷ Count 1 ∷ Turned (Started 2) ∷ Refused (Busy 1 2) ∷ Bytes (0 ∷ []) ∷ Refused (Busy 1 2) ∷ Refused OutOfMemoryRange ∷ []
unfolding opening put after_moves share running
busy_with_a_later_cookie = refl

how_far_a_cookie_is : replies 16 1
    (submit 0 4 2 ∷ Terminate 0 ∷ submit 0 4 2 ∷ Status 0 0 ∷ Status 0 1 ∷ Status 0 2 ∷ Status 0 3 ∷ Status 1 1 ∷ [])
    ≡ Cookie 1 ∷ Count 1 ∷ Cookie 2 ∷ State Unknown ∷ State Complete ∷ State InProgress ∷ State Unknown ∷ State Unknown ∷ []
unfolding opening put after_moves share
how_far_a_cookie_is = refl

-- three bytes go in bursts of two and one; the first is stored when the channel is terminated
residues_of_a_terminate : replies 16 1
    (Write 0 (17 ∷ 34 ∷ 51 ∷ []) ∷ submit 0 8 3 ∷ submit 0 4 2 ∷ Issue 0 ∷ steps 7 ++ Terminate 0 ∷ ResultOf 0 1 ∷ ResultOf 0 2 ∷ ResultOf 0 3 ∷ Read 8 3 ∷ [])
    ≡ Done ∷ Cookie 1 ∷ Cookie 2 ∷ Count 2 ∷ Turned (Started 1) ∷ moved 6 ++ Count 2 ∷ aborted 1 ∷ aborted 2 ∷ Resulted None ∷ Bytes (17 ∷ 34 ∷ 0 ∷ []) ∷ []
unfolding opening put after_moves share running member members stored_after burst meets_mark parts beat_of bits_of end_bits burst_at
residues_of_a_terminate = refl

-- a fill's two pieces are a burst each; the first is stored when the channel is terminated
a_fill_stops_halfway : replies 16 1
    (Write 0 (17 ∷ []) ∷ Submit 0 (filling 0 (range 8 2 ∷ range 12 1 ∷ []) None None) ∷ Issue 0 ∷ steps 7 ++ Terminate 0 ∷ ResultOf 0 1 ∷ Read 8 5 ∷ [])
    ≡ Done ∷ Cookie 1 ∷ Count 1 ∷ Turned (Started 1) ∷ moved 6 ++ Count 1 ∷ aborted 1 ∷ Bytes (17 ∷ 17 ∷ 0 ∷ 0 ∷ 0 ∷ []) ∷ []
unfolding opening put after_moves share running member members stored_after burst meets_mark parts beat_of bits_of end_bits burst_at
a_fill_stops_halfway = refl

one_event_lets_one_pass : replies 16 2
    (Submit 0 (byte 0 4 (Some 3) None) ∷ Submit 1 (byte 0 8 (Some 3) None) ∷ Issue 0 ∷ Issue 1 ∷ Step 0 ∷ Step 1 ∷ Step 0 ∷ Raise 3 ∷ Step 1 ∷ Step 0 ∷
    Raise 32 ∷ [])
    ≡ Cookie 1 ∷ Cookie 1 ∷ Count 1 ∷ Count 1 ∷ Turned (Started 1) ∷ Turned (Started 1) ∷ Turned (Waiting 3) ∷ Done ∷ Turned Moved ∷ Turned (Waiting 3) ∷
    Refused BadEvent ∷ []
unfolding opening put after_moves share running member members
one_event_lets_one_pass = refl

a_failed_load_halts : replies 16 1
    (Mark Reading (range 0 1) ∷ submit 0 4 1 ∷ submit 1 4 1 ∷ Issue 0 ∷ steps 6 ++ Terminate 0 ∷ Step 0 ∷ [])
    ≡ Done ∷ Cookie 1 ∷ Cookie 2 ∷ Count 2 ∷ Turned (Started 1) ∷ moved 3 ++ Turned (TurnFinished 1 ReadFailed 1) ∷ Turned Halted ∷ Count 1 ∷ Turned Nothing ∷
    []
unfolding opening put after_moves share running member members stored_after burst meets_mark parts beat_of bits_of end_bits burst_at
a_failed_load_halts = refl

other_kind_stops_nothing : replies 16 1
    (Mark Writing (range 0 1) ∷ submit 0 4 1 ∷ Issue 0 ∷ steps 5)
    ≡ Done ∷ Cookie 1 ∷ Count 1 ∷ Turned (Started 1) ∷ moved 4
unfolding opening put after_moves share running member members stored_after burst meets_mark parts beat_of bits_of end_bits burst_at
other_kind_stops_nothing = refl

a_copy_to_its_end : replies 16 1
    (Write 0 (17 ∷ []) ∷ submit 0 4 1 ∷ Step 0 ∷ Issue 0 ∷ Pause 0 ∷ Step 0 ∷ Resume 0 ∷ steps 10 ++ Read 4 1 ∷ Step 1 ∷ [])
    ≡ Done ∷ Cookie 1 ∷ Turned Nothing ∷ Count 1 ∷ Done ∷ Turned Paused ∷ Done ∷ Turned (Started 1) ∷ moved 7 ++ Turned (TurnFinished 1 NoError 0) ∷
    Turned Nothing ∷ Bytes (17 ∷ []) ∷ Refused NoChannel ∷ []
unfolding opening put after_moves share running member members stored_after burst meets_mark parts beat_of bits_of end_bits burst_at
a_copy_to_its_end = refl

-- a signal of one channel lets another pass
a_signal_lets_one_pass : replies 16 2
    (Submit 0 (byte 0 4 None (Some 5)) ∷ Submit 1 (byte 0 8 (Some 5) None) ∷ Issue 0 ∷ Issue 1 ∷ Step 0 ∷ Step 1 ∷ steps 7 ++ Step 1 ∷ Step 0 ∷ Step 1 ∷ [])
    ≡ Cookie 1 ∷ Cookie 1 ∷ Count 1 ∷ Count 1 ∷ Turned (Started 1) ∷ Turned (Started 1) ∷ moved 7 ++ Turned (Waiting 5) ∷ Turned Moved ∷ Turned Moved ∷ []
unfolding opening put after_moves share running member members stored_after burst meets_mark parts beat_of bits_of end_bits burst_at
a_signal_lets_one_pass = refl

-- ---- limits

one_channel_at_least : new_fault 16 0 ≡ Some BadChannels
one_channel_at_least = refl

eight_channels_at_most : new_fault 16 8 ≡ None
eight_channels_at_most = refl

not_nine : new_fault 16 9 ≡ Some BadChannels
not_nine = refl

no_memory_of_nothing : new_fault 0 1 ≡ Some SizeOutOfRange
no_memory_of_nothing = refl

the_largest_memory : new_fault 4294963200 1 ≡ None
the_largest_memory = refl

no_larger_memory : new_fault 4294963201 1 ≡ Some SizeOutOfRange
no_larger_memory = refl

events_up_to_31 : replies 16 1 (Raise 31 ∷ Raise 32 ∷ []) ≡ Done ∷ Refused BadEvent ∷ []
unfolding opening
events_up_to_31 = refl

marks_up_to_the_last_address : replies 16 1
    (Mark Reading (range 4294967295 1) ∷ Mark Reading (range 4294967295 2) ∷ Mark Writing (range 0 0) ∷ [])
    ≡ Done ∷ Refused BadRange ∷ Refused BadRange ∷ []
unfolding opening
marks_up_to_the_last_address = refl

-- what a history may have, whatever it had before
the_last_event : (o : Object) → Allows o (Signalled Host 31)
the_last_event o = omega arith

no_later_event : (o : Object) → Allows o (Signalled Host 32) → ⊥
no_later_event o allowed = let event : 32 ≤ 31 = allowed in omega arith

a_mark_to_the_last_address : (o : Object) (kind : MarkKind) → Allows o (Marked kind (range 4294967295 1))
a_mark_to_the_last_address o kind = (omega arith, omega arith)

no_mark_beyond_it : (o : Object) (kind : MarkKind) → Allows o (Marked kind (range 4294967295 2)) → ⊥
no_mark_beyond_it o kind allowed = let within : 4294967297 ≤ 4294967296 = allowed.1 in omega arith

no_mark_of_nothing : (o : Object) (kind : MarkKind) → Allows o (Marked kind (range 0 0)) → ⊥
no_mark_of_nothing o kind allowed = let some : 0 < 0 = allowed.0 in omega arith

-- of 300 bytes that are copied from address 0 on, one is marked
abbrev long_copy : ℕ → Object
long_copy at = object_after (opening 1024 1) (Submitted 0 (copy 0 512 300) 1 ∷ Issued 0 ∷ Marked Reading (range at 1) ∷ [])

-- the next 256 bytes can fail, and no byte after them
fails_within_256_bytes : Allows (long_copy 255) (Finished 0 ReadFailed 0)
unfolding opening meets_mark
fails_within_256_bytes = (refl, ((λ waits. waits), refl, omega arith, refl))

not_beyond_256_bytes : Allows (long_copy 256) (Finished 0 ReadFailed 0) → ⊥
unfolding opening meets_mark
not_beyond_256_bytes allowed = eqb-false 0 0 (sym allowed.1.3) refl

-- a view on which a byte's copy runs, at this step count
abbrev after_steps : ℕ → View
after_steps n = record ((answers (new_view 16 1) (submit 0 4 1 ∷ Issue 0 ∷ Step 0 ∷ [])).1) { steps = n }

the_last_step : (answer (after_steps 18446744073709551614) (Step 0)).0 ≡ Turned Moved
unfolding opening put after_moves share running member members stored_after burst meets_mark parts beat_of bits_of end_bits burst_at
the_last_step = refl

the_last_count : (answer (after_steps 18446744073709551614) (Step 0)).1.steps ≡ 18446744073709551615
unfolding opening put after_moves share running member members stored_after burst meets_mark parts beat_of bits_of end_bits burst_at
the_last_count = refl

no_step_after_it : answer (after_steps 18446744073709551615) (Step 0) ≡ (Refused StepsSpent, after_steps 18446744073709551615)
unfolding opening put after_moves share running member members stored_after burst meets_mark parts beat_of bits_of end_bits burst_at
no_step_after_it = refl

-- the last cookie of a channel, whatever was submitted before it
the_last_cookie : (v : View) (t : Descriptor) → channels v ≡ 1 → lies_below t (size v) ≡ true → used (state_at v 0) ≡ 2147483646
    → (answer v (Submit 0 t)).0 ≡ Cookie 2147483647
the_last_cookie v t many below given = rw (many, below, given) refl

no_cookie_after_it : (v : View) (t : Descriptor) → channels v ≡ 1 → lies_below t (size v) ≡ true → used (state_at v 0) ≡ 2147483647
    → answer v (Submit 0 t) ≡ (Refused CookiesSpent, v)
no_cookie_after_it v t many below given = rw (many, below, given) refl

no_count_above_32_bits : added_up 4294967294 1 ∷ added_up 4294967295 1 ∷ [] ≡ 4294967295 ∷ 4294967295 ∷ []
no_count_above_32_bits = refl

-- a checkpoint forgets how two cookies ended, and keeps the third, which has not run; it fails with `Running` while
-- that runs
forgotten_cookies : replies 16 1
    (submit 0 4 2 ∷ submit 0 8 2 ∷ Terminate 0 ∷ submit 0 4 2 ∷ Checkpoint ∷ ResultOf 0 2 ∷ Status 0 2 ∷ Status 0 3 ∷ Status 0 4 ∷ Issue 0 ∷ submit 0 8 2 ∷
    Step 0 ∷ Checkpoint ∷ [])
    ≡ Cookie 1 ∷ Cookie 2 ∷ Count 2 ∷ Cookie 3 ∷ Done ∷ Resulted None ∷ State Complete ∷ State InProgress ∷ State Unknown ∷ Count 1 ∷ Cookie 4 ∷
    Turned (Started 3) ∷ Refused (Running 0 3) ∷ []
unfolding opening put after_moves share running
forgotten_cookies = refl

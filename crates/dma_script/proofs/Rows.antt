-- Worked scripts, computed from the definitions.
use Rattle.std.proofs.Common.{◌≡◌, List, ℕ, [], ◌∷◌, ◌++◌, codes, flat_map, Some, None, Ok, Err, refl}
use Rattle.std.specs.List.{range_with_len}
use Rattle.dma_script.specs.declared.fault.Cause.TheVariants.{Byte, Command, First, Words, Number, Hex, Range, SizeOutOfRange, BadChannels, Go}
use Rattle.dma_script.specs.{Words.number_of, Statements.run_script_of, Race.race_script_of, Pairs.pairs_of, Plan.plain, Plan.plan_of}
use Rattle.dma_script.specs.{declared.fault.Cause.Cause, declared.statements.Statement.Statement}
use Rattle.dma_text.specs.Digits.{hex_digits, spaced_bytes}
use Rattle.dma_mem.specs.declared.segment.Segment.{Segment}
use Rattle.dma_mem.specs.declared.marks.MarkKind.TheVariants.{Reading, Writing}
use Rattle.dma_mem.specs.declared.call.Call.TheVariants as calls
use Rattle.dma_script.specs.declared.transfer_line.Origin.TheVariants as origins
use Rattle.dma_script.specs.declared.statements.Statement.TheVariants.{Call, Copy, Step, Submit, Totals}

-- a script of a memory line and others
abbrev after_memory : List ℕ → List ℕ
after_memory rest = codes "memory 64 1\n" ++ rest

-- Lines after a memory line are read as these statements.
abbrev Reads : List ℕ → List Statement → Type 0
Reads lines statements = run_script_of (after_memory lines) ≡ Ok (record { size = 64; channels = 1; statements = statements })

-- A line after a memory line has this fault.
abbrev Fails : List ℕ → Cause → Type 0
Fails line cause = run_script_of (after_memory line) ≡ Err (record { line = 2; cause = cause })

abbrev segment : ℕ → ℕ → Segment
segment addr len = record { addr = addr; len = len }

no_line : run_script_of [] ≡ Err (record { line = 0; cause = First })
no_line = refl

only_skipped : run_script_of (codes "# note\r\n \t") ≡ Err (record { line = 0; cause = First })
only_skipped = refl

first_run : Reads (codes "write 0x10 AA bb\r\ncopy 0x10+3 to 0x20+1,33+2\nread 0x1F+5\n")
    (Call (calls.Write 16 (170 ∷ 187 ∷ [])) ∷ Copy (plain (origins.List (segment 16 3 ∷ [])) (segment 32 1 ∷ segment 33 2 ∷ [])) ∷ Call (calls.Read 31 5) ∷ [])
first_run = refl

too_many_words : Fails (codes "read 4+ 5") Words
too_many_words = refl

wrong_to : Fails (codes "copy 1+x too 2+2") Words
wrong_to = refl

memory_again : Fails (codes "memory x") First
memory_again = refl

size_before_channels : run_script_of (codes "memory 0 9") ≡ Err (record { line = 1; cause = SizeOutOfRange })
size_before_channels = refl

too_large : run_script_of (codes "memory 4294963201 1") ≡ Err (record { line = 1; cause = SizeOutOfRange })
too_large = refl

channels_out_of_range : run_script_of (codes "memory 64 300" ++ 10 ∷ 128 ∷ []) ≡ Err (record { line = 1; cause = BadChannels })
channels_out_of_range = refl

unknown_first : run_script_of (codes "fetch 1") ≡ Err (record { line = 1; cause = Command })
unknown_first = refl

byte_before_first : run_script_of (codes "read zz" ++ 128 ∷ []) ≡ Err (record { line = 1; cause = Byte })
byte_before_first = refl

number_before_hex : Fails (codes "write zz gg") Number
number_before_hex = refl

hex : Fails (codes "write 0 00 A") Hex
hex = refl

return_at_the_end : Fails (codes "read 0+1\r") Byte
return_at_the_end = refl

channel_lines : Reads (codes "submit 1 1+2 to 3+2 signal 255\nissue 1\nstep 1\nstep 1 1000000\nstatus 1 2\nresult 2 1")
    (Submit 1 (record { src = origins.List (segment 1 2 ∷ []); dst = segment 3 2 ∷ []; wait = None; signal = Some 255 }) ∷ Call (calls.Issue 1) ∷ Step 1 1
    ∷ Step 1 1000000 ∷ Call (calls.Status 1 2) ∷ Call (calls.Result 2 1) ∷ [])
channel_lines = refl

other_lines : Reads (codes "pause 1\nresume 2\nterminate 3\nmark read 1+2\nmark write 3+4\nunmark\nraise 255\ncheckpoint\ntotals")
    (Call (calls.Pause 1) ∷ Call (calls.Resume 2) ∷ Call (calls.Terminate 3) ∷ Call (calls.Mark Reading (segment 1 2)) ∷
    Call (calls.Mark Writing (segment 3 4)) ∷ Call calls.Unmark ∷ Call (calls.Raise 255) ∷ Call calls.Checkpoint ∷ Totals ∷ [])
other_lines = refl

step_number_before_range : Fails (codes "step 256 x") Number
step_number_before_range = refl

submit_number_before_range : Fails (codes "submit 256 0+4 to 8+x wait 300") Number
submit_number_before_range = refl

submit_out_of_range : Fails (codes "submit 256 0+4 to 8+4 wait 300") Range
submit_out_of_range = refl

too_many_steps : Fails (codes "step 0 1000001") Range
too_many_steps = refl

no_such_mark : Fails (codes "mark red 0+1") Words
no_such_mark = refl

printed_address : hex_digits 31 ≡ codes "0000001F"
printed_address = refl

printed_bytes : spaced_bytes (0 ∷ 170 ∷ []) ≡ codes " 00 AA"
printed_bytes = refl

largest_memory : run_script_of (codes "memory 4294963200 8") ≡ Ok (record { size = 4294963200; channels = 8; statements = [] })
largest_memory = refl

some_pairs : pairs_of (codes "22 fF\n0a\r\t") ≡ Ok (34 ∷ 255 ∷ 10 ∷ [])
some_pairs = refl

lone_digit : pairs_of (codes "3") ≡ Err (record { line = 1; cause = Hex })
lone_digit = refl

lone_digit_before_a_line_feed : pairs_of (codes "22\n3\n4") ≡ Err (record { line = 2; cause = Hex })
lone_digit_before_a_line_feed = refl

whole_plan : plan_of (codes "# one\n1+2 to 3+2 wait 3 signal 255") ≡ Ok
    (record { line = 2; transfer = record { src = origins.List (segment 1 2 ∷ []); dst = segment 3 2 ∷ []; wait = Some 3; signal = Some 255 } })
whole_plan = refl

no_plan : plan_of [] ≡ Err (record { line = 0; cause = First })
no_plan = refl

second_plan : plan_of (codes "1+1 to 2+1\nx") ≡ Err (record { line = 2; cause = Words })
second_plan = refl

wait_signal : plan_of (codes "1+1 to 2+1 wait signal") ≡ Err (record { line = 1; cause = Number })
wait_signal = refl

event_out_of_range : plan_of (codes "1+1 to 2+1 signal 256") ≡ Err (record { line = 1; cause = Range })
event_out_of_range = refl

fill_lines : Reads (codes "fill 0x10 to 0x20+3,0x30+2\nsubmit 1 fill 5 to 8+4 wait 3 signal 255")
    (Copy (plain (origins.Place 16) (segment 32 3 ∷ segment 48 2 ∷ [])) ∷ Submit 1
    (record { src = origins.Place 5; dst = segment 8 4 ∷ []; wait = Some 3; signal = Some 255 }) ∷ [])
fill_lines = refl

fill_of_a_segment : Fails (codes "fill 0x10+1 to 0x20+3") Number
fill_of_a_segment = refl

fill_waits_for_nothing : Fails (codes "fill 0x10 to 0x20+3 wait 3") Words
fill_waits_for_nothing = refl

submit_fill_without_address : Fails (codes "submit x fill to 0x20+3 wait 3") Words
submit_fill_without_address = refl

submit_fill_number_before_range : Fails (codes "submit 256 fill 0x10+1 to 8+4 wait 300") Number
submit_fill_number_before_range = refl

submit_fill_out_of_range : Fails (codes "submit 256 fill 0x10 to 8+4 wait 300") Range
submit_fill_out_of_range = refl

fill_plan : plan_of (codes "fill 0x10 to 0x20+20 signal 3") ≡ Ok
    (record { line = 1; transfer = record { src = origins.Place 16; dst = segment 32 20 ∷ []; wait = None; signal = Some 3 } })
fill_plan = refl

fill_without_address : plan_of (codes "fill to 0x20+20") ≡ Err (record { line = 1; cause = Words })
fill_without_address = refl

list_of_the_word_fill : plan_of (codes "1+1 to fill") ≡ Err (record { line = 1; cause = Number })
list_of_the_word_fill = refl

fill_before_go : race_script_of (after_memory (codes "fill x\ngo")) ≡ Err (record { line = 2; cause = Command })
fill_before_go = refl

whole_race : race_script_of (after_memory (codes "job 0 1 20\nissue 1\njob 7 7 0\ngo\ntotals")) ≡ Ok
    (record {
      before = record { size = 64; channels = 1; statements = Call (calls.Issue 1) ∷ [] };
      jobs =
          record { first = 0; last = 1; turns = 20 } ∷ record { first = 7; last = 7; turns = 0 } ∷ [];
      after = Totals ∷ [];
    })
whole_race = refl

no_go : race_script_of (after_memory (codes "read 0+1")) ≡ Err (record { line = 0; cause = Go })
no_go = refl

no_go_after_other_faults : race_script_of (after_memory (codes "job 1 0 9")) ≡ Err (record { line = 2; cause = Range })
no_go_after_other_faults = refl

no_race_line : race_script_of [] ≡ Err (record { line = 0; cause = First })
no_race_line = refl

first_that_is_no_memory : race_script_of (codes "read 0+1") ≡ Err (record { line = 1; cause = First })
first_that_is_no_memory = refl

first_that_comes_after_go : race_script_of (codes "totals") ≡ Err (record { line = 1; cause = Command })
first_that_comes_after_go = refl

steps_before_go : race_script_of (after_memory (codes "step x\ngo")) ≡ Err (record { line = 2; cause = Command })
steps_before_go = refl

go_again : race_script_of (after_memory (codes "go\ngo")) ≡ Err (record { line = 3; cause = Command })
go_again = refl

job_after_go : race_script_of (after_memory (codes "go\njob x")) ≡ Err (record { line = 3; cause = Command })
job_after_go = refl

memory_after_go : race_script_of (after_memory (codes "go\nmemory x")) ≡ Err (record { line = 3; cause = First })
memory_after_go = refl

-- ---- limits

largest_number : number_of (codes "4294967295") ≡ Some 4294967295
largest_number = refl

number_above : number_of (codes "4294967296") ≡ None
number_above = refl

largest_hexadecimal : number_of (codes "0x00fFFFffFF") ≡ Some 4294967295
largest_hexadecimal = refl

hexadecimal_above : number_of (codes "0x100000000") ≡ None
hexadecimal_above = refl

no_memory : run_script_of (codes "memory 0 8") ≡ Err (record { line = 1; cause = SizeOutOfRange })
no_memory = refl

no_channel : run_script_of (codes "memory 1 0") ≡ Err (record { line = 1; cause = BadChannels })
no_channel = refl

too_many_channels : run_script_of (codes "memory 1 9") ≡ Err (record { line = 1; cause = BadChannels })
too_many_channels = refl

highest_channel : Reads (codes "issue 255") (Call (calls.Issue 255) ∷ [])
highest_channel = refl

channel_above : Fails (codes "issue 256") Range
channel_above = refl

event_above : Fails (codes "raise 256") Range
event_above = refl

no_step : Fails (codes "step 0 0") Range
no_step = refl

largest_segment : Reads (codes "read 4294967295+4294967295") (Call (calls.Read 4294967295 4294967295) ∷ [])
largest_segment = refl

last_channel_of_a_job : race_script_of (after_memory (codes "job 7 8 0\ngo")) ≡ Err (record { line = 2; cause = Range })
last_channel_of_a_job = refl

-- the given number of lines of jobs
jobs : ℕ → List ℕ
jobs count = flat_map (λ _. codes "job 0 7 1\n") (range_with_len 0 count)

sixteen_jobs : race_script_of (after_memory (jobs 16)) ≡ Err (record { line = 0; cause = Go })
unfolding jobs
sixteen_jobs = refl

seventeen_jobs : race_script_of (after_memory (jobs 17)) ≡ Err (record { line = 18; cause = Range })
unfolding jobs
seventeen_jobs = refl

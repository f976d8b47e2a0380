-- Small scripts, and what each of their lines prints, computed from the definitions.
use Prim.Native.String.{String}
use Rattle.std.proofs.Common.{◌≡◌, ℕ, List, [], ◌∷◌, ◌++◌, refl}
use Rattle.std.specs.Prelude.{None, Result, Ok, Err, codes, decimal}
use Rattle.dma_mem.specs.{Image.put, Image.after_moves, Places.Descriptor, Places.copying, Places.share, declared.call.Call.Call}
use Rattle.dma_engine.specs.declared.fault.EngineFault.TheVariants.{Busy, OutOfMemoryRange}
use Rattle.dma_engine.specs.declared.turn.Turn.TheVariants.{Started, Moved}
use Rattle.dma_engine.specs.{Object.opening, View.running, declared.call.Reply.Reply}
use Rattle.dma_script.specs.declared.fault.Cause.TheVariants.{First, SizeOutOfRange}
use Rattle.dma_script.specs.{Printing.fault_line, Statements.run_script_of, declared.fault.Fault.Fault, declared.statements.RunScript.RunScript}
use Rattle.dma_commands.specs.{Laws.printed_from, Laws.script_calls, Printed.fault_text, Printed.refused_line, Run.printed, Run.step_line, Run.totals_line}
use Rattle.dma_mem.specs.declared.call.Call.TheVariants as calls
use Rattle.dma_engine.specs.declared.call.Reply.TheVariants as replies

-- what each line of a script prints: the memory line nothing, the others one line
abbrev one_each : List (List ℕ) → List (List (List ℕ))
one_each [] = []
one_each (line ∷ rest) = (line ∷ []) ∷ one_each rest

-- A script prints these lines, one for each of its own after the memory line.
abbrev Prints : List ℕ → List (List ℕ) → Type 0
Prints script lines = (printed script).groups ≡ [] ∷ one_each lines

-- words and a number
abbrev numbered : String → ℕ → List ℕ
numbered words n = codes words ++ decimal n

no_line : (printed []).groups ≡ one_each (fault_line (record { line = 0; cause = First }) ∷ [])
no_line = refl

too_large : (printed (codes "memory 4294963201 1\n")).groups ≡ one_each (fault_line (record { line = 1; cause = SizeOutOfRange }) ∷ [])
too_large = refl

writes_and_reads : Prints (codes "memory 4 1\nwrite 1 AA BB\nread 0+4\nwrite 3 AA BB\nread 4+0\ntotals\n")
    (codes "ok" ∷ codes "read 0x00000000 00 AA BB 00" ∷ codes "refused OutOfMemoryRange" ∷ codes "read 0x00000004" ∷ totals_line 3 0 0 ∷ [])
unfolding put after_moves opening share running
writes_and_reads = refl

rules : Prints (codes "memory 8 1\ncopy 0+0 to 4+0\ncopy 0+1 to 4+2\ncopy 0+2 to 1+2\ncopy 0+2 to 7+2\n")
    (codes "refused EmptySegment" ∷ codes "refused TotalsDiffer" ∷ codes "refused SourceMeetsDestination" ∷ codes "refused OutOfMemoryRange" ∷ [])
unfolding put after_moves opening share running
rules = refl

fill_rules : Prints (codes "memory 8 1\nfill 0 to 4+0\nfill 0 to 4+2,5+1\nfill 4 to 1+4\nfill 8 to 1+4\n")
    (codes "refused EmptySegment" ∷ codes "refused DestinationsMeet" ∷ codes "refused SourceMeetsDestination" ∷ codes "refused OutOfMemoryRange" ∷ [])
unfolding put after_moves opening share running
fill_rules = refl

fill_in_a_queue : Prints (codes "memory 8 1\nsubmit 0 fill 0 to 2+2,6+1\nfill 0 to 2+2\nissue 0\nterminate 0\nresult 0 1\n")
    (numbered "cookie " 1 ∷ codes "refused ChannelInUse" ∷ numbered "issued " 1 ∷ numbered "aborted " 1 ∷
    numbered "result Aborted residue " 3 ∷ [])
unfolding put after_moves opening share running
fill_in_a_queue = refl

queues : Prints (codes "memory 8 1\nsubmit 0 0+2 to 2+2\nstatus 0 1\ncopy 0+2 to 2+2\nissue 0\nterminate 0\nresult 0 1\nstatus 0 1\nstep 0 2\n")
    (numbered "cookie " 1 ∷ codes "status InProgress" ∷ codes "refused ChannelInUse" ∷ numbered "issued " 1 ∷ numbered "aborted " 1 ∷
    numbered "result Aborted residue " 2 ∷ codes "status Complete" ∷ step_line 0 (codes "nothing", 2) ∷ [])
unfolding put after_moves opening share running
queues = refl

pauses : Prints (codes "memory 8 1\nsubmit 0 0+2 to 2+2\nissue 0\npause 0\nstep 0 3\nresume 0\nstep 0\nwrite 0 AA\nread 4+1\n")
    (numbered "cookie " 1 ∷ numbered "issued " 1 ∷ codes "ok" ∷ step_line 0 (codes "paused", 3) ∷ codes "ok" ∷
    step_line 0 (numbered "started " 1, 1) ∷ refused_line (fault_text (Busy 0 1)) ∷ codes "read 0x00000004 00" ∷ [])
unfolding put after_moves opening share running
pauses = refl

-- ---- the calls of a script, and what their replies print

-- the calls of what is read, none where that is a fault
abbrev calls_read : Result RunScript Fault → List Call
calls_read (Ok script) = script_calls script
calls_read (Err fault) = []

-- what these replies print, to the calls of what is read
abbrev groups_read : Result RunScript Fault → List Reply → List (List (List ℕ))
groups_read (Ok script) replies = (printed_from script replies).groups
groups_read (Err fault) replies = []

-- One copy is submitted, and then channel 0 is in use.
abbrev some_lines : List ℕ
some_lines = codes "memory 8 1\nwrite 1 AA\ncopy 0+0 to 4+0\ncopy 0+2 to 7+2\nsubmit 0 0+2 to 2+2\nfill 0 to 1+1\nissue 0\ntotals\nstep 0 3\nstatus 0 1\n"

abbrev from_to : ℕ → ℕ → Descriptor
from_to a b = copying (record { addr = a; len = 2 } ∷ []) (record { addr = b; len = 2 } ∷ []) None None

calls_in_order : calls_read (run_script_of some_lines) ≡ calls.Write 1 (170 ∷ []) ∷ calls.Submit 0 (from_to 0 7) ∷ calls.Submit 0 (from_to 0 2) ∷ calls.Issue 0
    ∷ calls.Step 0 ∷ calls.Step 0 ∷ calls.Step 0 ∷ calls.Status 0 1 ∷ []
unfolding put after_moves opening share running
calls_in_order = refl

abbrev some_replies : List Reply
some_replies =
    replies.Done ∷ replies.Refused OutOfMemoryRange ∷ replies.Cookie 5 ∷ replies.Count 6 ∷ replies.Turned (Started 7) ∷ replies.Turned Moved ∷
    replies.Turned Moved ∷ replies.Cookie 8 ∷ []

replies_in_order : groups_read (run_script_of some_lines) some_replies ≡ [] ∷ one_each
    (codes "ok" ∷ codes "refused EmptySegment" ∷ codes "refused OutOfMemoryRange" ∷ numbered "cookie " 5 ∷ codes "refused ChannelInUse"
    ∷ numbered "issued " 6 ∷ totals_line 3 0 0 ∷ []) ++ (step_line 0 (numbered "started " 7, 1) ∷ step_line 0 (codes "moved", 2) ∷ []) ∷ one_each
    (numbered "status " 8 ∷ [])
unfolding put after_moves opening share running
replies_in_order = refl

-- The printed text of refusals, calls and replies, without line feeds (profile).
use Rattle.std.specs.{Prelude.ℕ, Prelude.◌++◌, Prelude.List, Prelude.[], Prelude.Option, Prelude.codes, Prelude.decimal, Option.option_map_or}
use Rattle.dma_mem.specs.{declared.transfer.TransferFault.TransferFault, declared.call.Call.Call}
use Rattle.dma_engine.specs.declared.outcome.TransResult.TheVariants.{NoError, ReadFailed, WriteFailed, Aborted}
use Rattle.dma_engine.specs.declared.turn.Status.TheVariants.{Unknown, InProgress, Complete}
use Rattle.dma_engine.specs.declared.turn.Turn.TheVariants.{Nothing, Held, Started, Moved, Waiting, Paused, Halted, Finished}
use Rattle.dma_engine.specs.{declared.call.Reply.Reply, declared.fault.EngineFault.EngineFault, declared.outcome.Outcome.Outcome}
use Rattle.dma_engine.specs.{declared.outcome.TransResult.TransResult, declared.turn.Status.Status, declared.turn.Turn.Turn}
use Rattle.dma_text.specs.Digits.{hex_digits, spaced_bytes}
use Rattle.dma_mem.specs.declared.transfer.TransferFault.TheVariants as transfers
use Rattle.dma_mem.specs.declared.call.Call.TheVariants as calls
use Rattle.dma_engine.specs.declared.call.Reply.TheVariants as replies
use Rattle.dma_engine.specs.declared.fault.EngineFault.TheVariants as faults

-- the name of a broken transfer rule, or `NoMemory`
abbrev pub transfer_fault_name : TransferFault → List ℕ
transfer_fault_name transfers.EmptyList = codes "EmptyList"
transfer_fault_name transfers.TooManySegments = codes "TooManySegments"
transfer_fault_name transfers.EmptySegment = codes "EmptySegment"
transfer_fault_name transfers.SegmentWraps = codes "SegmentWraps"
transfer_fault_name transfers.TotalsDiffer = codes "TotalsDiffer"
transfer_fault_name transfers.TooLong = codes "TooLong"
transfer_fault_name transfers.DestinationsMeet = codes "DestinationsMeet"
transfer_fault_name transfers.SourceMeetsDestination = codes "SourceMeetsDestination"
transfer_fault_name transfers.BadEvent = codes "BadEvent"
transfer_fault_name transfers.NoMemory = codes "NoMemory"

-- the text of a call's refusal: its name, then the channel and the cookie for `Busy` and `Running`
abbrev pub fault_text : EngineFault → List ℕ
fault_text faults.OutOfMemoryRange = codes "OutOfMemoryRange"
fault_text (faults.Busy ch cookie) = codes "Busy " ++ decimal ch ++ codes " " ++ decimal cookie
fault_text (faults.Running ch cookie) = codes "Running " ++ decimal ch ++ codes " " ++ decimal cookie
fault_text faults.NoChannel = codes "NoChannel"
fault_text faults.CookiesSpent = codes "CookiesSpent"
fault_text faults.StepsSpent = codes "StepsSpent"
fault_text faults.BadEvent = codes "BadEvent"
fault_text faults.BadRange = codes "BadRange"
fault_text faults.NoMemory = codes "NoMemory"

-- `refused NAME`
abbrev pub refused_line : List ℕ → List ℕ
refused_line name = codes "refused " ++ name

-- the name of a result
abbrev pub result_name : TransResult → List ℕ
result_name NoError = codes "NoError"
result_name ReadFailed = codes "ReadFailed"
result_name WriteFailed = codes "WriteFailed"
result_name Aborted = codes "Aborted"

-- `NAME residue N`
abbrev pub residue_text : TransResult → ℕ → List ℕ
residue_text result residue = result_name result ++ codes " residue " ++ decimal residue

-- the outcome of a cookie, or `none`
abbrev pub outcome_text : Option Outcome → List ℕ
outcome_text outcome = option_map_or (λ x. residue_text x.result x.residue) outcome (codes "none")

-- the name of a cookie's status
abbrev pub status_name : Status → List ℕ
status_name Unknown = codes "Unknown"
status_name InProgress = codes "InProgress"
status_name Complete = codes "Complete"

-- what a step did
abbrev pub turn_text : Turn → List ℕ
turn_text Nothing = codes "nothing"
turn_text (Held ch cookie) = codes "held " ++ decimal ch ++ codes " " ++ decimal cookie
turn_text (Started cookie) = codes "started " ++ decimal cookie
turn_text Moved = codes "moved"
turn_text (Waiting event) = codes "waiting " ++ decimal event
turn_text Paused = codes "paused"
turn_text Halted = codes "halted"
turn_text (Finished cookie result residue) = codes "finished " ++ decimal cookie ++ codes " " ++ residue_text result residue

-- the text of a reply
abbrev pub reply_text : Reply → List ℕ
reply_text replies.Done = codes "ok"
reply_text (replies.Bytes bytes) = spaced_bytes bytes
reply_text (replies.Cookie cookie) = decimal cookie
reply_text (replies.Count count) = decimal count
reply_text (replies.Turned turn) = turn_text turn
reply_text (replies.State status) = status_name status
reply_text (replies.Result outcome) = outcome_text outcome
reply_text (replies.Refused fault) = refused_line (fault_text fault)

-- the words that are printed before the reply to a call
abbrev pub call_words : Call → List ℕ
call_words (calls.Read addr len) = codes "read 0x" ++ hex_digits addr
call_words (calls.Submit ch transfer) = codes "cookie "
call_words (calls.Issue ch) = codes "issued "
call_words (calls.Terminate ch) = codes "aborted "
call_words (calls.Status ch cookie) = codes "status "
call_words (calls.Result ch cookie) = codes "result "
call_words _ = []

-- the line of a call and its reply; a refusal is printed without the words of the call
abbrev pub call_line : Call → Reply → List ℕ
call_line call (replies.Refused fault) = refused_line (fault_text fault)
call_line call reply = call_words call ++ reply_text reply

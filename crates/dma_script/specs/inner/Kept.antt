-- What is kept of a call.
use Rattle.dma_mem.specs.declared.call.Call.{Call}
use Rattle.dma_mem.specs.declared.call.Call.TheVariants as calls
use Rattle.dma_script.specs.declared.kept.Kept.{Kept}
use Rattle.dma_script.specs.declared.kept.Kept.TheVariants as lines

-- the call that is kept
abbrev pub call_of : Kept → Call
call_of (lines.WriteFew bytes addr) = calls.Write addr bytes
call_of (lines.Write addr bytes) = calls.Write addr bytes.value
call_of (lines.Read addr len) = calls.Read addr len
call_of (lines.Issue ch) = calls.Issue ch
call_of (lines.Pause ch) = calls.Pause ch
call_of (lines.Resume ch) = calls.Resume ch
call_of (lines.Terminate ch) = calls.Terminate ch
call_of (lines.Status ch cookie) = calls.Status ch cookie
call_of (lines.Result ch cookie) = calls.Result ch cookie
call_of (lines.Mark kind segment) = calls.Mark kind segment
call_of lines.Unmark = calls.Unmark
call_of (lines.Raise event) = calls.Raise event
call_of lines.Checkpoint = calls.Checkpoint

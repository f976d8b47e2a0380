-- What a call from C on a channel does and returns.
use Rattle.std.specs.Prelude.{◌≡◌, ℕ, ◌+◌, ◌≤◌, ◌<◌, ◌⊎◌, ◌||◌, ◌==◌, ◌&&◌, nat_lt, nat_le, Bool, true, false, ℤ, Option, Some, None, IsSome, IsSomeAnd}
use Rattle.std.specs.Prelude.{is_some, if◌then◌else◌, List, [], ◌∷◌, ◌++◌, length, take, unwrap_or}
use Rattle.dma_mem.specs.Regions.{in_order, pieces_of, image_of, run_from}
use Rattle.dma_mem.specs.{Flags.flags_of, Marking.MarkList, Places.Descriptor, Places.end_of_addresses, Refusals.refusal_of, declared.marks.MarkKind.MarkKind}
use Rattle.dma_mem.specs.{declared.regions.Region.Region, declared.segment.Segment.Segment}
use Rattle.dma_insn.specs.AssemblyText.{most_program_bytes}
use Rattle.dma_chan.specs.{declared.bus.Bus.TheVariants.Ideal, Channel.ChannelValue, Channel.on_bus, Channel.unloaded, Channel.loaded, Compiled.compiled}
use Rattle.dma_chan.specs.{LentRegions.AreKept, LentRegions.with_gaps_of, Saved.IsChannelValue, Saved.IsSave, Saved.most_saved, Saved.saved, Stepping.Machine}
use Rattle.dma_chan.specs.{Stepping.TakesSteps, Stepping.signal_after, Stepping.written_after, Written.KeepsOutside, declared.turn.ChanTurn.ChanTurn}
use Rattle.dma_chan.specs.{declared.turn.ChanTurn.TheVariants.Moved, declared.turn.ChanTurn.TheVariants.Waiting, declared.turn.ChanTurn.TheVariants.Ended}
use Rattle.dma_chan.specs.{declared.turn.ChanTurn.TheVariants.Fault, declared.lent.Taken.Taken}
use Rattle.dma_ffi.specs.Codes.{ok_code, not_open, already_open, no_memory, no_program, bad_access, bad_range, bad_regions, bad_save, program_too_long}
use Rattle.dma_ffi.specs.Codes.{no_step, step_ended, step_failed, step_moved, step_signalled, step_waits}
use Rattle.dma_ffi.specs.Codes.{kind_number, transfer_code}
use Rattle.dma_ffi.specs.{declared.channel_calls.ChannelRegisters.ChannelRegisters, declared.channel_steps.ChannelReport.ChannelReport}
use Rattle.dma_ffi.specs.{declared.marked_channel.MarkedChannel.MarkedChannel, Calls.OnOpen}
use Rattle.dma_mem.specs.declared.transfer.TransferFault.TheVariants as transfers

-- ---- calls

-- A call that acts on the channel alone; the marks are unchanged.
pub record OfChannel (does : ChannelValue → ℤ → ChannelValue → Type 0)
    (m : MarkedChannel) (code : ℤ) (n : MarkedChannel) : Type 0 where
  pub channel : does m.channel code n.channel
  pub marks : n.marks ≡ m.marks

-- `OnOpen` for a call that acts on the channel alone
abbrev pub OnChannel : (ChannelValue → ℤ → ChannelValue → Type 0)
    → Option MarkedChannel → ℤ → Option MarkedChannel → Type 0
OnChannel does = OnOpen (OfChannel does)

-- Opens a channel. If it is open already: `already_open`, and nothing changes. Else `ok_code`, and the channel has no
-- program and no marks; or `no_memory`, and it stays closed.
abbrev pub Opens : Option MarkedChannel → ℤ → Option MarkedChannel → Type 0
Opens (Some m) code new = (code ≡ already_open) × (new ≡ Some m)
Opens None code None = code ≡ no_memory
Opens None code (Some m) = (code ≡ ok_code) × (m ≡ record { channel = unloaded; marks = [] })

-- ---- programs

-- Loads the program of a transfer; the channel becomes `loaded` with it. Fails with the first rule that the transfer
-- breaks, or out of memory if it breaks none; a failed call changes nothing.
abbrev pub LoadsTransfer : Descriptor → ChannelValue → ℤ → ChannelValue → Type 0
LoadsTransfer t c code d =
    ((code ≡ ok_code) × (refusal_of t ≡ None) × (d ≡ loaded (compiled t)))
    ⊎ ((code ≡ transfer_code (unwrap_or (refusal_of t) transfers.NoMemory)) × (d ≡ c))

-- Loads these bytes as a program; they needn't be instructions. Fails with `program_too_long` exactly above 8,192
-- bytes, and then nothing changes.
abbrev pub LoadsBytes : List ℕ → ChannelValue → ℤ → ChannelValue → Type 0
LoadsBytes bytes c code d =
    ((code ≡ ok_code) × (length bytes ≤ most_program_bytes) × (d ≡ loaded (record { bytes = bytes; cost = None })))
    ⊎ ((code ≡ program_too_long) × (most_program_bytes < length bytes) × (d ≡ c))

-- the channel without its program; its marks, registers and counts are unchanged
abbrev pub stopped : MarkedChannel → MarkedChannel
stopped m = record m { channel = record (m.channel) { program = None } }

-- ---- registers

-- the registers and counts of a channel, and whether it has a program
abbrev pub registers_of : ChannelValue → ChannelRegisters
registers_of c = record {
  pc = c.registers.pc;
  sar = c.registers.sar;
  dar = c.registers.dar;
  ccr = c.registers.ccr;
  lc0 = c.registers.lc0;
  lc1 = c.registers.lc1;
  is_loaded = if is_some c.program then 1 else 0;
  taken = c.taken;
  stored = c.stored;
}

-- ---- marks

-- whether a range can't be marked: it is empty, or ends above 2^32
abbrev pub is_bad_range : Segment → Bool
is_bad_range range = range.len == 0 || nat_lt end_of_addresses (range.addr + range.len)

-- Marks a range for this kind. Fails with `bad_access` if no kind has the number, with `bad_range` if the range can't be
-- marked, or with `no_memory`; the causes are checked in this order, and a failed call changes nothing.
abbrev pub MarksRange : Option MarkKind → Segment → MarkedChannel → ℤ → MarkedChannel → Type 0
MarksRange None range m code n = (code ≡ bad_access) × (n ≡ m)
MarksRange (Some kind) range m code n =
    ((code ≡ bad_range) × (is_bad_range range ≡ true) × (n ≡ m))
    ⊎ (((code ≡ ok_code) × (is_bad_range range ≡ false) × (n ≡ record m { marks = m.marks ++ (kind, range) ∷ [] }))
    ⊎ ((code ≡ no_memory) × (is_bad_range range ≡ false) × (n ≡ m)))

-- the channel with its marks removed
abbrev pub unmarked : MarkedChannel → MarkedChannel
unmarked m = record m { marks = [] }

-- ---- saves

-- the save of a channel; its marks aren't saved
abbrev pub save_of : MarkedChannel → List ℕ
save_of m = saved m.channel

-- The save has at most 8,500 bytes, and the channel satisfies what every channel does.
abbrev pub FitsSave : MarkedChannel → Type 0
FitsSave m = (length (saved m.channel) ≤ most_saved) × IsChannelValue m.channel

-- Makes the channel the one of a save, on the ideal bus: it satisfies `IsChannelValue`, these bytes are its save, and
-- no other value that satisfies `IsChannelValue` has this save, except on another bus. Fails with `bad_save` exactly
-- if the bytes aren't a save, and then nothing changes.
abbrev pub RestoresChannel : List ℕ → ChannelValue → ℤ → ChannelValue → Type 0
RestoresChannel save c code d =
    ((code ≡ ok_code) × IsChannelValue d × (save ≡ saved d)
    × ((e : ChannelValue) → IsChannelValue e → save ≡ saved e → d ≡ on_bus Ideal e))
    ⊎ ((code ≡ bad_save) × (¬ IsSave save) × (d ≡ c))

-- ---- the caller's memory

-- whether channels can be stepped over these regions: there are at most 64, in the order of their addresses, without a
-- shared address, and none reaches beyond address 4,294,967,295
abbrev pub are_usable : List Region → Bool
are_usable regions = nat_le (length regions) 64 && in_order (pieces_of regions)

-- Loads the program that begins at an address of the regions: the bytes from there to the first address that no region
-- has, at most 8,192, or no bytes if no region has the address. Fails with `bad_regions` exactly if the regions aren't
-- usable, and then nothing changes.
abbrev pub LoadsFrom : List Region → ℕ → ChannelValue → ℤ → ChannelValue → Type 0
LoadsFrom regions addr c code d =
    ((code ≡ bad_regions) × (are_usable regions ≡ false) × (d ≡ c))
    ⊎ ((code ≡ ok_code) × (are_usable regions ≡ true)
    × (d ≡ loaded (record { bytes = take most_program_bytes (run_from (pieces_of regions) addr); cost = None })))

-- ---- steps

-- C's channel, if it is open, and the regions and the event flags that C lends for the duration of a call.
pub record Lent : Type 0 where
  pub channel : Option MarkedChannel
  pub regions : List Region
  pub flags : ℕ

-- a channel over regions and flags
abbrev pub over : MarkedChannel → List Region → ℕ → Machine
over m regions flags = record { channel = m.channel; image = image_of (pieces_of regions); flags = flags_of flags }

-- the marks at which the channel's bursts fail: the gaps between the regions, for stores the read-only regions, and the
-- channel's own marks
abbrev pub marks_over : MarkedChannel → List Region → MarkList
marks_over m regions = with_gaps_of regions m.marks

-- a report of `taken` steps, with the offset of the next instruction, the range written and what the last step did;
-- event and fault are 0
abbrev pub did : ℕ → ℕ → Segment → ℕ → ChannelReport
did taken pc written last = record { taken = taken; last = last; event = 0; fault = 0; pc = pc; written = written }

-- the report of `taken` steps, with the offset of the next instruction, the range written, what the last step did, and
-- the event whose flag it set, if any; an event or fault that doesn't belong to this is 0
abbrev pub channel_report : ℕ → ℕ → Segment → Option ChanTurn → Option ℕ → ChannelReport
channel_report taken pc written None signal = did taken pc written no_step
channel_report taken pc written (Some Moved) None = did taken pc written step_moved
channel_report taken pc written (Some Moved) (Some e) = record (did taken pc written step_signalled) { event = e }
channel_report taken pc written (Some (Waiting e)) signal = record (did taken pc written step_waits) { event = e }
channel_report taken pc written (Some Ended) signal = did taken pc written step_ended
channel_report taken pc written (Some (Fault kind)) signal =
    record (did taken pc written step_failed) { fault = kind_number kind }

-- Steps of an open channel with a program, over usable regions: the steps that were taken, the event whose flag the
-- last of them set, if any, the range that they wrote, and the report of these and of the offset of the next
-- instruction. The marks and all bytes outside that range are unchanged, and the regions keep their places.
pub record StepsOver (a : Lent) (most : ℕ) (taken : Taken) (report : ChannelReport)
    (b : Lent) (m n : MarkedChannel) : Type 0 where
  pub before : a.channel ≡ Some m
  pub after : b.channel ≡ Some n
  pub marks : n.marks ≡ m.marks
  pub usable : are_usable a.regions ≡ true
  pub is_loaded : IsSome m.channel.program
  pub steps : TakesSteps (marks_over m a.regions) (over m a.regions a.flags) most
      taken.count taken.last (over n b.regions b.flags)
  pub signal : taken.signal ≡ signal_after (marks_over m a.regions) (over m a.regions a.flags) taken.count
  pub written : taken.written ≡ written_after (marks_over m a.regions) (over m a.regions a.flags) taken.count
  pub kept : KeepsOutside taken.written (image_of (pieces_of a.regions)) (image_of (pieces_of b.regions))
  pub reported : report ≡ channel_report taken.count n.channel.registers.pc taken.written taken.last taken.signal
  -- (pointers are not compared: a contract sees where memory is lent only by the names of its loans)
  pub regions : AreKept b.regions a.regions

-- A call from C that takes steps: the code that it returns, and the report before and after. On a channel that isn't
-- open, else over regions that aren't usable, else without a program, it returns the code for that and changes nothing.
abbrev pub ReportsSteps : Lent → ℕ → ℤ → ChannelReport → ChannelReport → Lent → Type 0
ReportsSteps a most code before report b =
    ((code ≡ not_open) × (a.channel ≡ None) × (b ≡ a) × (report ≡ before))
    ⊎ (((code ≡ bad_regions) × IsSome a.channel × (are_usable a.regions ≡ false) × (b ≡ a) × (report ≡ before))
    ⊎ (((code ≡ no_program) × IsSomeAnd a.channel (λ m. m.channel.program ≡ None) × (are_usable a.regions ≡ true)
    × (b ≡ a) × (report ≡ before))
    ⊎ ((code ≡ ok_code)
    × ((m : MarkedChannel) × (n : MarkedChannel) × (taken : Taken) × StepsOver a most taken report b m n))))
